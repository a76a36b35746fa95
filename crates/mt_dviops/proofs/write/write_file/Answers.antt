use Rattle.std.proofs.Common.{◌≡◌, ◌∙◌, length, ap, sym, to_z-of_z, arith, length-append}
use Rattle.std.specs.Prelude.{negsuc}
use Rattle.mt_dviops.specs.Result.{padding_bytes, pages_bytes}
use Rattle.mt_dviops.specs.inner.Shown.{all_told, pointer_of}
use Rattle.mt_dviops.proofs.FileWriting.{file_written, head_written, pages_fit}
use Rattle.mt_dviops.proofs.ShownBytes.{count_same}
use Rattle.mt_dviops.proofs.write.write_file.Goals as goal

pub write_pages-requires : goal.write_pages-requires
write_pages-requires c =
    let head = head_written _ _ _ c.args.definitions.now c.args.mag c.in_ok-out.ensures.items (rw (to_z-of_z c.ranges.mag) at c.in_ok-pre.ensures) c.in_ok-extend_from_slice.ensures.items in
    pages_fit _ c.args.definitions.now c.args.mag c.args.totals.now (all_told c.args.pages.now) head c.requires.short

pub overflow_cast-post : goal.overflow_cast-post
overflow_cast-post c =
    let head = head_written _ _ _ c.args.definitions.now c.args.mag c.in_ok-out.ensures.items (rw (to_z-of_z c.ranges.mag) at c.in_ok-pre.ensures) c.in_ok-extend_from_slice.ensures.items in
    let fit = pages_fit _ c.args.definitions.now c.args.mag c.args.totals.now (all_told c.args.pages.now) head c.requires.short in
    let long = ap length c.in_ok-last.ensures.pages ∙ length-append c.extend_from_slice.new.self.items (pages_bytes (length c.extend_from_slice.new.self.items) (negsuc 0) (all_told c.args.pages.now)) in
    omega (arith, fit, long, c.len-post.ensures)

pub returns : goal.returns
returns c =
    let head = head_written _ _ _ c.args.definitions.now c.args.mag c.in_ok-out.ensures.items (rw (to_z-of_z c.ranges.mag) at c.in_ok-pre.ensures) c.in_ok-extend_from_slice.ensures.items in
    let post : c.len-post.result ≡ length c.write_pages.new.out.items = omega (arith, c.len-post.ensures) in
    let whole : c.len.result ≡ length c.write_post_post.new.out.items = omega (arith, c.len.ensures) in
    let all = file_written _ _ _ _ _ _ c.args.definitions.now c.padding-end.result.now c.args.mag (pointer_of c.in_ok-last.last) c.args.totals.now (all_told c.args.pages.now) _ _ head
    c.in_ok-last.ensures.pages c.in_ok-last.ensures.last (rw (to_z-of_z c.ranges.mag) at c.in_ok-write_post.ensures) (sym (count_same c.args.pages.now)) c.in_ok-extend_from_slice-2.ensures.items post c.in_ok-write_post_post.ensures (c.padding-end.ensures ∙ ap padding_bytes whole) c.in_ok-extend_from_slice-3.ensures.items in
    c.from_vec.ensures ∙ all
