use Rattle.std.proofs.Common.{◌≡◌, ℕ, List, length, subst, arith, to_z, of_z, w64}
use Rattle.std.proofs.lemmas.Int.{ints}
use Rattle.mt_box.specs.declared.place.Place.{Place}
use Rattle.mt_dvi.specs.FileOf.{IsFileOf}
use Rattle.mt_dvi.specs.Lean.{Lean}
use Rattle.mt_dvi.specs.Written.{Written}
use Rattle.mt_dvi.specs.writer.Pages.{IsTail}
use Rattle.mt_dvi.proofs.WholeFile.{file_written, reads_back}
use Rattle.mt_dvi.proofs.file.DviFile.finish.Goals as goal

pub returns : goal.returns
returns c =
    let again = rw c.as_slice.ensures at c.in_ok-define_again.ensures in
    let start : c.len-start.result ≡ length c.args.self.out.items = omega (arith, c.len-start.ensures) in
    let long : c.len.result ≡ length c.post_post.new.out.items = omega (arith, c.len.ensures) in
    let end : IsTail (length c.post_post.new.out.items) c.tail-end.result.now = subst (λ (n : ℕ). IsTail n c.tail-end.result.now) long c.tail-end.ensures in
    let fits = c.requires.file_of.last in
    let same : to_z w64 (of_z w64 c.args.self.last) ≡ c.args.self.last = omega (arith, ints, fits) in
    let post = rw same at c.in_ok-post.ensures in
    let both : (pages : List (List Place)) → IsFileOf c.args.fonts.now pages c.args.self → Written c.args.fonts.now c.from_vec.result pages × Lean c.args.fonts.now c.from_vec.result =
    λ pages file. rw c.from_vec.ensures (file_written c.args.fonts.now pages c.args.self _ _ _ _ c.tail-end.result.now _ file start post again.leads again.long c.in_ok-post_post.ensures end c.in_ok-extend_from_slice.ensures.items) in
    record {
      written = λ pages file. (both pages file).0;
      lean = (both c.requires.pages c.requires.file_of).1;
      read_back = λ pages file. reads_back _ _ _ (both pages file).0;
    }
