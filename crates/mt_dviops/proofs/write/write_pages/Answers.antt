use Rattle.std.proofs.Common.{◌≡◌, length, arith}
use Rattle.mt_dviops.specs.inner.Shown.{pointer_of}
use Rattle.mt_dviops.proofs.PageWriting.{left_short, pages_end, pages_next, pages_start}
use Rattle.mt_dviops.proofs.write.write_pages.Goals as goal

pub loop-rest-init : goal.loop-rest-init
loop-rest-init c = pages_start c.args.out.now.items c.args.pages.now

pub overflow_cast-at : goal.overflow_cast-at
overflow_cast-at c = let s = left_short _ _ _ _ _ c.loop-rest.invariant in omega (arith, s, c.requires, c.len-at.ensures)

pub loop-rest-preserved : goal.loop-rest-preserved
loop-rest-preserved c =
    let at : c.len-at.result ≡ length c.loop-rest.out.items = omega (arith, c.len-at.ensures) in
    pages_next c.args.out.now.items c.args.pages.now c.loop-rest.out.items _ (pointer_of c.loop-rest.last) c.len-at.result c.loop-rest.rest.now _ c.in-len1-up.len_at_least at c.in_ok-write_page.ensures c.loop-rest.invariant

pub returns-clause-pages : goal.returns-clause-pages
returns-clause-pages c = (pages_end c.args.out.now.items c.args.pages.now c.loop-rest.out.items (pointer_of c.loop-rest.last) c.loop-rest.rest.now c.in_default.len_below c.loop-rest.invariant).bytes

pub returns-clause-last : goal.returns-clause-last
returns-clause-last c = (pages_end c.args.out.now.items c.args.pages.now c.loop-rest.out.items (pointer_of c.loop-rest.last) c.loop-rest.rest.now c.in_default.len_below c.loop-rest.invariant).last_is
