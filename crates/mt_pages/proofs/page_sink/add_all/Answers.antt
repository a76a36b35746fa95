use Rattle.std.proofs.Common.{[], to_z-of_z, ◌∷◌, ◌++◌, ◌∙◌, ap, refl}
use Rattle.mt_status.specs.Notes.{is_noted}
use Rattle.mt_pages.proofs.Common.{err_from_is_err_and}
use Rattle.mt_pages.proofs.OverfullLemmas.{notes_none}
use Rattle.mt_pages.proofs.SetLemmas.{handed_out, next_none, next_noted, next_refused, none_fit}
use Rattle.mt_pages.proofs.page_sink.add_all.Goals as goal

pub loop-page-init : goal.loop-page-init
loop-page-init g c = record {
  so_far = λ source are. record { pages = []; are = are; fit = none_fit c.args.fonts.now; has = c.requires.empty };
  more = c.requires.more;
  none = c.requires.none;
  units = refl;
}

pub add-requires : goal.add-requires
add-requires g c =
    let start = c.requires.start in
    let so = c.loop-page.invariant.so_far start.source (rw (to_z-of_z c.ranges.width) start.are) in
    let out = handed_out c.args.fonts.now _ start.source so.pages c.in-Some.page c.loop-page.setter c.next_page.new.self c.in_ok-page.field-0 c.in-Some.is so.fit (c.in_ok-page.ensures.is start.source so.pages so.are) c.in_ok-page.ensures.more in
    record { pages = so.pages; has = so.has; writable = out.writable; fit = out.fit }

pub returns-in_err-page-clause-is : goal.returns-in_err-page-clause-is
returns-in_err-page-clause-is g c = λ source are.
    let so = c.loop-page.invariant.so_far source (rw (to_z-of_z c.ranges.width) are) in
    let p = err_from_is_err_and c.from_residual.result c.from_residual.ensures.1 in
    rw (p.1, p.2)
    (next_refused c.args.fonts.now _ c.args.width source c.in_err-page.field-0.0 (to_z-of_z c.ranges.width) (c.in_err-page.ensures.is source so.pages so.are))

pub returns-in_err-add-clause-is : goal.returns-in_err-add-clause-is
returns-in_err-add-clause-is g c = λ source are.
    let p = err_from_is_err_and c.from_residual-in_err-add.result c.from_residual-in_err-add.ensures.1 in
    rw (p.1, p.2) tt

pub loop-page-preserved : goal.loop-page-preserved
loop-page-preserved g c =
    let start = c.requires.start in
    let first = c.loop-page.invariant.so_far start.source (rw (to_z-of_z c.ranges.width) start.are) in
    let next = handed_out c.args.fonts.now _ start.source first.pages c.in-Some.page c.loop-page.setter c.next_page.new.self c.in_ok-page.field-0 c.in-Some.is first.fit (c.in_ok-page.ensures.is start.source first.pages first.are) c.in_ok-page.ensures.more in
    record {
      so_far = λ source are.
          let so = c.loop-page.invariant.so_far source are in
          let out = handed_out c.args.fonts.now _ source so.pages c.in-Some.page c.loop-page.setter c.next_page.new.self c.in_ok-page.field-0 c.in-Some.is so.fit (c.in_ok-page.ensures.is source so.pages so.are) c.in_ok-page.ensures.more in
          record { pages = so.pages ++ c.in-Some.page ∷ []; are = out.are; fit = out.fit; has = c.in_ok-add.ensures so.pages so.has };
      more = next.more;
      none = c.in_ok-page.ensures.formula start.source first.pages first.are;
      units = c.in_ok-page.ensures.units ∙ c.loop-page.invariant.units;
    }

pub returns-clause-is : goal.returns-clause-is
returns-clause-is g c = λ source are.
    let so = c.loop-page.invariant.so_far source (rw (to_z-of_z c.ranges.width) are) in
    record {
      pages = so.pages;
      is = next_none c.args.fonts.now _ c.args.width source so.pages c.next_page.new.self c.in_ok-page.field-0 (to_z-of_z c.ranges.width) c.in_default.is (c.in_ok-page.ensures.is source so.pages so.are);
      has = so.has;
      fit = so.fit;
    }

pub returns-in_err-page-clause-formula : goal.returns-in_err-page-clause-formula
returns-in_err-page-clause-formula g c =
    let start = c.requires.start in
    let so = c.loop-page.invariant.so_far start.source (rw (to_z-of_z c.ranges.width) start.are) in
    let p = err_from_is_err_and c.from_residual.result c.from_residual.ensures.1 in
    rw (p.1, p.2) (c.in_err-page.ensures.formula start.source so.pages so.are)

pub returns-in_err-add-clause-formula : goal.returns-in_err-add-clause-formula
returns-in_err-add-clause-formula g c =
    let start = c.requires.start in
    let so = c.loop-page.invariant.so_far start.source (rw (to_z-of_z c.ranges.width) start.are) in
    let p = err_from_is_err_and c.from_residual-in_err-add.result c.from_residual-in_err-add.ensures.1 in
    rw (p.1, p.2) (ap is_noted (c.in_ok-page.ensures.formula start.source so.pages so.are))

pub returns-clause-formula : goal.returns-clause-formula
returns-clause-formula g c =
    let start = c.requires.start in
    let so = c.loop-page.invariant.so_far start.source (rw (to_z-of_z c.ranges.width) start.are) in
    c.in_ok-page.ensures.formula start.source so.pages so.are

pub returns-in_err-page-clause-overfull : goal.returns-in_err-page-clause-overfull
returns-in_err-page-clause-overfull g c = λ source are.
    let so = c.loop-page.invariant.so_far source (rw (to_z-of_z c.ranges.width) are) in
    next_noted c.args.fonts.now _ c.args.width source _ (to_z-of_z c.ranges.width) (c.in_err-page.ensures.overfull source so.pages so.are)

pub returns-in_err-add-clause-overfull : goal.returns-in_err-add-clause-overfull
returns-in_err-add-clause-overfull g c = λ source are.
    let so = c.loop-page.invariant.so_far source (rw (to_z-of_z c.ranges.width) are) in
    notes_none _ _ (c.in_ok-page.ensures.formula source so.pages so.are)

pub returns-clause-overfull : goal.returns-clause-overfull
returns-clause-overfull g c = λ source are.
    let so = c.loop-page.invariant.so_far source (rw (to_z-of_z c.ranges.width) are) in
    notes_none _ _ (c.in_ok-page.ensures.formula source so.pages so.are)
