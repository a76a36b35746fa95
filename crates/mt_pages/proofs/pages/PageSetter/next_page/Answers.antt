use Rattle.std.proofs.Common.{ap, refl, subst, sym, to_z-of_z, ◌∙◌, List, Option, Some, None, Ok}
use Rattle.mt_pages.proofs.Common.{err_from_is_err_and, Formula}
use Rattle.mt_pages.specs.inner.SetPages.{AreFormulasOf, IsTold, end_of, noted_at_end}
use Rattle.mt_pages.proofs.SetLemmas.{are_set, go_set, kept_at, next_end, next_overfull, source_err}
use Rattle.mt_pages.proofs.pages.PageSetter.next_page.Goals as goal

pub returns-in_err-page-clause-is : goal.returns-in_err-page-clause-is
returns-in_err-page-clause-is c =
    λ source pages are.
    let a = kept_at c.args.fonts.now _ c.args.width c.args.self.now c.loop-page.self (to_z-of_z c.ranges.width) c.loop-page.invariant.is source pages are in
    let p = err_from_is_err_and c.from_residual.result c.from_residual.ensures.1 in
    rw (p.1, p.2) (source_err c.args.fonts.now c.args.width source c.in_err-page.field-0.0 (c.in_err-page.ensures.is source a.read a.reader))

pub returns-in-Some-2-clause-is : goal.returns-in-Some-2-clause-is
returns-in-Some-2-clause-is c =
    λ source pages are.
    are_set c.args.fonts.now _ c.args.width source pages c.in-Some.page c.loop-page.self c.formulas.new.self c.set_and_recycle.new.self c.in_ok-page.field-0 c.in_ok-places.field-0 (Some c.in-Some-2.places) (to_z-of_z c.ranges.width)
    (kept_at c.args.fonts.now _ c.args.width c.args.self.now c.loop-page.self (to_z-of_z c.ranges.width) c.loop-page.invariant.is source pages are) c.in-Some.is c.in_ok-page.ensures.is c.in_ok-page.ensures.more
    c.in_ok-page.ensures.keeps c.in_ok-places.ensures.is c.in-Some-2.is c.in_ok-places.ensures.reader

pub loop-page-preserved : goal.loop-page-preserved
loop-page-preserved c =
    let on = go_set c.args.self.now c.loop-page.self c.formulas.new.self c.set_and_recycle.new.self c.in-Some.page c.in_ok-page.field-0 c.in-Some.is c.in_ok-page.ensures.more c.in_ok-places.ensures.reader c.loop-page.invariant.falls in
    record {
      is = λ source pages are.
          are_set c.args.fonts.now _ _ source pages c.in-Some.page c.loop-page.self c.formulas.new.self c.set_and_recycle.new.self c.in_ok-page.field-0 c.in_ok-places.field-0 None refl (c.loop-page.invariant.is source pages are) c.in-Some.is
          c.in_ok-page.ensures.is c.in_ok-page.ensures.more c.in_ok-page.ensures.keeps c.in_ok-places.ensures.is c.in_default-2.is c.in_ok-places.ensures.reader;
      more = on.more;
      falls = on.falls;
    }

pub returns-clause-is : goal.returns-clause-is
returns-clause-is c =
    λ source pages are.
    let a = kept_at c.args.fonts.now _ c.args.width c.args.self.now c.loop-page.self (to_z-of_z c.ranges.width) c.loop-page.invariant.is source pages are in
    next_end c.args.fonts.now c.args.width source pages c.loop-page.self _ c.end.result a
    (subst (λ (o : Option (List Formula)). AreFormulasOf c.args.fonts.now source a.read c.formulas.new.self (Ok o)) c.in_default.is (c.in_ok-page.ensures.is source a.read a.reader))
    (c.end.ensures.is ∙ ap end_of c.in_ok-page.ensures.keeps.held)

pub returns-clause-formula : goal.returns-clause-formula
returns-clause-formula c =
    λ source pages are.
    let a = kept_at c.args.fonts.now _ c.args.width c.args.self.now c.loop-page.self (to_z-of_z c.ranges.width) c.loop-page.invariant.is source pages are in
    c.end.ensures.formula (subst IsTold (sym c.in_ok-page.ensures.keeps.held) a.told)

pub returns-clause-overfull : goal.returns-clause-overfull
returns-clause-overfull c =
    λ source pages are.
    let a = kept_at c.args.fonts.now _ c.args.width c.args.self.now c.loop-page.self (to_z-of_z c.ranges.width) c.loop-page.invariant.is source pages are in
    next_overfull c.args.fonts.now c.args.width source pages c.loop-page.self _ a
    (subst (λ (o : Option (List Formula)). AreFormulasOf c.args.fonts.now source a.read c.formulas.new.self (Ok o)) c.in_default.is (c.in_ok-page.ensures.is source a.read a.reader))
    (c.end.ensures.overfull ∙ ap noted_at_end c.in_ok-page.ensures.keeps.held)
