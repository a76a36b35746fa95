use Rattle.std.proofs.Common.{◌∙◌, ◌-◌, ap, sym, subst}
use Rattle.mt_convert.specs.declared.half.Half.TheVariants.{Set}
use Rattle.mt_convert.specs.inner.Placed.{placed_length}
use Rattle.mt_convert.specs.inner.Taken.{IsTaken}
use Rattle.mt_convert.proofs.TakenRows.{atom_taken, taken_fits}
use Rattle.mt_convert.proofs.taking.take_half.Goals as goal

pub returns-in_ok-row-in-Set-clause-is : goal.returns-in_ok-row-in-Set-clause-is
returns-in_ok-row-in-Set-clause-is c = λ front row e k.
    let taken = c.in_ok-row-in-Set.ensures in
    subst (λ i. IsTaken (Set c.in-Set.class c.in_ok-row-in-Set.row) i row) (sym c.in-Set.is)
    (atom_taken c.in-Set.class c.in-Set.count c.saturating_sub-first.result c.in_ok-row-in-Set.row c.args.pieces.now front row e (ap placed_length (sym c.in-Set.is) ∙ k)
    (c.saturating_sub-first.ensures ∙ ap (λ z. z - c.in-Set.count) c.len.ensures) taken.row (λ n le. taken_fits n _ taken.measurable taken.levels le))
