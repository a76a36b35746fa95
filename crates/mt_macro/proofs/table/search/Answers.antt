use Rattle.std.proofs.Common.{arith, ap, sym, refl, ◌∙◌, List, ℕ}
use Rattle.std.specs.Cmp.Lexicographic.{slice_cmp}
use Rattle.std.specs.Ordering.{nat_cmp}
use Rattle.mt_macro.specs.declared.table.Entry.{Entry}
use Rattle.mt_macro.proofs.Entries.{searching_start, searching_above, searching_below, searching_end, found_by}
use Rattle.mt_macro.proofs.table.search.Goals as goal

pub loop-low-init : goal.loop-low-init
loop-low-init c = searching_start _ _

pub loop-low-preserved-in-Less : goal.loop-low-preserved-in-Less
loop-low-preserved-in-Less c =
    searching_below _ _ _ _ _ c.index-entries-middle.result c.loop-low.invariant c.requires (omega arith) (omega arith) c.index-entries-middle.is
    (ap (λ (n : List ℕ). slice_cmp nat_cmp c.args.name.now n) (ap (λ (e : Entry). e.name) c.index-entries-middle.is ∙ sym c.as_slice.ensures) ∙ sym c.in-Less.ensures)

pub returns-in-Equal-clause-is : goal.returns-in-Equal-clause-is
returns-in-Equal-clause-is c =
    found_by _ _ _ c.index-entries-middle.result c.requires (omega (arith, c.loop-low.invariant.fits)) c.index-entries-middle.is
    (ap (λ (n : List ℕ). slice_cmp nat_cmp c.args.name.now n) (ap (λ (e : Entry). e.name) c.index-entries-middle.is ∙ sym c.as_slice.ensures) ∙ sym c.in-Equal.ensures)

pub loop-low-preserved : goal.loop-low-preserved
loop-low-preserved c =
    searching_above _ _ _ _ _ _ c.index-entries-middle.result c.loop-low.invariant c.requires (omega arith) c.index-entries-middle.is
    (ap (λ (n : List ℕ). slice_cmp nat_cmp c.args.name.now n) (ap (λ (e : Entry). e.name) c.index-entries-middle.is ∙ sym c.as_slice.ensures) ∙ sym c.in-Greater.ensures) refl

pub returns-clause-is : goal.returns-clause-is
returns-clause-is c = searching_end _ _ _ _ c.loop-low.invariant (omega arith)
