use Rattle.std.proofs.Common.{arith, drop, sym, subst}
use Rattle.std.proofs.lemmas.List.{drop_all}
use Rattle.mt_pieces.specs.inner.Cells.{AreBoxes}
use Rattle.mt_pieces.proofs.Celling.{cells_left_end}
use Rattle.mt_pieces.proofs.tables.row_extents.Goals as goal

pub returns-clause-boxes : goal.returns-clause-boxes
returns-clause-boxes c =
    let l = c.loop-part in
    subst (AreBoxes c.args.parts.now) (sym c.from_vec.ensures) (cells_left_end c.args.parts.now (drop l.part-index c.args.parts.now) l.extents.items l.invariant (drop_all l.part-index c.args.parts.now (omega (arith, c.loop-part-test.false))))
