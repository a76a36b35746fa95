use Rattle.std.proofs.Common.{◌∙◌, arith, sym, subst}
use Rattle.mt_pieces.specs.inner.Cells.{AreBoxes}
use Rattle.mt_pieces.proofs.Celling.{boxes_length}
use Rattle.mt_pieces.proofs.Lined.{rows_are, some_rows}
use Rattle.mt_pieces.proofs.lines.vcenter_layers.Goals as goal

pub vcenter_on_marks-requires-clause-few : goal.vcenter_on_marks-requires-clause-few
vcenter_on_marks-requires-clause-few c = omega (arith, boxes_length c.args.parts.now c.as_slice.result.now (subst (AreBoxes c.args.parts.now) (sym c.as_slice.ensures) c.in_ok-rows.ensures.boxes), c.requires.few)

pub returns-clause-is : goal.returns-clause-is
returns-clause-is c = λ rows ls rest are e.
    let r = rows_are rows c.args.parts.now c.as_slice.result.now ls (subst (AreBoxes c.args.parts.now) (sym c.as_slice.ensures) c.in_ok-rows.ensures.boxes) are in
    c.vcenter_on_marks.ensures.is rows rest r.extents (e ∙ r.stack rest)

pub returns-clause-rest : goal.returns-clause-rest
returns-clause-rest c = λ ms ls rest are e.
    let r = some_rows ms c.args.parts.now c.as_slice.result.now ls (subst (AreBoxes c.args.parts.now) (sym c.as_slice.ensures) c.in_ok-rows.ensures.boxes) are in
    c.vcenter_on_marks.ensures.rest _ rest r.extents (e ∙ r.stack rest)
