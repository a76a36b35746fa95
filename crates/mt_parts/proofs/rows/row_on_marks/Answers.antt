use Rattle.std.proofs.Common.{subst}
use Rattle.mt_box.specs.Layout.{Layout}
use Rattle.mt_box.specs.marks.Layers.{top}
use Rattle.mt_rules.specs.Setting.{make_box}
use Rattle.mt_rules.specs.OnMarks.{SetsOn}
use Rattle.mt_parts.specs.PiecesOnMarks.{pieces_of}
use Rattle.mt_parts.proofs.MarkedParts.{are_parts, row_made, always, on_top}
use Rattle.mt_parts.proofs.rows.row_on_marks.Goals as goal

pub returns-clause-is : goal.returns-clause-is
returns-clause-is c = λ ls rest has e.
    let are = are_parts c.args.parts.now ls has in
    subst (λ (m : Layout). SetsOn c.tested_part.result (top c.pack_parts.new.marks) (make_box m))
    (row_made (pieces_of c.args.parts.now ls) c.in_ok-extents.extents c.pack_parts.new.marks rest (c.in_ok-extents.ensures.extents _ ls are) (c.in_ok-extents.ensures.marks _ ls rest are e))
    (c.tested_part.ensures.is (top c.pack_parts.new.marks))

pub returns-clause-rest : goal.returns-clause-rest
returns-clause-rest c = λ ls rest has e. always c.tested_part.result (on_top (c.in_ok-extents.ensures.marks _ ls rest (are_parts c.args.parts.now ls has) e))
