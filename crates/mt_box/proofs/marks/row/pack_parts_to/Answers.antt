use Rattle.std.proofs.Common.{◌∙◌, ap, refl, inr, ◌∷◌, [], pos, append-nil}
use Rattle.mt_box.specs.SetRows.{shrunk_places}
use Rattle.mt_box.specs.marks.Layers.{begun}
use Rattle.mt_box.specs.marks.RowParts.{parts_joined}
use Rattle.mt_box.proofs.Equalities.{extents_eq}
use Rattle.mt_box.proofs.layers.RowLayers.{parts_places, same_reach, set_at}
use Rattle.mt_box.proofs.marks.row.pack_parts_to.Goals as goal

pub returns-clause-marks : goal.returns-clause-marks
returns-clause-marks c = λ ms ls rest are shrinks e.
    let most = c.of.result.most.sp in
    let used = c.of.result.used.sp in
    c.in_ok-join_parts.ensures
    ∙ (ap (parts_joined most used (pos 0) (pos 0) c.args.parts.now) (c.in_ok-begin.ensures.is ∙ ap begun e)
    ∙ (parts_places most used (pos 0) (pos 0) (pos 0) ms c.args.parts.now ls [] rest are (inr (refl, shrinks))
    ∙ ap (λ r. r ∷ rest) (append-nil (shrunk_places most used (pos 0) (pos 0) ms)
    ∙ set_at ms c.args.parts.now c.reach_of-row.result c.args.width.sp most used (same_reach ms c.args.parts.now ls are) shrinks c.reach_of-row.ensures.width c.reach_of-row.ensures.shrink c.of.ensures.most c.of.ensures.used)))

pub returns-clause-extents : goal.returns-clause-extents
returns-clause-extents c = λ ms ls are.
    let e = c.reach_of-row.ensures in
    let r = same_reach ms c.args.parts.now ls are in
    c.extents.ensures ∙ rw c.widened.ensures (extents_eq refl (e.height ∙ r.height) (e.depth ∙ r.depth))
