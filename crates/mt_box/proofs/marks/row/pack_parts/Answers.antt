use Rattle.std.proofs.Common.{◌∙◌, ap, refl, inl, ◌∷◌, [], pos, append-nil}
use Rattle.mt_box.specs.SetRows.{shrunk_places}
use Rattle.mt_box.specs.marks.Layers.{begun}
use Rattle.mt_box.specs.marks.RowParts.{parts_joined}
use Rattle.mt_box.proofs.Equalities.{extents_eq}
use Rattle.mt_box.proofs.layers.RowLayers.{parts_places, places_unshrunk, same_reach}
use Rattle.mt_box.proofs.marks.row.pack_parts.Goals as goal

pub returns-clause-marks : goal.returns-clause-marks
returns-clause-marks c = λ ms ls rest are e.
    c.in_ok-join_parts.ensures
    ∙ (ap (parts_joined (pos 0) (pos 0) (pos 0) (pos 0) c.args.parts.now) (c.in_ok-begin.ensures.is ∙ ap begun e)
    ∙ (parts_places (pos 0) (pos 0) (pos 0) (pos 0) (pos 0) ms c.args.parts.now ls [] rest are (inl refl)
    ∙ ap (λ r. r ∷ rest) (append-nil (shrunk_places (pos 0) (pos 0) (pos 0) (pos 0) ms) ∙ places_unshrunk (pos 0) (pos 0) (pos 0) ms)))

pub returns-clause-extents : goal.returns-clause-extents
returns-clause-extents c = λ ms ls are.
    let e = c.reach_of-row.ensures in
    let r = same_reach ms c.args.parts.now ls are in
    c.extents.ensures ∙ extents_eq (e.width ∙ r.width) (e.height ∙ r.height) (e.depth ∙ r.depth)
