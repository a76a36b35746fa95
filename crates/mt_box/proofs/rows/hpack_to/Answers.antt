use Rattle.std.proofs.Common.{◌∙◌, ◌^◌, ap, subst, lit<, w64, to_z, of_z}
use Rattle.mt_scaled.proofs.Products.{kept}
use Rattle.mt_box.specs.Packs.{Packs}
use Rattle.mt_box.specs.Rows.{piece_values}
use Rattle.mt_box.specs.SetRows.{pack_to}
use Rattle.mt_box.specs.marks.RowParts.{on_stack}
use Rattle.mt_box.specs.marks.PieceParts.{row_layouts}
use Rattle.mt_box.proofs.layers.RowLayers.{same_reach}
use Rattle.mt_box.proofs.Packing.{parts_are, shrinks_are, packed_up}
use Rattle.mt_box.proofs.rows.hpack_to.Goals as goal

pub pack_parts_to-requires-clause-narrow : goal.pack_parts_to-requires-clause-narrow
pack_parts_to-requires-clause-narrow c =
    let same = same_reach _ c.deref.result.now _ (parts_are c.args.row c.deref.result.now (c.deref.ensures.value ∙ c.in_ok-parts.ensures.parts)) in
    rw (kept (2 ^ 62) _ c.requires.small (lit< tt), same.width) c.requires.narrow

pub returns-clause-packs : goal.returns-clause-packs
returns-clause-packs c =
    let ls = row_layouts c.args.row in
    let p = c.deref.ensures.value ∙ c.in_ok-parts.ensures.parts in
    let are = parts_are c.args.row c.deref.result.now p in
    let e = c.in_ok-extents.ensures in
    subst (λ w. Packs (pack_to (piece_values c.args.row) w) c.box_of_top.result) (kept (2 ^ 62) _ c.requires.small (lit< tt))
    (packed_up (pack_to (piece_values c.args.row) (to_z w64 (of_z w64 c.args.width))) _ _ _ (e.extents _ ls are) (e.marks _ ls _ are (shrinks_are c.args.row c.deref.result.now p) (c.in_ok-parts.ensures.marks ∙ ap (on_stack ls) c.new-marks.ensures)) c.box_of_top.ensures.packs)
