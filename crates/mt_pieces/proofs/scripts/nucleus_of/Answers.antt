use Rattle.std.proofs.Common.{◌∙◌, ◌^◌, sym, subst}
use Rattle.mt_scaled.specs.Number.{Within}
use Rattle.mt_box.specs.Rows.{row_width, row_height, row_depth}
use Rattle.mt_box.proofs.layers.RowLayers.{same_reach}
use Rattle.mt_box.proofs.layers.RowSums.{whole_wide}
use Rattle.mt_pieces.proofs.Attached.{extents_is}
use Rattle.mt_pieces.proofs.Kept.{kept_near, kept_height, kept_depth}
use Rattle.mt_pieces.proofs.scripts.nucleus_of.Goals as goal

pub parts_extents-requires-clause-near : goal.parts_extents-requires-clause-near
parts_extents-requires-clause-near c = kept_near c.args.parts.now c.requires.kept

pub returns-clause-extents : goal.returns-clause-extents
returns-clause-extents c = λ ms ls are.
    let r = same_reach ms c.args.parts.now ls are in
    extents_is c.parts_extents.result (row_width ms) (row_height ms) (row_depth ms) (c.parts_extents.ensures.width ∙ r.width) (c.parts_extents.ensures.height ∙ r.height) (c.parts_extents.ensures.depth ∙ r.depth)

pub returns-clause-wide : goal.returns-clause-wide
returns-clause-wide c = whole_wide c.args.parts.now c.parts_extents.result.width c.parts_extents.ensures.width (kept_near c.args.parts.now c.requires.kept) c.requires.few

pub returns-clause-near : goal.returns-clause-near
returns-clause-near c = record {
  height = subst (Within (2 ^ 41)) (sym c.parts_extents.ensures.height) (kept_height c.args.parts.now c.requires.kept);
  depth = subst (Within (2 ^ 41)) (sym c.parts_extents.ensures.depth) (kept_depth c.args.parts.now c.requires.kept);
}
