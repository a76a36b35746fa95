use Rattle.std.proofs.Common.{◌∙◌, ap, sym, subst, drop}
use Rattle.mt_box.specs.marks.RowParts.{AllNearParts, part_width, part_height, part_depth, parts_sum, parts_max}
use Rattle.mt_box.proofs.layers.RowLayers.{same_reach}
use Rattle.mt_pieces.proofs.Split.{split_at, few_parts}
use Rattle.mt_pieces.proofs.pieces.Pieces.reach.Goals as goal

pub parts_extents-requires-clause-few : goal.parts_extents-requires-clause-few
parts_extents-requires-clause-few c = few_parts c.self.inside.parts.items _ c.args.first c.self.inside.marks c.args.self.now c.self.view_is (c.parts_from.ensures ∙ ap (drop c.args.first) c.deref.ensures.value) c.requires.few

pub parts_extents-requires-clause-near : goal.parts_extents-requires-clause-near
parts_extents-requires-clause-near c =
    let s = split_at c.self.inside.parts.items c.args.first c.self.inside.marks c.args.self.now c.self.invariant c.self.view_is in
    subst AllNearParts (sym (c.parts_from.ensures ∙ ap (drop c.args.first) c.deref.ensures.value)) s.near

pub returns-clause-width : goal.returns-clause-width
returns-clause-width c =
    let s = split_at c.self.inside.parts.items c.args.first c.self.inside.marks c.args.self.now c.self.invariant c.self.view_is in
    c.parts_extents.ensures.width ∙ (ap (parts_sum part_width) (c.parts_from.ensures ∙ ap (drop c.args.first) c.deref.ensures.value) ∙ (same_reach (drop c.args.first c.args.self.now) (drop c.args.first c.self.inside.parts.items) s.layers s.are).width)

pub returns-clause-height : goal.returns-clause-height
returns-clause-height c =
    let s = split_at c.self.inside.parts.items c.args.first c.self.inside.marks c.args.self.now c.self.invariant c.self.view_is in
    c.parts_extents.ensures.height ∙ (ap (parts_max part_height) (c.parts_from.ensures ∙ ap (drop c.args.first) c.deref.ensures.value) ∙ (same_reach (drop c.args.first c.args.self.now) (drop c.args.first c.self.inside.parts.items) s.layers s.are).height)

pub returns-clause-depth : goal.returns-clause-depth
returns-clause-depth c =
    let s = split_at c.self.inside.parts.items c.args.first c.self.inside.marks c.args.self.now c.self.invariant c.self.view_is in
    c.parts_extents.ensures.depth ∙ (ap (parts_max part_depth) (c.parts_from.ensures ∙ ap (drop c.args.first) c.deref.ensures.value) ∙ (same_reach (drop c.args.first c.args.self.now) (drop c.args.first c.self.inside.parts.items) s.layers s.are).depth)
