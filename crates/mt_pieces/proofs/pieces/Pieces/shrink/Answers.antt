use Rattle.std.proofs.Common.{◌∙◌, ap, sym, subst, drop}
use Rattle.mt_box.specs.marks.RowParts.{AllNearParts, part_shrink, parts_sum}
use Rattle.mt_box.proofs.layers.RowLayers.{same_shrink}
use Rattle.mt_pieces.proofs.Alike.{shrinks_alike}
use Rattle.mt_pieces.proofs.Split.{split_at, few_parts}
use Rattle.mt_pieces.proofs.pieces.Pieces.shrink.Goals as goal

pub parts_shrink-requires-clause-few : goal.parts_shrink-requires-clause-few
parts_shrink-requires-clause-few c = few_parts c.self.inside.parts.items _ c.args.first c.self.inside.marks c.args.self.now c.self.view_is (c.parts_from.ensures ∙ ap (drop c.args.first) c.deref.ensures.value) c.requires.few

pub parts_shrink-requires-clause-near : goal.parts_shrink-requires-clause-near
parts_shrink-requires-clause-near c =
    let s = split_at c.self.inside.parts.items c.args.first c.self.inside.marks c.args.self.now c.self.invariant c.self.view_is in
    subst AllNearParts (sym (c.parts_from.ensures ∙ ap (drop c.args.first) c.deref.ensures.value)) s.near

pub returns-clause-is : goal.returns-clause-is
returns-clause-is c =
    c.parts_shrink.ensures.is ∙ (ap (parts_sum part_shrink) (c.parts_from.ensures ∙ ap (drop c.args.first) c.deref.ensures.value)
    ∙ sym (same_shrink (drop c.args.first c.args.self.now) (drop c.args.first c.self.inside.parts.items) (shrinks_alike c.self.inside.parts.items c.args.first c.self.inside.marks c.args.self.now c.self.view_is)))
