use Rattle.std.proofs.Common.{◌∙◌, ap, sym, subst, ◌≤ℤ◌, map, take, drop}
use Rattle.mt_box.specs.marks.RowParts.{AreParts, AllNearParts, part_shrink, part_width, parts_sum}
use Rattle.mt_box.proofs.layers.RowLayers.{same_reach}
use Rattle.mt_rules.specs.Setting.{make_box}
use Rattle.mt_box.specs.SetRows.{pack_to}
use Rattle.mt_pieces.proofs.Split.{split_at, few_parts}
use Rattle.mt_pieces.proofs.Alike.{shrinks_alike}
use Rattle.mt_pieces.proofs.Settled.{settled_laid, packed_settled}
use Rattle.mt_pieces.proofs.pieces.Pieces.pack_to.Goals as goal

pub set_layers-made-requires-clause-few : goal.set_layers-made-requires-clause-few
set_layers-made-requires-clause-few c = few_parts c.self.inside.parts.items _ c.args.first c.self.inside.marks c.args.self.now c.self.view_is (c.parts_from.ensures ∙ ap (drop c.args.first) c.deref.ensures.value) c.requires.few

pub set_layers-made-requires-clause-near : goal.set_layers-made-requires-clause-near
set_layers-made-requires-clause-near c =
    let s = split_at c.self.inside.parts.items c.args.first c.self.inside.marks c.args.self.now c.self.invariant c.self.view_is in
    subst AllNearParts (sym (c.parts_from.ensures ∙ ap (drop c.args.first) c.deref.ensures.value)) s.near

pub invariant_of-self : goal.invariant_of-self
invariant_of-self c =
    let s = split_at c.self.inside.parts.items c.args.first c.self.inside.marks c.args.self.now c.self.invariant c.self.view_is in
    let are = subst (λ z. AreParts (drop c.args.first c.args.self.now) z s.layers) (sym (c.parts_from.ensures ∙ ap (drop c.args.first) c.deref.ensures.value)) s.are in
    let shrinks = shrinks_alike c.self.inside.parts.items c.args.first c.self.inside.marks c.args.self.now c.self.view_is ∙ ap (map part_shrink) (sym (c.parts_from.ensures ∙ ap (drop c.args.first) c.deref.ensures.value)) in
    let made = c.set_layers-made.ensures in
    let e = c.settle.ensures in
    settled_laid c.set_layers-made.result c.settle.result (take c.args.first c.self.inside.parts.items) c.settle.new.parts.items c.set_layers-made.new.marks c.settle.new.marks s.below
    e.ok e.marks e.parts e.no_marks e.no_parts (made.rest (drop c.args.first c.args.self.now) s.layers s.below are shrinks s.stack) made.in_range s.laid

pub returns : goal.returns
returns c =
    let s = split_at c.self.inside.parts.items c.args.first c.self.inside.marks c.args.self.now c.self.invariant c.self.view_is in
    let are = subst (λ z. AreParts (drop c.args.first c.args.self.now) z s.layers) (sym (c.parts_from.ensures ∙ ap (drop c.args.first) c.deref.ensures.value)) s.are in
    let shrinks = shrinks_alike c.self.inside.parts.items c.args.first c.self.inside.marks c.args.self.now c.self.view_is ∙ ap (map part_shrink) (sym (c.parts_from.ensures ∙ ap (drop c.args.first) c.deref.ensures.value)) in
    let made = c.set_layers-made.ensures in
    let e = c.settle.ensures in
    packed_settled c.set_layers-made.result c.settle.result (take c.args.first c.self.inside.parts.items) c.settle.new.parts.items c.set_layers-made.new.marks c.settle.new.marks s.below
    (take c.args.first c.args.self.now) (make_box (pack_to (drop c.args.first c.args.self.now) c.args.width.sp))
    (made.is (drop c.args.first c.args.self.now) s.layers s.below are shrinks s.stack) (made.rest (drop c.args.first c.args.self.now) s.layers s.below are shrinks s.stack) e.marks e.parts e.fault e.memory s.front

pub set_layers-made-requires-clause-narrow : goal.set_layers-made-requires-clause-narrow
set_layers-made-requires-clause-narrow c =
    let s = split_at c.self.inside.parts.items c.args.first c.self.inside.marks c.args.self.now c.self.invariant c.self.view_is in
    let same = sym (ap (parts_sum part_width) (c.parts_from.ensures ∙ ap (drop c.args.first) c.deref.ensures.value) ∙ (same_reach (drop c.args.first c.args.self.now) (drop c.args.first c.self.inside.parts.items) s.layers s.are).width) in
    subst (λ z. c.args.width.sp ≤ℤ z) same c.requires.narrow
