use Rattle.std.proofs.Common.{◌∙◌, ap, sym, subst, take, drop}
use Rattle.mt_box.specs.marks.RowParts.{AreParts, AllNearParts}
use Rattle.mt_rules.specs.Setting.{pack_row}
use Rattle.mt_pieces.proofs.Split.{split_at, few_parts}
use Rattle.mt_pieces.proofs.Settled.{settled_laid, packed_settled}
use Rattle.mt_pieces.proofs.pieces.Pieces.pack.Goals as goal

pub pack_layers-made-requires-clause-few : goal.pack_layers-made-requires-clause-few
pack_layers-made-requires-clause-few c = few_parts c.self.inside.parts.items _ c.args.first c.self.inside.marks c.args.self.now c.self.view_is (c.parts_from.ensures ∙ ap (drop c.args.first) c.deref.ensures.value) c.requires.few

pub pack_layers-made-requires-clause-near : goal.pack_layers-made-requires-clause-near
pack_layers-made-requires-clause-near c =
    let s = split_at c.self.inside.parts.items c.args.first c.self.inside.marks c.args.self.now c.self.invariant c.self.view_is in
    subst AllNearParts (sym (c.parts_from.ensures ∙ ap (drop c.args.first) c.deref.ensures.value)) s.near

pub invariant_of-self : goal.invariant_of-self
invariant_of-self c =
    let s = split_at c.self.inside.parts.items c.args.first c.self.inside.marks c.args.self.now c.self.invariant c.self.view_is in
    let are = subst (λ z. AreParts (drop c.args.first c.args.self.now) z s.layers) (sym (c.parts_from.ensures ∙ ap (drop c.args.first) c.deref.ensures.value)) s.are in
    let made = c.pack_layers-made.ensures in
    let e = c.settle.ensures in
    settled_laid c.pack_layers-made.result c.settle.result (take c.args.first c.self.inside.parts.items) c.settle.new.parts.items c.pack_layers-made.new.marks c.settle.new.marks s.below
    e.ok e.marks e.parts e.no_marks e.no_parts (made.rest (drop c.args.first c.args.self.now) s.layers s.below are s.stack) made.in_range s.laid

pub returns : goal.returns
returns c =
    let s = split_at c.self.inside.parts.items c.args.first c.self.inside.marks c.args.self.now c.self.invariant c.self.view_is in
    let are = subst (λ z. AreParts (drop c.args.first c.args.self.now) z s.layers) (sym (c.parts_from.ensures ∙ ap (drop c.args.first) c.deref.ensures.value)) s.are in
    let made = c.pack_layers-made.ensures in
    let e = c.settle.ensures in
    packed_settled c.pack_layers-made.result c.settle.result (take c.args.first c.self.inside.parts.items) c.settle.new.parts.items c.pack_layers-made.new.marks c.settle.new.marks s.below
    (take c.args.first c.args.self.now) (pack_row (drop c.args.first c.args.self.now))
    (made.is (drop c.args.first c.args.self.now) s.layers s.below are s.stack) (made.rest (drop c.args.first c.args.self.now) s.layers s.below are s.stack) e.marks e.parts e.fault e.memory s.front
