use Rattle.std.proofs.Common.{◌∙◌, ap, subst, drop, take, ◌-◌, length, length-append, reverse, ◌∷◌, ◌≡◌, arith, w64, to_z, of_z}
use Rattle.std.proofs.lemmas.Int.{ints}
use Rattle.std.proofs.lemmas.List.{length-reverse}
use Rattle.mt_box.specs.Placing.{Puts, all_lowered}
use Rattle.mt_box.specs.inner.Nodes.{node_places}
use Rattle.mt_box.proofs.layers.CopiedRuns.{layer_at}
use Rattle.mt_box.proofs.layers.Layering.{length_layers}
use Rattle.mt_box.proofs.marks.stack.Marks.put_layer.Goals as goal

pub nodes_between-requires : goal.nodes_between-requires
nodes_between-requires c =
    let p = layer_at c.self.inside.nodes.items c.self.inside.starts.items c.args.number _ _ _ (c.len-end_of_all.ensures ∙ c.self.inside.nodes.ok.0) c.self.invariant.starts (omega (arith, c.if-len-number.false, c.len.ensures ∙ c.self.inside.starts.ok.0))
    (rw (c.deref.ensures.value) at c.start_of-start.ensures) (rw (c.deref-2.ensures.value) at c.start_of-end.ensures) in
    record { start = p.low; end = rw (c.deref-3.ensures.value) p.high }

pub returns-then-len-number-clause-is : goal.returns-then-len-number-clause-is
returns-then-len-number-clause-is c = λ above below layer w b.
    absurd (omega (arith, c.if-len-number.true, c.len.ensures ∙ c.self.inside.starts.ok.0, b, ap length (c.self.view_is ∙ w), length-append above (layer ∷ below), length_layers c.self.inside.nodes.items (reverse c.self.inside.starts.items), length-reverse c.self.inside.starts.items))

pub returns-clause-is : goal.returns-clause-is
returns-clause-is c = λ above below layer w b.
    let p = layer_at c.self.inside.nodes.items c.self.inside.starts.items c.args.number _ _ _ (c.len-end_of_all.ensures ∙ c.self.inside.nodes.ok.0) c.self.invariant.starts (omega (arith, c.if-len-number.false, c.len.ensures ∙ c.self.inside.starts.ok.0))
    (rw (c.deref.ensures.value) at c.start_of-start.ensures) (rw (c.deref-2.ensures.value) at c.start_of-end.ensures) in
    let same = ap node_places (c.nodes_between.ensures ∙ ap (λ z. take (c.start_of-end.result - c.start_of-start.result) (drop c.start_of-start.result z)) c.deref-3.ensures.value) ∙ p.places above below layer (c.self.view_is ∙ w) b in
    let h : to_z w64 (of_z w64 c.args.h) ≡ c.args.h = omega (arith, ints, c.requires.h.low, c.requires.h.high) in
    let v : to_z w64 (of_z w64 c.args.v) ≡ c.args.v = omega (arith, ints, c.requires.v.low, c.requires.v.high) in
    subst (λ z. Puts c.args.room c.args.places.now.items (all_lowered c.args.h c.args.v z) c.put_nodes.result c.put_nodes.new.places.items) same (rw (h, v) at c.put_nodes.ensures.is)
