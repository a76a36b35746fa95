use Rattle.std.proofs.Common.{◌≡◌, ◌∙◌, ◌+◌, ◌-◌, min, refl, arith, ap, sym, take, drop}
use Rattle.std.proofs.lemmas.List.{length-take-le}
use Rattle.mt_pieces.proofs.Copied.{after_run, run_at}
use Rattle.mt_pieces.proofs.Moved.{counted, layer_count}
use Rattle.mt_pieces.proofs.Placed.{layers_few}
use Rattle.mt_pieces.proofs.pieces.Pieces.after_run.Goals as goal

pub parts_between-requires : goal.parts_between-requires
parts_between-requires c =
    let r = run_at c.self.inside.parts.items c.self.inside.parts.items c.self.inside.marks c.args.self.now c.args.at c.args.count c.end_of_run-end.result c.self.invariant c.self.view_is c.requires refl (c.end_of_run-end.ensures ∙ ap (min (c.args.at.piece + c.args.count)) (c.len.ensures ∙ c.self.inside.parts.ok.0)) in
    record { start = r.low; end = rw (c.deref.ensures.value) r.high }

pub overflow_add-result : goal.overflow_add-result
overflow_add-result c =
    let r = run_at c.self.inside.parts.items c.self.inside.parts.items c.self.inside.marks c.args.self.now c.args.at c.args.count c.end_of_run-end.result c.self.invariant c.self.view_is c.requires refl (c.end_of_run-end.ensures ∙ ap (min (c.args.at.piece + c.args.count)) (c.len.ensures ∙ c.self.inside.parts.ok.0)) in
    let layers : c.count_layers-layers.result ≡ layer_count (take (c.end_of_run-end.result - c.args.at.piece) (drop c.args.at.piece c.self.inside.parts.items)) =
    c.count_layers-layers.ensures ∙ (sym (counted c.parts_between.result.now) ∙ ap layer_count (c.parts_between.ensures ∙ ap (λ z. take (c.end_of_run-end.result - c.args.at.piece) (drop c.args.at.piece z)) c.deref.ensures.value)) in
    let p = after_run c.self.inside.parts.items c.self.inside.marks c.args.self.now c.args.at c.args.count c.end_of_run-end.result _ r c.requires layers in
    omega (arith, p.layer, p.within, layers_few (take c.end_of_run-end.result c.args.self.now), length-take-le c.end_of_run-end.result c.args.self.now p.within, c.end_of_run-end.type_inv)

pub returns-clause-at : goal.returns-clause-at
returns-clause-at c =
    let r = run_at c.self.inside.parts.items c.self.inside.parts.items c.self.inside.marks c.args.self.now c.args.at c.args.count c.end_of_run-end.result c.self.invariant c.self.view_is c.requires refl (c.end_of_run-end.ensures ∙ ap (min (c.args.at.piece + c.args.count)) (c.len.ensures ∙ c.self.inside.parts.ok.0)) in
    let layers : c.count_layers-layers.result ≡ layer_count (take (c.end_of_run-end.result - c.args.at.piece) (drop c.args.at.piece c.self.inside.parts.items)) =
    c.count_layers-layers.ensures ∙ (sym (counted c.parts_between.result.now) ∙ ap layer_count (c.parts_between.ensures ∙ ap (λ z. take (c.end_of_run-end.result - c.args.at.piece) (drop c.args.at.piece z)) c.deref.ensures.value)) in
    after_run c.self.inside.parts.items c.self.inside.marks c.args.self.now c.args.at c.args.count c.end_of_run-end.result _ r c.requires layers

pub returns-clause-piece : goal.returns-clause-piece
returns-clause-piece c = (run_at c.self.inside.parts.items c.self.inside.parts.items c.self.inside.marks c.args.self.now c.args.at c.args.count c.end_of_run-end.result c.self.invariant c.self.view_is c.requires refl (c.end_of_run-end.ensures ∙ ap (min (c.args.at.piece + c.args.count)) (c.len.ensures ∙ c.self.inside.parts.ok.0))).is
