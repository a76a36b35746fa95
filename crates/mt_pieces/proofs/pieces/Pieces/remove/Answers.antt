use Rattle.std.proofs.Common.{◌∙◌, ◌≡◌, ◌+◌, ◌-◌, ◌++◌, min, arith, ap, sym, length, reverse, take, drop}
use Rattle.std.proofs.lemmas.List.{length-reverse}
use Rattle.mt_pieces.proofs.Laid.{length_back}
use Rattle.mt_pieces.proofs.Moved.{counted, layer_count, taken_out, to_the_end}
use Rattle.mt_pieces.proofs.pieces.Pieces.remove.Goals as goal

pub invariant_of-self : goal.invariant_of-self
invariant_of-self c =
    let n : length c.args.self.now ≡ length c.self.inside.parts.items = sym (ap length c.self.view_is) ∙ (length_back (reverse c.self.inside.parts.items) c.self.inside.marks ∙ length-reverse c.self.inside.parts.items) in
    let s : c.min-first.result ≡ min c.args.first (length c.args.self.now) = c.min-first.ensures ∙ ap (min c.args.first) ((c.len.ensures ∙ c.self.inside.parts.ok.0) ∙ sym n) in
    let e : c.end_of_run-end.result ≡ min (c.min-first.result + c.args.count) (length c.args.self.now) = c.end_of_run-end.ensures ∙ ap (min (c.min-first.result + c.args.count)) ((c.len-2.ensures ∙ c.self.inside.parts.ok.0) ∙ sym n) in
    let after : c.count_layers-above.result ≡ layer_count (drop c.end_of_run-end.result c.self.inside.parts.items) =
    c.count_layers-above.ensures ∙ (sym (counted c.parts_from.result.now) ∙ ap layer_count (c.parts_from.ensures ∙ ap (drop c.end_of_run-end.result) c.deref.ensures.value)) in
    let gone : c.count_layers-gone.result ≡ layer_count (take (c.end_of_run-end.result - c.min-first.result) (drop c.min-first.result c.self.inside.parts.items)) =
    c.count_layers-gone.ensures ∙ (sym (counted (take (c.end_of_run-end.result - c.min-first.result) (drop c.min-first.result c.deref-2.result.now))) ∙ ap (λ z. layer_count (take (c.end_of_run-end.result - c.min-first.result) (drop c.min-first.result z))) c.deref-2.ensures.value) in
    let removed = c.remove.ensures ∙ (ap (λ k. take k c.self.inside.marks ++ drop (k + c.count_layers-gone.result) c.self.inside.marks) after ∙ ap (λ k. take (layer_count (drop c.end_of_run-end.result c.self.inside.parts.items)) c.self.inside.marks ++ drop (layer_count (drop c.end_of_run-end.result c.self.inside.parts.items) + k) c.self.inside.marks) gone) in
    let t = taken_out c.self.inside.parts.items c.cut.new.items.items c.self.inside.marks c.remove.new.self c.args.self.now c.min-first.result c.end_of_run-end.result c.self.invariant c.self.view_is (omega (arith, s, e)) (omega (arith, e, n)) c.cut.ensures removed in
    t.laid

pub returns : goal.returns
returns c =
    let n : length c.args.self.now ≡ length c.self.inside.parts.items = sym (ap length c.self.view_is) ∙ (length_back (reverse c.self.inside.parts.items) c.self.inside.marks ∙ length-reverse c.self.inside.parts.items) in
    let s : c.min-first.result ≡ min c.args.first (length c.args.self.now) = c.min-first.ensures ∙ ap (min c.args.first) ((c.len.ensures ∙ c.self.inside.parts.ok.0) ∙ sym n) in
    let e : c.end_of_run-end.result ≡ min (c.min-first.result + c.args.count) (length c.args.self.now) = c.end_of_run-end.ensures ∙ ap (min (c.min-first.result + c.args.count)) ((c.len-2.ensures ∙ c.self.inside.parts.ok.0) ∙ sym n) in
    let after : c.count_layers-above.result ≡ layer_count (drop c.end_of_run-end.result c.self.inside.parts.items) =
    c.count_layers-above.ensures ∙ (sym (counted c.parts_from.result.now) ∙ ap layer_count (c.parts_from.ensures ∙ ap (drop c.end_of_run-end.result) c.deref.ensures.value)) in
    let gone : c.count_layers-gone.result ≡ layer_count (take (c.end_of_run-end.result - c.min-first.result) (drop c.min-first.result c.self.inside.parts.items)) =
    c.count_layers-gone.ensures ∙ (sym (counted (take (c.end_of_run-end.result - c.min-first.result) (drop c.min-first.result c.deref-2.result.now))) ∙ ap (λ z. layer_count (take (c.end_of_run-end.result - c.min-first.result) (drop c.min-first.result z))) c.deref-2.ensures.value) in
    let removed = c.remove.ensures ∙ (ap (λ k. take k c.self.inside.marks ++ drop (k + c.count_layers-gone.result) c.self.inside.marks) after ∙ ap (λ k. take (layer_count (drop c.end_of_run-end.result c.self.inside.parts.items)) c.self.inside.marks ++ drop (layer_count (drop c.end_of_run-end.result c.self.inside.parts.items) + k) c.self.inside.marks) gone) in
    let t = taken_out c.self.inside.parts.items c.cut.new.items.items c.self.inside.marks c.remove.new.self c.args.self.now c.min-first.result c.end_of_run-end.result c.self.invariant c.self.view_is (omega (arith, s, e)) (omega (arith, e, n)) c.cut.ensures removed in
    t.view ∙ to_the_end c.args.self.now c.args.first c.args.count c.min-first.result c.end_of_run-end.result s e
