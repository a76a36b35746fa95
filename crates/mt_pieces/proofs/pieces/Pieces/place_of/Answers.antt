use Rattle.std.proofs.Common.{◌≡◌, ◌∙◌, arith, ap, sym, length, reverse, drop}
use Rattle.std.proofs.lemmas.List.{length-reverse}
use Rattle.mt_pieces.proofs.Copied.{place_there}
use Rattle.mt_pieces.proofs.Laid.{length_back}
use Rattle.mt_pieces.proofs.Moved.{counted, counted_apart, layer_count}
use Rattle.mt_pieces.proofs.pieces.Pieces.place_of.Goals as goal

pub returns-clause-at : goal.returns-clause-at
returns-clause-at c =
    let above : c.count_layers-above.result ≡ layer_count (drop c.min-piece.result c.self.inside.parts.items) =
    c.count_layers-above.ensures ∙ (sym (counted c.parts_from.result.now) ∙ ap layer_count (c.parts_from.ensures ∙ ap (drop c.min-piece.result) c.deref.ensures.value)) in
    place_there _ c.self.inside.parts.items c.self.inside.marks c.args.self.now c.self.invariant c.self.view_is (omega (arith, c.min-piece.ensures, c.len.ensures ∙ c.self.inside.parts.ok.0))
    (omega (arith, c.saturating_sub.ensures, c.len-2.ensures, above, counted_apart c.self.inside.parts.items c.self.inside.marks c.min-piece.result c.self.invariant))

pub returns-clause-piece : goal.returns-clause-piece
returns-clause-piece c =
    let many : length c.args.self.now ≡ length c.self.inside.parts.items = sym (ap length c.self.view_is) ∙ (length_back (reverse c.self.inside.parts.items) c.self.inside.marks ∙ length-reverse c.self.inside.parts.items) in
    omega (arith, c.min-piece.ensures, c.len.ensures ∙ c.self.inside.parts.ok.0, many)
