use Rattle.std.proofs.Common.{◌∙◌, ap, sym, length, reverse}
use Rattle.std.proofs.lemmas.List.{length-reverse}
use Rattle.mt_pieces.proofs.Laid.{length_back}
use Rattle.mt_pieces.proofs.pieces.Pieces.len.Goals as goal

pub returns : goal.returns
returns c =
    c.len.ensures ∙ (c.self.inside.parts.ok.0 ∙ (sym (length_back (reverse c.self.inside.parts.items) c.self.inside.marks ∙ length-reverse c.self.inside.parts.items) ∙ ap length c.self.view_is))
