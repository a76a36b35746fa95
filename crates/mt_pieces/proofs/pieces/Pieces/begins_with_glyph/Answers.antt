use Rattle.std.proofs.Common.{◌∙◌, ap, drop}
use Rattle.mt_pieces.specs.inner.LastParts.{is_glyph_first}
use Rattle.mt_pieces.proofs.Alike.{glyph_alike}
use Rattle.mt_pieces.proofs.pieces.Pieces.begins_with_glyph.Goals as goal

pub returns : goal.returns
returns c =
    c.is_glyph_first.ensures ∙ (ap is_glyph_first (c.parts_from.ensures ∙ ap (drop c.args.first) c.deref.ensures.value)
    ∙ glyph_alike c.self.inside.parts.items c.args.first c.self.inside.marks c.args.self.now c.self.view_is)
