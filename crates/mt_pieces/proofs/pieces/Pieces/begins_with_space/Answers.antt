use Rattle.std.proofs.Common.{◌∙◌, ap, drop}
use Rattle.mt_pieces.specs.inner.LastParts.{is_space_first}
use Rattle.mt_pieces.proofs.Alike.{space_alike}
use Rattle.mt_pieces.proofs.pieces.Pieces.begins_with_space.Goals as goal

pub returns : goal.returns
returns c =
    c.is_space_first.ensures ∙ (ap is_space_first (c.parts_from.ensures ∙ ap (drop c.args.first) c.deref.ensures.value)
    ∙ space_alike c.self.inside.parts.items c.args.first c.self.inside.marks c.args.self.now c.self.view_is)
