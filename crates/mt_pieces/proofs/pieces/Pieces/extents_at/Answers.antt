use Rattle.std.proofs.Common.{◌∙◌, ap, sym, subst, drop}
use Rattle.mt_pieces.specs.inner.Cells.{BoxesInRange}
use Rattle.mt_pieces.proofs.BoxAt.{box_at}
use Rattle.mt_pieces.proofs.Celling.{last_range}
use Rattle.mt_pieces.proofs.pieces.Pieces.extents_at.Goals as goal

pub first_extents-requires : goal.first_extents-requires
first_extents-requires c =
    subst BoxesInRange (sym (c.parts_from.ensures ∙ ap (drop c.args.at.piece) c.deref.ensures.value)) (last_range c.self.inside.parts.items c.args.at.piece c.self.inside.marks c.self.invariant)

pub returns-clause-is : goal.returns-clause-is
returns-clause-is c = λ before rest raise l w k.
    let b = box_at c.self.inside.parts.items c.self.inside.marks c.args.self.now before rest c.args.at.piece raise l c.self.invariant c.self.view_is w k in
    c.first_extents.ensures.is b.piece b.rest (c.parts_from.ensures ∙ (ap (drop c.args.at.piece) c.deref.ensures.value ∙ b.parts)) ∙ b.extents
