use Rattle.std.proofs.Common.{◌≡◌, ◌∙◌, sym, arith, w64, to_z, of_z}
use Rattle.std.proofs.lemmas.Int.{ints}
use Rattle.mt_pieces.proofs.BoxAt.{box_at}
use Rattle.mt_pieces.proofs.pieces.Pieces.put_places.Goals as goal

pub returns-clause-is : goal.returns-clause-is
returns-clause-is c = λ before rest raise l w k.
    let b = box_at c.self.inside.parts.items c.self.inside.marks c.args.self.now before rest c.args.at.piece raise l c.self.invariant c.self.view_is w k in
    let x : to_z w64 (of_z w64 c.args.h) ≡ c.args.h = omega (arith, ints, c.requires.h.low, c.requires.h.high) in
    let y : to_z w64 (of_z w64 c.args.v) ≡ c.args.v = omega (arith, ints, c.requires.v.low, c.requires.v.high) in
    rw (x, y) at c.put_layer.ensures.is b.above b.below l.places b.stack (b.before ∙ sym c.requires.at.layer)
