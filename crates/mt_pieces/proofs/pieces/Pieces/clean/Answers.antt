use Rattle.std.proofs.Common.{◌∙◌, ap, sym, subst, take, drop}
use Rattle.mt_pieces.specs.Putting.{PacksPieces, boxed_on}
use Rattle.mt_pieces.specs.inner.LastParts.{is_lone_part}
use Rattle.mt_pieces.proofs.Clean.{lone_stays, packed_clean}
use Rattle.mt_pieces.proofs.pieces.Pieces.clean.Goals as goal

pub returns-then-is_lone_box : goal.returns-then-is_lone_box
returns-then-is_lone_box c =
    let lone = sym (c.is_lone_box.ensures ∙ ap is_lone_part (c.parts_from.ensures ∙ ap (drop c.args.first) c.deref.ensures.value)) ∙ c.if-is_lone_box.true in
    lone_stays c.self.inside.parts.items c.args.first c.self.inside.marks c.args.self.now c.self.invariant c.self.view_is lone

pub returns : goal.returns
returns c =
    let lone = sym (c.is_lone_box.ensures ∙ ap is_lone_part (c.parts_from.ensures ∙ ap (drop c.args.first) c.deref.ensures.value)) ∙ c.if-is_lone_box.false in
    let same = packed_clean c.self.inside.parts.items c.args.first c.self.inside.marks c.args.self.now c.self.invariant c.self.view_is lone in
    subst (λ z. PacksPieces c.pack.result c.pack.new.self (boxed_on (take c.args.first c.args.self.now) z)) same c.pack.ensures
