use Rattle.std.proofs.Common.{ℕ, ◌<◌, length, drop, refl, ap, ◌∙◌, arith}
use Rattle.std.specs.Option.{option_map}
use Rattle.mt_dvi.specs.Codes.{operand_size}
use Rattle.mt_dvi.specs.File.{Fault}
use Rattle.mt_dvi.specs.Machine as machine
use Rattle.mt_dviread.specs.Errors.{cause_of}
use Rattle.mt_dviread.proofs.Turns.{cause_told, front, not_cut, turn_cut, turn_fails, turn_out, turns_on, whole}
use Rattle.mt_dviread.proofs.file.OpenFile.next_operation.Goals as goal

pub returns-in_default-clause-turns : goal.returns-in_default-clause-turns
returns-in_default-clause-turns c = λ file s. turn_out c.args.fonts.now file c.args.self.now c.args.self.now.rest.now s (let l = c.in_default.len_below in omega (arith, l))

pub returns-then-later-size-clause-turns : goal.returns-then-later-size-clause-turns
returns-then-later-size-clause-turns c = λ file s.
    let l = ap length c.past-later.ensures.is in
    let t = c.if-later-size.true in
    let short : length (drop 1 c.args.self.now.rest.now) < c.operand_size-size.result = omega (arith, l, t) in
    turn_cut c.args.fonts.now file c.args.self.now c.args.self.now.rest.now _ c.operand_size-size.result s c.in-len1-up.len_at_least refl (c.operand_size-size.ensures ∙ ap (operand_size _) c.past-later.ensures.is) short

pub decode-operation-requires : goal.decode-operation-requires
decode-operation-requires c = record {
  whole = whole c.past-later.result.now c.front.result.now _ c.operand_size-size.result c.operand_size-size.ensures c.front.ensures.is (c.front.ensures.whole c.if-later-size.false);
}

pub returns-in-Err-clause-turns : goal.returns-in-Err-clause-turns
returns-in-Err-clause-turns c = λ file s.
    let f = front c.args.self.now.rest.now _ _ _ _ _ c.in-len1-up.len_at_least refl c.past-later.ensures.is c.operand_size-size.ensures c.if-later-size.false c.front.ensures.is c.past-after.ensures.is in
    turn_fails c.args.fonts.now file c.args.self.now c.step.new.self c.args.self.now.rest.now _ c.operand_size-size.result c.front.result.now c.past-after.result.now c.in-Err.cause c.at.result s f
    (c.in-Err.ensures.follows file _ s c.decode-operation.ensures)
    (c.at.ensures ∙ ap (λ (n : ℕ). option_map (λ (x : machine.Cause). let fault : Fault = record { cause = x; at = n } in fault) (cause_of c.in-Err.cause)) c.step.ensures.at)

pub returns-clause-turns : goal.returns-clause-turns
returns-clause-turns c = λ file s.
    let f = front c.args.self.now.rest.now _ _ _ _ _ c.in-len1-up.len_at_least refl c.past-later.ensures.is c.operand_size-size.ensures c.if-later-size.false c.front.ensures.is c.past-after.ensures.is in
    turns_on c.args.fonts.now file c.args.self.now c.step.new.self _ c.args.self.now.rest.now _ c.operand_size-size.result c.front.result.now c.past-after.result.now c.in-Ok.deed f
    (c.in-Ok.ensures.follows file _ s c.decode-operation.ensures) refl refl

pub returns-in-Err-clause-cut : goal.returns-in-Err-clause-cut
returns-in-Err-clause-cut c = λ e. absurd (not_cut c.args.self.now.rest.now _ _ _ _ (front c.args.self.now.rest.now _ _ _ _ _ c.in-len1-up.len_at_least refl c.past-later.ensures.is c.operand_size-size.ensures c.if-later-size.false c.front.ensures.is c.past-after.ensures.is) e)

pub returns-clause-cut : goal.returns-clause-cut
returns-clause-cut c = λ e. absurd (not_cut c.args.self.now.rest.now _ _ _ _ (front c.args.self.now.rest.now _ _ _ _ _ c.in-len1-up.len_at_least refl c.past-later.ensures.is c.operand_size-size.ensures c.if-later-size.false c.front.ensures.is c.past-after.ensures.is) e)

pub returns-in-Err-clause-first : goal.returns-in-Err-clause-first
returns-in-Err-clause-first c = λ before. cause_told _ (cause_of c.in-Err.cause) _ c.at.ensures (c.in-Err.ensures.first before)
