use Rattle.std.proofs.Common.{ℕ, ◌<◌, length, drop, refl, ap, ◌∙◌, arith}
use Rattle.std.specs.Prelude.{Ok, Err}
use Rattle.std.specs.Option.{option_map}
use Rattle.mt_dvi.specs.Codes.{operand_size}
use Rattle.mt_dvi.specs.File.{Fault}
use Rattle.mt_dvi.specs.Machine as machine
use Rattle.mt_dviread.specs.Errors.{cause_of}
use Rattle.mt_dviread.proofs.Runs.{head_is, in_page, move_goes, moved_is, not_again, select_size}
use Rattle.mt_dviread.proofs.Turns.{front, not_cut, turn_cut, turn_fails, turn_goes, whole}
use Rattle.mt_dviread.proofs.file.OpenFile.perform_move.Goals as goal

pub returns-then-later-size-clause-turns : goal.returns-then-later-size-clause-turns
returns-then-later-size-clause-turns c = λ file kind s is.
    let l = ap length c.past-later.ensures.is in
    let t = c.if-later-size.true in
    let short : length (drop 1 c.args.self.now.rest.now) < c.operand_size-size.result = omega (arith, l, t) in
    turn_cut c.args.fonts.now file c.args.self.now c.args.self.now.rest.now _ c.operand_size-size.result s c.in-len1-up.len_at_least refl (c.operand_size-size.ensures ∙ ap (operand_size _) c.past-later.ensures.is) short

pub decode-operation-requires : goal.decode-operation-requires
decode-operation-requires c = record {
  whole = whole c.past-later.result.now c.front.result.now _ c.operand_size-size.result c.operand_size-size.ensures c.front.ensures.is (c.front.ensures.whole c.if-later-size.false);
}

pub returns-in-Err-clause-turns : goal.returns-in-Err-clause-turns
returns-in-Err-clause-turns c = λ file kind s is.
    let o = c.args.self.now in
    let page = in_page o.phase o.rest.now kind is in
    let after = drop c.operand_size-size.result c.past-later.result.now in
    let f = front o.rest.now _ _ after _ _ c.in-len1-up.len_at_least refl c.past-later.ensures.is c.operand_size-size.ensures c.if-later-size.false c.front.ensures.is refl in
    turn_fails c.args.fonts.now file o c.perform.new.self o.rest.now _ c.operand_size-size.result c.front.result.now after c.in-Err.cause c.at.result s f
    (move_goes c.args.fonts.now file o c.perform.new.self _ c.front.result.now after kind (Err c.in-Err.cause) s page (moved_is o.phase o.rest.now kind is c.requires.is) (head_is o.phase o.rest.now kind is c.in-len1-up.len_at_least)
    (c.in-Err.ensures.fills file _ s (not_again c.args.fonts.now o file s page) c.decode-operation.ensures))
    (c.at.ensures ∙ ap (λ (n : ℕ). option_map (λ (x : machine.Cause). let fault : Fault = record { cause = x; at = n } in fault) (cause_of c.in-Err.cause)) c.perform.ensures.at)

pub returns-in-Err-clause-cut : goal.returns-in-Err-clause-cut
returns-in-Err-clause-cut c = λ e. absurd (not_cut c.args.self.now.rest.now _ _ _ _ (front c.args.self.now.rest.now _ _ (drop c.operand_size-size.result c.past-later.result.now) _ _ c.in-len1-up.len_at_least refl c.past-later.ensures.is c.operand_size-size.ensures c.if-later-size.false c.front.ensures.is refl) e)

pub returns-in-Ok-clause-turns : goal.returns-in-Ok-clause-turns
returns-in-Ok-clause-turns c = λ file kind s is.
    let o = c.args.self.now in
    let page = in_page o.phase o.rest.now kind is in
    let f = front o.rest.now _ _ _ _ _ c.in-len1-up.len_at_least refl c.past-later.ensures.is c.operand_size-size.ensures c.if-later-size.false c.front.ensures.is c.past-self.ensures.is in
    turn_goes c.args.fonts.now file o c.perform.new.self _ o.rest.now _ c.operand_size-size.result c.front.result.now c.past-self.result.now _ f
    (move_goes c.args.fonts.now file o c.perform.new.self _ c.front.result.now c.past-self.result.now kind (Ok c.in-Ok.field-0) s page (moved_is o.phase o.rest.now kind is c.requires.is) (head_is o.phase o.rest.now kind is c.in-len1-up.len_at_least)
    (c.in-Ok.ensures.fills file _ s (not_again c.args.fonts.now o file s page) c.decode-operation.ensures)) refl refl

pub returns-in-Ok-clause-cut : goal.returns-in-Ok-clause-cut
returns-in-Ok-clause-cut c = λ e. absurd (not_cut c.args.self.now.rest.now _ _ _ _ (front c.args.self.now.rest.now _ _ _ _ _ c.in-len1-up.len_at_least refl c.past-later.ensures.is c.operand_size-size.ensures c.if-later-size.false c.front.ensures.is c.past-self.ensures.is) e)

pub returns-in-Ok-clause-one : goal.returns-in-Ok-clause-one
returns-in-Ok-clause-one c = λ is.
    let size = c.operand_size-size.ensures ∙ select_size c.args.self.now.phase c.args.self.now.rest.now _ is c.in-len1-up.len_at_least in
    omega (arith, size)
