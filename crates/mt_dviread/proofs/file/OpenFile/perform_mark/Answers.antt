use Rattle.std.proofs.Common.{ℕ, [], ap, ◌∙◌, refl}
use Rattle.std.specs.Prelude.{Ok, Err}
use Rattle.std.specs.Option.{option_map}
use Rattle.mt_dvi.specs.File.{Fault}
use Rattle.mt_dvi.specs.Machine as machine
use Rattle.mt_dviread.specs.Errors.{cause_of}
use Rattle.mt_dviread.proofs.Runs.{head_is, in_page, mark_front, mark_goes, mark_low, not_again}
use Rattle.mt_dviread.proofs.Turns.{not_cut, turn_fails, turn_goes}
use Rattle.mt_dviread.proofs.file.OpenFile.perform_mark.Goals as goal

pub returns-in-Err-clause-turns : goal.returns-in-Err-clause-turns
returns-in-Err-clause-turns c = λ file s.
    let o = c.args.self.now in
    let page = in_page o.phase o.rest.now _ c.requires.is in
    let low = mark_low _ (head_is o.phase o.rest.now _ c.requires.is c.in-len1-up.len_at_least) in
    let f = mark_front o.rest.now c.past-later.result.now c.in-len1-up.len_at_least c.past-later.ensures.is low in
    turn_fails c.args.fonts.now file o c.mark.new.self o.rest.now _ 0 [] c.past-later.result.now c.in-Err.cause c.at.result s f
    (mark_goes c.args.fonts.now file o c.mark.new.self _ [] c.past-later.result.now (Err c.in-Err.cause) s page low (c.in-Err.ensures.fills file s (not_again c.args.fonts.now o file s page)))
    (c.at.ensures ∙ ap (λ (n : ℕ). option_map (λ (x : machine.Cause). let fault : Fault = record { cause = x; at = n } in fault) (cause_of c.in-Err.cause)) c.mark.ensures.at)

pub returns-in-Err-clause-cut : goal.returns-in-Err-clause-cut
returns-in-Err-clause-cut c = λ e.
    let o = c.args.self.now in
    let low = mark_low _ (head_is o.phase o.rest.now _ c.requires.is c.in-len1-up.len_at_least) in
    absurd (not_cut o.rest.now _ _ _ _ (mark_front o.rest.now c.past-later.result.now c.in-len1-up.len_at_least c.past-later.ensures.is low) e)

pub returns-in-Ok-clause-turns : goal.returns-in-Ok-clause-turns
returns-in-Ok-clause-turns c = λ file s.
    let o = c.args.self.now in
    let page = in_page o.phase o.rest.now _ c.requires.is in
    let low = mark_low _ (head_is o.phase o.rest.now _ c.requires.is c.in-len1-up.len_at_least) in
    let f = mark_front o.rest.now c.past-later.result.now c.in-len1-up.len_at_least c.past-later.ensures.is low in
    turn_goes c.args.fonts.now file o c.mark.new.self _ o.rest.now _ 0 [] c.past-later.result.now _ f
    (mark_goes c.args.fonts.now file o c.mark.new.self _ [] c.past-later.result.now (Ok c.in-Ok.mark) s page low (c.in-Ok.ensures.fills file s (not_again c.args.fonts.now o file s page))) refl refl

pub returns-in-Ok-clause-cut : goal.returns-in-Ok-clause-cut
returns-in-Ok-clause-cut c = λ e.
    let o = c.args.self.now in
    let low = mark_low _ (head_is o.phase o.rest.now _ c.requires.is c.in-len1-up.len_at_least) in
    absurd (not_cut o.rest.now _ _ _ _ (mark_front o.rest.now c.past-later.result.now c.in-len1-up.len_at_least c.past-later.ensures.is low) e)
