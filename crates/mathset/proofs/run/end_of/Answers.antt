use Rattle.std.proofs.Common.{◌≡◌, ◌∙◌, Bool, true, ap, sym, subst, inr}
use Rattle.std.specs.Prelude.{◌&&◌, IsSome, Option, Some}
use Rattle.mathset.specs.Answer.{steps_by}
use Rattle.mathset.specs.Steps.{request_steps}
use Rattle.mt_words.specs.declared.request.Request.{Request}
use Rattle.mt_words.specs.declared.request.Request.TheVariants.{Gen}
use Rattle.mathset.specs.inner.Runs.{IsRun}
use Rattle.mathset.proofs.RunLemmas.{gen_ends, is_run, not_words}
use Rattle.mathset.proofs.NoteLemmas.{ended_noted, ended_refused, no_formula, no_units}
use Rattle.mathset.specs.Noted.{AreUnitsOf, refuses_source, request_overfull, sets_source}
use Rattle.mt_pages.specs.Pages.{NotesOnly}
use Rattle.mt_status.specs.Notes.{has_too_many_places, is_noted}
use Rattle.mathset.proofs.run.end_of.Goals as goal

pub returns-in-Ok-Some-clause-run : goal.returns-in-Ok-Some-clause-run
returns-in-Ok-Some-clause-run g c =
    subst
    (λ (r : Option Request). IsRun g.C.Cabinet.holds g.C.Cabinet.faults g.C.Cabinet.lost g.K.Sink.written g.K.Sink.faults (steps_by r) c.args.cabinet.now c.perform.new.cabinet c.args.out.now c.write_end.new.out c.write_end.result)
    (sym c.in-Ok-Some.field-0-is ∙ c.in-Ok-Some.ensures)
    (is_run g.C.Cabinet.holds g.C.Cabinet.faults g.C.Cabinet.lost g.K.Sink.written g.K.Sink.faults (request_steps c.in-Ok-Some.request) c.args.cabinet.now c.perform.new.cabinet c.args.out.now c.write_end.new.out c.perform.result
    c.write_end.result c.perform.ensures.is c.write_end.ensures)

pub returns-in-Ok-Some-clause-words : goal.returns-in-Ok-Some-clause-words
returns-in-Ok-Some-clause-words g c =
    inr (
      λ is.
          absurd
          (not_words g.C.Cabinet.holds g.C.Cabinet.faults g.C.Cabinet.lost g.K.Sink.written g.K.Sink.faults (request_steps c.in-Ok-Some.request) c.args.cabinet.now c.perform.new.cabinet c.args.out.now c.write_end.new.out c.perform.result
          c.write_end.result c.perform.ensures.is c.write_end.ensures is),
      λ none.
          let never = (sym c.in-Ok-Some.field-0-is ∙ c.in-Ok-Some.ensures) ∙ none in
          absurd (cc),
    )

pub returns-in-Ok-Some-clause-generates : goal.returns-in-Ok-Some-clause-generates
returns-in-Ok-Some-clause-generates g c =
    λ w is.
    let both = (sym c.in-Ok-Some.field-0-is ∙ c.in-Ok-Some.ensures) ∙ is in
    let same : c.in-Ok-Some.request ≡ Gen w = cc in
    gen_ends g.K.Sink.written g.K.Sink.faults w c.args.out.now c.write_end.new.out c.perform.result c.write_end.result (c.perform.ensures.generates w same) c.write_end.ensures

pub returns-in-Ok-Some-clause-untouched : goal.returns-in-Ok-Some-clause-untouched
returns-in-Ok-Some-clause-untouched g c =
    λ w is.
    let both = (sym c.in-Ok-Some.field-0-is ∙ c.in-Ok-Some.ensures) ∙ is in
    let same : c.in-Ok-Some.request ≡ Gen w = cc in
    c.perform.ensures.untouched w same

pub returns-in-Ok-Some-clause-units : goal.returns-in-Ok-Some-clause-units
returns-in-Ok-Some-clause-units g c =
    λ files told.
    subst (λ (r : Option Request). AreUnitsOf r files c.perform.new.notes.units) (sym c.in-Ok-Some.field-0-is ∙ c.in-Ok-Some.ensures) (c.perform.ensures.units files told)

pub returns-in-Ok-Some-clause-formula : goal.returns-in-Ok-Some-clause-formula
returns-in-Ok-Some-clause-formula g c =
    subst (λ (r : Option Request). is_noted c.perform.new.notes.formula ≡ (sets_source r && has_too_many_places c.write_end.result)) (sym c.in-Ok-Some.field-0-is ∙ c.in-Ok-Some.ensures)
    (c.perform.ensures.formula
    ∙ ap (λ (b : Bool). sets_source (Some c.in-Ok-Some.request) && b)
    (sym (ended_noted g.C.Cabinet.holds g.C.Cabinet.faults g.C.Cabinet.lost g.K.Sink.written g.K.Sink.faults (request_steps c.in-Ok-Some.request) c.args.cabinet.now c.perform.new.cabinet c.args.out.now c.write_end.new.out c.perform.result
    c.write_end.result c.perform.ensures.is c.write_end.ensures)))

pub returns-in-Ok-Some-clause-noted : goal.returns-in-Ok-Some-clause-noted
returns-in-Ok-Some-clause-noted g c =
    subst (λ (r : Option Request). sets_source r ≡ true → refuses_source c.write_end.result ≡ true → IsSome c.perform.new.notes.units) (sym c.in-Ok-Some.field-0-is ∙ c.in-Ok-Some.ensures)
    (λ sets refused.
    c.perform.ensures.noted sets
    (sym (ended_refused g.C.Cabinet.holds g.C.Cabinet.faults g.C.Cabinet.lost g.K.Sink.written g.K.Sink.faults (request_steps c.in-Ok-Some.request) c.args.cabinet.now c.perform.new.cabinet c.args.out.now c.write_end.new.out c.perform.result
    c.write_end.result c.perform.ensures.is c.write_end.ensures) ∙ refused))

pub returns-in-Err-clause-units : goal.returns-in-Err-clause-units
returns-in-Err-clause-units g c = λ files told. rw c.none.ensures (no_units _ files)

pub returns-in-Err-clause-formula : goal.returns-in-Err-clause-formula
returns-in-Err-clause-formula g c = rw c.none.ensures (no_formula _)

pub returns-in-Ok-Some-clause-overfull : goal.returns-in-Ok-Some-clause-overfull
returns-in-Ok-Some-clause-overfull g c =
    λ files told.
    subst (λ (r : Option Request). NotesOnly (request_overfull r files) c.perform.new.notes.formula) (sym c.in-Ok-Some.field-0-is ∙ c.in-Ok-Some.ensures) (c.perform.ensures.overfull files told)
