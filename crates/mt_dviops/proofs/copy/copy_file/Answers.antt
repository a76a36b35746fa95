use Rattle.std.proofs.Common.{ℕ, ◌+◌, ◌∙◌, ap, refl, rules, FitsSigned, w32}
use Rattle.std.proofs.lemmas.Int.{to_z-of_z}
use Rattle.std.proofs.lemmas.Result.{err_from_is_err_and}
use Rattle.mt_family.specs.SetValue.{IsSet}
use Rattle.mt_dviread.proofs.KeptLemmas.{none_left}
use Rattle.mt_dviops.specs.inner.Copying.{kept_of}
use Rattle.mt_dviops.proofs.Copying.{all_inside}
use Rattle.mt_dviops.proofs.CopyTurns.{copying_done, copying_fault, copying_on, copying_starts, deed_font, deed_placed}
use Rattle.mt_dviops.proofs.copy.copy_file.Goals as goal

pub loop-copied-init : goal.loop-copied-init
loop-copied-init c =
    copying_starts c.args.fonts.now c.args.bytes.now c.at_start-file.result (kept_of c.in_ok-copied.copied) (c.at_start-file.ensures.sees c.args.fonts.now) c.at_start-file.ensures.within c.at_start-file.ensures.rest c.in_ok-copied.ensures.bodies c.in_ok-copied.ensures.pages

pub returns-in_err-deed-clause-fault : goal.returns-in_err-deed-clause-fault
returns-in_err-deed-clause-fault c =
    let p = err_from_is_err_and c.from_residual-in_err-deed.result c.from_residual-in_err-deed.ensures.1 in
    rw (p.1, p.2) (copying_fault c.args.fonts.now c.args.bytes.now c.run.new.file c.next.new.self (kept_of c.run.new.self) c.in_err-deed.field-0.0 c.in_ok-run.ensures.copies (λ file s. c.in_err-deed.ensures.turns file s))

pub invariant_of-result : goal.invariant_of-result
invariant_of-result c = record {
  inside = all_inside c.args.fonts.now c.args.bytes.now c.run.new.self.bodies.items c.run.new.self.pages.items c.in_ok-run.ensures.copies.noted.pages c.in_ok-run.ensures.copies.copies.ended;
}

pub returns-in_default-clause-is : goal.returns-in_default-clause-is
returns-in_default-clause-is c =
    let turns = c.in_ok-deed.ensures.turns in
    let ends = rw (none_left c.in_ok-deed.field-0 c.in_default.not-Some) at turns in
    let fits : FitsSigned w32 c.mag.result = search rules in
    copying_done c.args.fonts.now c.args.bytes.now c.run.new.file c.next.new.self (kept_of c.run.new.self) _ c.in_ok-run.ensures.copies ends refl (to_z-of_z w32 c.mag.result fits ∙ c.mag.ensures) refl refl

pub take-requires-clause-placed : goal.take-requires-clause-placed
take-requires-clause-placed c =
    let turns = c.in_ok-deed.ensures.turns in
    let goes = rw c.in-Some.is at turns in
    deed_placed c.args.fonts.now c.args.bytes.now c.run.new.file c.next.new.self (kept_of c.run.new.self) c.in-Some.deed c.in_ok-run.ensures.copies goes

pub take-requires-clause-font : goal.take-requires-clause-font
take-requires-clause-font c =
    let turns = c.in_ok-deed.ensures.turns in
    let goes = rw c.in-Some.is at turns in
    let set : IsSet c.args.fonts.now = search rules in
    deed_font c.args.fonts.now c.args.bytes.now c.run.new.file c.next.new.self (kept_of c.run.new.self) c.in-Some.deed set c.in_ok-run.ensures.copies goes

pub loop-copied-preserved : goal.loop-copied-preserved
loop-copied-preserved c =
    let turns = c.in_ok-deed.ensures.turns in
    let goes = rw c.in-Some.is at turns in
    copying_on c.args.fonts.now c.args.bytes.now _ c.run.new.file c.next.new.self (kept_of c.run.new.self) (kept_of c.take.new.self) c.in-Some.deed _ c.in_ok-run.ensures.copies goes c.in_ok-deed.ensures.within c.in_ok-deed.ensures.same c.in_ok-take.ensures (ap (λ (n : ℕ). n + 1) c.at-at.ensures)
    (rw (c.at.ensures, c.at-at.ensures, c.rest-rest.ensures) refl)

pub run-requires-clause-set : goal.run-requires-clause-set
run-requires-clause-set c = search rules

pub returns-in_err-run-clause-fault : goal.returns-in_err-run-clause-fault
returns-in_err-run-clause-fault c =
    let p = err_from_is_err_and c.from_residual-in_err-run.result c.from_residual-in_err-run.ensures.1 in
    rw (p.1, p.2) c.in_err-run.ensures.copies
