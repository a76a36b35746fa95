use Rattle.std.proofs.Common.{◌∙◌, sym, ap}
use Rattle.std.specs.Prelude.{Ok, Err}
use Rattle.std.proofs.lemmas.Result.{err_from_is_err_and}
use Rattle.mt_dviread.proofs.KeptLemmas.{back, keeping_done, keeping_early, keeping_fault, keeping_few, keeping_late, keeping_on, keeping_starts, none_left, not_both}
use Rattle.mt_dviread.proofs.read.read_dvi.Goals as goal

pub loop-places-init : goal.loop-places-init
loop-places-init c =
    keeping_starts c.args.fonts.now c.args.bytes.now c.at_start-file.result _ _ (c.at_start-file.ensures.sees c.args.fonts.now) c.at_start-file.ensures.within c.at_start-file.ensures.rest c.none-places.ensures.pages c.none-places.ensures.page

pub returns-in_err-deed-clause-fault : goal.returns-in_err-deed-clause-fault
returns-in_err-deed-clause-fault c =
    let p = err_from_is_err_and c.from_residual-in_err-deed.result c.from_residual-in_err-deed.ensures.1 in
    rw (p.1, p.2) (keeping_fault c.args.fonts.now c.args.bytes.now c.run.new.file c.next.new.self _ _ c.in_err-deed.field-0.0 (c.in_ok-run.ensures.keeps c.args.bytes.now c.loop-places.invariant) (λ file s. c.in_err-deed.ensures.turns file s))

pub loop-places-preserved : goal.loop-places-preserved
loop-places-preserved c =
    let turns = c.in_ok-deed.ensures.turns in
    let goes = rw c.in-Some.is at turns in
    keeping_on c.args.fonts.now c.args.bytes.now c.run.new.file c.next.new.self _ _ _ _ c.in-Some.deed (c.in_ok-run.ensures.keeps c.args.bytes.now c.loop-places.invariant) goes c.in_ok-deed.ensures.within c.in_ok-deed.ensures.same c.in_ok-take.ensures.pages c.in_ok-take.ensures.page

pub returns-clause-is : goal.returns-clause-is
returns-clause-is c =
    let turns = c.in_ok-deed.ensures.turns in
    let ends = rw (none_left c.in_ok-deed.field-0 c.in_default.not-Some) at turns in
    keeping_done c.args.fonts.now c.args.bytes.now c.run.new.file c.next.new.self _ _ (c.in_ok-run.ensures.keeps c.args.bytes.now c.loop-places.invariant) ends ∙ ap Ok (sym c.from_vec.ensures)

pub returns-clause-round_trip : goal.returns-clause-round_trip
returns-clause-round_trip c =
    let turns = c.in_ok-deed.ensures.turns in
    let ends = rw (none_left c.in_ok-deed.field-0 c.in_default.not-Some) at turns in
    back c.args.fonts.now c.args.bytes.now (Ok c.from_vec.result)
    (keeping_done c.args.fonts.now c.args.bytes.now c.run.new.file c.next.new.self _ _ (c.in_ok-run.ensures.keeps c.args.bytes.now c.loop-places.invariant) ends ∙ ap Ok (sym c.from_vec.ensures)) tt

pub returns-in_err-deed-clause-early : goal.returns-in_err-deed-clause-early
returns-in_err-deed-clause-early c =
    let p = err_from_is_err_and c.from_residual-in_err-deed.result c.from_residual-in_err-deed.ensures.1 in
    rw (p.1, p.2) (keeping_early c.args.fonts.now c.args.bytes.now c.run.new.file c.next.new.self _ _ c.in_err-deed.field-0.0 (c.in_ok-run.ensures.keeps c.args.bytes.now c.loop-places.invariant) (λ file s. c.in_err-deed.ensures.turns file s) c.in_err-deed.ensures.first)

pub returns-in_err-take-clause-early : goal.returns-in_err-take-clause-early
returns-in_err-take-clause-early c = λ fault is zero.
    let goes = rw c.in-Some.is at c.in_ok-deed.ensures.turns in
    absurd (keeping_late c.args.fonts.now c.args.bytes.now c.run.new.file c.next.new.self _ _ c.in-Some.deed (c.in_ok-run.ensures.keeps c.args.bytes.now c.loop-places.invariant) goes c.in_ok-deed.ensures.within c.in_ok-deed.ensures.same fault is zero)

pub returns-clause-early : goal.returns-clause-early
returns-clause-early c = λ fault is zero.
    let ends = rw (none_left c.in_ok-deed.field-0 c.in_default.not-Some) at c.in_ok-deed.ensures.turns in
    absurd (not_both c.args.fonts.now c.args.bytes.now _ fault (keeping_done c.args.fonts.now c.args.bytes.now c.run.new.file c.next.new.self _ _ (c.in_ok-run.ensures.keeps c.args.bytes.now c.loop-places.invariant) ends) is)

pub returns-in_err-run-clause-fault : goal.returns-in_err-run-clause-fault
returns-in_err-run-clause-fault c =
    let p = err_from_is_err_and c.from_residual.result c.from_residual.ensures.1 in
    rw (p.1, p.2) (c.in_err-run.ensures.keeps c.args.bytes.now c.loop-places.invariant).0

pub returns-in_err-run-clause-early : goal.returns-in_err-run-clause-early
returns-in_err-run-clause-early c = λ fault is zero.
    absurd ((c.in_err-run.ensures.keeps c.args.bytes.now c.loop-places.invariant).1 fault is zero)

pub run-requires : goal.run-requires
run-requires c = record { within = c.loop-places.invariant.reading.within }

pub returns-in_err-run-clause-round_trip : goal.returns-in_err-run-clause-round_trip
returns-in_err-run-clause-round_trip c =
    let p = err_from_is_err_and c.from_residual.result c.from_residual.ensures.1 in
    rw (p.1, p.2) (back c.args.fonts.now c.args.bytes.now (Err c.in_err-run.field-0.0) tt (c.in_err-run.ensures.keeps c.args.bytes.now c.loop-places.invariant).0)

pub returns-in_err-deed-clause-round_trip : goal.returns-in_err-deed-clause-round_trip
returns-in_err-deed-clause-round_trip c =
    let p = err_from_is_err_and c.from_residual-in_err-deed.result c.from_residual-in_err-deed.ensures.1 in
    rw (p.1, p.2) (back c.args.fonts.now c.args.bytes.now (Err c.in_err-deed.field-0.0) tt
    (keeping_fault c.args.fonts.now c.args.bytes.now c.run.new.file c.next.new.self _ _ c.in_err-deed.field-0.0 (c.in_ok-run.ensures.keeps c.args.bytes.now c.loop-places.invariant) (λ file s. c.in_err-deed.ensures.turns file s)))

pub returns-clause-few : goal.returns-clause-few
returns-clause-few c =
    rw c.from_vec.ensures (keeping_few c.args.fonts.now c.args.bytes.now c.run.new.file _ _ (c.in_ok-run.ensures.keeps c.args.bytes.now c.loop-places.invariant))
