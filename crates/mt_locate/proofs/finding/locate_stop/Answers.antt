use Rattle.std.proofs.Common.{◌≡◌, true, Some}
use Rattle.std.proofs.lemmas.Result.{IfOk-weaker}
use Rattle.mt_reader.specs.Stops.{stop_view}
use Rattle.mt_locate.specs.FaultTokens.{has_numbers}
use Rattle.mt_locate.specs.Faults.{IsFaultAt, fault_offset}
use Rattle.mt_locate.specs.Places.{IsAt}
use Rattle.mt_locate.proofs.Stopped.{found_fault}
use Rattle.mt_locate.proofs.finding.locate_stop.Goals as goal

pub returns-in-Fault-Fault-clause-fault : goal.returns-in-Fault-Fault-clause-fault
returns-in-Fault-Fault-clause-fault c numbers reason is because =
    let place = stop_view reason c.args.stop in
    let fault = c.in-Fault-Fault.fault in
    let same : c.in-Fault-Fault.numbers ≡ numbers = cc (is, c.in-Fault-Fault.is-1) in
    let has : has_numbers c.in-Fault-Fault.numbers fault ≡ true = cc (c.has_numbers.ensures, c.if-has_numbers.true) in
    IfOk-weaker c.locate_fault.result
    (λ found. IsAt found (Some fault) (fault_offset c.args.source.now c.args.tokens.now place fault))
    (λ found. IsFaultAt found numbers c.args.source.now c.args.tokens.now place reason)
    (λ found at. found_fault numbers c.args.source.now c.args.tokens.now place reason fault found (rw c.in-Fault-Fault.is-0 at because) (rw same at has) at)
    (c.locate_fault.ensures.at reason)
