use Rattle.std.proofs.Common.{◌≡◌, ◌≤◌, Some, None, length, List, Option, sym, subst}
use Rattle.std.proofs.lemmas.Result.{IfOk-weaker}
use Rattle.mt_token.specs.Tokens.{max_source}
use Rattle.mt_token.specs.declared.token.Token.{Token}
use Rattle.mt_plain.specs.CodeTables.{plain_codes}
use Rattle.mt_plain.specs.PlainMacros.{plain_table}
use Rattle.mt_reader.specs.Stops.{StopPlace, stop, stop_view}
use Rattle.mt_locate.specs.Faults.{IsFaultAt, IsFaultFound, formula_found, formula_offset}
use Rattle.mt_locate.specs.Places.{IsAt}
use Rattle.mt_locate.proofs.Shortness.{tokens_few}
use Rattle.mt_locate.proofs.Stopped.{read_same}
use Rattle.mt_locate.proofs.finding.locate_read.Goals as goal

pub read_to_stop-requires-clause-source : goal.read_to_stop-requires-clause-source
read_to_stop-requires-clause-source c =
    subst (λ (l : List Token). length l ≤ max_source) (sym c.as_slice-tokens.ensures)
    (tokens_few (length c.args.source.now) c.in-Ok.list c.in-Ok.ensures.ordered (λ long. absurd (cc (c.in-Ok.ensures.too_long.1 long))))

pub returns-in-Some-2-clause-fault : goal.returns-in-Some-2-clause-fault
returns-in-Some-2-clause-fault c own tokens read numbers is =
    let source = c.args.source.now in
    let stopped = rw c.in-Some-2.is at c.in_ok-stop.ensures in
    let none : c.formula.result ≡ None = rw is at c.formula.ensures in
    let listed : tokens ≡ c.as_slice-tokens.result.now = cc (c.in-Ok.ensures.unique tokens read.lexed, c.as_slice-tokens.ensures) in
    IfOk-weaker c.locate_stop.result
    (λ found. IsFaultAt found numbers source c.as_slice-tokens.result.now (stop_view stopped.0 c.in-Some-2.stop) stopped.0)
    (λ found. IsFaultFound found numbers source tokens (stop own None plain_codes plain_table tokens))
    (λ found at. read_same (IsFaultFound found numbers source) c.in-Some.units own c.formula.result None tokens c.as_slice-tokens.result.now (Some (stop_view stopped.0 c.in-Some-2.stop))
    (cc (c.in-Some.is, c.usable.ensures.is own read.noted read.em read.ex)) none listed stopped.2 at)
    (c.locate_stop.ensures.fault numbers stopped.0 is stopped.1)

pub returns-in-Some-2-clause-formula : goal.returns-in-Some-2-clause-formula
returns-in-Some-2-clause-formula c n own tokens read is =
    let source = c.args.source.now in
    let stopped = rw c.in-Some-2.is at c.in_ok-stop.ensures in
    let one : c.formula.result ≡ Some n = rw is at c.formula.ensures in
    let listed : tokens ≡ c.as_slice-tokens.result.now = cc (c.in-Ok.ensures.unique tokens read.lexed, c.as_slice-tokens.ensures) in
    IfOk-weaker c.locate_stop.result
    (λ found. IsAt found None (formula_offset source (stop_view stopped.0 c.in-Some-2.stop) stopped.0))
    (λ found. IsAt found None (formula_found source (stop own (Some n) plain_codes plain_table tokens)))
    (λ found at. read_same (λ (l : List Token) (place : Option StopPlace). IsAt found None (formula_found source place)) c.in-Some.units own c.formula.result (Some n) tokens c.as_slice-tokens.result.now
    (Some (stop_view stopped.0 c.in-Some-2.stop)) (cc (c.in-Some.is, c.usable.ensures.is own read.noted read.em read.ex)) one listed stopped.2 at)
    (c.locate_stop.ensures.formula n stopped.0 is stopped.1)

pub returns-in-Some-2-clause-unread : goal.returns-in-Some-2-clause-unread
returns-in-Some-2-clause-unread c unread =
    absurd (unread c.in-Some.units c.in-Ok.list (record {
      noted = c.in-Some.ensures.same;
      em = c.in-Some.ensures.em;
      ex = c.in-Some.ensures.ex;
      lexed = c.in-Ok.ensures.is;
    }))
