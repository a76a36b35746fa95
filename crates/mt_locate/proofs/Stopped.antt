-- Where the fault is at which reading stops, and what is found in the tokens that were read.
use Rattle.std.proofs.Common.{◌≡◌, ℕ, Bool, true, List, Option, Some, None, sym, subst}
use Rattle.mt_scaled.specs.declared.unit.Units.{Units}
use Rattle.mt_token.specs.declared.token.Token.{Token}
use Rattle.mt_plain.specs.CodeTables.{plain_codes}
use Rattle.mt_plain.specs.PlainMacros.{plain_table}
use Rattle.mt_reader.specs.declared.document_error.DocError.{DocError}
use Rattle.mt_reader.specs.declared.document_error.DocError.TheVariants.{Source, Outside, Expand, Read, Total, Pages, OutOfMemory}
use Rattle.mt_reader.specs.declared.stop.StopCause.TheVariants.{Fault}
use Rattle.mt_reader.specs.Stops.{IsFaultReason, IsReason, StopPlace, StopReason, stop}
use Rattle.mt_locate.specs.FaultTokens.{has_numbers}
use Rattle.mt_locate.specs.Faults.{IsFaultAt, fault_offset, offset_where}
use Rattle.mt_locate.specs.Places.{IsAt}
use Rattle.mt_locate.specs.declared.places.Located.{Located}
use Rattle.mt_status.specs.declared.subject.Numbers.{Numbers}

reason_of : (fault : DocError) (reason : StopReason) → IsReason (Fault fault) reason → IsFaultReason fault reason
reason_of (Source cause) reason is = is
reason_of (Outside n place cause) reason is = is
reason_of (Expand n cause) reason is = is
reason_of (Read n cause) reason is = is
reason_of (Total n count) reason is = is
reason_of (Pages page) reason is = is
reason_of OutOfMemory reason is = absurd is

-- a fault that has these numbers is where its token is
pub found_fault : (numbers : Numbers) (source : List ℕ) (tokens : List Token) (place : StopPlace) (reason : StopReason) (fault : DocError) (found : Option Located)
    → IsReason (Fault fault) reason → has_numbers numbers fault ≡ true → IsAt found (Some fault) (fault_offset source tokens place fault)
    → IsFaultAt found numbers source tokens place reason
found_fault numbers source tokens place reason fault found because has at =
    let why = reason_of fault reason because in
    subst (IsFaultAt found numbers source tokens place) (sym why.1) (
      fault,
      subst (IsReason (Fault fault)) why.1 because,
      subst (λ (b : Bool). IsAt found (Some fault) (offset_where b (fault_offset source tokens place fault))) (sym has) at,
    )

-- what holds where the reading of a list stops, by units and for a formula, holds of the same tokens, units and formula
pub read_same : (P : List Token → Option StopPlace → Type 0) (units own : Units) (wanted formula : Option ℕ) (tokens list : List Token) (place : Option StopPlace)
    → units ≡ own → wanted ≡ formula → tokens ≡ list → stop units wanted plain_codes plain_table list ≡ place
    → P list place → P tokens (stop own formula plain_codes plain_table tokens)
read_same P units own wanted formula tokens list place units_are formula_is tokens_are is holds =
    subst (λ (u : Units). P tokens (stop u formula plain_codes plain_table tokens)) units_are
    (subst (λ (w : Option ℕ). P tokens (stop units w plain_codes plain_table tokens)) formula_is
    (subst (λ (l : List Token). P l (stop units wanted plain_codes plain_table l)) (sym tokens_are)
    (subst (P list) (sym is) holds)))
