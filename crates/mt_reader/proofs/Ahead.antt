-- A turn that is taken from some tokens is the same where more tokens are behind them (`turn_local`, `formula_local`).
use Rattle.std.proofs.Common.{◌≡◌, ℕ, ◌+◌, ◌-◌, Bool, true, false, List, [], ◌∷◌, ◌++◌, length, map, Option, Some, None, refl, sym, ap, subst, ◌∙◌, arith}
use Rattle.std.specs.Prelude.{nat_lt, Result, Ok, Err}
use Rattle.std.proofs.lemmas.List.{length-append}
use Rattle.mt_token.specs.declared.token.Token.{Token}
use Rattle.mt_scaled.specs.declared.unit.Units.{Units}
use Rattle.mt_macro.specs.declared.definition.MacroError.{MacroError}
use Rattle.mt_macro.specs.Braces.{Taken}
use Rattle.mt_macro.specs.Table.{Table}
use Rattle.mt_macro.specs.Definition.{define}
use Rattle.mt_macro.specs.Expansion.{Expansion, Expanded, OverBudget, NoArgument, NoPartner, ListTooLong, expansion}
use Rattle.mt_formula.specs.Formulas.{Reading, Reads, ReadFault, reading}
use Rattle.mt_scan.specs.Parts.{ReadOr, Got, Fault, NoTurn, IsAnswered}
use Rattle.mt_reader.specs.declared.document_error.DocError.{DocError}
use Rattle.mt_reader.specs.declared.document_turn.AfterTurn.{AfterTurn}
use Rattle.mt_reader.specs.declared.document_turn.AfterTurn.TheVariants.{Left, Ended}
use Rattle.mt_reader.specs.declared.outside_cause.OutsideCause.{OutsideCause}
use Rattle.mt_reader.specs.declared.outside_cause.OutsideCause.TheVariants.{Misplaced as MisplacedCause}
use Rattle.mt_reader.specs.declared.outside_role.OutsideRole.{OutsideRole}
use Rattle.mt_reader.specs.declared.outside_role.OutsideRole.TheVariants.{Passed, Defines, SetsMathCode, SetsDelimiterCode, BeginsFormula, EndsPage, EndsDocument, Misplaced}
use Rattle.mt_reader.specs.Answered.{definition_answered}
use Rattle.mt_reader.specs.AheadTurns.{AreEnough, IsDecided, IsFormulaFound, IsGot, MeetsAhead, MeetsSome, turn_before}
use Rattle.mt_reader.specs.Definitions.{MacroDefinition, macro_definition}
use Rattle.mt_reader.specs.Dollars.{begins_display, between_dollars}
use Rattle.mt_reader.specs.Documents.{DocumentState, DocumentTurn, Goes, Ends, Stops, StopsOutside, TooManyTokens, Outside, after_definition, after_expansion, after_reading, formula_in, formula_turn, outside_fault, turn_by, with_table}
use Rattle.mt_reader.specs.DocumentTurns.{state_of, turn_refusal}
use Rattle.mt_reader.specs.Limits.{max_total_tokens}
use Rattle.mt_reader.specs.Refusals.{IsRefusal}
use Rattle.mt_reader.specs.Views.{StateView}
use Rattle.mt_reader.proofs.Locality.{ReadsSame, TakesSame, between_same, definition_same}

one_more : (tokens more : List Token) → length (tokens ++ more) + 1 ≡ (length tokens + 1) + length more
one_more tokens more = omega (arith, length-append tokens more)

module _ (more : List Token) where
  -- ---- definitions
  table_local : (s : DocumentState) (left : ℕ) (rest : List Token) (made : Result Table MacroError) → with_table s (left + length more) (rest ++ more) made ≡ turn_before more (with_table s left rest made)
  table_local s left rest (Ok macros) = refl
  table_local s left rest (Err e) = refl

  got_local : (s : DocumentState) (left : ℕ) (d e : MacroDefinition) (rest there : List Token) → ◌≡◌ {A = ReadOr OutsideCause MacroDefinition} (Got e there) (Got d (rest ++ more))
      → with_table s (left + length more) there (define s.macros e.name e.params e.body) ≡ turn_before more (with_table s left rest (define s.macros d.name d.params d.body))
  got_local s left d e rest there h =
      let same : e ≡ d = cc in
      let behind : there ≡ rest ++ more = cc in
      ap (λ (x : MacroDefinition). with_table s (left + length more) there (define s.macros x.name x.params x.body)) same
      ∙ ap (λ (x : List Token). with_table s (left + length more) x (define s.macros d.name d.params d.body)) behind
      ∙ table_local s left rest (define s.macros d.name d.params d.body)

  definition_local : (s : DocumentState) (left : ℕ) (here there : ReadOr OutsideCause MacroDefinition) (a : IsAnswered here) (b : IsAnswered there) → IsGot here → ReadsSame more here there
      → after_definition s (left + length more) there b ≡ turn_before more (after_definition s left here a)
  definition_local s left (Got d rest) (Got e there) a b g h = got_local s left d e rest there h
  definition_local s left (Got d rest) (Fault cause at) a b g h = absurd (cc)
  definition_local s left (Got d rest) NoTurn a b g h = elim b [ ]
  definition_local s left (Fault cause at) there a b g h = elim g [ ]
  definition_local s left NoTurn there a b g h = elim g [ ]

  module _ (units : Units) where
    -- ---- formulas
    reading_local : (s : DocumentState) (display : Bool) (total : ℕ) (rest : List Token) (r : Reading) → after_reading units s display total (rest ++ more) r ≡ turn_before more (after_reading units s display total rest r)
    reading_local s display total rest (ReadFault cause place) = refl
    reading_local s display total rest (Reads body tag) = refl

    counted_local : (s : DocumentState) (display : Bool) (rest list : List Token) (b : Bool)
        → (elim b [ true ↦ Stops (TooManyTokens (s.count + 1) (s.total + length list)) | false ↦ after_reading units s display (s.total + length list) (rest ++ more) (reading s.tables units display list) ])
        ≡ turn_before more (elim b [ true ↦ Stops (TooManyTokens (s.count + 1) (s.total + length list)) | false ↦ after_reading units s display (s.total + length list) rest (reading s.tables units display list) ])
    counted_local s display rest list true = refl
    counted_local s display rest list false = reading_local s display (s.total + length list) rest (reading s.tables units display list)

    expansion_local : (s : DocumentState) (display : Bool) (rest : List Token) (o : Expansion) → after_expansion units s display (rest ++ more) o ≡ turn_before more (after_expansion units s display rest o)
    expansion_local s display rest (Expanded list) = counted_local s display rest list (nat_lt max_total_tokens (s.total + length list))
    expansion_local s display rest (OverBudget steps n) = refl
    expansion_local s display rest (NoArgument place) = refl
    expansion_local s display rest (NoPartner place) = refl
    expansion_local s display rest ListTooLong = refl

    taken_local : (s : DocumentState) (display : Bool) (left left' : ℕ) (here there : Option Taken) → IsDecided false here → TakesSame more here there
        → formula_in units s display left' there ≡ turn_before more (formula_in units s display left here)
    taken_local s display left left' None there d h = elim d [ ]
    taken_local s display left left' (Some taken) there d h =
        ap (formula_in units s display left') h ∙ expansion_local s display taken.after (expansion s.macros taken.argument)

    display_local : (tokens : List Token) → IsDecided false (between_dollars tokens) → begins_display (tokens ++ more) ≡ begins_display tokens
    display_local [] d = elim d [ ]
    display_local (t ∷ rest) d = refl

    pub formula_local : (s : DocumentState) (tokens : List Token) (limit : Bool) → IsDecided limit (between_dollars tokens)
        → formula_turn units s (tokens ++ more) limit ≡ turn_before more (formula_turn units s tokens limit)
    formula_local s tokens true d = refl
    formula_local s tokens false d =
        ap (λ (b : Bool). formula_in units s b (length (tokens ++ more) + 1) (between_dollars (tokens ++ more))) (display_local tokens d)
        ∙ taken_local s (begins_display tokens) (length tokens + 1) (length (tokens ++ more) + 1) (between_dollars tokens) (between_dollars (tokens ++ more)) d (between_same tokens more)

    -- ---- turns
    pub turn_local : (s : DocumentState) (tokens : List Token) (role : OutsideRole) → AreEnough role tokens
        → turn_by units s (tokens ++ more) role ≡ turn_before more (turn_by units s tokens role)
    turn_local s tokens Passed e = refl
    turn_local s tokens Defines e =
        ap (λ (n : ℕ). after_definition s n (macro_definition (tokens ++ more)) (definition_answered (tokens ++ more))) (one_more tokens more)
        ∙ definition_local s (length tokens + 1) (macro_definition tokens) (macro_definition (tokens ++ more)) (definition_answered tokens) (definition_answered (tokens ++ more)) e (definition_same tokens more)
    turn_local s tokens SetsMathCode e = elim e [ ]
    turn_local s tokens SetsDelimiterCode e = elim e [ ]
    turn_local s tokens BeginsFormula e = elim e [ ]
    turn_local s tokens EndsPage e = refl
    turn_local s tokens EndsDocument e = refl
    turn_local s tokens Misplaced e = ap (λ (n : ℕ). outside_fault s MisplacedCause n) (one_more tokens more)

-- ---- what is left, and where a fault is

place_before : (whole left n : ℕ) → (whole + n) - (left + n) ≡ whole - left
place_before whole left n = omega arith

refusal_before : (whole : ℕ) (more : List Token) (turn : DocumentTurn) → turn_refusal (whole + length more) (turn_before more turn) ≡ turn_refusal whole turn
refusal_before whole more (Goes s rest) = refl
refusal_before whole more (Ends s) = refl
refusal_before whole more (Stops refusal) = refl
refusal_before whole more (StopsOutside n cause left) = ap (λ (place : ℕ). Err (Outside n cause place)) (place_before whole left (length more))

-- what was answered for some tokens holds with more behind
pub meets_ahead : {T : Type 0} (token : T → Token) (result : Result (Option (AfterTurn T)) DocError) (new : StateView) (whole : ℕ) (more : List Token) (here there : DocumentTurn)
    → MeetsSome token result new whole here → there ≡ turn_before more here → MeetsAhead token result new whole more there
meets_ahead token (Ok None) new whole more here there m e = tt
meets_ahead token (Ok (Some (Left rest))) new whole more here there m e = e ∙ ap (turn_before more) m
meets_ahead token (Ok (Some Ended)) new whole more here there m e = e ∙ ap (turn_before more) m
meets_ahead token (Err error) new whole more here there m e =
    subst (IsRefusal error) (sym (ap (turn_refusal (whole + length more)) e ∙ refusal_before whole more here)) m

-- where words are wanting nothing is said, so that it holds of any turn
pub formula_ahead_meets : {T : Type 0} (token : T → Token) (result : Result (Option (AfterTurn T)) DocError) (new : StateView) (whole : ℕ) (more : List Token) (limit : Bool) (taken : Option Taken) (here there : DocumentTurn)
    → MeetsSome token result new whole here → IsFormulaFound result limit taken → (IsDecided limit taken → there ≡ turn_before more here) → MeetsAhead token result new whole more there
formula_ahead_meets token (Ok None) new whole more limit taken here there m f e = tt
formula_ahead_meets token (Ok (Some after)) new whole more limit taken here there m f e = meets_ahead token (Ok (Some after)) new whole more here there m (e f)
formula_ahead_meets token (Err error) new whole more limit taken here there m f e = meets_ahead token (Err error) new whole more here there m (e f)
