-- Where in a source a fault is (`fault_offset`), by the place at which its reading stops.
use Rattle.std.specs.Prelude.{◌≡◌, ◌+◌, ◌^◌, ℕ, Bool, true, false, List, [], ◌∷◌, map, slice_get, take, Option, Some, None, Ok}
use Rattle.mt_scaled.specs.Number.{Within}
use Rattle.mt_scaled.specs.declared.unit.Units.{Units}
use Rattle.mt_token.specs.Tokens.{source_tokens, spanned}
use Rattle.mt_token.specs.declared.token.Token.{Token}
use Rattle.mt_macro.specs.Expansion.{Expansion, Expanded, NoArgument}
use Rattle.mt_macro.specs.PlacedExpansion.{Stop, at_call, placed_expansion}
use Rattle.mt_macro.specs.Table.{Table}
use Rattle.mt_macro.specs.Traced.{traced_tokens}
use Rattle.mt_reader.specs.Stops.{AtFormula, AtFault, FormulaTokens, IsReason, StopPlace, StopReason, formula_from}
use Rattle.mt_reader.specs.declared.document_error.DocError.{DocError}
use Rattle.mt_reader.specs.declared.stop.StopCause.TheVariants.{Fault}
use Rattle.mt_locate.specs.FaultTokens.{fault_token, has_numbers}
use Rattle.mt_locate.specs.Places.{IsAt, offset_within}
use Rattle.mt_locate.specs.Unmatched.{unmatched_token}
use Rattle.mt_locate.specs.declared.fault_token.FaultToken.{FaultToken}
use Rattle.mt_locate.specs.declared.fault_token.FaultToken.TheVariants.{OfSource, Unmatched, Expanded as OfExpansion, Macro, First, Nowhere}
use Rattle.mt_status.specs.declared.subject.Numbers.{Numbers}
use Rattle.mt_locate.specs.declared.places.Located.{Located}
use Rattle.mt_locate.specs.declared.traces.TracedFormula.{TracedFormula}
use Rattle.mt_locate.specs.declared.traces.Wanted.{Wanted}
use Rattle.mt_locate.specs.declared.traces.Wanted.TheVariants.{Expanded as Whole, ToMacro}

abbrev pub first_token : List Token → Option Token
first_token [] = None
first_token (t ∷ rest) = Some t

-- the tokens of an expansion that are wanted: all, or those up to the macro that lacks an argument
abbrev pub wanted_of : Wanted → Expansion → List Token → Option (List Token)
wanted_of Whole (Expanded list) at = Some list
wanted_of ToMacro (NoArgument index) at = Some (take (index + 1) at)
wanted_of wanted outcome at = None

abbrev pub wanted_tokens : Wanted → Stop → Option (List Token)
wanted_tokens wanted s = wanted_of wanted s.outcome s.list

-- a token, or the closing dollar behind the last one
abbrev pub token_or : Option Token → List Token → Option Token
token_or None closing = first_token closing
token_or (Some t) closing = Some t

abbrev pub token_of_list : Option (List Token) → List Token → ℕ → Option Token
token_of_list None closing index = None
token_of_list (Some list) closing index = token_or (slice_get list index) closing

-- the token of an index after the expansion of a formula, in which each token of a body has the span of its call
abbrev pub expanded_token : Table → Wanted → Option FormulaTokens → ℕ → Option Token
expanded_token macros wanted None index = None
expanded_token macros wanted (Some f) index =
    token_of_list (wanted_tokens wanted (placed_expansion at_call macros f.tokens)) f.closing index

-- the token of an index of a traced formula
abbrev pub traced_token : Option TracedFormula → ℕ → Option Token
traced_token None index = None
traced_token (Some f) index = token_or (slice_get (traced_tokens f.tokens) index) f.formula.closing.now

-- the token at which a fault is, by the tokens of the source and the place at which their reading stops
abbrev pub token_at : List Token → StopPlace → FaultToken → Option Token
token_at tokens place (OfSource index) = slice_get tokens index
token_at tokens place (Unmatched index) = unmatched_token tokens index
token_at tokens place (OfExpansion index) = expanded_token place.macros Whole (formula_from place.from) index
token_at tokens place (Macro index) = expanded_token place.macros ToMacro (formula_from place.from) index
token_at tokens place First = first_token place.from
token_at tokens place Nowhere = None

-- the offset of a token, where it is one of the source
abbrev pub token_offset : List ℕ → Option Token → Option ℕ
token_offset source None = None
token_offset source (Some t) = offset_within source t.start

-- the offset of a fault, by that of its token
abbrev pub fault_offset : List ℕ → List Token → StopPlace → DocError → Option ℕ
fault_offset source tokens place fault = token_offset source (token_at tokens place (fault_token fault))

-- an offset, where this is so
abbrev pub offset_where : Bool → Option ℕ → Option ℕ
offset_where true offset = offset
offset_where false offset = None

-- what is found is the fault at which reading stops, where it has these numbers; only one fault has this reason
abbrev pub IsFaultAt : Option Located → Numbers → List ℕ → List Token → StopPlace → StopReason → Type 0
IsFaultAt found numbers source tokens place AtFormula = found ≡ None
IsFaultAt found numbers source tokens place (AtFault refusal) =
    (fault : DocError) × IsReason (Fault fault) (AtFault refusal)
    × IsAt found (Some fault) (offset_where (has_numbers numbers fault) (fault_offset source tokens place fault))

-- there is none where reading does not stop
abbrev pub IsFaultFound : Option Located → Numbers → List ℕ → List Token → Option StopPlace → Type 0
IsFaultFound found numbers source tokens None = found ≡ None
IsFaultFound found numbers source tokens (Some place) = IsFaultAt found numbers source tokens place place.reason

-- the offset of the first dollar of the formula at which reading stops
abbrev pub formula_offset : List ℕ → StopPlace → StopReason → Option ℕ
formula_offset source place AtFormula = token_offset source (first_token place.from)
formula_offset source place (AtFault refusal) = None

abbrev pub formula_found : List ℕ → Option StopPlace → Option ℕ
formula_found source None = None
formula_found source (Some place) = formula_offset source place place.reason

-- the tokens of a source that a run read, and its units, which are within bounds
pub record IsRead (units : Option Units) (source : List ℕ) (own : Units) (tokens : List Token) : Type 0 where
  pub noted : units ≡ Some own
  pub em : Within (2 ^ 31) own.em
  pub ex : Within (2 ^ 31) own.ex
  pub lexed : source_tokens source ≡ Ok (map spanned tokens)

-- a source that a run has not read: its units are not noted or not within bounds, or it has no tokens
abbrev pub IsUnread : Option Units → List ℕ → Type 0
IsUnread units source = (own : Units) → (tokens : List Token) → IsRead units source own tokens → ⊥
