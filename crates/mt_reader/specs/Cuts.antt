-- A document that is cut at the end of a page: what its first part leaves (`state_after`), its pages behind those of that part
-- (`answer_behind`), and the definitions and assignments of the part (`definitions_of`).
use Rattle.std.specs.Prelude.{◌≡◌, ℕ, zero, suc, ◌+◌, ◌-◌, List, [], ◌∷◌, ◌++◌, length, map, take, Option, Some, None, Ok, Err, ⊤}
use Rattle.mt_token.specs.declared.token.Token.{Token}
use Rattle.mt_token.specs.declared.token.TokenKind.{TokenKind}
use Rattle.mt_token.specs.declared.token.TokenKind.TheVariants.{Control, Char, Space}
use Rattle.mt_scaled.specs.declared.unit.Units.{Units}
use Rattle.mt_rules.specs.declared.document.Formula.{Formula}
use Rattle.mt_reader.specs.declared.outside_role.OutsideRole.{OutsideRole}
use Rattle.mt_reader.specs.declared.outside_role.OutsideRole.TheVariants.{Defines, SetsMathCode, SetsDelimiterCode}
use Rattle.mt_reader.specs.Documents.{DocumentAnswer, DocumentFault, NotLexed, Outside, NotExpanded, NotRead, TooManyTokens, TooManyPages, DocumentState, DocumentTurn, Goes, Ends, Stops, StopsOutside, outside_role, turn_by}

-- ---- what a part leaves

abbrev pub after_turn : (DocumentState → List Token → Option DocumentState) → DocumentTurn → Option DocumentState
after_turn again (Goes s rest) = again s rest
after_turn again (Ends s) = None
after_turn again (Stops refusal) = None
after_turn again (StopsOutside n cause left) = None

module _ (units : Units) where
  abbrev pub part_turn : (DocumentState → List Token → Option DocumentState) → DocumentState → List Token → Option DocumentState
  part_turn again s [] = Some s
  part_turn again s (t ∷ rest) = after_turn again (turn_by units s rest (outside_role t.kind))

  unfoldable pub after_from : ℕ → DocumentState → List Token → Option DocumentState
  after_from zero = λ (s : DocumentState) (tokens : List Token). Some s
  after_from (suc n) = part_turn (after_from n)

  -- what has been read after these tokens; none where they are refused, or end the document. Each turn takes a token, so this
  -- many are enough
  abbrev pub state_after : DocumentState → List Token → Option DocumentState
  state_after s tokens = after_from (length tokens) s tokens

-- ---- pages behind those of a part

-- a formula with so many formulas before it
abbrev pub later : ℕ → Formula → Formula
later n f = record f { number = n + f.number }

abbrev pub later_pages : ℕ → List (List Formula) → List (List Formula)
later_pages n pages = map (map (later n)) pages

-- a fault behind a part of so many tokens, of which this has been read
abbrev pub fault_behind : DocumentState → ℕ → DocumentFault → DocumentFault
fault_behind first k (NotLexed cause) = NotLexed cause
fault_behind first k (Outside n cause place) = Outside (first.count + n) cause (k + place)
fault_behind first k (NotExpanded n outcome) = NotExpanded (first.count + n) outcome
fault_behind first k (NotRead n cause place) = NotRead (first.count + n) cause place
fault_behind first k (TooManyTokens n count) = TooManyTokens (first.count + n) (first.total + count)
fault_behind first k (TooManyPages count) = TooManyPages count

-- the pages of the part, and then these; or this fault
abbrev pub answer_behind : DocumentState → ℕ → DocumentAnswer → DocumentAnswer
answer_behind first k (Ok pages) = Ok (first.pages ++ later_pages first.count pages)
answer_behind first k (Err fault) = Err (fault_behind first k fault)

abbrev pub IsMuch : DocumentFault → Type 0
IsMuch (TooManyTokens n count) = ⊤
IsMuch (TooManyPages count) = ⊤
IsMuch (NotLexed cause) = ⊥
IsMuch (Outside n cause place) = ⊥
IsMuch (NotExpanded n outcome) = ⊥
IsMuch (NotRead n cause place) = ⊥

-- refused for the number of its pages or of its tokens
abbrev pub IsTooMuch : DocumentAnswer → Type 0
IsTooMuch (Ok pages) = ⊥
IsTooMuch (Err fault) = IsMuch fault

-- the same pages, or both are refused
abbrev pub AreAlike : DocumentAnswer → DocumentAnswer → Type 0
AreAlike (Ok pages) (Ok other) = pages ≡ other
AreAlike (Ok pages) (Err fault) = ⊥
AreAlike (Err fault) (Ok other) = ⊥
AreAlike (Err fault) (Err other) = ⊤

-- a control word of at least two letters: no number goes on with it
abbrev pub IsWord : TokenKind → Type 0
IsWord (Control (c ∷ d ∷ name)) = ⊤
IsWord (Control (c ∷ [])) = ⊥
IsWord (Control []) = ⊥
IsWord (Char c) = ⊥
IsWord Space = ⊥

-- ---- definitions and assignments

-- the tokens that a definition or an assignment takes of these, so many of which are left
abbrev pub defined_by : OutsideRole → List Token → ℕ → List Token
defined_by Defines tokens left = take (length tokens - left) tokens
defined_by SetsMathCode tokens left = take (length tokens - left) tokens
defined_by SetsDelimiterCode tokens left = take (length tokens - left) tokens
defined_by role tokens left = []

module _ (units : Units) where
  abbrev pub defined_turn : (DocumentState → List Token → List Token) → OutsideRole → List Token → DocumentTurn → List Token
  defined_turn again role tokens (Goes s rest) = defined_by role tokens (length rest) ++ again s rest
  defined_turn again role tokens (Ends s) = []
  defined_turn again role tokens (Stops refusal) = []
  defined_turn again role tokens (StopsOutside n cause left) = []

  abbrev pub definitions_turn : (DocumentState → List Token → List Token) → DocumentState → List Token → List Token
  definitions_turn again s [] = []
  definitions_turn again s (t ∷ rest) = defined_turn again (outside_role t.kind) (t ∷ rest) (turn_by units s rest (outside_role t.kind))

  unfoldable pub definitions_from : ℕ → DocumentState → List Token → List Token
  definitions_from zero = λ (s : DocumentState) (tokens : List Token). []
  definitions_from (suc n) = definitions_turn (definitions_from n)

  -- the definitions and the assignments among these tokens, each from its first token to its last, one after another
  abbrev pub definitions_of : DocumentState → List Token → List Token
  definitions_of s tokens = definitions_from (length tokens) s tokens
