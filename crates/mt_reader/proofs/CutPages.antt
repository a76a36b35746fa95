-- A document that is cut at the end of a page is read part by part (`goes_on`, `cut_document`), and the definitions and
-- assignments of a part leave the same codes and macros (`same_definitions`).
use Rattle.std.proofs.Common.{◌≡◌, ℕ, zero, suc, ◌+◌, ◌-◌, ◌≤◌, List, [], ◌∷◌, ◌++◌, length, Option, Some, refl, sym, ap, subst, ◌∙◌, arith, inl, inr}
use Rattle.std.specs.Prelude.{◌⊎◌, Ok, Err, codes}
use Rattle.std.proofs.lemmas.List.{append-nil, length-append}
use Rattle.mt_token.specs.declared.token.Token.{Token}
use Rattle.mt_token.specs.declared.token.TokenKind.TheVariants.{Control}
use Rattle.mt_scaled.specs.declared.unit.Units.{Units}
use Rattle.mt_macro.specs.Table.{Table}
use Rattle.mt_plain.specs.CodeTables.{CodeTables}
use Rattle.mt_rules.specs.declared.document.Formula.{Formula}
use Rattle.mt_reader.specs.declared.outside_role.OutsideRole.{OutsideRole}
use Rattle.mt_reader.specs.declared.outside_role.OutsideRole.TheVariants.{EndsPage}
use Rattle.mt_reader.specs.Cuts.{IsTooMuch, IsWord, after_from, after_turn, answer_behind, state_after}
use Rattle.mt_reader.specs.Documents.{DocumentAnswer, DocumentState, DocumentTurn, Goes, Ends, Stops, StopsOutside, Outside, after_page_end, document, outside_role, pages_from, start_state, state_pages, turn_answer, turn_by}
use Rattle.mt_reader.proofs.CutTurns.{Behind, TurnIsMuch, TurnWithin, behind, behind_turn, pages_behind, turn_apart, turn_behind, turn_within}
use Rattle.mt_reader.proofs.Falling.{TurnSettles, turn_by_turn, turn_settles}
use Rattle.mt_reader.proofs.Fronts.{IsApart}
use Rattle.mt_reader.proofs.Pages.{FewPages, TurnFits, turn_by_fits}

one_state : (s t : DocumentState) → ◌≡◌ {A = Option DocumentState} (Some s) (Some t) → s ≡ t
one_state s t e = cc

module _ (units : Units) (whole : ℕ) where
  abbrev reading_on : DocumentState → List Token → DocumentAnswer
  reading_on s tokens = pages_from units whole (length tokens) s tokens

  -- after a turn that goes on
  turn_on : (n : ℕ) (s after : DocumentState) (t : Token) (rest more : List Token) (turn : DocumentTurn) → turn_by units s rest (outside_role t.kind) ≡ turn → IsApart more
      → ((mid : DocumentState) (left : List Token) → turn ≡ Goes mid left → after_from units n mid left ≡ Some after → reading_on mid (left ++ more) ≡ reading_on after more)
      → after_turn (after_from units n) turn ≡ Some after → reading_on s (t ∷ rest ++ more) ≡ reading_on after more
  turn_on n s after t rest more (Goes mid left) is apart again e =
      turn_by_turn units whole s t (rest ++ more)
      ∙ (ap (turn_answer units whole reading_on) (turn_apart units s mid rest left more (outside_role t.kind) apart is)
      ∙ again mid left refl e)
  turn_on n s after t rest more (Ends s') is apart again e = absurd (cc)
  turn_on n s after t rest more (Stops refusal) is apart again e = absurd (cc)
  turn_on n s after t rest more (StopsOutside m cause left) is apart again e = absurd (cc)

  pub continues : (n : ℕ) (s after : DocumentState) (a more : List Token) → length a ≤ n → IsApart more → after_from units n s a ≡ Some after → reading_on s (a ++ more) ≡ reading_on after more
  unfolding after_from
  continues zero s after [] more le apart e = ap (λ (d : DocumentState). reading_on d more) (one_state s after e)
  continues zero s after (t ∷ rest) more le apart e = absurd (omega (arith, le))
  continues (suc n) s after [] more le apart e = ap (λ (d : DocumentState). reading_on d more) (one_state s after e)
  continues (suc n) s after (t ∷ rest) more le apart e =
      turn_on n s after t rest more (turn_by units s rest (outside_role t.kind)) refl apart
      (λ mid left is f.
      let k : TurnSettles (length rest) (Goes mid left) = subst (TurnSettles (length rest)) is (turn_settles units s rest (outside_role t.kind)) in
      continues n mid after left more (omega (arith, k, le)) apart f) e

word_apart : (e : Token) (b : List Token) (c d : ℕ) (name : List ℕ) → e.kind ≡ Control (c ∷ d ∷ name) → IsApart (e ∷ b)
word_apart e b c d name is = subst IsWord (sym is) tt

eject_apart : (e : Token) (b : List Token) → e.kind ≡ Control (codes "eject") → IsApart (e ∷ b)
eject_apart e b is = word_apart e b 101 106 (101 ∷ 99 ∷ 116 ∷ []) is

eject_role : (e : Token) → e.kind ≡ Control (codes "eject") → outside_role e.kind ≡ EndsPage
eject_role e is = ap outside_role is

-- tokens that are read to their end, and then a page's end
pub goes_on : (units : Units) (whole : ℕ) (s after : DocumentState) (a b : List Token) (e : Token) → e.kind ≡ Control (codes "eject") → state_after units s a ≡ Some after
    → pages_from units whole (length (a ++ e ∷ b)) s (a ++ e ∷ b) ≡ pages_from units whole (length b) (after_page_end after) b
goes_on units whole s after a b e is read =
    continues units whole (length a) s after a (e ∷ b) (omega arith) (eject_apart e b is) read
    ∙ (turn_by_turn units whole after e b ∙ ap (λ (role : OutsideRole). turn_answer units whole (reading_on units whole) (turn_by units after b role)) (eject_role e is))

-- ---- behind the pages of a part

module _ (units : Units) (whole passed : ℕ) (first : DocumentState) where
  abbrev IsBehind : DocumentAnswer → DocumentAnswer → Type 0
  IsBehind answer other = IsTooMuch answer ⊎ (answer ≡ answer_behind first passed other)

  much_turn : (again : DocumentState → List Token → DocumentAnswer) (turn : DocumentTurn) → TurnIsMuch turn → IsTooMuch (turn_answer units (passed + whole) again turn)
  much_turn again (Goes s rest) m = absurd m
  much_turn again (Ends s) m = absurd m
  much_turn again (Stops refusal) m = m
  much_turn again (StopsOutside n cause left) m = absurd m

  pages_are : (s : DocumentState) → ◌≡◌ {A = DocumentAnswer} (Ok (state_pages (behind first s))) (answer_behind first passed (Ok (state_pages s)))
  pages_are s = ap (λ (l : List (List Formula)). let r : DocumentAnswer = Ok l in r) (pages_behind first passed s)

  same_turn : (again other : DocumentState → List Token → DocumentAnswer) (turn : DocumentTurn) → TurnFits (turn_behind first passed turn) → TurnWithin whole turn
      → ((s : DocumentState) (rest : List Token) → turn ≡ Goes s rest → FewPages (behind first s) → IsBehind (again (behind first s) rest) (other s rest))
      → IsBehind (turn_answer units (passed + whole) again (turn_behind first passed turn)) (turn_answer units whole other turn)
  same_turn again other (Goes s rest) few within h = h s rest refl few
  same_turn again other (Ends s) few within h = inr (pages_are s)
  same_turn again other (Stops refusal) few within h = inr refl
  same_turn again other (StopsOutside n cause left) few within h =
      let place : (passed + whole) - left ≡ passed + (whole - left) = omega (arith, within) in
      inr (ap (λ (p : ℕ). let r : DocumentAnswer = Err (Outside (first.count + n) cause p) in r) place)

  either_turn : (again other : DocumentState → List Token → DocumentAnswer) (here there : DocumentTurn) → Behind first passed here there → TurnFits here → TurnWithin whole there
      → ((s : DocumentState) (rest : List Token) → there ≡ Goes s rest → FewPages (behind first s) → IsBehind (again (behind first s) rest) (other s rest))
      → IsBehind (turn_answer units (passed + whole) again here) (turn_answer units whole other there)
  either_turn again other here there (inl much) few within h = inl (much_turn again here much)
  either_turn again other here there (inr same) few within h =
      subst (λ (t : DocumentTurn). IsBehind (turn_answer units (passed + whole) again t) (turn_answer units whole other there)) (sym same)
      (same_turn again other there (subst TurnFits same few) within h)

  within_whole : (n : ℕ) (turn : DocumentTurn) → n ≤ whole → TurnWithin n turn → TurnWithin whole turn
  within_whole n (Goes s rest) le w = tt
  within_whole n (Ends s) le w = tt
  within_whole n (Stops refusal) le w = tt
  within_whole n (StopsOutside m cause left) le w = omega (arith, le, w)

  behind_pages : (n : ℕ) (s : DocumentState) (tokens : List Token) → FewPages (behind first s) → length tokens ≤ whole → IsBehind (pages_from units (passed + whole) n (behind first s) tokens) (pages_from units whole n s tokens)
  unfolding pages_from
  behind_pages zero s tokens few le = inr (pages_are s)
  behind_pages (suc n) s [] few le = inr (pages_are s)
  behind_pages (suc n) s (t ∷ rest) few le =
      let role = outside_role t.kind in
      either_turn (pages_from units (passed + whole) n) (pages_from units whole n) (turn_by units (behind first s) rest role) (turn_by units s rest role)
      (behind_turn first passed units s rest role few) (turn_by_fits units (behind first s) rest role few) (within_whole (length rest + 1) (turn_by units s rest role) (omega (arith, le)) (turn_within units s rest role))
      (λ s' left is f.
      let k : TurnSettles (length rest) (Goes s' left) = subst (TurnSettles (length rest)) is (turn_settles units s rest role) in
      behind_pages n s' left f (omega (arith, k, le)))

-- what a part leaves has few pages
module _ (units : Units) where
  few_turn : (n : ℕ) (after : DocumentState) (turn : DocumentTurn) → TurnFits turn
      → ((s : DocumentState) (left : List Token) → FewPages s → after_from units n s left ≡ Some after → FewPages after) → after_turn (after_from units n) turn ≡ Some after → FewPages after
  few_turn n after (Goes s left) few h e = h s left few e
  few_turn n after (Ends s) few h e = absurd (cc)
  few_turn n after (Stops refusal) few h e = absurd (cc)
  few_turn n after (StopsOutside m cause left) few h e = absurd (cc)

  few_after : (n : ℕ) (s after : DocumentState) (a : List Token) → FewPages s → after_from units n s a ≡ Some after → FewPages after
  unfolding after_from
  few_after zero s after a few e = subst FewPages (one_state s after e) few
  few_after (suc n) s after [] few e = subst FewPages (one_state s after e) few
  few_after (suc n) s after (t ∷ rest) few e =
      few_turn n after (turn_by units s rest (outside_role t.kind)) (turn_by_fits units s rest (outside_role t.kind) few) (λ s' left f g. few_after n s' after left f g) e

-- nothing is read behind the part yet
start_behind : (first : DocumentState) → first.page ≡ [] → behind first (start_state first.tables first.macros) ≡ first
start_behind first none =
    let made = λ (pages : List (List Formula)) (page : List Formula) (count total : ℕ).
    let d : DocumentState = record { tables = first.tables; macros = first.macros; pages = pages; page = page; count = count; total = total } in d in
    let count : first.count + 0 ≡ first.count = omega arith in
    let total : first.total + 0 ≡ first.total = omega arith in
    ap (λ (l : List (List Formula)). made l [] (first.count + 0) (first.total + 0)) (append-nil first.pages)
    ∙ (ap (λ (n : ℕ). made first.pages [] n (first.total + 0)) count ∙ (ap (made first.pages [] first.count) total ∙ ap (λ (l : List Formula). made first.pages l first.count first.total) (sym none)))

-- the document of both parts, by that of the second one in the codes and macros that the first one leaves
pub cut_document : (units : Units) (tables : CodeTables) (macros : Table) (first : DocumentState) (a b : List Token) (e : Token) → e.kind ≡ Control (codes "eject") → state_after units (start_state tables macros) a ≡ Some first
    → IsTooMuch (document units tables macros (a ++ e ∷ b))
    ⊎ (document units tables macros (a ++ e ∷ b) ≡ answer_behind (after_page_end first) (length a + 1) (document units first.tables first.macros b))
cut_document units tables macros first a b e is read =
    let after = after_page_end first in
    let start = start_state first.tables first.macros in
    let few : FewPages after = few_after units (length a) (start_state tables macros) first a (omega arith) read in
    let here : behind after start ≡ after = start_behind after refl in
    let all : length (a ++ e ∷ b) ≡ (length a + 1) + length b = omega (arith, length-append a (e ∷ b)) in
    let there : document units tables macros (a ++ e ∷ b) ≡ pages_from units ((length a + 1) + length b) (length b) (behind after start) b =
    goes_on units (length (a ++ e ∷ b)) (start_state tables macros) first a b e is read
    ∙ (ap (λ (n : ℕ). pages_from units n (length b) after b) all ∙ ap (λ (d : DocumentState). pages_from units ((length a + 1) + length b) (length b) d b) (sym here)) in
    subst (λ (x : DocumentAnswer). IsTooMuch x ⊎ (x ≡ answer_behind after (length a + 1) (document units first.tables first.macros b))) (sym there)
    (behind_pages units (length b) (length a + 1) after (length b) start b (subst FewPages (sym here) few) (omega arith))

-- the document of the first part alone
pub first_document : (units : Units) (tables : CodeTables) (macros : Table) (first : DocumentState) (a : List Token) (e : Token) → e.kind ≡ Control (codes "eject") → state_after units (start_state tables macros) a ≡ Some first
    → document units tables macros (a ++ e ∷ []) ≡ Ok (after_page_end first).pages
unfolding pages_from
first_document units tables macros first a e is read = goes_on units (length (a ++ e ∷ [])) (start_state tables macros) first a [] e is read
