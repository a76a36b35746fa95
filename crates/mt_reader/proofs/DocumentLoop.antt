-- A document that is read page by page: what becomes of what was read, turn by turn.
use Rattle.std.proofs.Common.{◌≡◌, ℕ, zero, suc, ◌+◌, ◌≤◌, true, false, List, [], ◌∷◌, ◌++◌, length, refl, sym, ap, ◌∙◌, arith, subst}
use Rattle.std.specs.Prelude.{Option, Some, None, Ok, Err, replicate}
use Rattle.std.proofs.lemmas.List.{length-append, length-replicate}
use Rattle.mt_token.specs.declared.token.Token.{Token}
use Rattle.mt_scaled.specs.declared.unit.Units.{Units}
use Rattle.mt_plain.specs.CodeTables.{plain_codes}
use Rattle.mt_rules.specs.declared.document.Formula.{Formula}
use Rattle.mt_reader.specs.declared.outside_role.OutsideRole.{OutsideRole}
use Rattle.mt_reader.specs.declared.outside_role.OutsideRole.TheVariants.{Passed, Defines, SetsMathCode, SetsDelimiterCode, BeginsFormula, EndsPage, EndsDocument, Misplaced}
use Rattle.mt_macro.specs.declared.expansion.ExpandError.{ExpandError}
use Rattle.mt_macro.specs.declared.expansion.ExpandError.TheVariants.{Budget, MissingArgument, Unbalanced as UnbalancedList, TooLong, OutOfMemory as NoMemoryToExpand}
use Rattle.mt_scan.specs.Errors.{PlacedCause, read_error_fault}
use Rattle.mt_reader.specs.declared.document_error.DocError.{DocError}
use Rattle.mt_reader.specs.declared.document_error.DocError.TheVariants.{Source, Outside, Expand, Read, Total, Pages, OutOfMemory}
use Rattle.mt_reader.specs.Documents.{DocumentState, DocumentFault, DocumentAnswer, DocumentTurn, Goes, Ends, Stops, StopsOutside, start_state, state_pages, with_page, is_empty_page, after_page_end, turn_by, outside_role, turn_answer, pages_from, document}
use Rattle.mt_reader.specs.Refusals.{IsExpandRefusal, IsNotRead, IsRefusal}
use Rattle.mt_reader.specs.DocumentTurns.{state_of, ends_page, turn_refusal, IsTaken, TakesPage}
use Rattle.mt_reader.specs.SourceReading.{read_state}
use Rattle.mt_reader.specs.Views.{StateView}
use Rattle.mt_reader.specs.Sources.{plain_words}
use Rattle.mt_reader.proofs.PagesMoved.{placeholders, same_turn, turn_after}

at_end : (units : Units) (whole turns : ℕ) (s : DocumentState) → pages_from units whole turns s [] ≡ Ok (state_pages s)
unfolding pages_from
at_end units whole zero s = refl
at_end units whole (suc turns) s = refl

at_token : (units : Units) (whole turns : ℕ) (s : DocumentState) (t : Token) (after : List Token) → pages_from units whole (suc turns) s (t ∷ after) ≡ turn_answer units whole (pages_from units whole turns) (turn_by units s after (outside_role t.kind))
unfolding pages_from
at_token units whole turns s t after = refl

-- ---- pages

pub count_more : (read : List (List Formula)) (page : List Formula) → length (read ++ page ∷ []) ≡ length read + 1
count_more read page = omega (arith, length-append read (page ∷ []))

page_some : (read : List (List Formula)) (page : List Formula) → is_empty_page page ≡ false → with_page read page ≡ read ++ page ∷ []
page_some read [] some = absurd (cc)
page_some read (f ∷ fs) some = refl

-- the pages with one more, if there is one
abbrev pub pages_with : List (List Formula) → Option (List Formula) → List (List Formula)
pages_with read None = read
pages_with read (Some page) = read ++ page ∷ []

-- the state after a page
pub state_more : (read : List (List Formula)) (page : List Formula) (old new : StateView) → IsTaken page old new → after_page_end (read_state read old) ≡ read_state (read ++ page ∷ []) new
state_more read page old new taken =
    let pages : with_page read old.page ≡ read ++ page ∷ [] = ap (with_page read) (sym taken.is) ∙ page_some read page taken.some in
    rw (pages, taken.empty, taken.codes, taken.macros, taken.count, taken.total) refl

pub state_none : (read : List (List Formula)) (old new : StateView) → old.page ≡ [] → new ≡ old → after_page_end (read_state read old) ≡ read_state read new
state_none read old new none same = rw same (rw none refl)

-- these pages of the document were handed out, and these tokens are left
pub record IsReadTo (units : Units) (tokens : List Token) (read : List (List Formula)) (s : StateView) (rest : List Token) : Type 0 where
  pub turns : ℕ
  pub enough : length rest ≤ turns
  pub is : document units plain_codes plain_words tokens ≡ pages_from units (length tokens) turns (read_state read s) rest
  pub ended : length read ≡ s.ended

-- nothing is read yet
pub at_start : (units : Units) (tokens : List Token) (s : StateView) → state_of s ≡ start_state plain_codes plain_words → IsReadTo units tokens [] s tokens
at_start units tokens s start = record {
  turns = length tokens;
  enough = omega arith;
  is = ap (λ (x : DocumentState). pages_from units (length tokens) (length tokens) (record x { pages = [] }) tokens) (sym start);
  ended = sym (ap (λ (x : DocumentState). length x.pages) start) ∙ length-replicate s.ended [];
}

pub page_role : (role : OutsideRole) → ends_page role ≡ true → role ≡ EndsPage
page_role Passed is = absurd (cc)
page_role Defines is = absurd (cc)
page_role SetsMathCode is = absurd (cc)
page_role SetsDelimiterCode is = absurd (cc)
page_role BeginsFormula is = absurd (cc)
page_role EndsPage is = refl
page_role EndsDocument is = absurd (cc)
page_role Misplaced is = absurd (cc)

-- ---- the first token that is left

module _ (units : Units) (tokens after : List Token) (read : List (List Formula)) (old : StateView) (t : Token) where
  abbrev now : DocumentState
  now = read_state read old

  abbrev role : OutsideRole
  role = outside_role t.kind

  record Turned (turn : DocumentTurn) : Type 0 where
    pub turns : ℕ
    pub enough : length after ≤ turns
    pub is : document units plain_codes plain_words tokens ≡ turn_answer units (length tokens) (pages_from units (length tokens) turns) turn

  turned_at : (turns : ℕ) → length (t ∷ after) ≤ turns → document units plain_codes plain_words tokens ≡ pages_from units (length tokens) turns now (t ∷ after) → Turned (turn_by units now after role)
  turned_at zero enough is = absurd (omega (arith, enough))
  turned_at (suc n) enough is = record {
    turns = n;
    enough = omega (arith, enough);
    is = is ∙ at_token units (length tokens) n now t after;
  }

  -- what becomes of a token that ends no page
  turned : (turn : DocumentTurn) → IsReadTo units tokens read old (t ∷ after) → ends_page role ≡ false → turn_by units (state_of old) after role ≡ turn → Turned (turn_after read turn)
  turned turn r goes_on is =
      subst Turned (same_turn read units (state_of old) after role (r.ended ∙ sym (placeholders old.ended)) goes_on ∙ ap (turn_after read) is) (turned_at r.turns r.enough r.is)

  -- and of one that ends one
  page_turned : IsReadTo units tokens read old (t ∷ after) → ends_page role ≡ true → Turned (Goes (after_page_end now) after)
  page_turned r ends = subst Turned (ap (turn_by units now after) (page_role role ends)) (turned_at r.turns r.enough r.is)

  module _ (new : StateView) where
    pub read_more : (rest : List Token) → IsReadTo units tokens read old (t ∷ after) → ends_page role ≡ false
        → turn_by units (state_of old) after role ≡ Goes (state_of new) rest → length rest ≤ length after → new.ended ≡ old.ended → IsReadTo units tokens read new rest
    read_more rest r goes_on turn falls ended =
        let at = turned (Goes (state_of new) rest) r goes_on turn in
        record {
          turns = at.turns;
          enough = omega (arith, at.enough, falls);
          is = at.is;
          ended = r.ended ∙ sym ended;
        }

    pub read_ended : IsReadTo units tokens read old (t ∷ after) → ends_page role ≡ false
        → turn_by units (state_of old) after role ≡ Ends (state_of new) → new ≡ old → IsReadTo units tokens read new []
    read_ended r goes_on turn same =
        let at = turned (Ends (state_of new)) r goes_on turn in
        record {
          turns = 0;
          enough = omega arith;
          is = at.is ∙ sym (at_end units (length tokens) 0 (read_state read new));
          ended = r.ended ∙ sym (ap (λ (s : StateView). s.ended) same);
        }

    read_page : (page : List Formula) → IsReadTo units tokens read old (t ∷ after) → ends_page role ≡ true
        → IsTaken page old new → IsReadTo units tokens (read ++ page ∷ []) new after
    read_page page r ends taken =
        let at = page_turned r ends in
        record {
          turns = at.turns;
          enough = at.enough;
          is = at.is ∙ ap (λ (s : DocumentState). pages_from units (length tokens) at.turns s after) (state_more read page old new taken);
          ended = omega (arith, r.ended, taken.ended, count_more read page);
        }

    read_no_page : IsReadTo units tokens read old (t ∷ after) → ends_page role ≡ true → old.page ≡ [] → new ≡ old → IsReadTo units tokens read new after
    read_no_page r ends none same =
        let at = page_turned r ends in
        record {
          turns = at.turns;
          enough = at.enough;
          is = at.is ∙ ap (λ (s : DocumentState). pages_from units (length tokens) at.turns s after) (state_none read old new none same);
          ended = r.ended ∙ sym (ap (λ (s : StateView). s.ended) same);
        }

    pub read_taken : (taken : Option (List Formula)) → IsReadTo units tokens read old (t ∷ after) → ends_page role ≡ true
        → TakesPage taken old new → IsReadTo units tokens (pages_with read taken) new after
    read_taken (Some page) r ends takes = read_page page r ends takes
    read_taken None r ends takes = read_no_page r ends takes.0 takes.1

  same_refusal : (again : DocumentState → List Token → DocumentAnswer) (turn : DocumentTurn) (f : DocumentFault) → turn_refusal (length tokens) turn ≡ Err f → turn_answer units (length tokens) again (turn_after read turn) ≡ Err f
  same_refusal again (Goes s left) f e = absurd (cc)
  same_refusal again (Ends s) f e = absurd (cc)
  same_refusal again (Stops refusal) f e = e
  same_refusal again (StopsOutside n cause left) f e = e

  refused_expand : (again : DocumentState → List Token → DocumentAnswer) (turn : DocumentTurn) (n : ℕ) (cause : ExpandError) → IsExpandRefusal n cause (turn_refusal (length tokens) turn) → IsExpandRefusal n cause (turn_answer units (length tokens) again (turn_after read turn))
  refused_expand again turn n (Budget steps size) e = same_refusal again turn _ e
  refused_expand again turn n (MissingArgument place) e = same_refusal again turn _ e
  refused_expand again turn n (UnbalancedList place) e = same_refusal again turn _ e
  refused_expand again turn n TooLong e = same_refusal again turn _ e
  refused_expand again turn n NoMemoryToExpand e = e

  refused_read_of : (again : DocumentState → List Token → DocumentAnswer) (turn : DocumentTurn) (n : ℕ) (fault : Option PlacedCause) → IsNotRead n fault (turn_refusal (length tokens) turn) → IsNotRead n fault (turn_answer units (length tokens) again (turn_after read turn))
  refused_read_of again turn n (Some fault) e = same_refusal again turn _ e
  refused_read_of again turn n None e = e

  refused : (again : DocumentState → List Token → DocumentAnswer) (turn : DocumentTurn) (error : DocError) → IsRefusal error (turn_refusal (length tokens) turn) → IsRefusal error (turn_answer units (length tokens) again (turn_after read turn))
  refused again turn (Source cause) e = same_refusal again turn _ e
  refused again turn (Outside n place cause) e = same_refusal again turn _ e
  refused again turn (Expand n cause) e = refused_expand again turn n cause e
  refused again turn (Read n cause) e = refused_read_of again turn n (read_error_fault cause) e
  refused again turn (Total n count) e = same_refusal again turn _ e
  refused again turn (Pages count) e = same_refusal again turn _ e
  refused again turn OutOfMemory e = tt

  pub read_refused : (error : DocError) → IsReadTo units tokens read old (t ∷ after) → ends_page role ≡ false
      → IsRefusal error (turn_refusal (length tokens) (turn_by units (state_of old) after role)) → IsRefusal error (document units plain_codes plain_words tokens)
  read_refused error r goes_on is =
      let at = turned (turn_by units (state_of old) after role) r goes_on refl in
      subst (IsRefusal error) (sym at.is) (refused (pages_from units (length tokens) at.turns) (turn_by units (state_of old) after role) error is)

-- ---- no token is left

module _ (units : Units) (tokens : List Token) (read : List (List Formula)) (old : StateView) where
  at_last : IsReadTo units tokens read old [] → document units plain_codes plain_words tokens ≡ Ok (state_pages (read_state read old))
  at_last r = r.is ∙ at_end units (length tokens) r.turns (read_state read old)

  pub last_none : IsReadTo units tokens read old [] → old.page ≡ [] → document units plain_codes plain_words tokens ≡ Ok read
  last_none r empty = at_last r ∙ ap (λ (page : List Formula). Ok (with_page read page)) empty

  pub last_page : (new : StateView) (page : List Formula) → IsReadTo units tokens read old [] → IsTaken page old new → IsReadTo units tokens (read ++ page ∷ []) new []
  last_page new page r taken =
      let last : document units plain_codes plain_words tokens ≡ Ok (read ++ page ∷ []) = at_last r ∙ ap Ok (ap (with_page read) (sym taken.is) ∙ page_some read page taken.some) in
      let empty : state_pages (read_state (read ++ page ∷ []) new) ≡ read ++ page ∷ [] = ap (with_page (read ++ page ∷ [])) taken.empty in
      record {
        turns = 0;
        enough = omega arith;
        is = last ∙ sym (at_end units (length tokens) 0 (read_state (read ++ page ∷ []) new) ∙ ap Ok empty);
        ended = omega (arith, r.ended, taken.ended, count_more read page);
      }
