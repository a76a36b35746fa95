-- Where the reading of a source stops: turn by turn, whatever pages are ended.
use Rattle.std.proofs.Common.{◌≡◌, ℕ, zero, suc, ◌+◌, ◌-◌, ◌≤◌, ◌<◌, refl, sym, ap, ◌∙◌, subst, arith, Bool, true, false, List, [], ◌∷◌, ◌++◌, drop, length, map, take, Option, Some, None}
use Rattle.std.specs.Prelude.{Result, Ok, Err, get_or, replicate, ⊤}
use Rattle.std.proofs.lemmas.List.{length-append, map-id, take_all}
use Rattle.mt_token.specs.declared.token.Token.{Token}
use Rattle.mt_token.specs.Tokens.{max_source}
use Rattle.mt_scaled.specs.declared.unit.Units.{Units}
use Rattle.mt_macro.specs.Table.{Table}
use Rattle.mt_plain.specs.CodeTables.{CodeTables}
use Rattle.mt_rules.specs.declared.document.Formula.{Formula}
use Rattle.mt_macro.specs.declared.expansion.ExpandError.{ExpandError}
use Rattle.mt_macro.specs.declared.expansion.ExpandError.TheVariants.{Budget, MissingArgument, Unbalanced as UnbalancedList, TooLong, OutOfMemory as NoMemoryToExpand}
use Rattle.mt_scan.specs.Errors.{PlacedCause, read_error_fault}
use Rattle.mt_reader.specs.declared.document_error.DocError.{DocError}
use Rattle.mt_reader.specs.declared.document_error.DocError.TheVariants.{Source, Outside as OutsideError, Expand, Read, Total, Pages, OutOfMemory}
use Rattle.mt_reader.specs.declared.document_turn.AfterTurn.{AfterTurn}
use Rattle.mt_reader.specs.declared.document_turn.AfterTurn.TheVariants.{Left, Ended}
use Rattle.mt_reader.specs.declared.outside_role.OutsideRole.{OutsideRole}
use Rattle.mt_reader.specs.declared.outside_role.OutsideRole.TheVariants.{EndsPage}
use Rattle.mt_reader.specs.declared.stop.StopCause.{StopCause}
use Rattle.mt_reader.specs.declared.stop.StopCause.TheVariants.{Formula as FormulaCause, Fault}
use Rattle.mt_reader.specs.Documents.{DocumentFault, DocumentState, DocumentAnswer, DocumentTurn, Goes, Ends, Stops, StopsOutside, Outside, start_state, after_page_end, with_page, outside_role, turn_by, turn_answer, pages_from, document}
use Rattle.mt_reader.specs.DocumentTurns.{MeetsTurn, Spends, TakesPage, ends_page, state_of, turn_refusal}
use Rattle.mt_reader.specs.Limits.{max_total_tokens}
use Rattle.mt_reader.specs.Refusals.{IsExpandRefusal, IsNotRead, IsRefusal}
use Rattle.mt_reader.specs.SourceReading.{read_state}
use Rattle.mt_reader.specs.Stops.{StopReason, AtFormula, AtFault, StopPlace, Stopping, after_turn, turn_unless, is_wanted, with_definition, stop_place, stop_turn, stop_from, stop, stop_fault, document_fault, fault_cause, IsReason}
use Rattle.mt_reader.specs.StopReading.{MeetsStopTurn, SpendsStop, IsStopSpent, IsAhead, CanRead}
use Rattle.mt_reader.specs.Views.{StateView}
use Rattle.mt_reader.proofs.DocumentLoop.{count_more, state_more, state_none, page_role}
use Rattle.mt_reader.proofs.PagesMoved.{placeholders, same_turn, turn_after}

-- ---- the pages before do not matter, but for their number

abbrev pages_after : DocumentTurn → List (List Formula)
pages_after (Goes s rest) = s.pages
pages_after (Ends s) = []
pages_after (Stops refusal) = []
pages_after (StopsOutside n cause left) = []

same_pages : (units : Units) (s next : DocumentState) (rest left : List Token) (role : OutsideRole) → ends_page role ≡ false
    → turn_by units s rest role ≡ Goes next left → next.pages ≡ s.pages
same_pages units s next rest left role goes_on turn =
    ap pages_after (sym turn ∙ (same_turn s.pages units s rest role refl goes_on ∙ ap (turn_after s.pages) turn))

more_pages : (read other : List (List Formula)) (page : List Formula) → length read ≡ length other → length (with_page read page) ≡ length (with_page other page)
more_pages read other [] same = same
more_pages read other (f ∷ fs) same = omega (arith, same, count_more read (f ∷ fs), count_more other (f ∷ fs))

module _ (units : Units) (whole : ℕ) (wanted : Option ℕ) where
  abbrev Alike : Stopping → Type 0
  Alike again = (definitions : List (List Token)) (s : DocumentState) (pages : List (List Formula)) (tokens : List Token) → length pages ≡ length s.pages
      → again definitions (record s { pages = pages }) tokens ≡ again definitions s tokens

  module _ (again : Stopping) (alike : Alike again) (definitions : List (List Token)) (s : DocumentState) (pages : List (List Formula)) (same : length pages ≡ length s.pages) (from rest : List Token) (role : OutsideRole) where
    turn_alike : (turn : DocumentTurn) → ends_page role ≡ false → turn_by units s rest role ≡ turn
        → after_turn units whole wanted again definitions (record s { pages = pages }) from role (turn_after pages turn)
        ≡ after_turn units whole wanted again definitions s from role turn
    turn_alike (Goes next left) goes_on is = alike (with_definition definitions from role) next pages left (same ∙ ap (λ (p : List (List Formula)). length p) (sym (same_pages units s next rest left role goes_on is)))
    turn_alike (Ends next) goes_on is = refl
    turn_alike (Stops refusal) goes_on is = refl
    turn_alike (StopsOutside n cause left) goes_on is = refl

    page_alike : role ≡ EndsPage → after_turn units whole wanted again definitions (record s { pages = pages }) from role (turn_by units (record s { pages = pages }) rest role)
        ≡ after_turn units whole wanted again definitions s from role (turn_by units s rest role)
    page_alike is =
        subst (λ (r : OutsideRole). after_turn units whole wanted again definitions (record s { pages = pages }) from r (turn_by units (record s { pages = pages }) rest r)
        ≡ after_turn units whole wanted again definitions s from r (turn_by units s rest r)) (sym is)
        (alike definitions (after_page_end s) (with_page pages s.page) rest (more_pages pages s.pages s.page same))

    role_alike : (b : Bool) → ends_page role ≡ b → after_turn units whole wanted again definitions (record s { pages = pages }) from role (turn_by units (record s { pages = pages }) rest role)
        ≡ after_turn units whole wanted again definitions s from role (turn_by units s rest role)
    role_alike true ends = page_alike (page_role role ends)
    role_alike false goes_on =
        ap (after_turn units whole wanted again definitions (record s { pages = pages }) from role) (same_turn pages units s rest role same goes_on)
        ∙ turn_alike (turn_by units s rest role) goes_on refl

    unless_alike : (b : Bool) → turn_unless units whole wanted again definitions (record s { pages = pages }) from rest role b ≡ turn_unless units whole wanted again definitions s from rest role b
    unless_alike true = refl
    unless_alike false = role_alike (ends_page role) refl

  pub stop_alike : (turns : ℕ) → Alike (stop_from units whole wanted turns)
  unfolding stop_from
  stop_alike zero definitions s pages tokens same = refl
  stop_alike (suc n) definitions s pages [] same = refl
  stop_alike (suc n) definitions s pages (t ∷ rest) same =
      unless_alike (stop_from units whole wanted n) (stop_alike n) definitions s pages same (t ∷ rest) rest (outside_role t.kind) (is_wanted wanted s.count (outside_role t.kind))

  stop_none : (turns : ℕ) (definitions : List (List Token)) (s : DocumentState) → stop_from units whole wanted turns definitions s [] ≡ None
  unfolding stop_from
  stop_none zero definitions s = refl
  stop_none (suc n) definitions s = refl

  stop_some : (turns : ℕ) (definitions : List (List Token)) (s : DocumentState) (t : Token) (rest : List Token)
      → stop_from units whole wanted (suc turns) definitions s (t ∷ rest)
      ≡ turn_unless units whole wanted (stop_from units whole wanted turns) definitions s (t ∷ rest) rest (outside_role t.kind) (is_wanted wanted s.count (outside_role t.kind))
  unfolding stop_from
  stop_some turns definitions s t rest = refl

-- ---- the fault of the document

module _ (units : Units) (whole : ℕ) where
  turn_fault : (again : Stopping) (goes : DocumentState → List Token → DocumentAnswer)
      → ((definitions : List (List Token)) (s : DocumentState) (tokens : List Token) → stop_fault (again definitions s tokens) ≡ document_fault (goes s tokens))
      → (definitions : List (List Token)) (s : DocumentState) (from : List Token) (role : OutsideRole) (turn : DocumentTurn)
      → stop_fault (after_turn units whole None again definitions s from role turn) ≡ document_fault (turn_answer units whole goes turn)
  turn_fault again goes same definitions s from role (Goes next rest) = same (with_definition definitions from role) next rest
  turn_fault again goes same definitions s from role (Ends next) = refl
  turn_fault again goes same definitions s from role (Stops refusal) = refl
  turn_fault again goes same definitions s from role (StopsOutside n cause left) = refl

  fault_from : (turns : ℕ) (definitions : List (List Token)) (s : DocumentState) (tokens : List Token)
      → stop_fault (stop_from units whole None turns definitions s tokens) ≡ document_fault (pages_from units whole turns s tokens)
  unfolding stop_from pages_from
  fault_from zero definitions s tokens = refl
  fault_from (suc n) definitions s [] = refl
  fault_from (suc n) definitions s (t ∷ rest) =
      turn_fault (stop_from units whole None n) (pages_from units whole n) (fault_from n) definitions s (t ∷ rest) (outside_role t.kind) (turn_by units s rest (outside_role t.kind))

pub same_fault : (units : Units) (tables : CodeTables) (macros : Table) (tokens : List Token)
    → stop_fault (stop units None tables macros tokens) ≡ document_fault (document units tables macros tokens)
same_fault units tables macros tokens = fault_from units (length tokens) (length tokens) [] (start_state tables macros) tokens

-- ---- a turn

-- the end of a page
pub page_goes : (units : Units) (old new : StateView) (role : OutsideRole) (taken : Option (List Formula)) (rest : List Token)
    → ends_page role ≡ true → TakesPage taken old new
    → (pages : List (List Formula)) × (length pages ≡ new.ended) × (turn_by units (state_of old) rest role ≡ Goes (read_state pages new) rest)
page_goes units old new role (Some page) rest ends takes = (
  replicate old.ended [] ++ page ∷ [],
  omega (arith, count_more (replicate old.ended []) page, placeholders old.ended, takes.ended),
  ap (turn_by units (state_of old) rest) (page_role role ends) ∙ ap (λ (s : DocumentState). Goes s rest) (state_more (replicate old.ended []) page old new takes),
)
page_goes units old new role None rest ends takes = (
  replicate old.ended [],
  placeholders old.ended ∙ sym (ap (λ (s : StateView). s.ended) takes.1),
  ap (turn_by units (state_of old) rest) (page_role role ends) ∙ ap (λ (s : DocumentState). Goes s rest) (state_none (replicate old.ended []) old new takes.0 takes.1),
)

pub page_spends : (old new : StateView) (taken : Option (List Formula)) (rest : List Token) → old.total ≤ max_total_tokens → TakesPage taken old new → IsStopSpent old new rest rest
page_spends old new (Some page) rest few takes = record {
  falls = omega arith;
  ended = omega (arith, takes.ended);
  count = omega (arith, takes.count);
  total = omega (arith, few, takes.total);
}
page_spends old new None rest few takes = record {
  falls = omega arith;
  ended = omega (arith, ap (λ (s : StateView). s.ended) takes.1);
  count = omega (arith, ap (λ (s : StateView). s.count) takes.1);
  total = omega (arith, few, ap (λ (s : StateView). s.total) takes.1);
}

-- ---- the tokens that are left

abbrev IsCauseOf : Option StopCause → DocumentFault → Type 0
IsCauseOf None refusal = ⊤
IsCauseOf (Some cause) refusal = IsReason cause (AtFault refusal)

-- the cause of a fault
cause_reason : (e : DocError) (cause : StopCause) (refusal : DocumentFault) → fault_cause e ≡ Some cause → IsRefusal e (Err refusal) → IsReason cause (AtFault refusal)
cause_reason (Source cause) c refusal is e = subst (λ (x : Option StopCause). IsCauseOf x refusal) is (refusal, refl, e)
cause_reason (OutsideError n place cause) c refusal is e = subst (λ (x : Option StopCause). IsCauseOf x refusal) is (refusal, refl, e)
cause_reason (Expand n cause) c refusal is e = subst (λ (x : Option StopCause). IsCauseOf x refusal) is (refusal, refl, e)
cause_reason (Read n cause) c refusal is e = subst (λ (x : Option StopCause). IsCauseOf x refusal) is (refusal, refl, e)
cause_reason (Total n count) c refusal is e = subst (λ (x : Option StopCause). IsCauseOf x refusal) is (refusal, refl, e)
cause_reason (Pages count) c refusal is e = subst (λ (x : Option StopCause). IsCauseOf x refusal) is (refusal, refl, e)
cause_reason OutOfMemory c refusal is e = absurd (cc)

not_expanded : (n : ℕ) (cause : ExpandError) → IsExpandRefusal n cause (Ok []) → ⊥
not_expanded n (Budget steps size) e = absurd (cc)
not_expanded n (MissingArgument place) e = absurd (cc)
not_expanded n (UnbalancedList place) e = absurd (cc)
not_expanded n TooLong e = absurd (cc)
not_expanded n NoMemoryToExpand e = e

not_read : (n : ℕ) (fault : Option PlacedCause) → IsNotRead n fault (Ok []) → ⊥
not_read n (Some fault) e = absurd (cc)
not_read n None e = e

never_ok : (e : DocError) (cause : StopCause) → fault_cause e ≡ Some cause → IsRefusal e (Ok []) → ⊥
never_ok (Source cause) c is e = absurd (cc)
never_ok (OutsideError n place cause) c is e = absurd (cc)
never_ok (Expand n cause) c is e = not_expanded n cause e
never_ok (Read n cause) c is e = not_read n (read_error_fault cause) e
never_ok (Total n count) c is e = absurd (cc)
never_ok (Pages count) c is e = absurd (cc)
never_ok OutOfMemory c is e = absurd (cc)

module _ (units : Units) (wanted : Option ℕ) (codes : CodeTables) (macros : Table) (tokens : List Token) where
  pub ahead_start : (s : StateView) → state_of s ≡ start_state codes macros → IsAhead units wanted codes macros tokens [] s tokens
  ahead_start s start = record {
    turns = length tokens;
    enough = omega arith;
    is = ap (λ (x : DocumentState). stop_from units (length tokens) wanted (length tokens) [] x tokens) (sym start);
  }

  module _ (definitions : List (List Token)) (old : StateView) where
    pub ahead_none : IsAhead units wanted codes macros tokens definitions old [] → stop units wanted codes macros tokens ≡ None
    ahead_none a = a.is ∙ stop_none units (length tokens) wanted a.turns definitions (state_of old)

    module _ (t : Token) (after : List Token) where
      record Next : Type 0 where
        pub turns : ℕ
        pub enough : length after ≤ turns
        pub is : stop units wanted codes macros tokens
            ≡ turn_unless units (length tokens) wanted (stop_from units (length tokens) wanted turns) definitions (state_of old) (t ∷ after) after (outside_role t.kind) (is_wanted wanted old.count (outside_role t.kind))

      next_at : (turns : ℕ) → length (t ∷ after) ≤ turns → stop units wanted codes macros tokens ≡ stop_from units (length tokens) wanted turns definitions (state_of old) (t ∷ after) → Next
      next_at zero enough is = absurd (omega (arith, enough))
      next_at (suc n) enough is = record {
        turns = n;
        enough = omega (arith, enough);
        is = is ∙ stop_some units (length tokens) wanted n definitions (state_of old) t after;
      }

      pub ahead_wanted : IsAhead units wanted codes macros tokens definitions old (t ∷ after) → is_wanted wanted old.count (outside_role t.kind) ≡ true
          → stop units wanted codes macros tokens ≡ Some (stop_place AtFormula (state_of old) definitions (t ∷ after))
      ahead_wanted a is =
          let n = next_at a.turns a.enough a.is in
          n.is ∙ ap (turn_unless units (length tokens) wanted (stop_from units (length tokens) wanted n.turns) definitions (state_of old) (t ∷ after) after (outside_role t.kind)) is

      next_turn : (n : Next) (turn : DocumentTurn) → is_wanted wanted old.count (outside_role t.kind) ≡ false → turn_by units (state_of old) after (outside_role t.kind) ≡ turn
          → stop units wanted codes macros tokens ≡ after_turn units (length tokens) wanted (stop_from units (length tokens) wanted n.turns) definitions (state_of old) (t ∷ after) (outside_role t.kind) turn
      next_turn n turn other is =
          n.is ∙ ap (turn_unless units (length tokens) wanted (stop_from units (length tokens) wanted n.turns) definitions (state_of old) (t ∷ after) after (outside_role t.kind)) other
          ∙ ap (after_turn units (length tokens) wanted (stop_from units (length tokens) wanted n.turns) definitions (state_of old) (t ∷ after) (outside_role t.kind)) is

      pub ahead_more : (new : StateView) (rest : List Token) (pages : List (List Formula)) → IsAhead units wanted codes macros tokens definitions old (t ∷ after) → is_wanted wanted old.count (outside_role t.kind) ≡ false
          → length rest ≤ length after → length pages ≡ new.ended → turn_by units (state_of old) after (outside_role t.kind) ≡ Goes (read_state pages new) rest
          → IsAhead units wanted codes macros tokens (with_definition definitions (t ∷ after) (outside_role t.kind)) new rest
      ahead_more new rest pages a other falls count turn =
          let n = next_at a.turns a.enough a.is in
          record {
            turns = n.turns;
            enough = omega (arith, n.enough, falls);
            is = next_turn n (Goes (read_state pages new) rest) other turn
                ∙ stop_alike units (length tokens) wanted n.turns (with_definition definitions (t ∷ after) (outside_role t.kind)) (state_of new) pages rest (count ∙ sym (placeholders new.ended));
          }

      pub ahead_refused : (e : DocError) (cause : StopCause) → fault_cause e ≡ Some cause → IsAhead units wanted codes macros tokens definitions old (t ∷ after)
          → is_wanted wanted old.count (outside_role t.kind) ≡ false → (turn : DocumentTurn) → turn_by units (state_of old) after (outside_role t.kind) ≡ turn → IsRefusal e (turn_refusal (length tokens) turn)
          → (reason : StopReason) × IsReason cause reason × (stop units wanted codes macros tokens ≡ Some (stop_place reason (state_of old) definitions (t ∷ after)))
      ahead_refused e cause is a other (Goes s rest) turn refusal = absurd (never_ok e cause is refusal)
      ahead_refused e cause is a other (Ends s) turn refusal = absurd (never_ok e cause is refusal)
      ahead_refused e cause is a other (Stops f) turn refusal =
          (AtFault f, cause_reason e cause f is refusal, next_turn (next_at a.turns a.enough a.is) (Stops f) other turn)
      ahead_refused e cause is a other (StopsOutside n c left) turn refusal =
          (AtFault (Outside n c (length tokens - left)), cause_reason e cause (Outside n c (length tokens - left)) is refusal, next_turn (next_at a.turns a.enough a.is) (StopsOutside n c left) other turn)

      pub ahead_ended : (s : DocumentState) → IsAhead units wanted codes macros tokens definitions old (t ∷ after) → is_wanted wanted old.count (outside_role t.kind) ≡ false
          → turn_by units (state_of old) after (outside_role t.kind) ≡ Ends s → stop units wanted codes macros tokens ≡ None
      ahead_ended s a other turn = next_turn (next_at a.turns a.enough a.is) (Ends s) other turn

      pub at_wanted : (rest : List Token) (role : OutsideRole) → rest ≡ t ∷ after → role ≡ outside_role t.kind → IsAhead units wanted codes macros tokens definitions old rest
          → is_wanted wanted old.count role ≡ true → stop units wanted codes macros tokens ≡ Some (stop_place AtFormula (state_of old) definitions rest)
      at_wanted rest role front same a is =
          subst (λ (r : List Token). stop units wanted codes macros tokens ≡ Some (stop_place AtFormula (state_of old) definitions r)) (sym front)
          (ahead_wanted (subst (IsAhead units wanted codes macros tokens definitions old) front a) (subst (λ (r : OutsideRole). is_wanted wanted old.count r ≡ true) same is))

      module _ (rest : List Token) (role : OutsideRole) (front : rest ≡ t ∷ after) (same : role ≡ outside_role t.kind) (a : IsAhead units wanted codes macros tokens definitions old rest)
          (other : is_wanted wanted old.count role ≡ false) where
        ahead : IsAhead units wanted codes macros tokens definitions old (t ∷ after)
        ahead = subst (IsAhead units wanted codes macros tokens definitions old) front a

        unwanted : is_wanted wanted old.count (outside_role t.kind) ≡ false
        unwanted = subst (λ (r : OutsideRole). is_wanted wanted old.count r ≡ false) same other

        turn_of : (turn : DocumentTurn) → turn_by units (state_of old) after role ≡ turn → turn_by units (state_of old) after (outside_role t.kind) ≡ turn
        turn_of turn is = subst (λ (r : OutsideRole). turn_by units (state_of old) after r ≡ turn) same is

        pub at_more : (new : StateView) (left : List Token) (pages : List (List Formula)) → length pages ≡ new.ended → turn_by units (state_of old) after role ≡ Goes (read_state pages new) left → length left ≤ length after
            → IsAhead units wanted codes macros tokens (with_definition definitions rest role) new left
        at_more new left pages count met falls =
            subst (λ (r : List Token). IsAhead units wanted codes macros tokens (with_definition definitions r role) new left) (sym front)
            (subst (λ (r : OutsideRole). IsAhead units wanted codes macros tokens (with_definition definitions (t ∷ after) r) new left) (sym same)
            (ahead_more new left pages ahead unwanted falls count (turn_of (Goes (read_state pages new) left) met)))

        pub at_end : (s : DocumentState) → turn_by units (state_of old) after role ≡ Ends s → stop units wanted codes macros tokens ≡ None
        at_end s turn = ahead_ended s ahead unwanted (turn_of (Ends s) turn)

        pub at_fault : (e : DocError) (cause : StopCause) → fault_cause e ≡ Some cause → IsRefusal e (turn_refusal (length tokens) (turn_by units (state_of old) after role))
            → (reason : StopReason) × IsReason cause reason × (stop units wanted codes macros tokens ≡ Some (stop_place reason (state_of old) definitions rest))
        at_fault e cause is refusal =
            let found = ahead_refused e cause is ahead unwanted (turn_by units (state_of old) after role) (turn_of (turn_by units (state_of old) after role) refl) refusal in
            (found.0, found.1, found.2 ∙ ap (λ (r : List Token). Some (stop_place found.0 (state_of old) definitions r)) (sym front))

-- ---- bounds

pub can_start : (codes : CodeTables) (macros : Table) (s : StateView) (tokens : List Token) → state_of s ≡ start_state codes macros → length tokens ≤ max_source → CanRead s tokens
can_start codes macros s tokens start few = record {
  ended = omega (arith, few, placeholders s.ended, ap (λ (x : DocumentState). length x.pages) start);
  count = omega (arith, few, ap (λ (x : DocumentState). x.count) start);
  total = omega (arith, ap (λ (x : DocumentState). x.total) start);
}

pub can_more : (old new : StateView) (t : Token) (rest after left : List Token) → rest ≡ t ∷ after → CanRead old rest → IsStopSpent old new after left → CanRead new left
can_more old new t rest after left front can spent =
    let size : length rest ≡ length after + 1 = ap (λ (l : List Token). length l) front ∙ omega arith in
    record {
      ended = omega (arith, size, can.ended, spent.ended, spent.falls);
      count = omega (arith, size, can.count, spent.count, spent.falls);
      total = spent.total;
    }

-- ---- lists that are lent

pub front_is : (xs : List Token) (t : Token) → 1 ≤ length xs → t ≡ get_or xs 0 t → xs ≡ t ∷ take (length xs - 1) (drop 1 xs)
front_is [] t h e = absurd (omega (arith, h))
front_is (x ∷ xs) t h e =
    ap (λ (y : Token). y ∷ xs) (sym e) ∙ ap (λ (ys : List Token). t ∷ ys) (sym (take_all (length (x ∷ xs) - 1) xs (omega arith)))

pub empty_is : (xs : List Token) → length xs < 1 → xs ≡ []
empty_is [] h = refl
empty_is (x ∷ xs) h = absurd (omega (arith, h))

-- codes and macros that are kept
pub viewed : (reason : StopReason) (s : DocumentState) (definitions : List (List Token)) (from : List Token) (codes : CodeTables) (macros : Table) → codes ≡ s.tables → macros ≡ s.macros
    → Some (stop_place reason s definitions from) ≡ Some (record { reason = reason; codes = codes; macros = macros; from = from; definitions = definitions })
viewed reason s definitions from codes macros same_codes same_macros =
    ap (λ (c : CodeTables). Some (record { reason = reason; codes = c; macros = s.macros; from = from; definitions = definitions })) (sym same_codes)
    ∙ ap (λ (m : Table). Some (record { reason = reason; codes = codes; macros = m; from = from; definitions = definitions })) (sym same_macros)
