-- A document that is read page by page from its source: what becomes of a reader, word by word.
use Rattle.std.proofs.Common.{◌≡◌, ℕ, zero, suc, ◌+◌, ◌-◌, ◌≤◌, ◌<◌, true, false, List, [], ◌∷◌, ◌++◌, length, map, drop, refl, sym, ap, subst, ◌∙◌, arith, append_assoc}
use Rattle.std.specs.Prelude.{Option, Some, None, Result, Ok, Err, ⊤}
use Rattle.std.proofs.lemmas.List.{append-nil, drop-map, drop_all, length-append, length-drop, length-map}
use Rattle.mt_token.specs.declared.token.Token.{Token}
use Rattle.mt_token.specs.declared.token.TokenError.{TokenError}
use Rattle.mt_token.specs.Tokens.{Spanned, Answer, fault_of, max_source, source_tokens}
use Rattle.mt_lexicon.specs.declared.word.Word.{Word}
use Rattle.mt_lexicon.specs.Meaning.{NameTable, token_of}
use Rattle.mt_scaled.specs.declared.unit.Units.{Units}
use Rattle.mt_macro.specs.Table.{Table}
use Rattle.mt_plain.specs.CodeTables.{CodeTables, plain_codes}
use Rattle.mt_rules.specs.declared.document.Formula.{Formula}
use Rattle.mt_reader.specs.declared.document_error.DocError.{DocError}
use Rattle.mt_reader.specs.declared.outside_role.OutsideRole.{OutsideRole}
use Rattle.mt_reader.specs.declared.outside_role.OutsideRole.TheVariants.{Passed}
use Rattle.mt_reader.specs.AheadTurns.{turn_before}
use Rattle.mt_reader.specs.Documents.{DocumentState, DocumentTurn, Goes, Ends, document, outside_role, pages_from, start_state, turn_by}
use Rattle.mt_reader.specs.DocumentTurns.{IsSpent, IsTaken, TakesPage, ends_page, state_of, turn_refusal}
use Rattle.mt_reader.specs.Refusals.{IsRefusal}
use Rattle.mt_reader.specs.SourceFaults.{IsFaultAhead, first_error}
use Rattle.mt_reader.specs.SourceReading.{AreKnown, CanGoOn, GoesOn, IsBeforeFault, IsFaultOf, IsFirst, IsNextPage, IsOver, IsPassed, IsReadOf, IsStillRead, IsTurned, IsUsedUp, KeepsFault, StaysOn, ReadsMore, fault_ahead, front_tokens, left_view, read_state, room, start_view, tokens_ahead, tokens_before}
use Rattle.mt_reader.specs.Sources.{plain_words, word_token}
use Rattle.mt_reader.specs.Views.{ReaderView, SourceView, StateView}
use Rattle.mt_reader.specs.CountedTurns.{last_tokens}
use Rattle.mt_reader.proofs.AheadWords.{behind_ok, known_drop, more_ahead, more_known}
use Rattle.mt_reader.proofs.DocumentLoop.{IsReadTo, at_start, last_none, last_page, pages_with, read_ended, read_more, read_refused, read_taken}
use Rattle.mt_reader.proofs.Going.{IsFurther, go_more, go_same, go_start, go_taken, over_then}
use Rattle.mt_reader.proofs.Sourcing.{lexed}

module _ (units : Units) (tokens : List Token) (read : List (List Formula)) where
  -- what was read, by the tokens that are left
  pub read_to : (r : ReaderView) (rest : List Token) (i : IsReadOf units tokens read r) → i.rest ≡ rest → IsReadTo units tokens read r.state rest
  read_to r rest i e = record {
    turns = i.turns;
    enough = omega (arith, i.enough, ap length e);
    is = i.is ∙ ap (pages_from units (length tokens) i.turns (read_state read r.state)) e;
    ended = i.ended;
  }

  pub read_of : (r : ReaderView) (rest : List Token) → tokens_ahead r ≡ Ok rest → (0 < length rest → r.source.passed + length rest ≡ length tokens) → IsReadTo units tokens read r.state rest → IsReadOf units tokens read r
  read_of r rest ahead whole i = record {
    rest = rest;
    ahead = ahead;
    turns = i.turns;
    enough = i.enough;
    is = i.is;
    whole = whole;
    ended = i.ended;
  }

  -- the same is read, and the same is left
  pub read_again : (old new : ReaderView) → new.state ≡ old.state → tokens_ahead new ≡ tokens_ahead old → new.source.passed ≡ old.source.passed → IsReadOf units tokens read old → IsReadOf units tokens read new
  read_again old new state ahead passed i = record {
    rest = i.rest;
    ahead = ahead ∙ i.ahead;
    turns = i.turns;
    enough = i.enough;
    is = i.is ∙ ap (λ (s : StateView). pages_from units (length tokens) i.turns (read_state read s) i.rest) (sym state);
    whole = λ some. omega (arith, i.whole some, passed);
    ended = i.ended ∙ ap (λ (s : StateView). s.ended) (sym state);
  }

-- more words are ahead
pub read_further : (units : Units) (tokens : List Token) (read : List (List Formula)) (old new : ReaderView) → new.state ≡ old.state → ReadsMore old.names new.names old.source new.source → AreKnown old.names old.source.words
    → IsReadOf units tokens read old → IsReadOf units tokens read new
read_further units tokens read old new state more known i =
    read_again units tokens read old new state (more_ahead old.names new.names old.source new.source more known) more.passed i

pub over_further : (old new : ReaderView) → new.state ≡ old.state → ReadsMore old.names new.names old.source new.source → CanGoOn old → IsOver old new
over_further old new state more can =
    go_same old new can (record {
      known = more_known old.names new.names old.source new.source more can.known;
      whole = omega (arith, more.passed, more.room);
      room = more.room;
    }) state

-- ---- the first word that is ahead

module _ (old new : ReaderView) (role : OutsideRole) (first : IsFirst (Some role) old.names old.source) where
  abbrev tail : List Word
  tail = drop 1 old.source.words

  abbrev after : List Token
  after = map (token_of old.names) tail

  abbrev token : Token
  token = token_of old.names first.0

  words_first : old.source.words ≡ first.0 ∷ tail
  words_first = first.2 ∙ ap (λ (ws : List Word). first.0 ∷ drop 1 ws) (sym first.2)

  front_first : front_tokens old.names old.source ≡ token ∷ after
  front_first = ap (map (token_of old.names)) words_first

  count_first : length old.source.words ≡ length after + 1
  count_first = omega (arith, ap length words_first, length-map tail (token_of old.names))

  -- all but the first are left
  pub pass_first : (length old.source.words - 1 ≤ length after) × (length after ≤ length old.source.words - 1)
  pass_first = (omega (arith, count_first), omega (arith, count_first))

  count_left : (left : ℕ) → left ≤ length after → length old.source.words - left ≡ suc (length after - left)
  count_left left le = omega (arith, count_first, le)

  -- the last words are read as the last tokens
  words_left : (left : ℕ) → left ≤ length after → drop (length old.source.words - left) old.source.words ≡ drop (length after - left) tail
  words_left left le =
      ap (λ (n : ℕ). drop n old.source.words) (count_left left le) ∙ ap (drop (suc (length after - left))) words_first

  front_left : (left : ℕ) → left ≤ length after → map (token_of old.names) (drop (length old.source.words - left) old.source.words) ≡ last_tokens left after
  front_left left le = ap (map (token_of old.names)) (words_left left le) ∙ sym (drop-map (token_of old.names) (length after - left) tail)

  length_left : (left : ℕ) → left ≤ length after → length (last_tokens left after) ≡ left
  length_left left le = omega (arith, length-drop (length after - left) after, le)

  module _ (names : new.names ≡ old.names) where
    -- so many of the words after it are left
    module _ (left : ℕ) (le : left ≤ length after) (source : new.source ≡ left_view left old.source) where
      front_new : front_tokens new.names new.source ≡ last_tokens left after
      front_new =
          ap (λ (n : NameTable). front_tokens n new.source) names
          ∙ (ap (front_tokens old.names) source ∙ front_left left le)

      behind_new : new.source.behind ≡ old.source.behind
      behind_new = ap (λ (s : SourceView). s.behind) source

      passed_new : new.source.passed + left ≡ old.source.passed + (length after + 1)
      passed_new = omega (arith, ap (λ (s : SourceView). s.passed) source, count_first, le)

      words_new : length new.source.words ≡ left
      words_new = omega (arith, ap (λ (s : SourceView). length s.words) source, length-drop (length old.source.words - left) old.source.words, count_first, le)

      room_new : room new.source + (length after + 1) ≡ room old.source + left
      room_new = omega (arith, words_new, ap (λ (s : SourceView). s.unread) source, count_first)

      pub further_left : AreKnown old.names old.source.words → IsFurther old new
      further_left known = record {
        known =
            subst (λ (n : NameTable). AreKnown n new.source.words) (sym names)
            (subst (AreKnown old.names) (sym (ap (λ (s : SourceView). s.words) source)) (known_drop old.names (length old.source.words - left) old.source.words known));
        whole = omega (arith, passed_new, room_new);
        room = omega (arith, room_new, le);
      }

      pub fault_left : fault_ahead new ≡ fault_ahead old
      fault_left = ap fault_of behind_new

      pub falls_left : room new.source < room old.source
      falls_left = omega (arith, room_new, le)

      module _ (units : Units) (tokens : List Token) where
        -- what is read, where this is read of what is left
        read_left : (read later : List (List Formula)) (i : IsReadOf units tokens read old)
            → ((list : List Spanned) → old.source.behind ≡ Ok list → IsReadTo units tokens read old.state (token ∷ (after ++ map word_token list)) → IsReadTo units tokens later new.state (last_tokens left after ++ map word_token list))
            → IsReadOf units tokens later new
        read_left read later i f =
            let found = behind_ok (front_tokens old.names old.source) i.rest old.source.behind i.ahead in
            let more = map word_token found.0 in
            let rest : i.rest ≡ token ∷ (after ++ more) = found.2 ∙ ap (λ (x : List Token). x ++ more) front_first in
            let ahead : tokens_ahead new ≡ Ok (last_tokens left after ++ more) =
            ap (λ (x : List Token). tokens_before x new.source.behind) front_new ∙ ap (tokens_before (last_tokens left after)) (behind_new ∙ found.1) in
            let whole : old.source.passed + length (token ∷ (after ++ more)) ≡ length tokens =
            omega (arith, i.whole (omega (arith, ap length rest)), ap length rest) in
            read_of units tokens later new (last_tokens left after ++ more) ahead
            (λ some. omega (arith, whole, length-append after more, length-append (last_tokens left after) more, length_left left le, passed_new))
            (f found.0 found.1 (read_to units tokens read old (token ∷ (after ++ more)) i rest))

        -- a turn that goes on
        pub read_turned : (read : List (List Formula)) → ends_page role ≡ false
            → ((list : List Spanned) → old.source.behind ≡ Ok list → turn_by units (state_of old.state) (after ++ map word_token list) role ≡ Goes (state_of new.state) (last_tokens left after ++ map word_token list))
            → new.state.ended ≡ old.state.ended → IsReadOf units tokens read old → IsReadOf units tokens read new
        read_turned read goes_on turn ended i =
            read_left read read i (λ list behind at.
            let more = map word_token list in
            read_more units tokens (after ++ more) read old.state token new.state (last_tokens left after ++ more) at
            (ap ends_page (sym first.3) ∙ goes_on)
            (ap (turn_by units (state_of old.state) (after ++ more)) (sym first.3) ∙ turn list behind)
            (omega (arith, length-append after more, length-append (last_tokens left after) more, length_left left le, le))
            ended)

      pub over_turned : (units : Units) (more : List Token) → CanGoOn old → turn_by units (state_of old.state) (after ++ more) role ≡ Goes (state_of new.state) (last_tokens left after ++ more)
          → IsSpent old.state new.state after (last_tokens left after) → IsOver old new
      over_turned units more can turn spent =
          go_more units old new after (last_tokens left after) more role can (further_left can.known) (omega (arith, room_new, length_left left le)) turn spent

      pub read_paged : (units : Units) (tokens : List Token) (read : List (List Formula)) (taken : Option (List Formula)) → length after ≤ left → ends_page role ≡ true → TakesPage taken old.state new.state
          → IsReadOf units tokens read old → IsReadOf units tokens (pages_with read taken) new
      read_paged units tokens read taken all ends takes i =
          let whole : last_tokens left after ≡ after = ap (λ (n : ℕ). drop n after) (let none : length after - left ≡ 0 = omega (arith, all) in none) in
          read_left units tokens read (pages_with read taken) i (λ list behind at.
          subst (λ (x : List Token). IsReadTo units tokens (pages_with read taken) new.state (x ++ map word_token list)) (sym whole)
          (read_taken units tokens (after ++ map word_token list) read old.state token new.state taken at (ap ends_page (sym first.3) ∙ ends) takes))

      -- a word that means nothing is passed
      pub read_passed : (units : Units) (tokens : List Token) (read : List (List Formula)) → length after ≤ left → role ≡ Passed → new.state ≡ old.state
          → IsReadOf units tokens read old → IsReadOf units tokens read new
      read_passed units tokens read all is state i =
          let whole : last_tokens left after ≡ after = ap (λ (n : ℕ). drop n after) (let none : length after - left ≡ 0 = omega (arith, all) in none) in
          read_turned units tokens read (ap ends_page is)
          (λ list behind.
          ap (turn_by units (state_of old.state) (after ++ map word_token list)) is
          ∙ (ap (λ (s : StateView). Goes (state_of s) (after ++ map word_token list)) (sym state)
          ∙ ap (λ (x : List Token). Goes (state_of new.state) (x ++ map word_token list)) (sym whole)))
          (ap (λ (s : StateView). s.ended) state) i

      pub over_passed : CanGoOn old → new.state ≡ old.state → IsOver old new
      over_passed can state = go_same old new can (further_left can.known) state

      pub goes_paged : (taken : Option (List Formula)) → CanGoOn old → TakesPage taken old.state new.state → GoesOn old new (Ok taken)
      goes_paged taken can takes = go_taken old new taken can (further_left can.known) takes

    -- the document ends
    module _ (passed : IsPassed old.source new.source) where
      pub read_over : (units : Units) (tokens : List Token) (read : List (List Formula)) → ends_page role ≡ false
          → ((list : List Spanned) → old.source.behind ≡ Ok list → turn_by units (state_of old.state) (after ++ map word_token list) role ≡ Ends (state_of new.state))
          → new.state ≡ old.state → IsReadOf units tokens read old → IsReadOf units tokens read new
      read_over units tokens read goes_on turn same i =
          let found = behind_ok (front_tokens old.names old.source) i.rest old.source.behind i.ahead in
          let more = map word_token found.0 in
          let rest : i.rest ≡ token ∷ (after ++ more) = found.2 ∙ ap (λ (x : List Token). x ++ more) front_first in
          let ahead : tokens_ahead new ≡ Ok [] =
          ap (λ (x : List Word). tokens_before (map (token_of new.names) x) new.source.behind) passed.none ∙ ap (tokens_before []) passed.end in
          read_of units tokens read new [] ahead (λ some. absurd (omega (arith, some)))
          (read_ended units tokens (after ++ more) read old.state token new.state (read_to units tokens read old (token ∷ (after ++ more)) i rest)
          (ap ends_page (sym first.3) ∙ goes_on) (ap (turn_by units (state_of old.state) (after ++ more)) (sym first.3) ∙ turn found.0 found.1) same)

      room_over : room new.source + (length after + 1) ≤ room old.source
      room_over = omega (arith, ap length passed.none, passed.unread, count_first)

      further_over : IsFurther old new
      further_over = record {
        known = subst (AreKnown new.names) (sym passed.none) tt;
        whole = omega (arith, ap length passed.none, passed.unread, passed.passed);
        room = omega (arith, room_over);
      }

      pub over_over : CanGoOn old → new.state ≡ old.state → IsOver old new
      over_over can same = go_same old new can further_over same

      pub fault_over : fault_ahead new ≡ fault_ahead old
      fault_over = ap fault_of passed.end ∙ sym passed.sound

      pub falls_over : room new.source < room old.source
      falls_over = omega (arith, room_over)

  -- a refusal, unless a fault of the source comes before it
  first_of : (behind : Answer) (list : List Spanned) (error : DocError) → behind ≡ Ok list → first_error (fault_of behind) error ≡ error
  first_of behind list error e = ap (λ (b : Answer). first_error (fault_of b) error) e

  pub read_failed : (units : Units) (tokens : List Token) (read : List (List Formula)) (error : DocError) → ends_page role ≡ false
      → ((more : List Token) → IsRefusal error (turn_refusal (old.source.passed + length old.source.words + length more) (turn_by units (state_of old.state) (after ++ more) role)))
      → IsReadOf units tokens read old → IsRefusal (first_error (fault_of old.source.behind) error) (document units plain_codes plain_words tokens)
  read_failed units tokens read error goes_on is i =
      let found = behind_ok (front_tokens old.names old.source) i.rest old.source.behind i.ahead in
      let more = map word_token found.0 in
      let rest : i.rest ≡ token ∷ (after ++ more) = found.2 ∙ ap (λ (x : List Token). x ++ more) front_first in
      let whole : old.source.passed + length old.source.words + length more ≡ length tokens =
      omega (arith, i.whole (omega (arith, ap length rest)), ap length rest, length-append after more, count_first) in
      subst (λ (e : DocError). IsRefusal e (document units plain_codes plain_words tokens)) (sym (first_of old.source.behind found.0 error found.1))
      (read_refused units tokens (after ++ more) read old.state token error (read_to units tokens read old (token ∷ (after ++ more)) i rest)
      (ap ends_page (sym first.3) ∙ goes_on)
      (subst (IsRefusal error) (ap (turn_refusal (length tokens)) (ap (turn_by units (state_of old.state) (after ++ more)) first.3))
      (subst (λ (n : ℕ). IsRefusal error (turn_refusal n (turn_by units (state_of old.state) (after ++ more) role))) whole (is more))))

  -- of the last words
  pub read_failed_last : (units : Units) (tokens : List Token) (read : List (List Formula)) (error : DocError) → ends_page role ≡ false → old.source.behind ≡ Ok []
      → IsRefusal error (turn_refusal (old.source.passed + length old.source.words) (turn_by units (state_of old.state) after role))
      → IsReadOf units tokens read old → IsRefusal error (document units plain_codes plain_words tokens)
  read_failed_last units tokens read error goes_on end is i =
      let ahead : i.rest ≡ token ∷ after = let h : Ok (front_tokens old.names old.source ++ []) ≡ Ok i.rest = sym (ap (tokens_before (front_tokens old.names old.source)) end) ∙ i.ahead in
      let k : front_tokens old.names old.source ++ [] ≡ i.rest = cc in
      sym k ∙ (append-nil (front_tokens old.names old.source) ∙ front_first) in
      let whole : old.source.passed + length old.source.words ≡ length tokens = omega (arith, i.whole (omega (arith, ap length ahead)), ap length ahead, count_first) in
      read_refused units tokens after read old.state token error (read_to units tokens read old (token ∷ after) i ahead)
      (ap ends_page (sym first.3) ∙ goes_on)
      (subst (IsRefusal error) (ap (turn_refusal (length tokens)) (ap (turn_by units (state_of old.state) after) first.3))
      (subst (λ (n : ℕ). IsRefusal error (turn_refusal n (turn_by units (state_of old.state) after role))) whole is))

-- ---- the last words

no_more : (behind : Answer) (list : List Spanned) → behind ≡ Ok [] → behind ≡ Ok list → list ≡ []
no_more behind list end e = let h : Ok [] ≡ Ok list = sym end ∙ e in cc

module _ (units : Units) (s : DocumentState) (after : List Token) (role : OutsideRole) (behind : Answer) (end : behind ≡ Ok []) where
  all_after : (list : List Spanned) → behind ≡ Ok list → after ++ map word_token list ≡ after
  all_after list e = ap (λ (l : List Spanned). after ++ map word_token l) (no_more behind list end e) ∙ append-nil after

  pub last_goes : (now : DocumentState) (left : List Token) → turn_by units s after role ≡ Goes now left → (list : List Spanned) → behind ≡ Ok list → turn_by units s (after ++ map word_token list) role ≡ Goes now (left ++ map word_token list)
  last_goes now left turn list e =
      ap (λ (x : List Token). turn_by units s x role) (all_after list e)
      ∙ (turn ∙ ap (Goes now) (sym (ap (λ (l : List Spanned). left ++ map word_token l) (no_more behind list end e) ∙ append-nil left)))

  pub last_ends : (now : DocumentState) → turn_by units s after role ≡ Ends now → (list : List Spanned) → behind ≡ Ok list → turn_by units s (after ++ map word_token list) role ≡ Ends now
  last_ends now turn list e = ap (λ (x : List Token). turn_by units s x role) (all_after list e) ∙ turn

-- all words are used, and there are no others
pub passed_all : (old new : SourceView) → old.behind ≡ Ok [] → new ≡ left_view 0 old → IsPassed old new
passed_all old new end source = record {
  sound = ap fault_of end;
  none = ap (λ (s : SourceView). s.words) source ∙ drop_all (length old.words - 0) old.words (omega arith);
  end = ap (λ (s : SourceView). s.behind) source ∙ end;
  unread = omega (arith, ap (λ (s : SourceView). s.unread) source);
  passed = omega (arith, ap (λ (s : SourceView). s.passed) source);
}

-- ---- no word is left

module _ (old new : ReaderView) (used : IsUsedUp old.source) (names : new.names ≡ old.names) (source : new.source ≡ old.source) where
  none_left : tokens_ahead old ≡ Ok []
  none_left = ap (λ (ws : List Word). tokens_before (map (token_of old.names) ws) old.source.behind) used.none ∙ ap (tokens_before []) used.end

  none_new : tokens_ahead new ≡ Ok []
  none_new = ap (λ (s : SourceView). tokens_before (front_tokens new.names s) s.behind) source
      ∙ (ap (λ (n : NameTable). tokens_before (front_tokens n old.source) old.source.behind) names ∙ none_left)

  further_none : AreKnown old.names old.source.words → IsFurther old new
  further_none known = record {
    known = subst (λ (n : NameTable). AreKnown n new.source.words) (sym names) (subst (λ (s : SourceView). AreKnown old.names s.words) (sym source) known);
    whole = omega (arith, ap (λ (s : SourceView). s.passed + room s) source);
    room = omega (arith, ap room source);
  }

  pub read_last : (units : Units) (tokens : List Token) (read : List (List Formula)) (taken : Option (List Formula)) → TakesPage taken old.state new.state
      → IsReadOf units tokens read old → IsNextPage units tokens read new (Ok taken)
  read_last units tokens read (Some page) takes i =
      let rest : i.rest ≡ [] = let h : Ok [] ≡ Ok i.rest = sym none_left ∙ i.ahead in cc in
      read_of units tokens (read ++ page ∷ []) new [] none_new (λ some. absurd (omega (arith, some)))
      (last_page units tokens read old.state new.state page (read_to units tokens read old [] i rest) takes)
  read_last units tokens read None takes i =
      let rest : i.rest ≡ [] = let h : Ok [] ≡ Ok i.rest = sym none_left ∙ i.ahead in cc in (
        last_none units tokens read old.state (read_to units tokens read old [] i rest) takes.0,
        read_again units tokens read old new takes.1 (none_new ∙ sym none_left) (ap (λ (s : SourceView). s.passed) source) i,
      )

  pub goes_last : (taken : Option (List Formula)) → CanGoOn old → TakesPage taken old.state new.state → GoesOn old new (Ok taken)
  goes_last taken can takes = go_taken old new taken can (further_none can.known) takes

  pub sound_last : (cause : TokenError) → fault_ahead old ≡ Some cause → ⊥
  sound_last cause h = let never : None ≡ Some cause = sym (ap fault_of used.end) ∙ h in cc

-- ---- one after another

pub page_turned : (units : Units) (tokens : List Token) (read : List (List Formula)) (new : ReaderView) (taken : Option (List Formula)) → IsReadOf units tokens (pages_with read taken) new → IsTurned units tokens read new (Ok taken)
page_turned units tokens read new (Some page) i = i
page_turned units tokens read new None i = i

pub fault_then : {U : Type 0} (old mid new : ReaderView) (result : Result U DocError) → fault_ahead mid ≡ fault_ahead old → KeepsFault mid new result → KeepsFault old new result
fault_then old mid new (Ok u) e k = k ∙ e
fault_then old mid new (Err error) e k = λ cause h. k cause (e ∙ h)

pub stays_then : {U : Type 0} (old mid new : ReaderView) (result : Result U DocError) → IsOver old mid → StaysOn mid new result → StaysOn old new result
stays_then old mid new (Ok u) one two = over_then old mid new one two
stays_then old mid new (Err error) one two = tt

-- ---- nothing is read

module _ (bytes : List ℕ) (r : ReaderView) (few : length bytes ≤ max_source) (source : r.source ≡ start_view bytes) where
  behind_start : r.source.behind ≡ source_tokens bytes
  behind_start = ap (λ (s : SourceView). s.behind) source ∙ sym (lexed bytes few)

  pub fault_start : fault_ahead r ≡ fault_of (source_tokens bytes)
  fault_start = ap fault_of behind_start

  pub read_start : (units : Units) (list : List Spanned) → source_tokens bytes ≡ Ok list → state_of r.state ≡ start_state plain_codes plain_words → IsReadOf units (map word_token list) [] r
  read_start units list e start =
      let ahead : tokens_ahead r ≡ Ok (map word_token list) =
      ap (λ (s : SourceView). tokens_before (front_tokens r.names s) r.source.behind) source ∙ ap (tokens_before []) (behind_start ∙ e) in
      read_of units (map word_token list) [] r (map word_token list) ahead (λ some. omega (arith, ap (λ (s : SourceView). s.passed) source)) (at_start units (map word_token list) r.state start)

  pub can_start : (codes : CodeTables) (macros : Table) → state_of r.state ≡ start_state codes macros → CanGoOn r
  can_start codes macros start =
      go_start r codes macros start (subst (λ (s : SourceView). AreKnown r.names s.words) (sym source) tt) (ap (λ (s : SourceView). s.passed) source) (omega (arith, ap room source, few))

-- the fault of the source is the answer, whatever else is refused
pub failed_answers : (behind : Answer) (error : DocError) (cause : TokenError) → fault_of behind ≡ Some cause → IsFaultOf cause (first_error (fault_of behind) error)
failed_answers behind error cause h = subst (λ (o : Option TokenError). IsFaultOf cause (first_error o error)) (sym h) refl
