-- A document that is read page by page from its source, by what contracts see of its reader.
use Rattle.std.specs.Prelude.{◌≡◌, ℕ, ◌+◌, ◌-◌, ◌*◌, ◌≤◌, ◌<◌, ◌^◌, List, [], ◌∷◌, ◌++◌, drop, length, map, All, Option, Some, None, Result, Ok, Err, ⊤}
use Rattle.mt_token.specs.declared.token.Token.{Token}
use Rattle.mt_token.specs.declared.token.TokenError.{TokenError}
use Rattle.mt_token.specs.declared.lexeme.State.TheVariants.{New}
use Rattle.mt_token.specs.Tokens.{Answer, fault_of, lex, max_source}
use Rattle.mt_lexicon.specs.declared.word.Word.{Word}
use Rattle.mt_lexicon.specs.Meaning.{NameTable, Extends, Known, token_of}
use Rattle.mt_tables.specs.Reading.{AddsWords}
use Rattle.mt_scaled.specs.declared.unit.Units.{Units}
use Rattle.mt_plain.specs.CodeTables.{plain_codes}
use Rattle.mt_rules.specs.declared.document.Formula.{Formula}
use Rattle.mt_reader.specs.declared.document_error.DocError.{DocError}
use Rattle.mt_reader.specs.declared.document_error.DocError.TheVariants.{Source, OutOfMemory}
use Rattle.mt_reader.specs.declared.outside_role.OutsideRole.{OutsideRole}
use Rattle.mt_reader.specs.Documents.{DocumentState, document, outside_role, pages_from, state_pages}
use Rattle.mt_reader.specs.DocumentTurns.{state_of, state_weight}
use Rattle.mt_reader.specs.Limits.{max_document_pages, max_total_tokens}
use Rattle.mt_reader.specs.Refusals.{IsRefusal}
use Rattle.mt_reader.specs.Sources.{plain_words, word_token}
use Rattle.mt_reader.specs.Views.{StateView, SourceView, ReaderView}
use Rattle.mt_reader.specs.Weights.{HasModestLists, page_weight}

-- these tokens, and behind them those of a source, or its fault
abbrev pub tokens_before : List Token → Answer → Result (List Token) TokenError
tokens_before front (Ok list) = Ok (front ++ map word_token list)
tokens_before front (Err cause) = Err cause

-- the tokens of the words that are ahead
abbrev pub front_tokens : NameTable → SourceView → List Token
front_tokens names s = map (token_of names) s.words

-- the tokens that are left, or the fault of the source
abbrev pub tokens_ahead : ReaderView → Result (List Token) TokenError
tokens_ahead r = tokens_before (front_tokens r.names r.source) r.source.behind

-- the fault of the source, if it has one
abbrev pub fault_ahead : ReaderView → Option TokenError
fault_ahead r = fault_of r.source.behind

-- the names of words are there
abbrev pub AreKnown : NameTable → List Word → Type 0
AreKnown names [] = ⊤
AreKnown names (w ∷ ws) = Known names w × AreKnown names ws

-- at least as many as the tokens that are left: the words that are ahead, and the bytes that are not read
abbrev pub room : SourceView → ℕ
room s = length s.words + s.unread

-- no word is read
abbrev pub start_view : List ℕ → SourceView
start_view bytes = record { words = []; behind = lex New 0 0 bytes; unread = length bytes; passed = 0 }

-- so many of the words that are ahead are left
abbrev pub left_view : ℕ → SourceView → SourceView
left_view left s =
    let used = length s.words - left in
    record { words = drop used s.words; behind = s.behind; unread = s.unread; passed = s.passed + used }

-- more words are read ahead
pub record ReadsMore (before later : NameTable) (old new : SourceView) : Type 0 where
  pub names : Extends before later
  pub adds : AddsWords later old.words old.behind new.words new.behind
  pub room : room new ≤ room old
  pub passed : new.passed ≡ old.passed

-- no more words come
pub record IsLast (old new : SourceView) : Type 0 where
  pub end : new.behind ≡ Ok []
  pub words : length new.words ≤ length old.words

-- all that is left is passed, and it had no fault
pub record IsPassed (old new : SourceView) : Type 0 where
  pub sound : fault_of old.behind ≡ None
  pub none : new.words ≡ []
  pub end : new.behind ≡ Ok []
  pub unread : new.unread ≤ old.unread
  pub passed : new.passed ≡ old.passed + length old.words

-- what is left to be read: the room, and the formulas of the page that is not ended, twice
abbrev pub left_to_read : ReaderView → ℕ
left_to_read r = 2 * state_weight r.state + room r.source

-- what has been read, with the pages that were handed out
abbrev pub read_state : List (List Formula) → StateView → DocumentState
read_state read s = record (state_of s) { pages = read }

-- these pages of the document that the tokens make were handed out
pub record IsReadOf (units : Units) (tokens : List Token) (read : List (List Formula)) (r : ReaderView) : Type 0 where
  pub rest : List Token
  pub ahead : tokens_ahead r ≡ Ok rest
  pub turns : ℕ
  pub enough : length rest ≤ turns
  pub is : document units plain_codes plain_words tokens ≡ pages_from units (length tokens) turns (read_state read r.state) rest
  pub whole : 0 < length rest → r.source.passed + length rest ≡ length tokens
  pub ended : length read ≡ r.state.ended

-- bounds, within which a reader reads on
pub record CanGoOn (r : ReaderView) : Type 0 where
  pub known : AreKnown r.names r.source.words
  pub whole : r.source.passed + room r.source ≤ max_source
  pub left : left_to_read r ≤ max_source
  pub count : r.state.count + room r.source ≤ max_source
  pub total : r.state.total ≤ max_total_tokens
  pub pages : length (state_pages (state_of r.state)) ≤ max_document_pages
  pub modest : All HasModestLists r.state.page

-- a page: it is modest and not too long, and so much less is left to be read than before
pub record IsBounded (old new : ReaderView) (page : List Formula) : Type 0 where
  pub modest : All HasModestLists page
  pub few : page_weight page ≤ 2 ^ 21
  pub falls : left_to_read new < left_to_read old
  pub weight : 2 * page_weight page + left_to_read new ≤ left_to_read old
  pub ended : new.state.ended ≡ old.state.ended + 1
  pub pages : new.state.ended ≤ max_document_pages
  pub more : CanGoOn new

pub record IsOver (old new : ReaderView) : Type 0 where
  pub falls : left_to_read new ≤ left_to_read old
  pub ended : new.state.ended ≡ old.state.ended
  pub more : CanGoOn new

-- what a reader leaves
abbrev pub GoesOn : ReaderView → ReaderView → Result (Option (List Formula)) DocError → Type 0
GoesOn old new (Ok (Some page)) = IsBounded old new page
GoesOn old new (Ok None) = IsOver old new
GoesOn old new (Err e) = ⊤

-- a page more, or there are no more, or the document is refused
abbrev pub IsNextPage : Units → List Token → List (List Formula) → ReaderView → Result (Option (List Formula)) DocError → Type 0
IsNextPage units tokens read new (Ok (Some page)) = IsReadOf units tokens (read ++ page ∷ []) new
IsNextPage units tokens read new (Ok None) = (document units plain_codes plain_words tokens ≡ Ok read) × IsReadOf units tokens read new
IsNextPage units tokens read new (Err e) = IsRefusal e (document units plain_codes plain_words tokens)

-- this fault of a source, or memory ran out
abbrev pub IsFaultOf : TokenError → DocError → Type 0
IsFaultOf cause (Source e) = e ≡ cause
IsFaultOf cause OutOfMemory = ⊤
IsFaultOf cause e = ⊥

-- where the source has this fault: a page that is before it, or the fault; never the end
abbrev pub IsBeforeFault : TokenError → ReaderView → Result (Option (List Formula)) DocError → Type 0
IsBeforeFault cause new (Ok (Some page)) = fault_ahead new ≡ Some cause
IsBeforeFault cause new (Ok None) = ⊥
IsBeforeFault cause new (Err e) = IsFaultOf cause e

-- where the source has this fault, it is the result, or memory ran out
abbrev pub IsRefusedAt : TokenError → Result (List (List Formula)) DocError → Type 0
IsRefusedAt cause (Ok pages) = ⊥
IsRefusedAt cause (Err e) = IsFaultOf cause e

-- ---- what the parts of a reader leave

-- these pages of the document are still those that were handed out, or it is refused
abbrev pub IsStillRead : {U : Type 0} → Units → List Token → List (List Formula) → ReaderView → Result U DocError → Type 0
IsStillRead units tokens read new (Ok u) = IsReadOf units tokens read new
IsStillRead units tokens read new (Err e) = IsRefusal e (document units plain_codes plain_words tokens)

-- after a token: a page more, or none yet
abbrev pub IsTurned : Units → List Token → List (List Formula) → ReaderView → Result (Option (List Formula)) DocError → Type 0
IsTurned units tokens read new (Ok (Some page)) = IsReadOf units tokens (read ++ page ∷ []) new
IsTurned units tokens read new (Ok None) = IsReadOf units tokens read new
IsTurned units tokens read new (Err e) = IsRefusal e (document units plain_codes plain_words tokens)

-- the fault of the source is still ahead, or it is the answer
abbrev pub KeepsFault : {U : Type 0} → ReaderView → ReaderView → Result U DocError → Type 0
KeepsFault old new (Ok u) = fault_ahead new ≡ fault_ahead old
KeepsFault old new (Err e) = (cause : TokenError) → fault_ahead old ≡ Some cause → IsFaultOf cause e

-- within bounds, with no page more
abbrev pub StaysOn : {U : Type 0} → ReaderView → ReaderView → Result U DocError → Type 0
StaysOn old new (Ok u) = IsOver old new
StaysOn old new (Err e) = ⊤

-- no word and no byte is left
pub record IsUsedUp (s : SourceView) : Type 0 where
  pub none : s.words ≡ []
  pub end : s.behind ≡ Ok []

-- the first word that is ahead, if there is one, is this outside of formulas; else the source is at its end
abbrev pub IsFirst : Option OutsideRole → NameTable → SourceView → Type 0
IsFirst (Some role) names s = (w : Word) × (ws : List Word) × (s.words ≡ w ∷ ws) × (role ≡ outside_role (token_of names w).kind)
IsFirst None names s = IsUsedUp s
