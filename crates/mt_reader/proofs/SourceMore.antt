-- More words of a source are read, or they are not.
use Rattle.std.proofs.Common.{◌≡◌, ℕ, ◌≤◌, ◌<◌, Bool, false, List, [], ◌∷◌, refl, sym, ap, ◌∙◌, arith, length, map}
use Rattle.std.specs.Prelude.{Option, Some, Result, Ok, Err, IfErr, IfOk, IsTrue, OnOk}
use Rattle.mt_token.specs.declared.token.Token.{Token}
use Rattle.mt_scaled.specs.declared.unit.Units.{Units}
use Rattle.mt_plain.specs.CodeTables.{plain_codes}
use Rattle.mt_rules.specs.declared.document.Formula.{Formula}
use Rattle.mt_reader.specs.declared.document_error.DocError.{DocError}
use Rattle.mt_reader.specs.declared.outside_role.OutsideRole.{OutsideRole}
use Rattle.mt_reader.specs.Documents.{document}
use Rattle.mt_reader.specs.SourceFaults.{IsFaultAhead}
use Rattle.mt_reader.specs.SourceReading.{AreKnown, CanGoOn, IsFirst, IsLast, IsReadOf, IsStillRead, IsUsedUp, KeepsFault, ReadsMore, StaysOn, fault_ahead, front_tokens, room}
use Rattle.mt_reader.specs.Sources.{plain_words}
use Rattle.mt_reader.specs.Views.{ReaderView}
use Rattle.mt_reader.proofs.AheadWords.{fault_answers, fault_refuses, more_fault, more_first}
use Rattle.mt_reader.proofs.SourceLoop.{over_further, read_further}

empty_list : {A : Type 0} (xs : List A) → length xs ≤ 0 → xs ≡ []
empty_list [] h = refl
empty_list (x ∷ xs) h = absurd (omega (arith, h))

-- what is answered where words are wanted
abbrev pub Reads : Result Bool DocError → ReaderView → ReaderView → Type 0
Reads result old new = OnOk result (ReadsMore old.names new.names old.source new.source)

abbrev pub Fails : Result Bool DocError → ReaderView → Type 0
Fails result old = IfErr result (λ (e : DocError). IsFaultAhead e old.source.behind)

module _ (old new : ReaderView) (state : new.state ≡ old.state) where
  pub more_read : (units : Units) (tokens : List Token) (read : List (List Formula)) (result : Result Bool DocError) → Reads result old new → Fails result old → AreKnown old.names old.source.words
      → IsReadOf units tokens read old → IsStillRead units tokens read new result
  more_read units tokens read (Ok some) r f known i = read_further units tokens read old new state r known i
  more_read units tokens read (Err e) r f known i =
      fault_refuses e (front_tokens old.names old.source) i.rest old.source.behind (document units plain_codes plain_words tokens) f i.ahead

  pub more_keeps : (result : Result Bool DocError) → Reads result old new → Fails result old → KeepsFault old new result
  more_keeps (Ok some) r f = more_fault old.names new.names old.source new.source r
  more_keeps (Err e) r f = λ cause h. fault_answers e old.source.behind cause f h

  pub more_stays : (result : Result Bool DocError) → Reads result old new → CanGoOn old → StaysOn old new result
  more_stays (Ok some) r can = over_further old new state r can
  more_stays (Err e) r can = tt

  pub more_room : (result : Result Bool DocError) → Reads result old new → OnOk result (room new.source ≤ room old.source)
  more_room (Ok some) r = r.room
  more_room (Err e) r = tt

  pub more_role : (role : OutsideRole) (result : Result Bool DocError) → Reads result old new → AreKnown old.names old.source.words → IsFirst (Some role) old.names old.source
      → OnOk result (IsFirst (Some role) new.names new.source)
  more_role role (Ok some) r known f = more_first old.names new.names old.source new.source r role known f
  more_role role (Err e) r known f = tt

no_words : (old new : ReaderView) → old.source.words ≡ [] → IsLast old.source new.source → IsUsedUp new.source
no_words old new none last = record { none = empty_list new.source.words (omega (arith, last.words, ap length none)); end = last.end }

-- no word was ahead, and none comes
pub none_more : (old new : ReaderView) (result : Result Bool DocError) → old.source.words ≡ [] → IfOk result (λ some. some ≡ false → IsLast old.source new.source) → IfOk result (λ some. some ≡ false → IsUsedUp new.source)
none_more old new (Ok some) none h = λ e. no_words old new none (h e)
none_more old new (Err e) none h = tt
