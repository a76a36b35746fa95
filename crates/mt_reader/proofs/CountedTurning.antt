-- What a turn leaves, counted.
use Rattle.std.proofs.Common.{◌≡◌, ℕ, ◌+◌, ◌-◌, ◌≤◌, List, [], ◌++◌, length, map, refl, sym, ap, subst, ◌∙◌, arith}
use Rattle.std.specs.Prelude.{Some, Ok}
use Rattle.std.proofs.lemmas.List.{append-nil, length-map}
use Rattle.mt_token.specs.declared.token.Token.{Token}
use Rattle.mt_scaled.specs.declared.unit.Units.{Units}
use Rattle.mt_reader.specs.declared.document_turn.AfterTurn.{AfterTurn}
use Rattle.mt_reader.specs.declared.document_turn.AfterTurn.TheVariants.{Left, Ended}
use Rattle.mt_reader.specs.declared.outside_role.OutsideRole.{OutsideRole}
use Rattle.mt_reader.specs.AheadTurns.{MeetsAhead, left_items}
use Rattle.mt_reader.specs.Documents.{DocumentState, DocumentTurn, Goes, turn_by}
use Rattle.mt_reader.specs.DocumentTurns.{IsSpent, MeetsTurn, Spends, state_of}
use Rattle.mt_reader.specs.Views.{StateView}
use Rattle.mt_reader.specs.CountedTurns.{IsLastTurn, IsCountedTurn, SpendsLast, SpendsCounted, last_tokens, counted}
use Rattle.mt_reader.proofs.Ending.{turn_ends}

module _ {T : Type 0} (token : T → Token) (units : Units) (s : DocumentState) (old new : StateView) (whole : ℕ) (role : OutsideRole) (tokens : List Token) where
  -- the words that are left are read as the last tokens
  last_words : (words : List T) → turn_by units s tokens role ≡ Goes (state_of new) (map token words) → map token words ≡ last_tokens (length words) tokens
  last_words words turn =
      turn_ends units s (state_of new) tokens (map token words) role turn ∙ ap (λ (n : ℕ). last_tokens n tokens) (length-map words token)

  here : (words : List T) → turn_by units s (tokens ++ []) role ≡ Goes (state_of new) (map token words ++ []) → turn_by units s tokens role ≡ Goes (state_of new) (map token words)
  here words turn =
      ap (λ (x : List Token). turn_by units s x role) (sym (append-nil tokens)) ∙ (turn ∙ ap (Goes (state_of new)) (append-nil (map token words)))

  pub words_turn : (after : AfterTurn T) → ((more : List Token) → MeetsAhead token (Ok (Some after)) new whole more (turn_by units s (tokens ++ more) role))
      → (more : List Token) → IsCountedTurn (Ok (counted (left_items after))) new whole tokens more (turn_by units s (tokens ++ more) role)
  words_turn (Left rest) m more = m more ∙ ap (λ (x : List Token). Goes (state_of new) (x ++ more)) (last_words rest.now (here rest.now (m [])))
  words_turn Ended m more = m more

  spent : (words : List T) → turn_by units s tokens role ≡ Goes (state_of new) (map token words) → IsSpent old new tokens (map token words) → (length words ≤ length tokens) × IsSpent old new tokens (last_tokens (length words) tokens)
  spent words turn h = (omega (arith, h.falls, length-map words token), subst (IsSpent old new tokens) (last_words words turn) h)

  pub words_spent : (after : AfterTurn T) → ((more : List Token) → MeetsAhead token (Ok (Some after)) new whole more (turn_by units s (tokens ++ more) role))
      → Spends token (Ok after) old new tokens → SpendsCounted (Ok (counted (left_items after))) old new tokens
  words_spent (Left rest) m h = spent rest.now (here rest.now (m [])) h
  words_spent Ended m h = h

  pub last_turn : (after : AfterTurn T) → MeetsTurn token (Ok after) new whole (turn_by units s tokens role) → IsLastTurn (Ok (left_items after)) new whole tokens (turn_by units s tokens role)
  last_turn (Left rest) m = m ∙ ap (Goes (state_of new)) (last_words rest.now m)
  last_turn Ended m = m

  pub last_spent : (after : AfterTurn T) → MeetsTurn token (Ok after) new whole (turn_by units s tokens role) → Spends token (Ok after) old new tokens → SpendsLast (Ok (left_items after)) old new tokens
  last_spent (Left rest) m h = spent rest.now m h
  last_spent Ended m h = h
