-- How many of the items that are ahead a turn leaves.
use Rattle.std.specs.Prelude.{◌≡◌, ℕ, ◌-◌, ◌+◌, ◌≤◌, List, ◌++◌, drop, length, Option, None, Some, Result, Ok, Err, ⊤}
use Rattle.mt_token.specs.declared.token.Token.{Token}
use Rattle.mt_reader.specs.declared.document_error.DocError.{DocError}
use Rattle.mt_reader.specs.declared.counted_turn.CountedTurn.{CountedTurn}
use Rattle.mt_reader.specs.declared.counted_turn.CountedTurn.TheVariants.{Left, Ended, NotEnough}
use Rattle.mt_reader.specs.Documents.{DocumentTurn, Goes, Ends}
use Rattle.mt_reader.specs.DocumentTurns.{IsSpent, state_of, turn_refusal}
use Rattle.mt_reader.specs.Refusals.{IsRefusal}
use Rattle.mt_reader.specs.Views.{StateView}

-- the last ones, so many of them
abbrev pub last_tokens : ℕ → List Token → List Token
last_tokens count tokens = drop (length tokens - count) tokens

-- what is left and the new state are those of this turn, where there are these tokens and then those
abbrev pub IsCountedTurn : Result CountedTurn DocError → StateView → ℕ → List Token → List Token → DocumentTurn → Type 0
IsCountedTurn (Ok (Left left)) new whole tokens more turn = turn ≡ Goes (state_of new) (last_tokens left tokens ++ more)
IsCountedTurn (Ok Ended) new whole tokens more turn = turn ≡ Ends (state_of new)
IsCountedTurn (Ok NotEnough) new whole tokens more turn = ⊤
IsCountedTurn (Err e) new whole tokens more turn = IsRefusal e (turn_refusal (whole + length more) turn)

-- how much was spent
abbrev pub SpendsCounted : Result CountedTurn DocError → StateView → StateView → List Token → Type 0
SpendsCounted (Ok (Left left)) old new tokens = (left ≤ length tokens) × IsSpent old new tokens (last_tokens left tokens)
SpendsCounted (Ok Ended) old new tokens = new ≡ old
SpendsCounted (Ok NotEnough) old new tokens = ⊤
SpendsCounted (Err e) old new tokens = ⊤

-- nothing is changed where items are wanting
abbrev pub SameWhereWanting : {S : Type 0} → Result CountedTurn DocError → S → S → Type 0
SameWhereWanting (Ok (Left left)) old new = ⊤
SameWhereWanting (Ok Ended) old new = ⊤
SameWhereWanting (Ok NotEnough) old new = new ≡ old
SameWhereWanting (Err e) old new = ⊤

-- what a turn of the last items leaves
abbrev pub counted : Option ℕ → CountedTurn
counted None = Ended
counted (Some left) = Left left

abbrev pub IsLastTurn : Result (Option ℕ) DocError → StateView → ℕ → List Token → DocumentTurn → Type 0
IsLastTurn (Ok (Some left)) new whole tokens turn = turn ≡ Goes (state_of new) (last_tokens left tokens)
IsLastTurn (Ok None) new whole tokens turn = turn ≡ Ends (state_of new)
IsLastTurn (Err e) new whole tokens turn = IsRefusal e (turn_refusal whole turn)

abbrev pub SpendsLast : Result (Option ℕ) DocError → StateView → StateView → List Token → Type 0
SpendsLast (Ok (Some left)) old new tokens = (left ≤ length tokens) × IsSpent old new tokens (last_tokens left tokens)
SpendsLast (Ok None) old new tokens = new ≡ old
SpendsLast (Err e) old new tokens = ⊤
