-- A token whose name is lent, as a token of the definitions, and what a step of a cursor gives.
use Rattle.std.specs.Prelude.{◌≡◌, ℕ, ◌<◌, ◌≤◌, [], ◌∷◌, Option, Some, None, Result, Ok, Err}
use Rattle.mt_token.specs.declared.token.Token.{Token}
use Rattle.mt_token.specs.declared.token.TokenError.{TokenError}
use Rattle.mt_token.specs.Errors.{IsByteError}
use Rattle.mt_token.specs.LentKinds.{owned_kind}
use Rattle.mt_token.specs.declared.lent.LentToken.{LentToken}
use Rattle.mt_token.specs.declared.lexeme.LentLexeme.{LentLexeme}
use Rattle.mt_token.specs.declared.lexeme.LentLexeme.TheVariants.{Passed as LentPassed, Made as LentMade, AtFault as LentAtFault}
use Rattle.mt_token.specs.Lexemes.{Lexeme, Passed, Made, AtFault}
use Rattle.mt_token.specs.Tokens.{Answer, before, spanned}

-- the token of this kind and this span, with a name of its own
abbrev pub owned_token : LentToken → Token
owned_token t = record { kind = owned_kind t.kind; start = t.start; end = t.end; ascii = t.ascii }

-- the lexeme in front, with a name of its own
abbrev pub owned_lexeme : LentLexeme → Lexeme
owned_lexeme (LentPassed count state) = Passed count state
owned_lexeme (LentMade kind count state) = Made (owned_kind kind) count state
owned_lexeme (LentAtFault cause on) = AtFault cause on

-- a step of a cursor, by what is ahead of it before and after: the next token, the end, or the fault, which is ahead
-- then too
abbrev pub Steps : Result (Option LentToken) TokenError → Answer → Answer → Type 0
Steps (Ok (Some t)) old new = old ≡ before (spanned (owned_token t) ∷ []) new
Steps (Ok None) old new = (old ≡ Ok []) × (new ≡ Ok [])
Steps (Err e) old new = (old ≡ Err e) × (new ≡ Err e)

-- a token is not empty, begins at an offset or after it, and ends at another
abbrev pub Spans : Result (Option LentToken) TokenError → ℕ → ℕ → Type 0
Spans (Ok (Some t)) from to = (from ≤ t.start) × (t.start < t.end) × (t.end ≡ to)
Spans (Ok None) from to = from ≤ to
Spans (Err e) from to = Unit {0}

-- a fault is one of a byte
abbrev pub IsOfByte : Result (Option LentToken) TokenError → Type 0
IsOfByte (Ok found) = Unit {0}
IsOfByte (Err error) = IsByteError error
