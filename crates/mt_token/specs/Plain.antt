-- Plain characters: bytes that are characters in every state (The TeXbook, chapter 8).
use Rattle.std.specs.Prelude.{◌≡◌, ℕ, ◌+◌, ◌<◌, ◌==◌, Bool, ◌&&◌, ◌||◌, not, List, [], ◌∷◌, Option, Some, None, if◌then◌else◌}
use Rattle.mt_token.specs.declared.token.TokenKind.TheVariants.{Char}
use Rattle.mt_token.specs.Lexemes.{is_visible, begins_with_hat}
use Rattle.mt_token.specs.Tokens.{Answer, before}

-- all that are visible but %, \, ^ and ~; 37 is %, 92 \, 94 ^, 126 ~
abbrev pub is_plain : ℕ → Bool
is_plain b = is_visible b && not ((b == 37) || (b == 92) || (b == 94) || (b == 126))

-- the plain character in front, if one is there; a ^ is one unless another ^ follows it
abbrev pub plain_in_front : List ℕ → Option ℕ
plain_in_front [] = None
plain_in_front (b ∷ rest) = if is_plain b then Some b else if (b == 94) && not (begins_with_hat rest) then Some b else None

-- a step of a cursor over a plain character, by what is ahead of it and its offset before and after, or no step
abbrev pub StepsPlain : Option ℕ → Answer → ℕ → Answer → ℕ → Type 0
StepsPlain (Some c) old from new to = (c < 128) × (old ≡ before (record { kind = Char c; start = from; end = from + 1 } ∷ []) new) × (to ≡ from + 1)
StepsPlain None old from new to = (new ≡ old) × (to ≡ from)
