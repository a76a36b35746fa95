-- Where lists leave the group in which they are.
use Rattle.std.specs.Prelude.{◌≡◌, ℕ, ◌+◌, ◌<◌, ◌≤◌, List, ◌++◌, length, Some}
use Rattle.std.specs.Option.{option_map}
use Rattle.mt_token.specs.declared.token.Token.{Token}
use Rattle.mt_macro.specs.inner.Ends.{end_index}
use Rattle.mt_macro.specs.declared.closing.Closing.{Closing}
use Rattle.mt_macro.specs.declared.closing.Closing.TheVariants.{At, Open}

-- the group in which the tokens are ends at this index, or goes on after them with so many groups open inside
abbrev pub Closes : ℕ → List Token → Closing → Type 0
Closes level tokens (At index) = (index < length tokens) × (end_index level tokens ≡ Some index)
Closes level tokens (Open next) =
    (next ≤ level + length tokens)
    × ((more : List Token) → end_index level (tokens ++ more) ≡ option_map (λ (p : ℕ). p + length tokens) (end_index next more))
