-- The tokens of a formula, between its dollars (The TeXbook, chapter 24).
use Rattle.std.specs.Prelude.{ℕ, ◌==◌, Bool, true, false, not, ◌&&◌, ◌||◌, List, [], ◌∷◌, drop, Option, Some, None, if◌then◌else◌}
use Rattle.mt_token.specs.declared.token.Token.{Token}
use Rattle.mt_token.specs.Character.{character_code}
use Rattle.mt_macro.specs.Braces.{Taken, onto, is_close, level_after}

abbrev pub is_math_shift_token : Token → Bool
is_math_shift_token t = character_code t.kind == 36

abbrev pub begins_with_dollar : List Token → Bool
begins_with_dollar [] = false
begins_with_dollar (t ∷ rest) = is_math_shift_token t

-- a display ends at two adjacent dollars, another formula at one
abbrev pub ends_formula : Bool → Token → List Token → Bool
ends_formula display t rest = is_math_shift_token t && (not display || begins_with_dollar rest)

-- the tokens after a formula's end, by those after its first dollar there
abbrev pub after_end : Bool → List Token → List Token
after_end display rest = if display then drop 1 rest else rest

-- a formula up to its end outside of all groups, where so many groups are open; none without an end, or where a }
-- closes no group
abbrev pub up_to_end : Bool → ℕ → List Token → Option Taken
up_to_end display level [] = None
up_to_end display level (t ∷ rest) =
    elim ((level == 0) && is_close t) [
      | true ↦ None
      | false ↦ elim ((level == 0) && ends_formula display t rest) [
        | true ↦ Some (record { argument = []; after = after_end display rest })
        | false ↦ onto t (up_to_end display (level_after level t) rest)
      ]
    ]

-- two adjacent dollars at the start open a display
abbrev pub begins_display : List Token → Bool
begins_display rest = begins_with_dollar rest

-- the formula after its first dollar, and the tokens after its last
abbrev pub between_dollars : List Token → Option Taken
between_dollars rest = if begins_display rest then up_to_end true 0 (drop 1 rest) else up_to_end false 0 rest
