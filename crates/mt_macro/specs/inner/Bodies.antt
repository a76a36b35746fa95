-- The parameters of a body.
use Rattle.std.specs.Prelude.{ℕ, Bool, true, false, not, ◌&&◌, List, [], ◌∷◌, Option, Some}
use Rattle.std.specs.Prelude.{None, if◌then◌else◌}
use Rattle.mt_token.specs.declared.token.Token.{Token}
use Rattle.mt_macro.specs.Braces.{index_after_first}
use Rattle.mt_macro.specs.Parameters.{is_hash}

abbrev pub has_no_token : List Token → Bool
has_no_token [] = true
has_no_token (t ∷ ts) = false

-- a # before another token
abbrev pub begins_parameter : Token → List Token → Bool
begins_parameter t rest = is_hash t && not (has_no_token rest)

-- the index of the first such #
abbrev pub next_parameter : List Token → Option ℕ
next_parameter [] = None
next_parameter (t ∷ rest) = if begins_parameter t rest then Some 0 else index_after_first (next_parameter rest)
