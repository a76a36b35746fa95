-- Expansions that are known.
use Rattle.std.proofs.Common.{◌≡◌, ℕ, true, List, [], ◌∷◌, refl, arith}
use Rattle.std.specs.Prelude.{Err, Some, codes}
use Rattle.mt_token.specs.declared.token.Token.{Token}
use Rattle.mt_token.specs.declared.token.TokenKind.TheVariants.{Control, Char, Space}
use Rattle.mt_macro.specs.declared.definition.MacroError.TheVariants.{BadParameters}
use Rattle.mt_macro.specs.Braces.{first_unmatched}
use Rattle.mt_macro.specs.Parameters.{first_bad_parameter}
use Rattle.mt_macro.specs.Table.{Table}
use Rattle.mt_macro.specs.Definition.{define}
use Rattle.mt_macro.specs.Expansion.{Expanded, NoArgument, expansion, run}

abbrev control : List ℕ → Token
control name = record { kind = Control name; start = 0; end = 0; ascii = omega arith }

abbrev space : Token
space = record { kind = Space; start = 0; end = 0; ascii = omega arith }

abbrev hash : Token
hash = record { kind = Char 35; start = 0; end = 0; ascii = omega arith }

abbrev two : Token
two = record { kind = Char 50; start = 0; end = 0; ascii = omega arith }

abbrev colon : Token
colon = record { kind = Char 58; start = 0; end = 0; ascii = omega arith }

abbrev left_brace : Token
left_brace = record { kind = Char 123; start = 0; end = 0; ascii = omega arith }

abbrev right_brace : Token
right_brace = record { kind = Char 125; start = 0; end = 0; ascii = omega arith }

-- \x drops its argument, \y stays as it is
abbrev table : Table
table =
    (codes "x", record { own = true; params = 1; body = [] }) ∷
    (codes "y", record { own = true; params = 0; body = control (codes "y") ∷ [] }) ∷ []

-- the argument goes before it is expanded
dropped : expansion table (control (codes "x") ∷ space ∷ control (codes "y") ∷ []) ≡ Expanded []
unfolding run
dropped = refl

missing : expansion table (left_brace ∷ control (codes "x") ∷ space ∷ right_brace ∷ []) ≡ NoArgument 1
unfolding run
missing = refl

-- the body #2 of a macro with one parameter
bad_parameter : define table (codes "x") 1 (hash ∷ two ∷ []) ≡ Err BadParameters
bad_parameter = refl

-- #: is no parameter, however many there are
no_digit : first_bad_parameter 10 (hash ∷ colon ∷ []) ≡ Some 0
no_digit = refl

-- {}{{}
unmatched : first_unmatched 0 (left_brace ∷ right_brace ∷ left_brace ∷ left_brace ∷ right_brace ∷ []) ≡ Some 2
unmatched = refl

-- {}}{
unmatched_close : first_unmatched 0 (left_brace ∷ right_brace ∷ right_brace ∷ left_brace ∷ []) ≡ Some 2
unmatched_close = refl
