-- What is taken of the tokens that are left.
use Rattle.std.specs.Prelude.{◌≡◌, List, Option, Some, None}
use Rattle.mt_token.specs.declared.token.Token.{Token}
use Rattle.mt_macro.specs.Braces.{Taken}
use Rattle.mt_macro.specs.Arguments.{Arguments}

-- what was taken, if anything, is this argument, and these tokens are left after it
abbrev pub Takes : Option (List Token) → Option Taken → List Token → Type 0
Takes None expected after = expected ≡ None
Takes (Some argument) expected after = expected ≡ Some (record { argument = argument; after = after })

-- the same of several arguments
abbrev pub TakesAll : Option (List (List Token)) → Option Arguments → List Token → Type 0
TakesAll None expected after = expected ≡ None
TakesAll (Some all) expected after = expected ≡ Some (record { arguments = all; after = after })
