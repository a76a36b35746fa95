-- What an item is read as where it is put into a list.
use Rattle.std.specs.Prelude.{Option, Some, None}
use Rattle.mt_token.specs.declared.token.Token.{Token}
use Rattle.mt_macro.specs.declared.bodies.Call.{Call}
use Rattle.mt_macro.specs.PlacedExpansion.{Placing}

-- an item of the list that is given as itself, one of a body as its macro's call says
abbrev pub put_as : {T : Type 0} → (T → Token) → Placing → Option (Call T) → T → Token
put_as token placed None = token
put_as token placed (Some call) = λ x. placed (token call.item.now) (token x)
