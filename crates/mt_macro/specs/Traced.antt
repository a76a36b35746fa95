-- Traced tokens.
use Rattle.std.specs.Prelude.{List, map}
use Rattle.mt_token.specs.declared.token.Token.{Token}
use Rattle.mt_macro.specs.declared.traced.Traced.{Traced}

-- the tokens, without the macros of whose bodies they are
abbrev pub traced_tokens : List Traced → List Token
traced_tokens ts = map (λ (t : Traced). t.token) ts
