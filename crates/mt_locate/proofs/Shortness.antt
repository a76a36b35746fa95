-- A source has at most as many tokens as bytes.
use Rattle.std.proofs.Common.{ℕ, ◌+◌, ◌≤◌, ◌<◌, List, [], ◌∷◌, length, arith}
use Rattle.mt_token.specs.declared.token.Token.{Token}
use Rattle.mt_token.specs.Tokens.{SpansInOrder, max_source}

spans_length : (from to : ℕ) (list : List Token) → SpansInOrder from list to → from + length list ≤ to
spans_length from to [] h = omega (arith, h)
spans_length from to (t ∷ ts) h = omega (arith, h.0, h.1, spans_length t.end to ts h.2)

pub tokens_few : (size : ℕ) (list : List Token) → SpansInOrder 0 list size → (max_source < size → ⊥) → length list ≤ max_source
tokens_few size list h few = omega (arith, spans_length 0 size list h, few)
