-- Macros with bodies of traced tokens.
use Rattle.std.specs.Prelude.{◌≡◌, ℕ, zero, suc, ◌≤◌, ◌^◌, List, [], ◌∷◌, length}
use Rattle.std.specs.declared.vec.Vec.{Vec}
use Rattle.std.specs.Global.{Global}
use Rattle.mt_macro.specs.Table.{Table}
use Rattle.mt_macro.specs.Traced.{traced_tokens}
use Rattle.mt_macro.specs.declared.traced.Traced.{Traced}

-- the tokens of these bodies are those of the macros, in their order
abbrev pub AreTraced : Table → List (Vec Traced Global) → Type 0
AreTraced [] [] = Unit {0}
AreTraced [] (b ∷ bs) = ⊥
AreTraced (e ∷ es) [] = ⊥
AreTraced (e ∷ es) (b ∷ bs) = (traced_tokens b.items ≡ e.1.body) × (length b.items ≤ 2 ^ 32) × AreTraced es bs

-- the body with a number; no tokens where there is none
abbrev pub traced_body : List (Vec Traced Global) → ℕ → List Traced
traced_body [] n = []
traced_body (b ∷ bs) zero = b.items
traced_body (b ∷ bs) (suc n) = traced_body bs n
