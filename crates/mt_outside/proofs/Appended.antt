-- Rows of appends.
use Rattle.std.proofs.Common.{ℕ, List, [], ◌++◌, sym, ◌∙◌, ap, append_assoc}
use Rattle.std.specs.Prelude.{Option, Some, None}
use Rattle.std.proofs.lemmas.List.{append-nil}
use Rattle.mt_outside.specs.Appends.{Appends}

-- nothing is appended
pub appends_none : (told : Option (List ℕ)) → Appends told told []
appends_none None = tt
appends_none (Some bytes) = sym (append-nil bytes)

-- one append after another
pub appends_more : (before mid now : Option (List ℕ)) (xs ys : List ℕ) → Appends before mid xs → Appends mid now ys → Appends before now (xs ++ ys)
appends_more before mid None xs ys first then = tt
appends_more before None (Some now) xs ys first then = absurd then
appends_more None (Some mid) (Some now) xs ys first then = absurd first
appends_more (Some before) (Some mid) (Some now) xs ys first then = then ∙ ap (λ (l : List ℕ). l ++ ys) first ∙ append_assoc before xs ys
