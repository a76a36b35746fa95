-- A run of pieces put behind all others.
use Rattle.std.proofs.Common.{◌≡◌, ℕ, ◌+◌, min, List, ◌++◌, length, take, drop, append_assoc, length-append, refl, sym, ◌∙◌, ap, arith}
use Rattle.std.proofs.lemmas.List.{take_at, drop_at, drop-drop}

copied_behind : {A : Type 0} (b m a old now : List A) (first count n : ℕ) → old ≡ b ++ (m ++ a) → length b ≡ first → length m ≡ count → n ≡ min first (length old) → now ≡ old ++ take count (drop n old)
    → now ≡ b ++ (m ++ (a ++ m))
copied_behind b m a old now first count n is f k e copied =
    let at : n ≡ first = omega (arith, e, f, ap length is, length-append b (m ++ a)) in
    let run : take count (drop n old) ≡ m = ap (take count) (ap (λ i. drop i old) at ∙ (ap (drop first) is ∙ drop_at b (m ++ a) first f)) ∙ take_at m a count k in
    copied ∙ (rw (run, is) refl ∙ (append_assoc b (m ++ a) m ∙ ap (λ r. b ++ r) (append_assoc m a m)))

pub moved_behind : {A : Type 0} (b m a old copied now : List A) (first count n : ℕ) → old ≡ b ++ (m ++ a) → length b ≡ first → length m ≡ count → n ≡ min first (length old) → copied ≡ old ++ take count (drop n old)
    → now ≡ take first copied ++ drop (first + count) copied → now ≡ b ++ (a ++ m)
moved_behind b m a old copied now first count n is f k e c removed =
    let all : copied ≡ b ++ (m ++ (a ++ m)) = copied_behind b m a old copied first count n is f k e c in
    let front : take first copied ≡ b = ap (take first) all ∙ take_at b (m ++ (a ++ m)) first f in
    let back : drop (first + count) copied ≡ a ++ m =
    sym (drop-drop count first copied) ∙ (ap (λ r. drop count (drop first r)) all ∙ (ap (drop count) (drop_at b (m ++ (a ++ m)) first f) ∙ drop_at m (a ++ m) count k)) in
    removed ∙ rw (front, back) refl
