-- The pages are written one after another (`pages_start`, `pages_next`, `pages_end`).
use Rattle.std.proofs.Common.{◌≡◌, ℕ, ◌+◌, ◌<◌, ◌≤◌, List, [], ◌∷◌, ◌++◌, length, take, drop, get_or, refl, sym, ◌∙◌, ap, subst, arith, append_assoc, length-append}
use Rattle.std.specs.Prelude.{ℤ, pos, negsuc, ◌-◌}
use Rattle.std.proofs.lemmas.List.{append-nil}
use Rattle.mt_dviops.specs.declared.page.PageCopy.{PageCopy}
use Rattle.mt_dviops.specs.Result.{last_bop, page_bytes, pages_bytes}
use Rattle.mt_dviops.specs.inner.Shown.{all_told, told}

-- what is left of the pages makes the whole
pub record PagesLeft (start : List ℕ) (pages : List PageCopy) (out : List ℕ) (last : ℤ) (rest : List PageCopy) : Type 0 where
  pub bytes : out ++ pages_bytes (length out) last (all_told rest) ≡ start ++ pages_bytes (length start) (negsuc 0) (all_told pages)
  pub last_is : last_bop (length out) last (all_told rest) ≡ last_bop (length start) (negsuc 0) (all_told pages)

pub pages_start : (start : List ℕ) (pages : List PageCopy) → PagesLeft start pages start (negsuc 0) pages
pages_start start pages = record { bytes = refl; last_is = refl }

abbrev pub later : List PageCopy → List PageCopy
later rest = take (length rest - 1) (drop 1 rest)

later_is : (x : PageCopy) (xs : List PageCopy) → later (x ∷ xs) ≡ xs
later_is x xs = let e : length (x ∷ xs) - 1 ≡ length xs = omega arith in ap (λ (n : ℕ). take n xs) e ∙ all xs where
  all : (xs : List PageCopy) → take (length xs) xs ≡ xs
  all [] = refl
  all (x ∷ xs) = ap (λ (l : List PageCopy). x ∷ l) (all xs)

pub later_length : (rest : List PageCopy) → 1 ≤ length rest → length (later rest) + 1 ≡ length rest
later_length [] lt = absurd (omega arith)
later_length (x ∷ xs) lt = omega (arith, ap length (later_is x xs))

moved_on : (out new : List ℕ) (last : ℤ) (x : PageCopy) (xs : List PageCopy) → new ≡ out ++ page_bytes last (told x)
    → new ++ pages_bytes (length new) (pos (length out)) (all_told xs) ≡ out ++ pages_bytes (length out) last (all_told (x ∷ xs))
moved_on out new last x xs is =
    let page = page_bytes last (told x) in
    let long : length new ≡ length out + length page = ap length is ∙ length-append out page in
    ap (λ (l : List ℕ). l ++ pages_bytes (length new) (pos (length out)) (all_told xs)) is
    ∙ append_assoc out page (pages_bytes (length new) (pos (length out)) (all_told xs))
    ∙ ap (λ (n : ℕ). out ++ (page ++ pages_bytes n (pos (length out)) (all_told xs))) long

pub pages_next : (start : List ℕ) (pages : List PageCopy) (out new : List ℕ) (last : ℤ) (at : ℕ) (rest : List PageCopy) (d : PageCopy) → 1 ≤ length rest → at ≡ length out
    → new ≡ out ++ page_bytes last (told (get_or rest 0 d)) → PagesLeft start pages out last rest → PagesLeft start pages new (pos at) (later rest)
pages_next start pages out new last at [] d some here is left = absurd (omega arith)
pages_next start pages out new last at (x ∷ xs) d some here is left =
    let long : length new ≡ length out + length (page_bytes last (told x)) = ap length is ∙ length-append out (page_bytes last (told x)) in
    let after : PagesLeft start pages new (pos (length out)) xs = record {
      bytes = moved_on out new last x xs is ∙ left.bytes;
      last_is = ap (λ (n : ℕ). last_bop n (pos (length out)) (all_told xs)) long ∙ left.last_is;
    } in
    subst (λ (n : ℕ). PagesLeft start pages new (pos n) (later (x ∷ xs))) (sym here)
    (subst (PagesLeft start pages new (pos (length out))) (sym (later_is x xs)) after)

-- no page is left
pub record PagesWritten (start : List ℕ) (pages : List PageCopy) (out : List ℕ) (last : ℤ) : Type 0 where
  pub bytes : out ≡ start ++ pages_bytes (length start) (negsuc 0) (all_told pages)
  pub last_is : last ≡ last_bop (length start) (negsuc 0) (all_told pages)

pub pages_end : (start : List ℕ) (pages : List PageCopy) (out : List ℕ) (last : ℤ) (rest : List PageCopy) → length rest < 1 → PagesLeft start pages out last rest → PagesWritten start pages out last
pages_end start pages out last [] lt left = record { bytes = sym (append-nil out) ∙ left.bytes; last_is = left.last_is }
pages_end start pages out last (x ∷ xs) lt left = absurd (omega arith)

-- what is written is not longer than the whole
pub left_short : (start : List ℕ) (pages : List PageCopy) (out : List ℕ) (last : ℤ) (rest : List PageCopy) → PagesLeft start pages out last rest
    → length out ≤ length start + length (pages_bytes (length start) (negsuc 0) (all_told pages))
left_short start pages out last rest left =
    let a = length-append out (pages_bytes (length out) last (all_told rest)) in
    let b = length-append start (pages_bytes (length start) (negsuc 0) (all_told pages)) in
    omega (arith, a, b, ap length left.bytes)
