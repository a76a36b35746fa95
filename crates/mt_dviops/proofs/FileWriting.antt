-- The pieces of a file, written one after another (`file_written`).
use Rattle.std.proofs.Common.{◌≡◌, ℕ, ◌+◌, ◌<◌, ◌≤◌, List, [], ◌++◌, length, sym, ◌∙◌, ap, subst, arith, length-append}
use Rattle.std.specs.Prelude.{ℤ, negsuc}
use Rattle.mt_dviops.specs.declared.totals.Totals.{Totals}
use Rattle.mt_dviops.specs.Source.{SourcePage}
use Rattle.mt_dvi.specs.Encoded.{pre_bytes}
use Rattle.mt_dviops.specs.Result.{last_bop, padding_bytes, pages_bytes, post_of, post_post_bytes}
use Rattle.mt_dviops.specs.inner.Shown.{file_with_totals, front_of, head_of}

pub head_written : (o0 o1 o2 definitions : List ℕ) (mag : ℤ) → o0 ≡ [] → o1 ≡ o0 ++ pre_bytes mag → o2 ≡ o1 ++ definitions → o2 ≡ head_of mag definitions
head_written o0 o1 o2 definitions mag e0 e1 e2 =
    e2 ∙ ap (λ (l : List ℕ). l ++ definitions) (e1 ∙ ap (λ (l : List ℕ). l ++ pre_bytes mag) e0)

pub file_written : (o2 o3 o4 o5 o6 o7 definitions end : List ℕ) (mag last : ℤ) (totals : Totals) (pages : List SourcePage) (count post : ℕ) → o2 ≡ head_of mag definitions
    → o3 ≡ o2 ++ pages_bytes (length o2) (negsuc 0) pages → last ≡ last_bop (length o2) (negsuc 0) pages
    → o4 ≡ o3 ++ post_of mag last totals.tallest totals.widest totals.depth count → count ≡ length pages → o5 ≡ o4 ++ definitions
    → post ≡ length o3 → o6 ≡ o5 ++ post_post_bytes post → end ≡ padding_bytes (length o6) → o7 ≡ o6 ++ end
    → o7 ≡ file_with_totals mag definitions totals pages
unfolding file_with_totals
file_written o2 o3 o4 o5 o6 o7 definitions end mag last totals pages count post s2 e3 el e4 ec e5 ep e6 ee e7 =
    let front = front_of mag definitions pages in
    let bop : ℤ = last_bop (length (head_of mag definitions)) (negsuc 0) pages in
    let t = totals.tallest in
    let w = totals.widest in
    let d = totals.depth in
    let s3 : o3 ≡ front = e3 ∙ ap (λ (l : List ℕ). l ++ pages_bytes (length l) (negsuc 0) pages) s2 in
    let sl : last ≡ bop = el ∙ ap (λ (l : List ℕ). last_bop (length l) (negsuc 0) pages) s2 in
    let s4 : o4 ≡ front ++ post_of mag bop t w d (length pages) =
    e4 ∙ ap (λ (l : List ℕ). l ++ post_of mag last t w d count) s3 ∙ ap (λ (z : ℤ). front ++ post_of mag z t w d count) sl ∙ ap (λ (n : ℕ). front ++ post_of mag bop t w d n) ec in
    let s5 : o5 ≡ front ++ post_of mag bop t w d (length pages) ++ definitions = e5 ∙ ap (λ (l : List ℕ). l ++ definitions) s4 in
    let s6 : o6 ≡ front ++ post_of mag bop t w d (length pages) ++ definitions ++ post_post_bytes (length front) =
    e6 ∙ ap (λ (l : List ℕ). l ++ post_post_bytes post) s5 ∙ ap (λ (n : ℕ). front ++ post_of mag bop t w d (length pages) ++ definitions ++ post_post_bytes n) (ep ∙ ap length s3) in
    e7 ∙ ap (λ (l : List ℕ). o6 ++ l) ee ∙ ap (λ (l : List ℕ). l ++ padding_bytes (length l)) s6

pub front_short : (mag : ℤ) (definitions : List ℕ) (totals : Totals) (pages : List SourcePage) → length (front_of mag definitions pages) ≤ length (file_with_totals mag definitions totals pages)
unfolding file_with_totals
front_short mag definitions totals pages =
    let front = front_of mag definitions pages in
    let post = post_of mag (last_bop (length (head_of mag definitions)) (negsuc 0) pages) totals.tallest totals.widest totals.depth (length pages) in
    let foot = post_post_bytes (length front) in
    let whole = front ++ post ++ definitions ++ foot in
    omega (arith, length-append whole (padding_bytes (length whole)), length-append (front ++ post ++ definitions) foot, length-append (front ++ post) definitions, length-append front post)

-- there is room for the pages
pub pages_fit : (o2 definitions : List ℕ) (mag : ℤ) (totals : Totals) (pages : List SourcePage) → o2 ≡ head_of mag definitions → length (file_with_totals mag definitions totals pages) < 2147483648
    → length o2 + length (pages_bytes (length o2) (negsuc 0) pages) < 4294967296
pages_fit o2 definitions mag totals pages s2 short =
    let head = head_of mag definitions in
    let f = front_short mag definitions totals pages in
    let a = length-append head (pages_bytes (length head) (negsuc 0) pages) in
    let all : length head + length (pages_bytes (length head) (negsuc 0) pages) < 4294967296 = omega (arith, f, a, short) in
    subst (λ (l : List ℕ). length l + length (pages_bytes (length l) (negsuc 0) pages) < 4294967296) (sym s2) all
