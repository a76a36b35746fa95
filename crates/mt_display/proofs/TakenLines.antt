-- Lines put on a stack one after another, and taken off it.
use Rattle.std.proofs.Common.{Bool, true, false, true≢false, ◌==◌, ◌≡◌, ℕ, ◌≤◌, ◌<◌, ◌+◌, ◌^◌, ℤ, List, [], ◌∷◌, ◌++◌, length, take, get_or, refl, sym, ◌∙◌, ap, arith, All}
use Rattle.mt_display.proofs.Common.{Decides-eqb, take_more, All-cons, All-head, All-map, All-nil, All-tail, Within, Setting, LineStack, IsStack, MoreLines, line_shifts, LineValue, LinesFit, line_value, line_values}
use Rattle.mt_display.specs.declared.line.Line.{Line as LineFields}

pub lines_length : (ls : List LineFields) → length (line_values ls) ≡ length ls
lines_length [] = refl
lines_length (l ∷ ls) = omega (arith, lines_length ls)

-- ---- put

values_more : (ls ms : List LineFields) → line_values (ls ++ ms) ≡ line_values ls ++ line_values ms
values_more [] ms = refl
values_more (l ∷ ls) ms = ap (λ vs. line_value l ∷ vs) (values_more ls ms)

pub one_more_put : (ls : List LineFields) (n : ℕ) (l : LineFields) → n < length ls → l ≡ get_or ls n l → line_values (take (n + 1) ls) ≡ line_values (take n ls) ++ line_value l ∷ []
one_more_put ls n l h e =
    ap line_values (take_more ls n l h ∙ ap (λ x. take n ls ++ x ∷ []) (sym e)) ∙ values_more (take n ls) (l ∷ [])

pub small_values : (ls : List LineFields) → All (λ (l : LineFields). Within (2 ^ 40) l.shift) ls → All (λ (l : LineValue). Within (2 ^ 40) l.shift) (line_values ls)
small_values [] small = All-nil (λ (l : LineValue). Within (2 ^ 40) l.shift)
small_values (l ∷ ls) small =
    let P = λ (k : LineFields). Within (2 ^ 40) k.shift in
    All-cons (λ (k : LineValue). Within (2 ^ 40) k.shift) (line_value l) (line_values ls) (All-head P l ls small) (small_values ls (All-tail P l ls small))

pub small_shifts : (ls : List LineFields) → All (λ (l : LineFields). Within (2 ^ 40) l.shift) ls → All (λ (x : ℤ). Within (2 ^ 40) x) (line_shifts (line_values ls))
small_shifts ls small = All-map (λ (x : ℤ). Within (2 ^ 40) x) (λ (l : LineValue). l.shift) (line_values ls) (small_values ls small)

-- ---- taken

pub none_left : (xs : List ℤ) (n : ℕ) (b : Bool) → b ≡ (n == 0) → b ≡ true → n ≡ length xs → xs ≡ []
none_left [] n b e t k = refl
none_left (x ∷ xs) n b e t k = absurd (omega (arith, (Decides-eqb n 0).0 (sym e ∙ t), k))

pub some_left : (xs : List ℤ) (n : ℕ) (b : Bool) → b ≡ (n == 0) → b ≡ false → n ≡ length xs → 1 ≤ length xs
some_left [] n b e f k = absurd (true≢false (sym ((Decides-eqb n 0).1 k) ∙ (sym e ∙ f)))
some_left (x ∷ xs) n b e f k = omega arith

-- what the call that takes the last line ensures
abbrev pub TakesLine : LineStack → LineFields → Type 0
TakesLine old taken = (lines : List LineValue) (l : LineValue) → IsStack (lines ++ l ∷ []) [] old → line_value taken ≡ l

abbrev pub LeavesLines : LineStack → LineStack → Type 0
LeavesLines old new = (lines : List LineValue) (l : LineValue) → IsStack (lines ++ l ∷ []) [] old → IsStack lines [] new

pub one_taken : (lines : List LineValue) (old new : LineStack) (last : LineFields) → IsStack lines [] old → 1 ≤ length lines → length lines ≤ 2 → TakesLine old last → LeavesLines old new → new.shifts.items ≡ [] → line_values (last ∷ []) ≡ lines
one_taken [] old new last is some few h k none = absurd (omega (arith, some))
one_taken (l ∷ []) old new last is some few h k none = ap (λ v. v ∷ []) (h [] l is)
one_taken (l ∷ m ∷ []) old new last is some few h k none =
    let there : l.shift ∷ [] ≡ [] = sym (k (l ∷ []) m is).shifts ∙ none in
    absurd (cc)
one_taken (l ∷ m ∷ n ∷ ls) old new last is some few h k none = absurd (omega (arith, few))

pub two_taken : (lines : List LineValue) (old new : LineStack) (first last : LineFields) → IsStack lines [] old → 1 ≤ length lines → length lines ≤ 2 → TakesLine old last → LeavesLines old new → 1 ≤ length new.shifts.items → TakesLine new first
    → line_values (first ∷ last ∷ []) ≡ lines
two_taken [] old new first last is some few h k one t = absurd (omega (arith, some))
two_taken (l ∷ []) old new first last is some few h k one t = absurd (omega (arith, one, ap length (k [] l is).shifts))
two_taken (l ∷ m ∷ []) old new first last is some few h k one t = rw (t [] l (k (l ∷ []) m is), h (l ∷ []) m is) refl
two_taken (l ∷ m ∷ n ∷ ls) old new first last is some few h k one t = absurd (omega (arith, few))

-- ---- the answer

shifts_of : (made : List LineFields) (added : List LineValue) → line_values made ≡ added → All (λ (l : LineValue). Within (2 ^ 40) l.shift) added → All (λ (l : LineFields). Within (2 ^ 40) l.shift) made
shifts_of [] added e h = All-nil (λ (l : LineFields). Within (2 ^ 40) l.shift)
shifts_of (m ∷ made) [] e h = absurd (cc)
shifts_of (m ∷ made) (a ∷ added) e h =
    let head : line_value m ≡ a = cc in
    let tail : line_values made ≡ added = cc in
    let small : Within (2 ^ 40) a.shift = All-head (λ (l : LineValue). Within (2 ^ 40) l.shift) a added h in
    All-cons (λ (l : LineFields). Within (2 ^ 40) l.shift) m made (rw (ap (λ (l : LineValue). l.shift) head) small) (shifts_of made added tail (All-tail (λ (l : LineValue). Within (2 ^ 40) l.shift) a added h))

levels_of : (most : ℕ) (made : List LineFields) → 1 ≤ most → All (λ (l : LineFields). l.body.level ≡ 1) made → All (λ (l : LineFields). l.body.level ≤ most) made
levels_of most [] le h = All-nil (λ (l : LineFields). l.body.level ≤ most)
levels_of most (m ∷ made) le h =
    let one : m.body.level ≡ 1 = All-head (λ (l : LineFields). l.body.level ≡ 1) m made h in
    All-cons (λ (l : LineFields). l.body.level ≤ most) m made (omega (arith, one, le)) (levels_of most made le (All-tail (λ (l : LineFields). l.body.level ≡ 1) m made h))

pub fits_of : (most : ℕ) (made : List LineFields) (s : LineStack) (setting : Setting (List LineValue)) (more : MoreLines [] s setting) → line_values made ≡ more.added → 1 ≤ most → All (λ (l : LineFields). l.body.level ≡ 1) made → LinesFit most made
fits_of most made s setting more e le h = record {
  some = omega (arith, more.some, ap length e, lines_length made);
  few = omega (arith, more.few, ap length e, lines_length made);
  shifts = shifts_of made more.added e more.small;
  levels = levels_of most made le h;
}
