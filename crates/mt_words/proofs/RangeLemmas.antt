-- The pages of ranges, one after another.
use Rattle.std.proofs.Common.{◌≡◌, ◌∙◌, ◌+◌, ◌-◌, ◌<◌, ◌++◌, ℕ, zero, suc, List, [], ◌∷◌, length, drop, get_or, refl, sym, ap, arith, add-one, append_assoc}
use Rattle.std.specs.Prelude.{Option, Some, None, map, option_and_then, option_map}
use Rattle.std.specs.Borrow.{Bor}
use Rattle.std.specs.List.{range_with_len}
use Rattle.mt_words.specs.Ranges.{before_pages, downward, pages_in, pages_of_ranges, range_of}
use Rattle.mt_words.specs.declared.range.PageRange.{PageRange}

-- one number more downward
downward_push : (first count : ℕ) → downward first (suc count) ≡ downward first count ++ (first - count) ∷ []
downward_push first zero = ap (λ (n : ℕ). n ∷ []) (let same : first ≡ first - 0 = omega arith in same)
downward_push first (suc count) =
    let at : first - 1 - count ≡ first - suc count = omega arith in
    ap (λ (l : List ℕ). first ∷ l) (downward_push (first - 1) count ∙ ap (λ (n : ℕ). downward (first - 1) count ++ n ∷ []) at)

-- one number more upward
upward_push : (first count : ℕ) → range_with_len first (suc count) ≡ range_with_len first count ++ (first + count) ∷ []
upward_push first zero = ap (λ (n : ℕ). n ∷ []) (let same : first ≡ first + 0 = omega arith in same)
upward_push first (suc count) =
    let at : first + 1 + count ≡ first + suc count = omega arith in
    ap (λ (l : List ℕ). first ∷ l) (upward_push (first + 1) count ∙ ap (λ (n : ℕ). range_with_len (first + 1) count ++ n ∷ []) at)

-- the numbers so far, after what was there before, and one more
pub downward_more : (now before : List ℕ) (first count : ℕ) → now ≡ before ++ downward first count → now ++ (first - count) ∷ [] ≡ before ++ downward first (count + 1)
downward_more now before first count is =
    ap (λ (l : List ℕ). l ++ (first - count) ∷ []) is ∙ append_assoc before (downward first count) ((first - count) ∷ [])
    ∙ rw add-one (ap (λ (l : List ℕ). before ++ l) (sym (downward_push first count)))

pub upward_more : (now before : List ℕ) (first count : ℕ) → now ≡ before ++ range_with_len first count → now ++ (first + count) ∷ [] ≡ before ++ range_with_len first (count + 1)
upward_more now before first count is =
    ap (λ (l : List ℕ). l ++ (first + count) ∷ []) is ∙ append_assoc before (range_with_len first count) ((first + count) ∷ [])
    ∙ rw add-one (ap (λ (l : List ℕ). before ++ l) (sym (upward_push first count)))

-- pages that are before those of the words that are left
abbrev pub after_pages : List ℕ → Option (List ℕ) → Option (List ℕ)
after_pages pages rest = option_map (λ more. pages ++ more) rest

join_after : (before : List ℕ) (range : PageRange) (rest : Option (List ℕ)) → after_pages before (before_pages range rest) ≡ after_pages (before ++ pages_in range) rest
join_after before range None = refl
join_after before range (Some pages) = ap (λ (l : List ℕ). Some l) (sym (append_assoc before (pages_in range) pages))

abbrev said : List (Bor (List ℕ)) → List (List ℕ)
said words = map (λ (word : Bor (List ℕ)). word.now) words

at_word : (words : List (Bor (List ℕ))) (i : ℕ) (d : Bor (List ℕ)) → i < length words → drop i (said words) ≡ (get_or words i d).now ∷ drop (suc i) (said words)
at_word [] i d lt = absurd (omega (arith, lt))
at_word (word ∷ words) zero d lt = refl
at_word (word ∷ words) (suc i) d lt = at_word words i d (omega (arith, lt))

-- a range more
pub more : (words : List (Bor (List ℕ))) (i : ℕ) (d : Bor (List ℕ)) (before now : List ℕ) (range : PageRange) → i < length words
    → pages_of_ranges (said words) ≡ after_pages before (pages_of_ranges (drop i (said words))) → range_of (get_or words i d).now ≡ Some range → now ≡ before ++ pages_in range
    → pages_of_ranges (said words) ≡ after_pages now (pages_of_ranges (drop (i + 1) (said words)))
more words i d before now range lt so_far is now_is =
    let next = drop (suc i) (said words) in
    rw add-one
    (so_far ∙ ap (λ (l : List (List ℕ)). after_pages before (pages_of_ranges l)) (at_word words i d lt)
    ∙ ap (λ (r : Option PageRange). after_pages before (option_and_then (λ range. before_pages range (pages_of_ranges next)) r)) is
    ∙ join_after before range (pages_of_ranges next) ∙ ap (λ (l : List ℕ). after_pages l (pages_of_ranges next)) (sym now_is))

-- a word that is no range
pub none : (words : List (Bor (List ℕ))) (i : ℕ) (d : Bor (List ℕ)) (before : List ℕ) → i < length words
    → pages_of_ranges (said words) ≡ after_pages before (pages_of_ranges (drop i (said words))) → range_of (get_or words i d).now ≡ None → pages_of_ranges (said words) ≡ None
none words i d before lt so_far is =
    let next = drop (suc i) (said words) in
    so_far ∙ ap (λ (l : List (List ℕ)). after_pages before (pages_of_ranges l)) (at_word words i d lt)
    ∙ ap (λ (r : Option PageRange). after_pages before (option_and_then (λ range. before_pages range (pages_of_ranges next)) r)) is
