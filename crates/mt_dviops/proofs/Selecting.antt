-- The pages that are selected, one after another, and what comes of them (`picked_next`, `too_many_picked`,
-- `all_picked`).
use Rattle.std.proofs.Common.{◌≡◌, ℕ, ◌+◌, ◌<◌, ◌≤◌, List, [], ◌∷◌, ◌++◌, length, take, get_or, refl, sym, ◌∙◌, ap, subst, arith}
use Rattle.std.specs.Prelude.{map, None, Some, Ok, Err}
use Rattle.std.specs.List.{find}
use Rattle.std.proofs.lemmas.List.{take_all, take_more}
use Rattle.mt_family.specs.SetValue.{SetValue}
use Rattle.mt_dvi.specs.Limits.{max_dvi_pages}
use Rattle.mt_dviops.specs.declared.page.PageCopy.{PageCopy}
use Rattle.mt_dviops.specs.Source.{SourceFile, SourcePage, source_file_of}
use Rattle.mt_dviops.specs.Copied.{CopyAnswer, Numbered, PageOutOfRange, TooManyPages, copied, copied_pages}
use Rattle.mt_dviops.specs.inner.Chosen.{is_out_of_range, page_or_empty}
use Rattle.mt_dviops.specs.inner.Shown.{AreShown, Shows}
use Rattle.mt_dviops.proofs.Picking.{out_of_range, pages_picked, picked}
use Rattle.mt_dviops.proofs.Refusals.{pages_refused}
use Rattle.mt_dviops.proofs.ShownBytes.{shown_more}

map_more : (f : ℕ → SourcePage) (xs : List ℕ) (x : ℕ) → map f (xs ++ x ∷ []) ≡ map f xs ++ f x ∷ []
map_more f [] x = refl
map_more f (y ∷ xs) x = ap (λ (l : List SourcePage). f y ∷ l) (map_more f xs x)

map_long : (f : ℕ → SourcePage) (xs : List ℕ) → length (map f xs) ≡ length xs
map_long f [] = refl
map_long f (x ∷ xs) = omega (arith, map_long f xs)

pub picked_next : (fonts : SetValue) (f : ℕ → SourcePage) (copies new : List PageCopy) (numbers : List ℕ) (i : ℕ) (copy : PageCopy) → i < length numbers → AreShown fonts copies (map f (take i numbers)) → Shows fonts copy (f (get_or numbers i 0))
    → new ≡ copies ++ copy ∷ [] → AreShown fonts new (map f (take (i + 1) numbers))
picked_next fonts f copies new numbers i copy lt are is more =
    let e : map f (take (i + 1) numbers) ≡ map f (take i numbers) ++ f (get_or numbers i 0) ∷ [] = ap (map f) (take_more numbers i 0 lt) ∙ map_more f (take i numbers) (get_or numbers i 0) in
    subst (λ (l : List PageCopy). AreShown fonts l (map f (take (i + 1) numbers))) (sym more)
    (subst (AreShown fonts (copies ++ copy ∷ [])) (sym e) (shown_more fonts copies (map f (take i numbers)) copy (f (get_or numbers i 0)) are is))

pub picked_whole : (fonts : SetValue) (f : ℕ → SourcePage) (copies : List PageCopy) (numbers : List ℕ) (i : ℕ) → length numbers ≤ i → AreShown fonts copies (map f (take i numbers)) → AreShown fonts copies (map f numbers)
picked_whole fonts f copies numbers i end are = subst (λ (l : List ℕ). AreShown fonts copies (map f l)) (take_all i numbers end) are

pub none_picked : (fonts : SetValue) (copies : List PageCopy) → copies ≡ [] → AreShown fonts copies []
none_picked fonts copies e = subst (λ (l : List PageCopy). AreShown fonts l []) (sym e) tt

pub numbers_long : (fonts : SetValue) (f : ℕ → SourcePage) (numbers : List ℕ) → length (map f numbers) ≡ length numbers
numbers_long fonts f numbers = map_long f numbers

-- the file of the pages of these numbers
pub all_picked : (fonts : SetValue) (bytes numbers : List ℕ) (s : SourceFile) (count : ℕ) → source_file_of fonts bytes ≡ Ok s → length s.pages ≡ count → find (is_out_of_range count) numbers ≡ None
    → copied fonts (bytes ∷ []) (Numbered numbers) ≡ copied_pages fonts s.mag (map (page_or_empty s.pages) numbers)
all_picked fonts bytes numbers s count is n e =
    picked fonts bytes numbers s (Ok (map (page_or_empty s.pages) numbers)) is (pages_picked s.pages numbers (ap (λ (k : ℕ). find (is_out_of_range k) numbers) n ∙ e))

pub one_out : (fonts : SetValue) (bytes numbers : List ℕ) (s : SourceFile) (count m : ℕ) → source_file_of fonts bytes ≡ Ok s → length s.pages ≡ count → find (is_out_of_range count) numbers ≡ Some m
    → copied fonts (bytes ∷ []) (Numbered numbers) ≡ Err (PageOutOfRange m)
one_out fonts bytes numbers s count m is n e =
    picked fonts bytes numbers s (Err (PageOutOfRange m)) is (out_of_range s.pages numbers m (ap (λ (k : ℕ). find (is_out_of_range k) numbers) n ∙ e))

pub too_many_picked : (fonts : SetValue) (bytes numbers : List ℕ) (s : SourceFile) (count : ℕ) → source_file_of fonts bytes ≡ Ok s → length s.pages ≡ count → find (is_out_of_range count) numbers ≡ None → max_dvi_pages < length numbers
    → copied fonts (bytes ∷ []) (Numbered numbers) ≡ Err (TooManyPages (length numbers))
too_many_picked fonts bytes numbers s count is n e many =
    let long = map_long (page_or_empty s.pages) numbers in
    all_picked fonts bytes numbers s count is n e ∙ pages_refused fonts s.mag (map (page_or_empty s.pages) numbers) (omega (arith, long, many)) ∙ ap (λ (k : ℕ). let r : CopyAnswer (List ℕ) = Err (TooManyPages k) in r) long
