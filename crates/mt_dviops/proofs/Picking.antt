-- The pages of numbers, and what `copied` makes of them (`pages_picked`, `out_of_range`, `picked`).
use Rattle.std.proofs.Common.{◌≡◌, ℕ, zero, suc, ◌-◌, ◌<◌, ◌≤◌, List, [], ◌∷◌, length, get_or, refl, sym, ◌∙◌, ap, subst, arith}
use Rattle.std.specs.Prelude.{Bool, true, false, cond, map, Option, Some, None, Result, Ok, Err, IfErr, IfOk, IsSomeAnd, slice_get}
use Rattle.std.specs.List.{find}
use Rattle.std.proofs.lemmas.Bool.Decides.{nat_tests}
use Rattle.std.proofs.lemmas.List.{append-nil}
use Rattle.mt_scaled.specs.Results.{◌>>=◌}
use Rattle.mt_family.specs.SetValue.{SetValue}
use Rattle.mt_dvi.specs.File.{Fault}
use Rattle.mt_dviops.specs.declared.error.OpError.{OpError}
use Rattle.mt_dviops.specs.declared.error.OpError.TheVariants as errors
use Rattle.mt_dviops.specs.Source.{SourceFile, SourcePage, empty_source, source_file_of}
use Rattle.mt_dviops.specs.Copied.{CopyAnswer, BadFile, Choice, Numbered, PageOutOfRange, Refusal, copied, copied_pages, file_answer, page_numbered, pages_numbered}
use Rattle.mt_dviops.specs.Refused.{IsAnswer, Refuses}
use Rattle.mt_dviops.specs.inner.Chosen.{is_out_of_range, page_or_empty}

there : (pages : List SourcePage) (i : ℕ) (d : SourcePage) → i < length pages → slice_get pages i ≡ Some (get_or pages i d)
there [] i d lt = absurd (omega arith)
there (p ∷ pages) zero d lt = refl
there (p ∷ pages) (suc i) d lt = there pages i d (omega arith)

gone : (pages : List SourcePage) (i : ℕ) → length pages ≤ i → slice_get pages i ≡ None
gone [] i le = refl
gone (p ∷ pages) zero le = absurd (omega arith)
gone (p ∷ pages) (suc i) le = gone pages i (omega arith)

has_page : (pages : List SourcePage) (n : ℕ) → is_out_of_range (length pages) n ≡ false → page_numbered pages n ≡ Some (page_or_empty pages n)
has_page pages zero e = absurd (cc)
has_page pages (suc i) e =
    let lt : i < length pages = grind (arith, nat_tests) in
    let same : suc i - 1 ≡ i = omega arith in
    there pages i (empty_source []) lt ∙ ap (λ (k : ℕ). Some (get_or pages k (empty_source []))) (sym same)

no_page : (pages : List SourcePage) (n : ℕ) → is_out_of_range (length pages) n ≡ true → page_numbered pages n ≡ None
no_page pages zero e = refl
no_page pages (suc i) e = let le : length pages ≤ i = grind (arith, nat_tests) in gone pages i le

next_picked : (b : Bool) (pages : List SourcePage) (n : ℕ) (numbers : List ℕ) → is_out_of_range (length pages) n ≡ b → cond b (Some n) (find (is_out_of_range (length pages)) numbers) ≡ None
    → (find (is_out_of_range (length pages)) numbers ≡ None → pages_numbered pages numbers ≡ Ok (map (page_or_empty pages) numbers)) → pages_numbered pages (n ∷ numbers) ≡ Ok (map (page_or_empty pages) (n ∷ numbers))
next_picked true pages n numbers is e more = absurd (cc)
next_picked false pages n numbers is e more = rw (has_page pages n is, more e) refl

pub pages_picked : (pages : List SourcePage) (numbers : List ℕ) → find (is_out_of_range (length pages)) numbers ≡ None → pages_numbered pages numbers ≡ Ok (map (page_or_empty pages) numbers)
pages_picked pages [] e = refl
pages_picked pages (n ∷ numbers) e = next_picked (is_out_of_range (length pages) n) pages n numbers refl e (λ more. pages_picked pages numbers more)

next_out : (b : Bool) (pages : List SourcePage) (n m : ℕ) (numbers : List ℕ) → is_out_of_range (length pages) n ≡ b → cond b (Some n) (find (is_out_of_range (length pages)) numbers) ≡ Some m
    → (find (is_out_of_range (length pages)) numbers ≡ Some m → pages_numbered pages numbers ≡ Err (PageOutOfRange m)) → pages_numbered pages (n ∷ numbers) ≡ Err (PageOutOfRange m)
next_out true pages n m numbers is e more = let s : n ≡ m = cc in rw (no_page pages n is) (ap (λ (k : ℕ). let r : CopyAnswer (List SourcePage) = Err (PageOutOfRange k) in r) s)
next_out false pages n m numbers is e more = rw (has_page pages n is, more e) refl

pub out_of_range : (pages : List SourcePage) (numbers : List ℕ) (m : ℕ) → find (is_out_of_range (length pages)) numbers ≡ Some m → pages_numbered pages numbers ≡ Err (PageOutOfRange m)
out_of_range pages [] m e = absurd (cc)
out_of_range pages (n ∷ numbers) m e = next_out (is_out_of_range (length pages) n) pages n m numbers refl e (λ more. out_of_range pages numbers m more)

-- a number that is not out of range
next_in : (b : Bool) (count n : ℕ) (numbers : List ℕ) → is_out_of_range count n ≡ b → cond b (Some n) (find (is_out_of_range count) numbers) ≡ None → (is_out_of_range count n ≡ false) × (find (is_out_of_range count) numbers ≡ None)
next_in true count n numbers is e = absurd (cc)
next_in false count n numbers is e = (is, e)

pub in_range : (count : ℕ) (numbers : List ℕ) (i : ℕ) → find (is_out_of_range count) numbers ≡ None → i < length numbers → is_out_of_range count (get_or numbers i 0) ≡ false
in_range count [] i e lt = absurd (omega arith)
in_range count (n ∷ numbers) zero e lt = (next_in (is_out_of_range count n) count n numbers refl e).0
in_range count (n ∷ numbers) (suc i) e lt = in_range count numbers i (next_in (is_out_of_range count n) count n numbers refl e).1 (omega arith)

pub record HasNumber (count n : ℕ) : Type 0 where
  pub low : 1 ≤ n
  pub high : n ≤ count

pub has_number : (count n : ℕ) → is_out_of_range count n ≡ false → HasNumber count n
has_number count n e = record { low = grind (arith, nat_tests); high = grind (arith, nat_tests) }

-- what comes of the numbers
pub picked : (fonts : SetValue) (bytes numbers : List ℕ) (s : SourceFile) (a : CopyAnswer (List SourcePage)) → source_file_of fonts bytes ≡ Ok s → pages_numbered s.pages numbers ≡ a
    → copied fonts (bytes ∷ []) (Numbered numbers) ≡ (a >>= (λ pages. copied_pages fonts s.mag pages))
unfolding copied
picked fonts bytes numbers s a is e = rw (is, append-nil s.pages, e) refl

pub bad_file : (fonts : SetValue) (bytes : List ℕ) (choice : Choice) (r : Refusal) → file_answer 0 (source_file_of fonts bytes) ≡ Err r → copied fonts (bytes ∷ []) choice ≡ Err r
unfolding copied
bad_file fonts bytes choice r e = rw e refl

some_on : (o : Option Fault) (P Q : Fault → Type 0) → ((f : Fault) → P f → Q f) → IsSomeAnd o P → IsSomeAnd o Q
some_on None P Q on is = absurd is
some_on (Some f) P Q on is = on f is

pub refuses_on : {T U : Type 0} (e : OpError) (a : CopyAnswer T) (b : CopyAnswer U) → ((r : Refusal) → a ≡ Err r → b ≡ Err r) → Refuses e a → Refuses e b
refuses_on (errors.BadFile file cause) a b on is = some_on _ (λ (f : Fault). a ≡ Err (BadFile file f)) (λ (f : Fault). b ≡ Err (BadFile file f)) (λ f x. on _ x) is
refuses_on (errors.PageOutOfRange page) a b on is = on _ is
refuses_on (errors.MagClash file) a b on is = on _ is
refuses_on (errors.TooManyPages count) a b on is = on _ is
refuses_on (errors.TooManyPlaces count) a b on is = on _ is
refuses_on (errors.TooLong count) a b on is = on _ is
refuses_on errors.OutOfMemory a b on is = tt

-- the answer of the pages is that of the call
pub answers_ok : (r : Result (List ℕ) OpError) (a b : CopyAnswer (List ℕ)) → IsAnswer r a → b ≡ a → IfOk r (λ bytes. b ≡ Ok bytes)
answers_ok (Ok bytes) a b is e = e ∙ is
answers_ok (Err error) a b is e = tt

pub answers_err : (r : Result (List ℕ) OpError) (a b : CopyAnswer (List ℕ)) → IsAnswer r a → b ≡ a → IfErr r (λ error. Refuses error b)
answers_err (Ok bytes) a b is e = tt
answers_err (Err error) a b is e = subst (λ (x : CopyAnswer (List ℕ)). Refuses error x) (sym e) is
