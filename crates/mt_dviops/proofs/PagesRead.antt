-- The machine reads what is made of chosen pages as those pages (`reads_chosen`, `ok_reads`).
use Rattle.std.proofs.Common.{◌≡◌, ℕ, zero, suc, ◌<◌, ◌≤◌, List, [], ◌∷◌, ◌++◌, length, refl, sym, ◌∙◌, ap, subst, arith}
use Rattle.std.specs.Prelude.{int_lt, ◌<ℤ◌, ℤ, pos, negsuc, true, Option, Some, None, Result, Ok, Err, IfOk, map, slice_get}
use Rattle.std.proofs.lemmas.Bool.Decides.{nat_tests}
use Rattle.std.proofs.lemmas.Int.{ints}
use Rattle.mt_scaled.specs.Results.{◌>>=◌, ◌>>◌}
use Rattle.mt_family.specs.SetValue.{IsSet, SetValue}
use Rattle.mt_dvi.specs.File.{Page}
use Rattle.mt_dviops.specs.declared.error.OpError.{OpError}
use Rattle.mt_dviops.specs.Source.{SourceFile, SourcePage}
use Rattle.mt_dviops.specs.Copied.{CopyAnswer, Choice, Copied, Every, Numbered, all_pages, chosen, copied, files_answer, mag_of, page_answer, page_numbered, pages_numbered, test_mags}
use Rattle.mt_dviops.specs.PagesRead.{AllReadAs, AreChosen, ReadsChosen, joined_pages, page_of_number}
use Rattle.mt_dviops.proofs.Walked.{pages_of_copies}
use Rattle.mt_dviops.proofs.Sources.{AreSources}
use Rattle.mt_dviops.proofs.CopiedSound.{copied_sound}

abbrev read_in : SourceFile → List Page
read_in source = pages_of_copies source.pages

all_read : (fonts : SetValue) (files : List (List ℕ)) (sources : List SourceFile) → AreSources fonts files sources → AllReadAs fonts files (map read_in sources)
all_read fonts [] [] are = tt
all_read fonts [] (s ∷ sources) are = absurd are
all_read fonts (bytes ∷ files) [] are = absurd are
all_read fonts (bytes ∷ files) (s ∷ sources) (is, are) = (record { file = is.file; reads = is.reads; pages_are = sym is.pages }, all_read fonts files sources are)

copies_joined : (a b : List SourcePage) → pages_of_copies (a ++ b) ≡ pages_of_copies a ++ pages_of_copies b
copies_joined [] b = refl
copies_joined (p ∷ a) b = ap (λ (l : List Page). p.page ∷ l) (copies_joined a b)

joined_are : (sources : List SourceFile) → joined_pages (map read_in sources) ≡ pages_of_copies (all_pages sources)
joined_are [] = refl
joined_are (s ∷ sources) = ap (λ (l : List Page). pages_of_copies s.pages ++ l) (joined_are sources) ∙ sym (copies_joined s.pages (all_pages sources))

page_there : (pages : List SourcePage) (i : ℕ) (page : SourcePage) → slice_get pages i ≡ Some page → slice_get (pages_of_copies pages) i ≡ Some page.page
page_there [] i page e = absurd (cc)
page_there (p ∷ pages) zero page e = let s : p ≡ page = cc in ap (λ (x : SourcePage). let r : Option Page = Some x.page in r) s
page_there (p ∷ pages) (suc i) page e = page_there pages i page e

numbered_are : (pages : List SourcePage) (numbers : List ℕ) (picked : List SourcePage) → pages_numbered pages numbers ≡ Ok picked → map (page_of_number (pages_of_copies pages)) numbers ≡ map (λ (page : Page). Some page) (pages_of_copies picked)
numbered_are pages [] [] e = refl
numbered_are pages [] (p ∷ picked) e = absurd (cc)
numbered_are pages (n ∷ numbers) picked e =
    first n (page_numbered pages n) (pages_numbered pages numbers) refl e (λ more is. numbered_are pages numbers more is) where
      one : (n : ℕ) (page : SourcePage) → page_numbered pages n ≡ Some page → page_of_number (pages_of_copies pages) n ≡ Some page.page
      one zero page is = absurd (cc)
      one (suc i) page is = page_there pages i page is

      first : (n : ℕ) (a : Option SourcePage) (b : CopyAnswer (List SourcePage)) → page_numbered pages n ≡ a → (page_answer n a >>= (λ page. b >>= (λ more. Ok (page ∷ more)))) ≡ Ok picked
          → ((more : List SourcePage) → b ≡ Ok more → map (page_of_number (pages_of_copies pages)) numbers ≡ map (λ (page : Page). Some page) (pages_of_copies more))
          → map (page_of_number (pages_of_copies pages)) (n ∷ numbers) ≡ map (λ (page : Page). Some page) (pages_of_copies picked)
      first n None b is e ih = absurd (cc)
      first n (Some page) (Err refusal) is e ih = absurd (cc)
      first n (Some page) (Ok more) is e ih =
          let s : page ∷ more ≡ picked = cc in
          subst (λ (l : List SourcePage). map (page_of_number (pages_of_copies pages)) (n ∷ numbers) ≡ map (λ (page : Page). Some page) (pages_of_copies l)) s (rw (one n page is, ih more refl) refl)

choice_is : (sources : List SourceFile) (choice : Choice) (pages : List SourcePage) → chosen choice sources ≡ Ok pages → AreChosen choice (pages_of_copies (all_pages sources)) (pages_of_copies pages)
choice_is sources (Numbered numbers) pages e = numbered_are (all_pages sources) numbers pages e
choice_is sources Every pages e = tested (test_mags (mag_of sources) 0 sources) e where
  tested : (t : CopyAnswer Unit) → (t >> Ok (all_pages sources)) ≡ Ok pages → pages_of_copies pages ≡ pages_of_copies (all_pages sources)
  tested (Err refusal) e = absurd (cc)
  tested (Ok done) e = let s : all_pages sources ≡ pages = cc in ap pages_of_copies (sym s)

pub reads_chosen : (fonts : SetValue) (files : List (List ℕ)) (choice : Choice) (bytes : List ℕ) → IsSet fonts → 1 ≤ length files
    → ((sources : List SourceFile) → files_answer fonts 0 files ≡ Ok sources → int_lt (mag_of sources) (pos 2147483648) ≡ true)
    → copied fonts files choice ≡ Ok bytes → ReadsChosen fonts files choice bytes
reads_chosen fonts files choice bytes set some mags e =
    let s = copied_sound fonts files choice bytes set some mags e in
    record {
      old = map read_in s.sources;
      new = pages_of_copies s.pages;
      from = all_read fonts files s.sources s.are;
      chosen_are = subst (λ (l : List Page). AreChosen choice l (pages_of_copies s.pages)) (sym (joined_are s.sources)) (choice_is s.sources choice s.pages s.chosen_are);
      reads = record { file = s.read_back.file; reads = s.read_back.reads; pages_are = s.read_back.pages_are };
    }

pub below_limit : (z : ℤ) → z <ℤ pos 2147483648 → int_lt z (pos 2147483648) ≡ true
below_limit (pos n) low = let l : n < 2147483648 = omega (arith, ints, low) in grind (arith, nat_tests, ints)
below_limit (negsuc n) low = refl

-- the magnification of the sources is that of these ones
same_mag : (fonts : SetValue) (files : List (List ℕ)) (list sources : List SourceFile) → files_answer fonts 0 files ≡ Ok list → int_lt (mag_of list) (pos 2147483648) ≡ true → files_answer fonts 0 files ≡ Ok sources
    → int_lt (mag_of sources) (pos 2147483648) ≡ true
same_mag fonts files list sources is low e = let same : list ≡ sources = cc in subst (λ (l : List SourceFile). int_lt (mag_of l) (pos 2147483648) ≡ true) same low

pub ok_reads : (r : Result (List ℕ) OpError) (fonts : SetValue) (files : List (List ℕ)) (choice : Choice) (list : List SourceFile) → IfOk r (λ bytes. IsSet fonts) → 1 ≤ length files
    → files_answer fonts 0 files ≡ Ok list → int_lt (mag_of list) (pos 2147483648) ≡ true → IfOk r (λ bytes. Copied fonts files choice bytes) → IfOk r (λ bytes. ReadsChosen fonts files choice bytes)
ok_reads (Ok bytes) fonts files choice list set some is low made = reads_chosen fonts files choice bytes set some (λ sources e. same_mag fonts files list sources is low e) made
ok_reads (Err error) fonts files choice list set some is low made = tt
