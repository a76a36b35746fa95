-- The whole law: what is made of chosen pages is a file, and its pages are those (`copied_sound`).
use Rattle.std.proofs.Common.{◌≡◌, ℕ, ◌<◌, ◌≤◌, List, [], ◌∷◌, length, refl, sym, ◌∙◌, ap, subst, arith}
use Rattle.std.specs.Prelude.{negsuc, int_lt, ℤ, pos, Bool, true, false, Some, None, Ok, Err, nat_lt, map, cond}
use Rattle.std.specs.List.{position, position_or_len, zip}
use Rattle.std.proofs.lemmas.Bool.Decides.{nat_tests}
use Rattle.std.proofs.lemmas.Int.{ints}
use Rattle.mt_scaled.specs.Results.{◌>>=◌}
use Rattle.mt_tfm.specs.Font.{Metrics}
use Rattle.mt_family.specs.declared.list.FontLine.{FontLine}
use Rattle.mt_family.specs.SetValue.{IsSet, SetValue, has_name_and_size}
use Rattle.mt_dvi.specs.File.{Dvi, File, Page, pages_of, pages_of_reading, places_of, read}
use Rattle.mt_dvi.proofs.FontLemmas.{listed}
use Rattle.mt_dviops.specs.Source.{SourceFile, SourcePage}
use Rattle.mt_dviops.specs.Result.{places_in}
use Rattle.mt_dviops.specs.Copied.{CopyAnswer, Choice, chosen, copied, copied_pages, files_answer, mag_of}
use Rattle.mt_dviops.proofs.PageCopies.{IsSmall}
use Rattle.mt_dviops.proofs.Walked.{pages_of_copies}
use Rattle.mt_dviops.proofs.Magnification.{mag_positive}
use Rattle.mt_dviops.proofs.OwnFonts.{LeadsBack}
use Rattle.mt_dviops.proofs.WholeCopy.{CopyRead}
use Rattle.mt_dviops.proofs.Sources.{AreSources, all_sources, chosen_sound, made_sound}

low_position : {X : Type 0} (p : X → Bool) (xs : List X) (n : ℕ) → position p xs ≡ Some n → n < length xs
low_position p xs n e = by_test (nat_lt (position_or_len p xs) (length xs)) refl e where
  by_test : (b : Bool) → nat_lt (position_or_len p xs) (length xs) ≡ b → cond b (Some (position_or_len p xs)) None ≡ Some n → n < length xs
  by_test true t e = let s : position_or_len p xs ≡ n = cc in let l : position_or_len p xs < length xs = grind (arith, nat_tests) in omega (arith, l, s)
  by_test false t e = absurd (cc)

zip_low : (lines : List FontLine) (fonts : List Metrics) → length (zip lines fonts) ≤ length fonts
zip_low [] fonts = omega arith
zip_low (line ∷ lines) [] = omega arith
zip_low (line ∷ lines) (m ∷ fonts) = omega (arith, zip_low lines fonts)

-- both follow from what every set keeps
small_set : (fonts : SetValue) → IsSet fonts → IsSmall fonts
small_set fonts set = λ name size n e.
    let low : n < length (zip fonts.lines fonts.fonts) = low_position (has_name_and_size name (pos size)) (zip fonts.lines fonts.fonts) n e in
    let there : n < length fonts.fonts = omega (arith, low, zip_low fonts.lines fonts.fonts) in
    (omega (arith, there, set.loaded.count, set.list.few), there)

back_set : (fonts : SetValue) → IsSet fonts → LeadsBack fonts
back_set fonts set = λ n lt. (listed fonts n set lt).found

-- a magnification that pre can have
pub record IsMag (mag : ℤ) : Type 0 where
  pub n : ℕ
  pub is : mag ≡ pos n
  pub low : 0 < n
  pub high : n < 2147483648

is_mag : (z : ℤ) → int_lt (pos 0) z ≡ true → int_lt z (pos 2147483648) ≡ true → IsMag z
is_mag (pos n) low high = record { n = n; is = refl; low = grind (arith, nat_tests, ints); high = grind (arith, nat_tests, ints) }
is_mag (negsuc n) low high = absurd (omega (arith, ints, low))

-- that of file 0 is such a one
mag_is : (fonts : SetValue) (files : List (List ℕ)) (sources : List SourceFile) → AreSources fonts files sources → 1 ≤ length files → int_lt (mag_of sources) (pos 2147483648) ≡ true → IsMag (mag_of sources)
mag_is fonts [] sources are some short = absurd (omega (arith, some))
mag_is fonts (bytes ∷ files) [] are some short = absurd are
mag_is fonts (bytes ∷ files) (s ∷ sources) (is, are) some short = is_mag s.mag (ap (int_lt (pos 0)) is.mag ∙ mag_positive fonts bytes is.file is.reads) short

-- what is made of chosen pages: the files are read to their ends, the pages are chosen of them, and the new file is
-- read to its end with these pages
pub record CopiedSound (fonts : SetValue) (files : List (List ℕ)) (choice : Choice) (bytes : List ℕ) : Type 0 where
  pub sources : List SourceFile
  pub are : AreSources fonts files sources
  pub pages : List SourcePage
  pub chosen_are : chosen choice sources ≡ Ok pages
  pub read_back : CopyRead fonts bytes pages
  pub dvi : Dvi fonts bytes (map places_in (pages_of_copies pages))

dvi_of : (fonts : SetValue) (bytes : List ℕ) (file : File) → read fonts bytes ≡ Ok file → Dvi fonts bytes (places_of file)
unfolding pages_of
dvi_of fonts bytes file e = ap pages_of_reading e

pub copied_sound : (fonts : SetValue) (files : List (List ℕ)) (choice : Choice) (bytes : List ℕ) → IsSet fonts → 1 ≤ length files
    → ((sources : List SourceFile) → files_answer fonts 0 files ≡ Ok sources → int_lt (mag_of sources) (pos 2147483648) ≡ true)
    → copied fonts files choice ≡ Ok bytes → CopiedSound fonts files choice bytes
unfolding copied
copied_sound fonts files choice bytes set some mags e = by_sources (files_answer fonts 0 files) refl e where
  made : (sources : List SourceFile) (pages : List SourcePage) → files_answer fonts 0 files ≡ Ok sources → chosen choice sources ≡ Ok pages → copied_pages fonts (mag_of sources) pages ≡ Ok bytes → CopiedSound fonts files choice bytes
  made sources pages is picked e =
      let are = all_sources fonts 0 files sources (small_set fonts set) is in
      let mag = mag_is fonts files sources are some (mags sources is) in
      let back = made_sound fonts mag.n pages bytes (back_set fonts set) (chosen_sound fonts files sources choice pages are picked) mag.low mag.high (ap (λ (z : ℤ). copied_pages fonts z pages) (sym mag.is) ∙ e) in
      record {
        sources = sources;
        are = are;
        pages = pages;
        chosen_are = picked;
        read_back = back;
        dvi = subst (λ (l : List Page). Dvi fonts bytes (map places_in l)) back.pages_are (dvi_of fonts bytes back.file back.reads);
      }

  by_pages : (sources : List SourceFile) (p : CopyAnswer (List SourcePage)) → files_answer fonts 0 files ≡ Ok sources → chosen choice sources ≡ p → (p >>= (λ pages. copied_pages fonts (mag_of sources) pages)) ≡ Ok bytes → CopiedSound fonts files choice bytes
  by_pages sources (Err refusal) is picked e = absurd (cc)
  by_pages sources (Ok pages) is picked e = made sources pages is picked e

  by_sources : (s : CopyAnswer (List SourceFile)) → files_answer fonts 0 files ≡ s → (s >>= (λ sources. chosen choice sources >>= (λ pages. copied_pages fonts (mag_of sources) pages))) ≡ Ok bytes → CopiedSound fonts files choice bytes
  by_sources (Err refusal) is e = absurd (cc)
  by_sources (Ok sources) is e = by_pages sources (chosen choice sources) is refl e
