-- The pages of a file that is read to its end, and those that are chosen of several files (`source_sound`,
-- `chosen_sound`).
use Rattle.std.proofs.Common.{◌≡◌, ℕ, zero, suc, ◌+◌, ◌-◌, ◌%◌, ◌<◌, ◌≤◌, List, [], ◌∷◌, ◌++◌, length, refl, sym, ap, subst, arith, length-append}
use Rattle.std.specs.Prelude.{ℤ, pos, negsuc, nat_lt, replicate, map, Bool, true, false, Option, Some, None, Result, Ok, Err, slice_get, if◌then◌else◌, ⊤}
use Rattle.std.proofs.lemmas.Bool.Decides.{nat_tests}
use Rattle.mt_scaled.specs.Results.{◌>>=◌, ◌>>◌}
use Rattle.mt_family.specs.SetValue.{SetValue}
use Rattle.mt_dvi.specs.Limits.{max_dvi, max_dvi_pages, max_places}
use Rattle.mt_dvi.specs.Machine.{WrittenPlace}
use Rattle.mt_dvi.specs.File.{Fault, File, Reading, at_start, read}
use Rattle.mt_dviops.specs.Source.{SourceFile, SourcePage, copy_step, no_source, source_by, source_file_of, walked_pages}
use Rattle.mt_dviops.specs.Result.{before_post, copied_bytes, definitions_bytes, head_bytes, last_bop, places_in, places_on, post_bytes, post_post_bytes, selected_fonts}
use Rattle.mt_dviops.specs.Walk.{walked}
use Rattle.mt_dviops.specs.Repeats.{AreCopies, IsCopy}
use Rattle.mt_dviops.specs.Copied.{TooManyPages, TooManyPlaces, TooLong, copied_pages, CopyAnswer, Choice, Numbered, Every, Refusal, all_pages, chosen, file_answer, files_answer, mag_of, page_answer, page_numbered, pages_numbered, test_mags}
use Rattle.mt_dviops.proofs.PageCopies.{IsSmall}
use Rattle.mt_dviops.proofs.CopiedPages.{count_places}
use Rattle.mt_dviops.proofs.WholeCopy.{CopyRead, copy_read}
use Rattle.mt_dviops.proofs.OwnFonts.{LeadsBack, all_select}
use Rattle.mt_dviops.proofs.Walked.{Ended, Sound, pages_of_copies, walk_sound}

start_sound : (fonts : SetValue) → Sound fonts at_start no_source
start_sound fonts = record { copies = tt; pages = refl; now = λ e. absurd (cc) }

-- a file as it is copied is one that the machine reads to its end, with its pages
pub record IsSource (fonts : SetValue) (bytes : List ℕ) (source : SourceFile) : Type 0 where
  pub file : File
  pub reads : read fonts bytes ≡ Ok file
  pub mag : source.mag ≡ file.mag
  pub copies : AreCopies fonts source.pages
  pub pages : pages_of_copies source.pages ≡ file.pages

walked_whole : (fonts : SetValue) (bytes : List ℕ) (file : File) → IsSmall fonts → read fonts bytes ≡ Ok file → Ended fonts file (walked fonts copy_step no_source bytes)
unfolding read walked
walked_whole fonts bytes file small e = walk_sound fonts at_start file no_source 0 bytes small e (start_sound fonts)

pub source_sound : (fonts : SetValue) (bytes : List ℕ) (source : SourceFile) → IsSmall fonts → source_file_of fonts bytes ≡ Ok source → IsSource fonts bytes source
unfolding source_file_of
source_sound fonts bytes source small e = by_reading (read fonts bytes) refl e where
  by_reading : (r : Reading) → read fonts bytes ≡ r → source_by r (walked_pages fonts bytes) ≡ Ok source → IsSource fonts bytes source
  by_reading (Err fault) reads is = absurd (cc)
  by_reading (Ok file) reads is =
      let s : record { mag = file.mag; pages = walked_pages fonts bytes } ≡ source = cc in
      let (copies, pages) = walked_whole fonts bytes file small reads in
      subst (λ (x : SourceFile). IsSource fonts bytes x) s (record { file = file; reads = reads; mag = refl; copies = copies; pages = pages })

copies_append : (fonts : SetValue) (a b : List SourcePage) → AreCopies fonts a → AreCopies fonts b → AreCopies fonts (a ++ b)
copies_append fonts [] b x y = y
copies_append fonts (p ∷ a) b (is, x) y = (is, copies_append fonts a b x y)

-- the sources are those of the files
abbrev pub AreSources : SetValue → List (List ℕ) → List SourceFile → Type 0
AreSources fonts [] [] = ⊤
AreSources fonts (bytes ∷ files) (source ∷ sources) = IsSource fonts bytes source × AreSources fonts files sources
AreSources fonts files sources = ⊥

copy_at : (fonts : SetValue) (copies : List SourcePage) (i : ℕ) (page : SourcePage) → AreCopies fonts copies → slice_get copies i ≡ Some page → IsCopy fonts page
copy_at fonts [] i page are e = absurd (cc)
copy_at fonts (copy ∷ copies) zero page (is, are) e = let s : copy ≡ page = cc in subst (IsCopy fonts) s is
copy_at fonts (copy ∷ copies) (suc i) page (is, are) e = copy_at fonts copies i page are e

pub all_sources : (fonts : SetValue) (k : ℕ) (files : List (List ℕ)) (sources : List SourceFile) → IsSmall fonts → files_answer fonts k files ≡ Ok sources → AreSources fonts files sources
all_sources fonts k [] [] small e = tt
all_sources fonts k [] (s ∷ sources) small e = absurd (cc)
all_sources fonts k (bytes ∷ files) sources small e =
    first (source_file_of fonts bytes) (files_answer fonts (k + 1) files) refl e (λ more is. all_sources fonts (k + 1) files more small is) where
      first : (a : Result SourceFile Fault) (b : CopyAnswer (List SourceFile)) → source_file_of fonts bytes ≡ a
          → (file_answer k a >>= (λ file. b >>= (λ more. Ok (file ∷ more)))) ≡ Ok sources → ((more : List SourceFile) → b ≡ Ok more → AreSources fonts files more) → AreSources fonts (bytes ∷ files) sources
      first (Err fault) b is e ih = absurd (cc)
      first (Ok file) (Err refusal) is e ih = absurd (cc)
      first (Ok file) (Ok more) is e ih = let s : file ∷ more ≡ sources = cc in subst (AreSources fonts (bytes ∷ files)) s (source_sound fonts bytes file small is, ih more refl)

-- all pages of all files are copies
all_copies : (fonts : SetValue) (files : List (List ℕ)) (sources : List SourceFile) → AreSources fonts files sources → AreCopies fonts (all_pages sources)
all_copies fonts files [] are = tt
all_copies fonts [] (s ∷ sources) are = absurd are
all_copies fonts (bytes ∷ files) (s ∷ sources) (is, are) = copies_append fonts s.pages (all_pages sources) is.copies (all_copies fonts files sources are)

numbered_copies : (fonts : SetValue) (pages : List SourcePage) (numbers : List ℕ) (picked : List SourcePage) → AreCopies fonts pages → pages_numbered pages numbers ≡ Ok picked → AreCopies fonts picked
numbered_copies fonts pages [] [] are e = tt
numbered_copies fonts pages [] (p ∷ picked) are e = absurd (cc)
numbered_copies fonts pages (n ∷ numbers) picked are e =
    first n (page_numbered pages n) (pages_numbered pages numbers) refl e (λ more is. numbered_copies fonts pages numbers more are is) where
      one : (n : ℕ) (page : SourcePage) → page_numbered pages n ≡ Some page → IsCopy fonts page
      one zero page is = absurd (cc)
      one (suc i) page is = copy_at fonts pages i page are is

      first : (n : ℕ) (a : Option SourcePage) (b : CopyAnswer (List SourcePage)) → page_numbered pages n ≡ a
          → (page_answer n a >>= (λ page. b >>= (λ more. Ok (page ∷ more)))) ≡ Ok picked → ((more : List SourcePage) → b ≡ Ok more → AreCopies fonts more) → AreCopies fonts picked
      first n None b is e ih = absurd (cc)
      first n (Some page) (Err refusal) is e ih = absurd (cc)
      first n (Some page) (Ok more) is e ih = let s : page ∷ more ≡ picked = cc in subst (AreCopies fonts) s (one n page is, ih more refl)

-- the chosen pages are copies
pub chosen_sound : (fonts : SetValue) (files : List (List ℕ)) (sources : List SourceFile) (choice : Choice) (pages : List SourcePage) → AreSources fonts files sources → chosen choice sources ≡ Ok pages → AreCopies fonts pages
chosen_sound fonts files sources (Numbered numbers) pages are e = numbered_copies fonts (all_pages sources) numbers pages (all_copies fonts files sources are) e
chosen_sound fonts files sources Every pages are e = tested (test_mags (mag_of sources) 0 sources) e where
  tested : (t : CopyAnswer Unit) → (t >> Ok (all_pages sources)) ≡ Ok pages → AreCopies fonts pages
  tested (Err refusal) e = absurd (cc)
  tested (Ok done) e = let s : all_pages sources ≡ pages = cc in subst (AreCopies fonts) s (all_copies fonts files sources are)

map_long : (places : List WrittenPlace) → length (map (λ (w : WrittenPlace). w.place) places) ≡ length places
map_long [] = refl
map_long (w ∷ places) = omega (arith, map_long places)

count_same : (pages : List SourcePage) → length (places_on pages) ≡ count_places pages
count_same [] = refl
count_same (page ∷ pages) = omega (arith, count_same pages, length-append (places_in page.page) (places_on pages), map_long page.page.places)

-- what holds of a file of these pages where there is one
pub record MadeOf (fonts : SetValue) (mag : ℤ) (pages : List SourcePage) (bytes : List ℕ) : Type 0 where
  pub is : bytes ≡ copied_bytes fonts mag pages
  pub few_pages : length pages ≤ max_dvi_pages
  pub few_places : count_places pages ≤ max_places
  pub short : length bytes ≤ max_dvi

abbrev counted : Bool → (ℕ → Refusal) → ℕ → CopyAnswer Unit
counted b refusal count = if b then Err (refusal count) else Ok tt

pages_made : (fonts : SetValue) (mag : ℤ) (pages : List SourcePage) (bytes : List ℕ) → copied_pages fonts mag pages ≡ Ok bytes → MadeOf fonts mag pages bytes
pages_made fonts mag pages bytes e =
    tested (nat_lt max_dvi_pages (length pages)) (nat_lt max_places (length (places_on pages))) (nat_lt max_dvi (length (copied_bytes fonts mag pages))) refl refl refl e where
      tested : (a b c : Bool) → nat_lt max_dvi_pages (length pages) ≡ a → nat_lt max_places (length (places_on pages)) ≡ b → nat_lt max_dvi (length (copied_bytes fonts mag pages)) ≡ c
          → (counted a TooManyPages (length pages) >> (counted b TooManyPlaces (length (places_on pages)) >> (counted c TooLong (length (copied_bytes fonts mag pages)) >> Ok (copied_bytes fonts mag pages)))) ≡ Ok bytes
          → MadeOf fonts mag pages bytes
      tested true b c x y z e = absurd (cc)
      tested false true c x y z e = absurd (cc)
      tested false false true x y z e = absurd (cc)
      tested false false false x y z e =
          let s : copied_bytes fonts mag pages ≡ bytes = cc in
          let t = count_same pages in
          let p : length pages ≤ max_dvi_pages = grind (arith, nat_tests) in
          let q : length (places_on pages) ≤ max_places = grind (arith, nat_tests) in
          let r : length (copied_bytes fonts mag pages) ≤ max_dvi = grind (arith, nat_tests) in
          record { is = sym s; few_pages = p; few_places = omega (arith, q, t); short = omega (arith, r, ap length s) }

before_short : (fonts : SetValue) (mag : ℤ) (pages : List SourcePage) → length (before_post fonts mag pages) ≤ length (copied_bytes fonts mag pages)
unfolding copied_bytes
before_short fonts mag pages =
    let before = before_post fonts mag pages in
    let post = post_bytes fonts mag (last_bop (length (head_bytes fonts mag pages)) (negsuc 0) pages) pages in
    let defs = definitions_bytes fonts (selected_fonts fonts pages) in
    let foot = post_post_bytes (length before) in
    let m : ℕ = 4 + (4 - length (before ++ post ++ defs ++ foot) % 4) % 4 in
    omega (arith, length-append (before ++ post ++ defs ++ foot) (replicate m 223), length-append (before ++ post ++ defs) foot, length-append (before ++ post) defs, length-append before post)

-- a file of chosen pages is read to its end, and its pages are those that were chosen, as the machine read them where
-- they came from
pub made_sound : (fonts : SetValue) (n : ℕ) (pages : List SourcePage) (bytes : List ℕ) → LeadsBack fonts → AreCopies fonts pages → 0 < n → n < 2147483648
    → copied_pages fonts (pos n) pages ≡ Ok bytes → CopyRead fonts bytes pages
made_sound fonts n pages bytes back are low high e =
    let made = pages_made fonts (pos n) pages bytes e in
    subst (λ (b : List ℕ). CopyRead fonts b pages) (sym made.is)
    (copy_read fonts n pages are low high (all_select fonts pages back are) made.few_places (omega (arith, before_short fonts (pos n) pages, made.short, ap length made.is)))
