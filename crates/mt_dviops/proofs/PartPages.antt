-- The file of joined parts has the pages of its parts, and but for their counts those of the whole (`joined_parts`, `same_as_whole`).
use Rattle.std.proofs.Common.{◌≡◌, ℕ, ◌+◌, List, [], ◌∷◌, ◌++◌, refl, sym, ◌∙◌, ap}
use Rattle.std.specs.Prelude.{map, Result, Ok}
use Rattle.std.proofs.lemmas.List.{map-append}
use Rattle.mt_family.specs.SetValue.{SetValue}
use Rattle.mt_box.specs.declared.place.Place.{Place}
use Rattle.mt_dvi.specs.File.{Dvi, Fault, File, Page, pages_of, pages_of_reading, places_of, read}
use Rattle.mt_dvi.specs.Machine.{WrittenPlace}
use Rattle.mt_dvi.specs.Written.{Written}
use Rattle.mt_dvi.specs.WrittenPlaces.{numbered_page, numbered_pages, written_places}
use Rattle.mt_dviops.specs.Copied.{Every}
use Rattle.mt_dviops.specs.PagesRead.{AllReadAs, IsReadAs, ReadsChosen, joined_pages}
use Rattle.mt_dviops.specs.Parts.{AllWritten, PageContent, Part, SamePages, all_parts, content_of, parts_pages}
use Rattle.mt_dviops.specs.Result.{places_in}

-- what is read of bytes is one file
one_file : (fonts : SetValue) (bytes : List ℕ) (f g : File) → read fonts bytes ≡ Ok f → read fonts bytes ≡ Ok g → f ≡ g
one_file fonts bytes f g a b = cc

old_pages : (fonts : SetValue) (files : List (List ℕ)) (parts : List Part) (old : List (List Page)) → AllWritten fonts files parts → AllReadAs fonts files old → joined_pages old ≡ parts_pages fonts parts
old_pages fonts [] [] [] w r = refl
old_pages fonts [] [] (pages ∷ old) w r = absurd r
old_pages fonts [] (part ∷ parts) old w r = absurd w
old_pages fonts (bytes ∷ files) [] old w r = absurd w
old_pages fonts (bytes ∷ files) (part ∷ parts) [] w r = absurd r
old_pages fonts (bytes ∷ files) (part ∷ parts) (pages ∷ old) (one, w) (here, r) =
    let same : here.file ≡ one.file = one_file fonts bytes here.file one.file here.reads one.reads in
    let first : pages ≡ numbered_pages fonts 1 part = sym here.pages_are ∙ (ap (λ (f : File). f.pages) same ∙ one.pages) in
    ap (λ (l : List Page). l ++ joined_pages old) first ∙ ap (λ (l : List Page). numbered_pages fonts 1 part ++ l) (old_pages fonts files parts old w r)

pub joined_parts : (fonts : SetValue) (files : List (List ℕ)) (parts : List Part) (bytes : List ℕ) → AllWritten fonts files parts → ReadsChosen fonts files Every bytes → IsReadAs fonts bytes (parts_pages fonts parts)
joined_parts fonts files parts bytes w r = record {
  file = r.reads.file;
  reads = r.reads.reads;
  pages_are = r.reads.pages_are ∙ (r.chosen_are ∙ old_pages fonts files parts r.old w r.from);
}

-- but for the counts it does not matter from which number on pages are numbered
numbered_alike : (fonts : SetValue) (n m : ℕ) (pages : Part) → map content_of (numbered_pages fonts n pages) ≡ map content_of (numbered_pages fonts m pages)
numbered_alike fonts n m [] = refl
numbered_alike fonts n m (page ∷ pages) = ap (λ (l : List PageContent). content_of (numbered_page fonts m page) ∷ l) (numbered_alike fonts (n + 1) (m + 1) pages)

numbered_behind : (fonts : SetValue) (n m : ℕ) (a b : Part) → map content_of (numbered_pages fonts n (a ++ b)) ≡ map content_of (numbered_pages fonts n a) ++ map content_of (numbered_pages fonts m b)
numbered_behind fonts n m [] b = numbered_alike fonts n m b
numbered_behind fonts n m (page ∷ a) b = ap (λ (l : List PageContent). content_of (numbered_page fonts n page) ∷ l) (numbered_behind fonts (n + 1) m a b)

parts_alike : (fonts : SetValue) (n : ℕ) (parts : List Part) → map content_of (numbered_pages fonts n (all_parts parts)) ≡ map content_of (parts_pages fonts parts)
parts_alike fonts n [] = refl
parts_alike fonts n (part ∷ parts) =
    numbered_behind fonts n 1 part (all_parts parts)
    ∙ (ap (λ (l : List PageContent). l ++ map content_of (numbered_pages fonts 1 (all_parts parts))) (numbered_alike fonts n 1 part)
    ∙ (ap (λ (l : List PageContent). map content_of (numbered_pages fonts 1 part) ++ l) (parts_alike fonts 1 parts)
    ∙ sym (map-append content_of (numbered_pages fonts 1 part) (parts_pages fonts parts))))

pub same_as_whole : (fonts : SetValue) (files : List (List ℕ)) (parts : List Part) (bytes whole : List ℕ) → AllWritten fonts files parts → ReadsChosen fonts files Every bytes → Written fonts whole (all_parts parts)
    → SamePages fonts bytes whole
same_as_whole fonts files parts bytes whole w r is =
    let j = joined_parts fonts files parts bytes w r in
    record {
      file = j.file;
      reads = j.reads;
      other_file = is.file;
      other_reads = is.reads;
      same = ap (map content_of) j.pages_are ∙ (sym (parts_alike fonts 1 parts) ∙ sym (ap (map content_of) is.pages));
    }

written_are : (fonts : SetValue) (page : List Place) → map (λ (w : WrittenPlace). w.place) (written_places fonts page) ≡ page
written_are fonts [] = refl
written_are fonts (place ∷ places) = ap (λ (l : List Place). place ∷ l) (written_are fonts places)

numbered_places : (fonts : SetValue) (n : ℕ) (pages : Part) → map places_in (numbered_pages fonts n pages) ≡ pages
numbered_places fonts n [] = refl
numbered_places fonts n (page ∷ pages) =
    ap (λ (l : List Place). l ∷ map places_in (numbered_pages fonts (n + 1) pages)) (written_are fonts page) ∙ ap (λ (l : List (List Place)). page ∷ l) (numbered_places fonts (n + 1) pages)

parts_places : (fonts : SetValue) (parts : List Part) → map places_in (parts_pages fonts parts) ≡ all_parts parts
parts_places fonts [] = refl
parts_places fonts (part ∷ parts) =
    map-append places_in (numbered_pages fonts 1 part) (parts_pages fonts parts)
    ∙ (ap (λ (l : List (List Place)). l ++ map places_in (parts_pages fonts parts)) (numbered_places fonts 1 part) ∙ ap (λ (l : List (List Place)). part ++ l) (parts_places fonts parts))

pub joined_dvi : (fonts : SetValue) (files : List (List ℕ)) (parts : List Part) (bytes : List ℕ) → AllWritten fonts files parts → ReadsChosen fonts files Every bytes → Dvi fonts bytes (all_parts parts)
unfolding pages_of
joined_dvi fonts files parts bytes w r =
    let j = joined_parts fonts files parts bytes w r in
    let places : places_of j.file ≡ all_parts parts = ap (map places_in) j.pages_are ∙ parts_places fonts parts in
    ap pages_of_reading j.reads ∙ ap (λ (l : List (List Place)). let r : Result (List (List Place)) Fault = Ok l in r) places
