-- A file so far, to which pages are added (`IsFileOf`). A caller builds `CanTake` and `IsFile` from it, and need know no
-- more of its fields than that the pages and places are few.
use Rattle.std.specs.Prelude.{◌≡◌, ℕ, ◌+◌, ◌*◌, ◌<◌, ◌≤◌, List, [], length, All}
use Rattle.mt_family.specs.SetValue.{SetValue, IsSet}
use Rattle.mt_box.specs.declared.place.Place.{Place}
use Rattle.mt_dvi.specs.Limits.{max_dvi_pages, max_places}
use Rattle.mt_dvi.specs.Writable.{IsWritable}
use Rattle.mt_dvi.specs.WrittenPlaces.{all_places, numbered_pages}
use Rattle.mt_dvi.specs.writer.Distinct.{AreDistinct}
use Rattle.mt_dvi.specs.writer.Emits.{FitsFourBytes}
use Rattle.mt_dvi.specs.writer.Greatest.{edges_after, no_edges}
use Rattle.mt_dvi.specs.writer.LeadsTo.{numbers_after_all}
use Rattle.mt_dvi.specs.writer.Pages.{WrittenPages}
use Rattle.mt_dvi.specs.declared.file.DviFile.{DviFile}

-- these pages are written so far, and they are lean
pub record IsFileOf (fonts : SetValue) (pages : List (List Place)) (file : DviFile) : Type 0 where
  pub few_pages : length pages ≤ max_dvi_pages
  pub few_places : length (all_places pages) ≤ max_places
  pub set : IsSet fonts
  -- the machine reads the bytes so far as these pages
  pub written : WrittenPages fonts file.out.items file.defined (numbered_pages fonts 1 pages) file.last (length (all_places pages))
  -- the fonts of the places are defined, and no others, each once
  pub used : file.defined ≡ numbers_after_all [] (all_places pages)
  pub distinct : AreDistinct file.defined
  pub there : All (λ (n : ℕ). n < length fonts.fonts) file.defined
  -- what post will state
  pub edges : file.greatest ≡ edges_after fonts no_edges (all_places pages)
  pub last : FitsFourBytes file.last
  pub page_count : file.pages ≡ length pages
  pub place_count : file.places ≡ length (all_places pages)
  pub long : length file.out.items
      ≤ 15 + 19 * length (all_places pages) + 46 * length pages + 271 * length file.defined

-- some pages are written so far
pub record IsFile (fonts : SetValue) (file : DviFile) : Type 0 where
  pub pages : List (List Place)
  pub file_of : IsFileOf fonts pages file

-- a page of these places can be added: they can be written, and there are few pages and places with it
pub record CanTake (fonts : SetValue) (file : DviFile) (page : List Place) : Type 0 where
  pub pages : List (List Place)
  pub file_of : IsFileOf fonts pages file
  pub can : All (IsWritable fonts) page
  pub few_pages : length pages < max_dvi_pages
  pub few_places : length (all_places pages) + length page ≤ max_places
