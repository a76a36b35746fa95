-- Pages that are added to what is made of them (`CanAdd`, `AddsPages`).
use Rattle.std.specs.Prelude.{◌≡◌, ◌≤◌, List, [], ◌∷◌, ◌++◌, length, All, Result, Ok, Err}
use Rattle.mt_family.specs.SetValue.{SetValue}
use Rattle.mt_box.specs.declared.place.Place.{Place}
use Rattle.mt_dvi.specs.Limits.{max_places}
use Rattle.mt_dvi.specs.Writable.{IsWritable}
use Rattle.mt_dvi.specs.WrittenPlaces.{all_places}
use Rattle.mt_reader.specs.Limits.{max_document_pages}
use Rattle.mt_status.specs.Origins.{IsPure}
use Rattle.mt_status.specs.declared.status.Status.{Status}

-- pages that can be written, and are few, with few places
pub record AreFit (fonts : SetValue) (pages : List (List Place)) : Type 0 where
  pub writable : All (λ (page : List Place). All (IsWritable fonts) page) pages
  pub few : length pages ≤ max_document_pages
  pub few_places : length (all_places pages) ≤ max_places

-- a page can be added to what is made of others
pub record CanAdd {S : Type 0} (fonts : SetValue) (Has : List (List Place) → S → Type 0) (sink : S) (page : List Place) : Type 0 where
  pub pages : List (List Place)
  pub has : Has pages sink
  pub writable : All (IsWritable fonts) page
  pub fit : AreFit fonts (pages ++ page ∷ [])

-- the pages of the answer are added
pub record PagesAdded {S : Type 0} (fonts : SetValue) (Has : List (List Place) → S → Type 0) (answer : Result (List (List Place)) Status) (sink : S) : Type 0 where
  pub pages : List (List Place)
  pub is : answer ≡ Ok pages
  pub has : Has pages sink
  pub fit : AreFit fonts pages

-- or its refusal is the result
abbrev pub AddsPages : {S U : Type 0} → SetValue → (List (List Place) → S → Type 0) → Result (List (List Place)) Status → Result U Status → S → Type 0
AddsPages fonts Has answer (Ok u) sink = PagesAdded fonts Has answer sink
AddsPages fonts Has answer (Err status) sink = IsPure answer (Err status)
