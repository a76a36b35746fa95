-- A source set in its fonts (`TypesetValue`).
use Rattle.std.specs.Prelude.{ℕ, ℤ, List, Result, Ok}
use Rattle.mt_scaled.specs.Results.{◌>>=◌}
use Rattle.mt_family.specs.SetValue.{SetValue}
use Rattle.mt_box.specs.declared.place.Place.{Place}
use Rattle.mt_pages.specs.Pages.{source_pages}
use Rattle.mt_status.specs.declared.status.Status.{Status}

-- pages of places, with the fonts that they are set in
pub record TypesetValue : Type 0 where
  pub fonts : SetValue
  pub pages : List (List Place)

-- the source, set in these fonts on lines of this width
abbrev pub typeset_of : SetValue → ℤ → List ℕ → Result TypesetValue Status
typeset_of fonts width source = do
  pages ← source_pages fonts width source
  Ok (record { fonts = fonts; pages = pages })
