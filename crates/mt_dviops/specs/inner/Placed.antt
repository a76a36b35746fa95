-- Which places have an edge (`IsPlaced`).
use Rattle.std.specs.Prelude.{◌≡◌, ℕ, Some, IsTrue, ⊤}
use Rattle.mt_tfm.specs.Font.{Metrics, exists}
use Rattle.mt_family.specs.SetValue.{SetValue}
use Rattle.mt_box.specs.declared.place.Place.{Place}
use Rattle.mt_box.specs.declared.place.Place.TheVariants.{Glyph, Rule}
use Rattle.mt_dvi.specs.Fonts.{metrics_at}

-- the font of this number has the character
abbrev pub HasChar : SetValue → ℕ → ℕ → Type 0
HasChar fonts n code = (m : Metrics) → metrics_at fonts n ≡ Some m → IsTrue (exists m code)

abbrev pub IsPlaced : SetValue → Place → Type 0
IsPlaced fonts (Glyph n code h v) = HasChar fonts n code
IsPlaced fonts (Rule h v height width) = ⊤
