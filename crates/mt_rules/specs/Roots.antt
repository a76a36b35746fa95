-- A radical with its degree (`root_row`; plain TeX's \root; The TeXbook, chapter 16 and Appendix B).
use Rattle.std.specs.Prelude.{ℤ, pos, negsuc, ◌-ℤ◌, ◌*ℤ◌, int_div, List, [], ◌∷◌, Ok}
use Rattle.mt_family.specs.SetValue.{SetValue}
use Rattle.mt_box.specs.declared.extents.Extents.{Extents}
use Rattle.mt_box.specs.Layout.{Layout}
use Rattle.mt_box.specs.Rows.{PieceValue, PieceBox, PieceKern}
use Rattle.mt_rules.specs.declared.style.Style.{Style}
use Rattle.mt_rules.specs.Setting.{Setting, ◌>>◌, test_value}
use Rattle.mt_rules.specs.MathUnits.{in_points}

-- the degree is raised by 0.6 of what the radical has more height than depth
abbrev pub degree_raise : Extents → ℤ
degree_raise radical = int_div ((radical.height -ℤ radical.depth) *ℤ pos 39322) (pos 65536)

-- 5mu, the degree, 10mu back, the radical; the style is that of the place
unfoldable pub root_row : SetValue → Style → Layout → Layout → Setting (List PieceValue)
root_row fonts style degree radical = do
  let before = in_points fonts style (pos 327680)
  let back = in_points fonts style (negsuc 655359)
  test_value before
  test_value back
  Ok (PieceKern before ∷ PieceBox (degree_raise radical.extents) degree ∷ PieceKern back ∷ PieceBox (pos 0) radical ∷ [])
