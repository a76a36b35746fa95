-- Rows and boxes with scripts: which pieces they are made of, and what comes in their place.
use Rattle.std.specs.Prelude.{◌≡◌, ℤ, pos, is_some, List, [], ◌∷◌, ◌++◌, Option, Some, None, Ok}
use Rattle.mt_box.specs.Layout.{Layout}
use Rattle.mt_box.specs.Rows.{PieceValue, PieceBox}
use Rattle.mt_family.specs.SetValue.{SetValue}
use Rattle.mt_rules.specs.declared.style.Style.{Style}
use Rattle.mt_rules.specs.Scripts.{row_with_scripts}
use Rattle.mt_rules.specs.Setting.{Setting, ◌>>=◌, make_row}
use Rattle.mt_pieces.specs.declared.scripts.Scripts.{Scripts}

-- the pieces of a row after the others
abbrev pub row_on : List PieceValue → Setting (List PieceValue) → Setting (List PieceValue)
row_on rest setting = do
  row ← setting
  Ok (rest ++ row)

-- these scripts are there
pub record AreThere (scripts : Scripts) (above below : Option Layout) : Type 0 where
  pub sup : scripts.sup ≡ is_some above
  pub sub : scripts.sub ≡ is_some below

-- a box that is not raised, if it is there
abbrev pub box_if : Option Layout → List PieceValue
box_if None = []
box_if (Some l) = PieceBox (pos 0) l ∷ []

-- the boxes of the scripts that are there
abbrev pub script_boxes : Option Layout → Option Layout → List PieceValue
script_boxes sup sub = box_if sup ++ box_if sub

-- the row of a nucleus with its scripts, tested
abbrev pub row_beside : SetValue → Style → List PieceValue → ℤ → Option Layout → Option Layout → Setting (List PieceValue)
row_beside fonts style nucleus delta sup sub = do
  row ← row_with_scripts fonts style nucleus delta sup sub
  make_row row
