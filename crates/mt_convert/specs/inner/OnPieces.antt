-- What the calls leave that put rows and boxes behind the pieces that are there (`SetsAtomOn`, `SetsBoxOn`, `SetsNucleusOn`,
-- `SetsOperatorOn`, `SetsScriptOn`, `SetsBoxesOn`): what is made, or the first fault. That memory ran out may come in its place.
use Rattle.std.specs.Prelude.{◌≡◌, ◌≤◌, ◌≤ℤ◌, ◌^◌, ℕ, ℤ, pos, is_some, length, map, Bool, List, [], ◌∷◌, ◌++◌, Option, Result, Ok, Err}
use Rattle.mt_scaled.specs.Number.{Within, max_dimen}
use Rattle.mt_scaled.specs.declared.length.Length.{Length}
use Rattle.mt_box.specs.declared.extents.Extents.{Extents}
use Rattle.mt_box.specs.Layout.{Layout}
use Rattle.mt_box.specs.Rows.{PieceValue, PieceBox, row_height, row_depth}
use Rattle.mt_rules.specs.Nuclei.{Nucleus}
use Rattle.mt_rules.specs.Setting.{Setting, make_row}
use Rattle.mt_rules.specs.Tables.{Cells}
use Rattle.mt_pieces.specs.Attaching.{box_if}
use Rattle.mt_pieces.specs.Celled.{cell_pieces}
use Rattle.mt_pieces.specs.Putting.{unraised_boxes}
use Rattle.mt_convert.specs.declared.fault.SetFault.{SetFault}
use Rattle.mt_pieces.specs.declared.items.PlacedItem.{PlacedItem}
use Rattle.mt_convert.specs.Calls.{SetFails}
use Rattle.mt_convert.specs.Halves.{HalfValue, half_height, half_depth}
use Rattle.mt_convert.specs.inner.AtomSteps.{BoxWithItalic}
use Rattle.mt_convert.specs.inner.Placed.{PlacedFits, placed_length, placed_value}

-- ---- the row of an atom

-- the row of an atom, which was tested
pub record AtomOn (old new : List PieceValue) (setting : Setting (List PieceValue)) : Type 0 where
  pub row : List PieceValue
  pub is : setting ≡ Ok row
  pub stays : new ≡ old ++ row
  pub few : length row ≤ 4
  pub height : row_height row ≤ℤ pos max_dimen
  pub depth : row_depth row ≤ℤ pos max_dimen

abbrev pub SetsAtomOn : {U : Type 0} → Result U SetFault → List PieceValue → List PieceValue → Setting (List PieceValue) → Type 0
SetsAtomOn (Ok u) old new setting = AtomOn old new setting
SetsAtomOn (Err fault) old new setting = SetFails fault setting

-- ---- boxes, which are not raised

pub record BoxOn (old new : List PieceValue) (setting : Setting Layout) : Type 0 where
  pub box : Layout
  pub is : setting ≡ Ok box
  pub stays : new ≡ old ++ PieceBox (pos 0) box ∷ []

abbrev pub SetsBoxOn : {U : Type 0} → Result U SetFault → List PieceValue → List PieceValue → Setting Layout → Type 0
SetsBoxOn (Ok u) old new setting = BoxOn old new setting
SetsBoxOn (Err fault) old new setting = SetFails fault setting

-- two boxes are the last pieces, the first of them of this number
pub record EndsInTwoBoxes (first : ℕ) (pieces : List PieceValue) : Type 0 where
  pub before : List PieceValue
  pub one : Layout
  pub two : Layout
  pub at : length before ≡ first
  pub is : pieces ≡ before ++ PieceBox (pos 0) one ∷ PieceBox (pos 0) two ∷ []

-- the box of a script, if there is one
pub record ScriptOn (there : Bool) (old new : List PieceValue) (setting : Setting (Option Layout)) : Type 0 where
  pub box : Option Layout
  pub is : setting ≡ Ok box
  pub known : there ≡ is_some box
  pub stays : new ≡ old ++ box_if box

abbrev pub SetsScriptOn : Result Bool SetFault → List PieceValue → List PieceValue → Setting (Option Layout) → Type 0
SetsScriptOn (Ok there) old new setting = ScriptOn there old new setting
SetsScriptOn (Err fault) old new setting = SetFails fault setting

-- so many boxes
pub record BoxesOn (count : ℕ) (old new : List PieceValue) (setting : Setting (List Layout)) : Type 0 where
  pub boxes : List Layout
  pub is : setting ≡ Ok boxes
  pub counted : count ≡ length boxes
  pub stays : new ≡ old ++ unraised_boxes boxes

abbrev pub SetsBoxesOn : Result ℕ SetFault → List PieceValue → List PieceValue → Setting (List Layout) → Type 0
SetsBoxesOn (Ok count) old new setting = BoxesOn count old new setting
SetsBoxesOn (Err fault) old new setting = SetFails fault setting

-- the cells of a table, so many in each row
pub record CellsOn (counts : List ℕ) (old new : List PieceValue) (setting : Setting (List Cells)) : Type 0 where
  pub cells : List Cells
  pub is : setting ≡ Ok cells
  pub counted : counts ≡ map length cells
  pub stays : new ≡ old ++ cell_pieces cells

-- ---- nuclei and operators, whose italic correction is answered

pub record NucleusOn (delta : ℤ) (old new : List PieceValue) (setting : Setting Nucleus) : Type 0 where
  pub row : List PieceValue
  pub is : setting ≡ Ok (record { row = row; delta = delta })
  pub stays : new ≡ old ++ row
  pub few : length row ≤ 2
  pub small : Within (2 ^ 31) delta

abbrev pub SetsNucleusOn : Result Length SetFault → List PieceValue → List PieceValue → Setting Nucleus → Type 0
SetsNucleusOn (Ok delta) old new setting = NucleusOn delta.sp old new setting
SetsNucleusOn (Err fault) old new setting = SetFails fault setting

pub record OperatorOn (delta : ℤ) (old new : List PieceValue) (setting : Setting BoxWithItalic) : Type 0 where
  pub box : Layout
  pub is : setting ≡ Ok (record { box = box; delta = delta })
  pub stays : new ≡ old ++ PieceBox (pos 0) box ∷ []
  pub small : Within (2 ^ 31) delta

abbrev pub SetsOperatorOn : Result Length SetFault → List PieceValue → List PieceValue → Setting BoxWithItalic → Type 0
SetsOperatorOn (Ok delta) old new setting = OperatorOn delta.sp old new setting
SetsOperatorOn (Err fault) old new setting = SetFails fault setting

-- ---- the extents of a box that is not kept

pub record ExtentsOf (extents : Extents) (setting : Setting Layout) : Type 0 where
  pub box : Layout
  pub is : setting ≡ Ok box
  pub same : extents ≡ box.extents

abbrev pub SetsExtentsOf : Result Extents SetFault → Setting Layout → Type 0
SetsExtentsOf (Ok extents) setting = ExtentsOf extents setting
SetsExtentsOf (Err fault) setting = SetFails fault setting

-- ---- items between the passes

-- a kern or a space, which has no pieces
abbrev pub SetsPlaced : Result PlacedItem SetFault → Setting HalfValue → Type 0
SetsPlaced (Ok half) setting = setting ≡ Ok (placed_value half [])
SetsPlaced (Err fault) setting = SetFails fault setting

pub record HalfOn (half : PlacedItem) (old new : List PieceValue) (setting : Setting HalfValue) : Type 0 where
  pub row : List PieceValue
  pub is : setting ≡ Ok (placed_value half row)
  pub stays : new ≡ old ++ row
  pub count : placed_length half ≡ length row
  pub few : length row ≤ 4
  pub fits : PlacedFits half
  pub height : half_height (placed_value half row) ≤ℤ pos max_dimen
  pub depth : half_depth (placed_value half row) ≤ℤ pos max_dimen

abbrev pub SetsHalfOn : Result PlacedItem SetFault → List PieceValue → List PieceValue → Setting HalfValue → Type 0
SetsHalfOn (Ok half) old new setting = HalfOn half old new setting
SetsHalfOn (Err fault) old new setting = SetFails fault setting

-- ---- tests

-- a row that is tested as it packs
abbrev pub TestsRow : {U : Type 0} → Result U SetFault → List PieceValue → Type 0
TestsRow (Ok u) row = make_row row ≡ Ok row
TestsRow (Err fault) row = SetFails fault (make_row row)
