-- What a call answers that makes a layout on marks, beside what setting answers (`SetsOn`).
use Rattle.std.specs.Prelude.{◌≡◌, List, [], ◌∷◌, ◌++◌, Result, Ok, Err, Some, None, ⊤}
use Rattle.mt_box.specs.declared.place.Place.{Place}
use Rattle.mt_box.specs.declared.extents.Extents.{Extents}
use Rattle.mt_box.specs.Extents.{first_out}
use Rattle.mt_box.specs.Layout.{Layout}
use Rattle.mt_box.specs.Rows.{PieceValue, PieceBox}
use Rattle.mt_box.specs.declared.error.PackError.{PackError}
use Rattle.mt_box.specs.declared.error.PackError.TheVariants.{Overflow as PackOverflow, OutOfMemory as NoPackMemory}
use Rattle.mt_box.specs.declared.marks.row.RowPiece.{RowPiece}
use Rattle.mt_rules.specs.declared.part_error.PartError.{PartError}
use Rattle.mt_rules.specs.declared.part_error.PartError.TheVariants.{Overflow as PartOverflow, TooTall as PartTooTall, OutOfMemory as NoPartMemory}
use Rattle.mt_rules.specs.Setting.{Setting, Overflow, TooTall}

-- a layout of these places
abbrev pub layout_with : Extents → List Place → Layout
layout_with e ps = record { extents = e; places = ps }

-- the layout of these places reaches so far and is what setting answers, or the fault is the same; lack of memory may come in
-- place of both
abbrev pub SetsOn : Result Extents PartError → List Place → Setting Layout → Type 0
SetsOn (Ok e) ps setting = setting ≡ Ok (layout_with e ps)
SetsOn (Err (PartOverflow value)) ps setting = setting ≡ Err (Overflow value)
SetsOn (Err (PartTooTall n)) ps setting = setting ≡ Err (TooTall n)
SetsOn (Err NoPartMemory) ps setting = ⊤

-- the same of a call that only packs
abbrev pub BoxSetsOn : Result Extents PackError → List Place → Setting Layout → Type 0
BoxSetsOn (Ok e) ps setting = setting ≡ Ok (layout_with e ps)
BoxSetsOn (Err (PackOverflow value)) ps setting = setting ≡ Err (Overflow value)
BoxSetsOn (Err NoPackMemory) ps setting = ⊤

-- the same of a row and a box after it
abbrev pub RowSetsOn : List PieceValue → Result RowPiece PackError → List Place → Setting (List PieceValue) → Type 0
RowSetsOn row (Ok p) ps setting = setting ≡ Ok (row ++ PieceBox p.raise (layout_with p.extents ps) ∷ [])
RowSetsOn row (Err (PackOverflow value)) ps setting = setting ≡ Err (Overflow value)
RowSetsOn row (Err NoPackMemory) ps setting = ⊤

-- the extents, if they are in range, and else the first that is not
abbrev pub ExtentsTested : Extents → Result Extents PackError → Type 0
ExtentsTested e (Ok extents) = (extents ≡ e) × (first_out e ≡ None)
ExtentsTested e (Err (PackOverflow value)) = first_out e ≡ Some value
ExtentsTested e (Err NoPackMemory) = ⊥
