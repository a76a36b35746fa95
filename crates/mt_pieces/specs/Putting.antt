-- What a call answers that puts a piece in place of others (`SetsPieces`), beside what setting answers.
use Rattle.std.specs.Prelude.{◌≡◌, pos, List, [], ◌∷◌, ◌++◌, Result, Ok, Err, ⊤}
use Rattle.mt_family.specs.declared.size.Size.{Size}
use Rattle.mt_family.specs.SetValue.{SetValue}
use Rattle.mt_box.specs.Layout.{Layout}
use Rattle.mt_box.specs.Rows.{PieceValue, PieceBox}
use Rattle.mt_box.specs.declared.error.PackError.{PackError}
use Rattle.mt_box.specs.declared.error.PackError.TheVariants.{Overflow as PackOverflow, OutOfMemory as NoPackMemory}
use Rattle.mt_rules.specs.declared.part_error.PartError.{PartError}
use Rattle.mt_rules.specs.declared.part_error.PartError.TheVariants.{Overflow as PartOverflow, TooTall as PartTooTall, OutOfMemory as NoPartMemory}
use Rattle.mt_rules.specs.Delimiters.{piece_on_axis}
use Rattle.mt_rules.specs.Setting.{Setting, ◌>>=◌, Overflow, TooTall}

-- a box that is not raised after the others
abbrev pub boxed_on : List PieceValue → Setting Layout → Setting (List PieceValue)
boxed_on rest setting = do
  box ← setting
  Ok (rest ++ PieceBox (pos 0) box ∷ [])

-- the same with its middle on the axis
abbrev pub boundary_on : SetValue → Size → List PieceValue → Setting Layout → Setting (List PieceValue)
boundary_on fonts size rest setting = do
  box ← setting
  Ok (rest ++ piece_on_axis fonts size box ∷ [])

-- a row after the others
abbrev pub row_on : List PieceValue → Setting (List PieceValue) → Setting (List PieceValue)
row_on rest setting = do
  row ← setting
  Ok (rest ++ row)

-- boxes that are not raised
abbrev pub unraised_boxes : List Layout → List PieceValue
unraised_boxes [] = []
unraised_boxes (l ∷ ls) = PieceBox (pos 0) l ∷ unraised_boxes ls

-- the pieces are what setting answers, or the fault is the same; that memory ran out may come in place of both
abbrev pub SetsPieces : {U : Type 0} → Result U PartError → List PieceValue → Setting (List PieceValue) → Type 0
SetsPieces (Ok u) pieces setting = setting ≡ Ok pieces
SetsPieces (Err (PartOverflow value)) pieces setting = setting ≡ Err (Overflow value)
SetsPieces (Err (PartTooTall n)) pieces setting = setting ≡ Err (TooTall n)
SetsPieces (Err NoPartMemory) pieces setting = ⊤

-- the same of a call that only packs
abbrev pub PacksPieces : {U : Type 0} → Result U PackError → List PieceValue → Setting (List PieceValue) → Type 0
PacksPieces (Ok u) pieces setting = setting ≡ Ok pieces
PacksPieces (Err (PackOverflow value)) pieces setting = setting ≡ Err (Overflow value)
PacksPieces (Err NoPackMemory) pieces setting = ⊤
