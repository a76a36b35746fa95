-- What a call answers, beside what setting answers (`SetsRow`): the same row, or the same fault. That memory ran out
-- may come in its place.
use Rattle.std.specs.Prelude.{◌≡◌, ◌++◌, List, Result, Ok, Err, ⊤}
use Rattle.mt_box.specs.declared.piece.Piece.{Piece}
use Rattle.mt_box.specs.Rows.{PieceValue, piece_values}
use Rattle.mt_rules.specs.Setting.{Setting, MissingFamily, MissingChar, SmartLigature, Overflow, TooTall}
use Rattle.mt_convert.specs.declared.fault.SetFault.{SetFault}
use Rattle.mt_convert.specs.declared.fault.SetFault.TheVariants as set
use Rattle.mt_convert.specs.Halves.{Halves}
use Rattle.mt_convert.specs.Halfway.{HalfwayValue, halves_value}

-- this fault is the first one
abbrev pub SetFails : {A : Type 0} → SetFault → Setting A → Type 0
SetFails (set.MissingFamily fam size) setting = setting ≡ Err (MissingFamily fam size)
SetFails (set.MissingChar fam size code) setting = setting ≡ Err (MissingChar fam size code)
SetFails (set.SmartLigature fam size first second) setting = setting ≡ Err (SmartLigature fam size first second)
SetFails (set.Overflow value) setting = setting ≡ Err (Overflow value)
SetFails (set.TooTall n) setting = setting ≡ Err (TooTall n)
SetFails set.OutOfMemory setting = ⊤

abbrev pub SetsRow : Result (List Piece) SetFault → Setting (List PieceValue) → Type 0
SetsRow (Ok row) setting = setting ≡ Ok (piece_values row)
SetsRow (Err fault) setting = SetFails fault setting

abbrev pub SetsHalves : Result HalfwayValue SetFault → Setting Halves → Type 0
SetsHalves (Ok half) setting = setting ≡ Ok (halves_value half)
SetsHalves (Err fault) setting = SetFails fault setting

-- the row is behind the pieces that were there
pub record RowOn (old new : List PieceValue) (setting : Setting (List PieceValue)) : Type 0 where
  pub row : List PieceValue
  pub is : setting ≡ Ok row
  pub stays : new ≡ old ++ row

abbrev pub SetsRowOn : {U : Type 0} → Result U SetFault → List PieceValue → List PieceValue → Setting (List PieceValue) → Type 0
SetsRowOn (Ok u) old new setting = RowOn old new setting
SetsRowOn (Err fault) old new setting = SetFails fault setting
