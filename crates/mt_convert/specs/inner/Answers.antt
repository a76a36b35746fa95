-- What the calls inside the crate answer, beside what setting answers (`SetsExtents`, `SetsNumber`): the same value, or the same fault.
-- That memory ran out may come in its place.
use Rattle.std.specs.Prelude.{◌≡◌, ℕ, Result, Ok, Err}
use Rattle.mt_box.specs.declared.extents.Extents.{Extents}
use Rattle.mt_rules.specs.Setting.{Setting}
use Rattle.mt_convert.specs.declared.fault.SetFault.{SetFault}
use Rattle.mt_convert.specs.Calls.{SetFails}

-- the extents of a strut, which were tested
abbrev pub SetsExtents : Result Extents SetFault → Setting Extents → Type 0
SetsExtents (Ok extents) setting = setting ≡ Ok extents
SetsExtents (Err fault) setting = SetFails fault setting

-- the number of a font
abbrev pub SetsNumber : Result ℕ SetFault → Setting ℕ → Type 0
SetsNumber (Ok font) setting = setting ≡ Ok font
SetsNumber (Err fault) setting = SetFails fault setting
