-- What the test of a kern answers (`TestsKern`): the kern, or its amount, which is out of range. And what the test of both kerns of
-- a root answers (`TestsKerns`): those of its row, or the fault of the row.
use Rattle.std.specs.Prelude.{◌≡◌, ℤ, pos, [], ◌∷◌, Result, Ok, Err, ⊤}
use Rattle.mt_scaled.specs.declared.length.Length.{Length}
use Rattle.mt_family.specs.SetValue.{SetValue}
use Rattle.mt_box.specs.declared.error.PackError.{PackError}
use Rattle.mt_box.specs.declared.error.PackError.TheVariants.{Overflow as PackOverflow, OutOfMemory as NoPackMemory}
use Rattle.mt_box.specs.Layout.{Layout}
use Rattle.mt_box.specs.Rows.{PieceBox, PieceKern}
use Rattle.mt_rules.specs.declared.style.Style.{Style}
use Rattle.mt_rules.specs.Roots.{degree_raise, root_row}
use Rattle.mt_rules.specs.Setting.{Overflow, test_value}
use Rattle.mt_parts.specs.declared.root.RootKerns.{RootKerns}

abbrev pub TestsKern : Result Length PackError → ℤ → Type 0
TestsKern (Ok kern) amount = (kern.sp ≡ amount) × (test_value amount ≡ Ok tt)
TestsKern (Err (PackOverflow value)) amount = test_value amount ≡ Err (Overflow value)
TestsKern (Err NoPackMemory) amount = ⊤

abbrev pub TestsKerns : Result RootKerns PackError → SetValue → Style → Type 0
TestsKerns (Ok kerns) fonts style = (degree radical : Layout) → root_row fonts style degree radical
    ≡ Ok (PieceKern kerns.before.sp ∷ PieceBox (degree_raise radical.extents) degree ∷ PieceKern kerns.behind.sp ∷ PieceBox (pos 0) radical ∷ [])
TestsKerns (Err (PackOverflow value)) fonts style = (degree radical : Layout) → root_row fonts style degree radical ≡ Err (Overflow value)
TestsKerns (Err NoPackMemory) fonts style = ⊤
