-- The kern that joining leaves between two atoms (`kern_halves`), and its test.
use Rattle.std.specs.Prelude.{◌≡◌, ℤ, List, [], ◌∷◌, Option, Some, None, Result, Ok, Err, ⊤}
use Rattle.mt_rules.specs.Setting.{Setting, test_value}
use Rattle.mt_convert.specs.declared.fault.SetFault.{SetFault}
use Rattle.mt_pieces.specs.declared.items.PlacedItem.{PlacedItem}
use Rattle.mt_pieces.specs.declared.items.PlacedItem.TheVariants as placed
use Rattle.mt_convert.specs.Calls.{SetFails}

abbrev pub kern_halves : Option ℤ → List PlacedItem
kern_halves None = []
kern_halves (Some amount) = placed.Kern amount ∷ []

abbrev pub test_kern : Option ℤ → Setting ⊤
test_kern None = Ok tt
test_kern (Some amount) = test_value amount

abbrev pub SetsKern : {U : Type 0} → Result U SetFault → Option ℤ → Type 0
SetsKern (Ok u) kern = test_kern kern ≡ Ok tt
SetsKern (Err fault) kern = SetFails fault (test_kern kern)
