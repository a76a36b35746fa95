-- A font with a byte or two changed has no fault, but it does not read as its table; a font list with one
-- byte changed reads as another list.
use Rattle.std.proofs.Common.{◌≡◌, ℕ, zero, suc, List, [], ◌∷◌, false, refl, pos, codes, Some, None, Ok}
use Rattle.mt_tfm.specs.Checks.{tfm_fault, entries_fault, zeros_fault}
use Rattle.mt_tfm.specs.Font.{metrics_of, metrics_in}
use Rattle.mt_tfm.specs.declared.wanted.Wanted.TheVariants.{At}
use Rattle.mt_family.specs.Lists.{font_list}
use Rattle.mt_samples.specs.Lists.{toy_list}
use Rattle.mt_samples.specs.Bytes.{roman_bytes, italic_bytes, symbols_bytes, extension_bytes, toy_list_bytes}
use Rattle.mt_samples.specs.Tables.{ToyTable, has_table, roman, italic, symbols, extension}

-- item k, from 0, is x
abbrev with_item : {X : Type 0} → ℕ → X → List X → List X
with_item {X} k x [] = []
with_item {X} zero x (y ∷ rest) = x ∷ rest
with_item {X} (suc k) x (y ∷ rest) = y ∷ with_item k x rest

abbrev with_byte : ℕ → ℕ → List ℕ → List ℕ
with_byte k x bytes = with_item k x bytes

record ReadsOtherwise (bytes : List ℕ) (t : ToyTable) : Type 0 where
  passes : tfm_fault bytes (At (pos 655360)) ≡ None
  says : has_table t 655360 (metrics_of bytes (At (pos 655360)) t.skew) ≡ false

-- a design size of 9pt
design : ReadsOtherwise (with_byte 29 144 roman_bytes) roman
unfolding roman_bytes tfm_fault entries_fault zeros_fault metrics_of metrics_in has_table
design = record { passes = refl; says = refl }

-- a join with 106 in place of 105
join : ReadsOtherwise (with_byte 525 106 roman_bytes) roman
unfolding roman_bytes tfm_fault entries_fault zeros_fault metrics_of metrics_in has_table
join = record { passes = refl; says = refl }

-- a kern of 1/16 in place of -1/16
kern : ReadsOtherwise (with_byte 536 0 (with_byte 537 1 roman_bytes)) roman
unfolding roman_bytes tfm_fault entries_fault zeros_fault metrics_of metrics_in has_table
kern = record { passes = refl; says = refl }

-- a kern with 126 in place of the skew character
skew : ReadsOtherwise (with_byte 441 126 italic_bytes) italic
unfolding italic_bytes tfm_fault entries_fault zeros_fault metrics_of metrics_in has_table
skew = record { passes = refl; says = refl }

-- parameter 20 is 39 in place of 38
parameter : ReadsOtherwise (with_byte 653 39 symbols_bytes) symbols
unfolding symbols_bytes tfm_fault entries_fault zeros_fault metrics_of metrics_in has_table
parameter = record { passes = refl; says = refl }

-- the middle piece of 56 is the bottom one
piece : ReadsOtherwise (with_byte 609 58 extension_bytes) extension
unfolding extension_bytes tfm_fault entries_fault zeros_fault metrics_of metrics_in has_table
piece = record { passes = refl; says = refl }

-- the middle piece of 56 and its bottom one change places
pieces : ReadsOtherwise (with_byte 609 58 (with_byte 610 60 extension_bytes)) extension
unfolding extension_bytes tfm_fault entries_fault zeros_fault metrics_of metrics_in has_table
pieces = record { passes = refl; says = refl }

-- 80 has no next larger character
larger : ReadsOtherwise (with_byte 354 0 extension_bytes) extension
unfolding extension_bytes tfm_fault entries_fault zeros_fault metrics_of metrics_in has_table
larger = record { passes = refl; says = refl }

-- family 3 has font 8 at the smallest size
family : font_list (with_byte 270 56 toy_list_bytes) ≡ Ok (record { lines = toy_list.lines; families = with_item 3 (record { fam = 3; fonts = Some 9 ∷ Some 9 ∷ Some 8 ∷ [] }) toy_list.families })
unfolding toy_list_bytes
family = refl

-- a font's size is one more
size : font_list (with_byte 189 49 toy_list_bytes) ≡ Ok (record { lines = with_item 8 (record { name = codes "toys"; wanted = At (pos 327681); skew = None }) toy_list.lines; families = toy_list.families })
unfolding toy_list_bytes
size = refl

-- a font has the skew character 126
skewed : font_list (with_byte 113 54 toy_list_bytes) ≡ Ok (record { lines = with_item 4 (record { name = codes "toym"; wanted = At (pos 458752); skew = Some 126 }) toy_list.lines; families = toy_list.families })
unfolding toy_list_bytes
skewed = refl
