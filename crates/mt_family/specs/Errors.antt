-- The numbers and the places of errors, and what they mean in words.
use Rattle.std.specs.Prelude.{ℕ, Option, Some, None, List, [], ◌∷◌, codes}
use Rattle.mt_scaled.specs.Meanings.{Meaning}
use Rattle.mt_family.specs.declared.error.ListError.{ListError}
use Rattle.mt_family.specs.declared.error.ListError.TheVariants as lists
use Rattle.mt_family.specs.declared.error.SetError.{SetError}
use Rattle.mt_family.specs.declared.error.SetError.TheVariants as sets
use Rattle.mt_family.specs.declared.size.Size.{Size}

-- the number of why a font list is refused, in the order of the variants
abbrev pub list_error_number : ListError → ℕ
list_error_number (lists.BadLine line) = 1
list_error_number (lists.Repeated line) = 2
list_error_number (lists.UnknownFont line) = 3
list_error_number (lists.TooMany line) = 4
list_error_number lists.OutOfMemory = 5

-- the line at fault, from 1
abbrev pub list_error_place : ListError → Option ℕ
list_error_place (lists.BadLine line) = Some line
list_error_place (lists.Repeated line) = Some line
list_error_place (lists.UnknownFont line) = Some line
list_error_place (lists.TooMany line) = Some line
list_error_place lists.OutOfMemory = None

-- what each means, but for lack of memory
abbrev pub list_causes : List Meaning
list_causes =
    record { number = 1; text = codes "this is not a valid line of a font list" }
    ∷ record { number = 2; text = codes "the list already has this font at this size, or this family" }
    ∷ record { number = 3; text = codes "the family uses the number of a font that is not above it in the list" }
    ∷ record { number = 4; text = codes "a font list can have at most 48 fonts" }
    ∷ []

-- the number of why a list and its fonts make no set, in the order of the variants
abbrev pub set_error_number : SetError → ℕ
set_error_number (sets.NoMathFamily fam size) = 1
set_error_number (sets.FewParameters fam size) = 2
set_error_number sets.OutOfMemory = 3
set_error_number (sets.SameFont font) = 4

-- a family at a size
abbrev pub SizedFamily : Type 0
SizedFamily = ℕ × Size

-- the family and the size at fault
abbrev pub set_error_family : SetError → Option SizedFamily
set_error_family (sets.NoMathFamily fam size) = Some (fam, size)
set_error_family (sets.FewParameters fam size) = Some (fam, size)
set_error_family sets.OutOfMemory = None
set_error_family (sets.SameFont font) = None

-- what those of a family mean
abbrev pub family_causes : List Meaning
family_causes =
    record { number = 1; text = codes "formulas need a font of this family at this size" }
    ∷ record { number = 2; text = codes "the font has too few parameters: family 2 needs 22, and family 3 needs 13" }
    ∷ []
