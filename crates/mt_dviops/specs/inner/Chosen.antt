-- What the code keeps of the files whose pages are copied, and which numbers pages have.
use Rattle.std.specs.Prelude.{ℕ, ℤ, List, [], ◌∷◌, ◌-◌, get_or, Bool, not, nat_lt, ◌==◌, ◌||◌, ⊤}
use Rattle.std.specs.Ordering.{int_eq}
use Rattle.mt_family.specs.SetValue.{SetValue}
use Rattle.mt_dviops.specs.declared.copies.Copies.{Copies}
use Rattle.mt_dviops.specs.Source.{SourceFile, SourcePage, empty_source}
use Rattle.mt_dviops.specs.inner.Copies.{Holds}

-- none of so many pages has the number
abbrev pub is_out_of_range : ℕ → ℕ → Bool
is_out_of_range count number = number == 0 || nat_lt count number

-- the page of a number
abbrev pub page_or_empty : List SourcePage → ℕ → SourcePage
page_or_empty pages number = get_or pages (number - 1) (empty_source [])

-- each file is kept
abbrev pub AllHold : SetValue → List Copies → List SourceFile → Type 0
AllHold fonts [] [] = ⊤
AllHold fonts [] (source ∷ sources) = ⊥
AllHold fonts (copies ∷ more) [] = ⊥
AllHold fonts (copies ∷ more) (source ∷ sources) = Holds fonts copies source × AllHold fonts more sources

abbrev pub has_other_mag : ℤ → Copies → Bool
has_other_mag mag copies = not (int_eq copies.mag mag)
