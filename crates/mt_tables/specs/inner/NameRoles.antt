-- What names are in a formula, by their numbers.
use Rattle.std.specs.Prelude.{◌≡◌, ℕ, List, [], ◌∷◌, Option, Some, None, slice_get}
use Rattle.mt_plain.specs.Names.{control}
use Rattle.mt_lexicon.specs.Meaning.{NameTable}
use Rattle.mt_scan.specs.declared.role.Role.{Role}
use Rattle.mt_scan.specs.declared.role.Role.TheVariants.{Blank}
use Rattle.mt_scan.specs.Role.{meaning_role}

abbrev pub role_of_name : List ℕ → Role
role_of_name name = meaning_role (control name)

abbrev pub named_role : Option (List ℕ) → Role
named_role None = Blank
named_role (Some name) = role_of_name name

-- what the name with a number is
abbrev pub role_numbered : NameTable → ℕ → Role
role_numbered names n = named_role (slice_get names n)

-- the roles of the first names, as many as there are roles
abbrev pub AreRoles : List Role → NameTable → Type 0
AreRoles [] names = Unit {0}
AreRoles (r ∷ rs) [] = ⊥
AreRoles (r ∷ rs) (n ∷ ns) = (r ≡ role_of_name n) × AreRoles rs ns
