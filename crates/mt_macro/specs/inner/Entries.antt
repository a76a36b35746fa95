-- The entries of the macros, in the names' order.
use Rattle.std.specs.Prelude.{◌≡◌, ℕ, zero, suc, List, [], ◌∷◌, map, Option, Some, Result, Ok, Err}
use Rattle.std.specs.Cmp.Lexicographic.{slice_cmp}
use Rattle.std.specs.Ordering.{nat_cmp}
use Rattle.std.specs.declared.cmp.Ordering.TheVariants.{Less, Equal, Greater}
use Rattle.mt_token.specs.declared.token.Token.{Token}
use Rattle.mt_macro.specs.declared.table.Macro.{Macro}
use Rattle.mt_macro.specs.declared.table.Entry.{Entry}
use Rattle.mt_macro.specs.Table.{Table}

-- the table of entries
abbrev pub table_of : List Entry → Table
table_of es = map (λ (e : Entry). (e.name, e.meaning)) es

-- the body of the macro with this place; no tokens where there is none
abbrev pub body_at : Table → ℕ → List Token
body_at [] i = []
body_at (e ∷ es) zero = e.1.body
body_at (e ∷ es) (suc i) = body_at es i

-- this is the macro with this place
abbrev pub HasAt : Table → ℕ → Option Macro → Type 0
HasAt [] i o = ⊥
HasAt (e ∷ es) zero o = o ≡ Some e.1
HasAt (e ∷ es) (suc i) o = HasAt es i o

-- the names of the first entries are before a name, and the next one is that name
abbrev pub IsFoundAt : Table → List ℕ → ℕ → Type 0
IsFoundAt [] name i = ⊥
IsFoundAt (e ∷ es) name zero = slice_cmp nat_cmp name e.0 ≡ Equal
IsFoundAt (e ∷ es) name (suc i) = (slice_cmp nat_cmp name e.0 ≡ Greater) × IsFoundAt es name i

-- all names are after a name
abbrev pub AreAfter : Table → List ℕ → Type 0
AreAfter [] name = Unit {0}
AreAfter (e ∷ es) name = (slice_cmp nat_cmp name e.0 ≡ Less) × AreAfter es name

-- the names of the first entries are before a name, and the others after it
abbrev pub IsMissingAt : Table → List ℕ → ℕ → Type 0
IsMissingAt es name zero = AreAfter es name
IsMissingAt [] name (suc i) = ⊥
IsMissingAt (e ∷ es) name (suc i) = (slice_cmp nat_cmp name e.0 ≡ Greater) × IsMissingAt es name i

-- where a name is among entries in the names' order, or where it would be put
abbrev pub IsPlace : Table → List ℕ → Result ℕ ℕ → Type 0
IsPlace es name (Ok i) = IsFoundAt es name i
IsPlace es name (Err i) = IsMissingAt es name i
