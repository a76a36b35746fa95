-- Atoms in an arena (`noad_in`), and what is known of the one at hand.
use Rattle.std.specs.Prelude.{◌≡◌, ◌≤◌, ℕ, true, List, [], ◌∷◌, length, Option, Some, None, IfSome}
use Rattle.mt_rules.specs.declared.class.Class.TheVariants.{Ord}
use Rattle.mt_rules.specs.declared.kind.Kind.{Kind}
use Rattle.mt_rules.specs.declared.kind.Kind.TheVariants.{Plain}
use Rattle.mt_rules.specs.declared.kind.Limits.{Limits}
use Rattle.mt_rules.specs.declared.kind.Limits.TheVariants.{Default}
use Rattle.mt_scan.specs.declared.role.Side.{Side}
use Rattle.mt_scan.specs.declared.role.Side.TheVariants.{Up, Down}
use Rattle.mt_scan.specs.Symbols.{class_of, code_symbol}
use Rattle.mt_arena.specs.declared.thing.Cell.{Cell}
use Rattle.mt_arena.specs.declared.thing.Cell.TheVariants.{Empty, Sym}
use Rattle.mt_arena.specs.declared.thing.Noad.{Noad}
use Rattle.mt_arena.specs.declared.thing.Thing.TheVariants.{Atom}
use Rattle.mt_arena.specs.Arena.{Held, ItemHeld, cell_end, cell_part, thing_end}
use Rattle.mt_arena.specs.Keeping.{ElementLists, PartLists}
use Rattle.mt_formula.specs.Atoms.{AtomValue, element_of_atom, is_field, takes_scripts}
use Rattle.mt_formula.specs.reading.Facts.{atom_fits}

-- an atom of which the lists are among these
abbrev pub noad_in : List Held → Noad → AtomValue
noad_in es a = record { kind = a.kind; limits = a.limits; nucleus = cell_part es a.nucleus; sup = cell_part es a.sup; sub = cell_part es a.sub }

abbrev pub last_in : List Held → Option Noad → Option AtomValue
last_in es None = None
last_in es (Some a) = Some (noad_in es a)

-- an atom without scripts
abbrev pub bare_noad : Kind → Cell → Noad
bare_noad kind nucleus = record { kind = kind; limits = Default; nucleus = nucleus; sup = Empty; sub = Empty }

-- the atom of a math code, where this family is current
abbrev pub symbol_noad : Option ℕ → ℕ → Noad
symbol_noad family code = bare_noad (Plain (class_of code)) (Sym (code_symbol family code))

-- the atom that scripts here belong to
abbrev pub scripted_noad : Option Noad → Noad
scripted_noad None = bare_noad (Plain Ord) Empty
scripted_noad (Some a) = a

abbrev pub noad_with : Side → Cell → Option Noad → Noad
noad_with Up part last = record (scripted_noad last) { sup = part }
noad_with Down part last = record (scripted_noad last) { sub = part }

-- the atom at hand with its limits placed so
abbrev pub limited : Limits → Option Noad → Option Noad
limited limits None = None
limited limits (Some a) = Some (record a { limits = limits })

-- its lists are there, and it may be an item of a list
pub record KeptNoad (es : List Held) (a : Noad) : Type 0 where
  pub within : thing_end (Atom a) ≤ length es
  pub lists : ElementLists (element_of_atom (noad_in es a))
  pub fits : atom_fits a.kind (cell_part es a.nucleus) (cell_part es a.sup) (cell_part es a.sub) ≡ true

-- an atom that may still get scripts
pub record OpenNoad (es : List Held) (a : Noad) : Type 0 where
  pub kept : KeptNoad es a
  pub takes : takes_scripts a.kind (cell_part es a.nucleus) ≡ true

abbrev pub KeptLast : List Held → Option Noad → Type 0
KeptLast es last = IfSome last (OpenNoad es)

-- the atom at hand, as an item of an open list
abbrev pub last_held : List Held → Option Noad → List Held
last_held es None = []
last_held es (Some a) = ItemHeld (element_of_atom (noad_in es a)) ∷ []

-- a nucleus or a script that is nothing, a symbol or a list
pub record KeptField (es : List Held) (c : Cell) : Type 0 where
  pub within : cell_end c ≤ length es
  pub lists : PartLists (cell_part es c)
  pub field : is_field (cell_part es c) ≡ true
