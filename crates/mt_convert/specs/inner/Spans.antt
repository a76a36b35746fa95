-- One turn at the front of a list in an arena (`turn_of_held`), by that of a list of the code, and what passes
-- (`passed_in`).
use Rattle.std.specs.Prelude.{◌≤◌, Bool, false, List, length, Option, None}
use Rattle.mt_family.specs.SetValue.{SetValue}
use Rattle.mt_rules.specs.declared.class.Class.{Class}
use Rattle.mt_rules.specs.declared.symbol.Symbol.{Symbol}
use Rattle.mt_rules.specs.Modest.{IsModestList}
use Rattle.mt_rules.specs.Sequence.{Sequence, Element, AtomElement, FractionElement}
use Rattle.mt_arena.specs.declared.thing.Cell.{Cell}
use Rattle.mt_arena.specs.declared.thing.FractionNoad.{FractionNoad}
use Rattle.mt_arena.specs.declared.thing.Noad.{Noad}
use Rattle.mt_arena.specs.declared.thing.Span.{Span}
use Rattle.mt_arena.specs.declared.thing.Thing.{Thing}
use Rattle.mt_arena.specs.declared.thing.Thing.TheVariants as thing
use Rattle.mt_arena.specs.Arena.{Held, ItemHeld, cell_end, cell_part, glue_of, sequence_in, thing_end, value_in}
use Rattle.mt_arena.specs.Keeping.{ElementLists, HeldLists, KeptList, PartLists}
use Rattle.mt_convert.specs.declared.flat.current.Current.{Current}
use Rattle.mt_convert.specs.declared.flat.passed.Joined.{Joined}
use Rattle.mt_convert.specs.Flat.{no_glue}
use Rattle.mt_convert.specs.inner.Modest.{IsModestElement, IsModestPart}
use Rattle.mt_convert.specs.inner.Turns.{PassedElement, PassedAtom, PassedFraction, PassedLeft, PassedMiddle, PassedRight, PassedStyle, PassedMuSpace, PassedSpace, PassedMuKern, PassedKern, ListTurn, RewritesTo, element_of_passed, role_value, symbol_before, symbol_of_element, element_as_symbol, is_space_element, turn_of}

-- ---- what passes

-- an item with what joining makes of it; a conditional space has no size, and what is after it here does not pass
abbrev pub passed_in : List Held → Thing → Joined → PassedElement
passed_in es (thing.Atom a) j =
    PassedAtom a.kind a.limits (cell_part es a.nucleus) (cell_part es a.sup) (cell_part es a.sub) (role_value j.role) j.kern
passed_in es (thing.Fraction f) j = PassedFraction f.thickness f.left f.right (sequence_in es f.num) (sequence_in es f.den)
passed_in es (thing.Left delim) j = PassedLeft delim
passed_in es (thing.Middle delim) j = PassedMiddle delim
passed_in es (thing.Right delim) j = PassedRight delim
passed_in es (thing.Style style) j = PassedStyle style
passed_in es (thing.MuSpace glue) j = PassedMuSpace (glue_of glue)
passed_in es (thing.Space glue) j = PassedSpace (glue_of glue)
passed_in es (thing.MuKern amount) j = PassedMuKern amount
passed_in es (thing.Kern amount) j = PassedKern amount
passed_in es thing.Nonscript j = PassedSpace no_glue
passed_in es (thing.Choice spans) j = PassedSpace no_glue
passed_in es (thing.Row span) j = PassedSpace no_glue
passed_in es (thing.Cells span) j = PassedSpace no_glue
passed_in es (thing.Root parts) j = PassedSpace no_glue

abbrev pub atom_in : List Held → Noad → Element
atom_in es a = AtomElement a.kind a.limits (cell_part es a.nucleus) (cell_part es a.sup) (cell_part es a.sub)

abbrev pub fraction_in : List Held → FractionNoad → Element
fraction_in es f = FractionElement f.thickness f.left f.right (sequence_in es f.num) (sequence_in es f.den)

-- ---- one turn

abbrev pub noad_symbol_before : List Held → Option Class → Noad → Option Symbol
noad_symbol_before es last a =
    symbol_before last a.kind (cell_part es a.nucleus) (cell_part es a.sup) (cell_part es a.sub)

abbrev pub held_symbol : Held → Option Symbol
held_symbol (ItemHeld e) = symbol_of_element e
held_symbol _ = None

abbrev pub held_space : Held → Bool
held_space (ItemHeld e) = is_space_element e
held_space _ = false

abbrev pub held_as : Symbol → Held → Held
held_as symbol (ItemHeld e) = ItemHeld (element_as_symbol symbol e)
held_as symbol h = h

-- what is no item is left out
abbrev pub turn_of_held : SetValue → Current → Held → Sequence → ListTurn
turn_of_held fonts current (ItemHeld e) s = turn_of fonts current e s
turn_of_held fonts current h s = RewritesTo s

-- ---- what is asked of a list, a field and an item in an arena

-- its lists lie among these, keep what math lists keep, and are modest
pub record ModestSpan (es : List Held) (list : Span) : Type 0 where
  pub within : list.end ≤ length es
  pub modest : IsModestList (sequence_in es list)
  pub kept : KeptList (sequence_in es list)

pub record ModestCell (es : List Held) (field : Cell) : Type 0 where
  pub within : cell_end field ≤ length es
  pub modest : IsModestPart (cell_part es field)
  pub kept : PartLists (cell_part es field)

pub record ModestAtom (es : List Held) (atom : Noad) : Type 0 where
  pub within : thing_end (thing.Atom atom) ≤ length es
  pub modest : IsModestElement (atom_in es atom)
  pub kept : ElementLists (atom_in es atom)

pub record ModestFraction (es : List Held) (fraction : FractionNoad) : Type 0 where
  pub within : thing_end (thing.Fraction fraction) ≤ length es
  pub modest : IsModestElement (fraction_in es fraction)
  pub kept : ElementLists (fraction_in es fraction)

pub record ModestPassed (es : List Held) (item : Thing) (joined : Joined) : Type 0 where
  pub within : thing_end item ≤ length es
  pub modest : IsModestElement (element_of_passed (passed_in es item joined))
  pub kept : HeldLists (value_in es item)
