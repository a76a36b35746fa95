-- What an action gives (`given_in`), as the code has it.
use Rattle.std.specs.Prelude.{◌≡◌, ◌≤◌, Bool, true, false, List, [], ◌∷◌, length, ⊤}
use Rattle.mt_rules.specs.Sequence.{Sequence, EmptyPart}
use Rattle.mt_arena.specs.declared.thing.Thing.{Thing}
use Rattle.mt_arena.specs.declared.thing.Span.{Span}
use Rattle.mt_arena.specs.Arena.{Held, ItemHeld, as_sequence, cell_part, grid_in, thing_end, value_in}
use Rattle.mt_arena.specs.Keeping.{GridLists, HeldLists}
use Rattle.mt_formula.specs.declared.reading.given.Given.{Given as CodeGiven}
use Rattle.mt_formula.specs.declared.reading.given.Given.TheVariants as code
use Rattle.mt_formula.specs.Items.{Given, GivesNothing, GivesAtom, GivesItems, GivesScript, GivesLimits, GivesFamily}
use Rattle.mt_formula.specs.Atoms.{element_of_atom, plain_atom}
use Rattle.mt_formula.specs.Tables.{table_atom, table_items, thin_space}
use Rattle.mt_formula.specs.declared.actions.action.Action.{Action}
use Rattle.mt_formula.specs.declared.actions.action.Action.TheVariants.{Nothing, Atom, Script, Item, Family, Limits, Big}
use Rattle.mt_rules.specs.declared.class.Class.TheVariants.{Ord}
use Rattle.mt_rules.specs.declared.kind.Kind.TheVariants.{Plain}
use Rattle.mt_rules.specs.declared.list.Look.{Look}
use Rattle.mt_formula.specs.reading.Inside.{are_inside}
use Rattle.mt_formula.specs.reading.Noads.{KeptField, OpenNoad, noad_in}

-- the item that a thing is, as a list
abbrev pub item_in : List Held → Thing → Sequence
item_in es t = as_sequence (value_in es t ∷ [])

abbrev pub given_in : List Held → CodeGiven → Given
given_in es code.Nothing = GivesNothing
given_in es (code.Atom a) = GivesAtom (noad_in es a)
given_in es (code.Item t) = GivesItems (item_in es t)
given_in es (code.Table look rows) = GivesItems (table_items look (grid_in es rows))
given_in es (code.Script side part) = GivesScript side (cell_part es part)
given_in es (code.Limits limits) = GivesLimits limits
given_in es (code.Family family) = GivesFamily family

abbrev pub KeptThing : List Held → Thing → Type 0
KeptThing es t = (thing_end t ≤ length es) × HeldLists (value_in es t) × (are_inside (value_in es t ∷ []) ≡ true)

abbrev pub KeptGiven : List Held → CodeGiven → Type 0
KeptGiven es code.Nothing = ⊤
KeptGiven es (code.Atom a) = OpenNoad es a
KeptGiven es (code.Item t) = KeptThing es t
KeptGiven es (code.Table look rows) = (rows.end ≤ length es) × GridLists (grid_in es rows)
KeptGiven es (code.Script side part) = KeptField es part
KeptGiven es (code.Limits limits) = ⊤
KeptGiven es (code.Family family) = ⊤

-- an action for which no list is read
abbrev pub is_plain_action : Action → Bool
is_plain_action Nothing = true
is_plain_action (Atom kind symbol) = true
is_plain_action (Script side symbol) = true
is_plain_action (Item item) = true
is_plain_action (Family family) = true
is_plain_action (Limits limits) = true
is_plain_action (Big class delim size) = true
is_plain_action _ = false

-- the things of a table between thin spaces
abbrev pub table_held : List Held → Look → Span → List Held
table_held es look rows =
    ItemHeld (element_of_atom (plain_atom (Plain Ord) EmptyPart))
    ∷ ItemHeld thin_space ∷ ItemHeld (element_of_atom (table_atom look (grid_in es rows))) ∷ ItemHeld thin_space ∷ []
