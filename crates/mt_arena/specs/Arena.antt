-- What an arena holds, one behind another, and the list, the rows or the table of a span of it.
use Rattle.std.specs.Prelude.{ℕ, suc, List, [], ◌∷◌, take, drop, max, length, ◌≡◌}
use Rattle.mt_rules.specs.Sequence.{Sequence, Element, Part, End, More, AtomElement, FractionElement, LeftElement, MiddleElement, RightElement, StyleElement, ChoiceElement, MuSpaceElement, SpaceElement, MuKernElement, KernElement, NonscriptElement, EmptyPart, SymbolPart, ListPart, RowsPart, TablePart, RootPart, BigPart, Rows, NoRows, MoreRows, TableGrid, NoTableRows, MoreTableRows}
use Rattle.mt_rules.specs.declared.symbol.Glue.{Glue}
use Rattle.mt_arena.specs.declared.thing.ShortGlue.{ShortGlue}
use Rattle.mt_arena.specs.declared.thing.Span.{Span}
use Rattle.mt_arena.specs.declared.thing.Cell.{Cell}
use Rattle.mt_arena.specs.declared.thing.Cell.TheVariants.{Empty, Sym, List as OfList, Rows as OfRows, Table as OfTable, Root as OfRoot, Big as OfBig}
use Rattle.mt_arena.specs.declared.thing.Thing.{Thing}
use Rattle.mt_arena.specs.declared.thing.Thing.TheVariants.{Atom, Fraction, Left, Middle, Right, Style as StyleItem, Choice, MuSpace, Space, MuKern, Kern, Nonscript, Row, Cells, Root}

-- an item of a list, one of rows or a cell of a table, the cells of a row of a table, a root
pub data Held : Type 0 where
  ItemHeld : (element : Element) → Held
  RowHeld : (list : Sequence) → Held
  CellsHeld : (cells : Rows) → Held
  RootHeld : (degree : Sequence) (body : Part) → Held

-- of the lists that are closed, of the innermost open list, and of each open list round it, from the inside out
pub record ArenaValue : Type 0 where
  pub closed : List Held
  pub top : List Held
  pub below : List (List Held)

abbrev pub empty_arena : ArenaValue
empty_arena = record { closed = []; top = []; below = [] }

-- the innermost of open lists, or else one without items
abbrev pub first_open : List (List Held) → List Held
first_open [] = []
first_open (l ∷ ls) = l

-- the others
abbrev pub other_open : List (List Held) → List (List Held)
other_open [] = []
other_open (l ∷ ls) = ls

-- the items among them
abbrev pub as_sequence : List Held → Sequence
as_sequence [] = End
as_sequence (ItemHeld e ∷ hs) = More e (as_sequence hs)
as_sequence (_ ∷ hs) = as_sequence hs

-- the rows among them
abbrev pub as_rows : List Held → Rows
as_rows [] = NoRows
as_rows (RowHeld s ∷ hs) = MoreRows s (as_rows hs)
as_rows (_ ∷ hs) = as_rows hs

-- the rows of a table among them
abbrev pub as_grid : List Held → TableGrid
as_grid [] = NoTableRows
as_grid (CellsHeld r ∷ hs) = MoreTableRows r (as_grid hs)
as_grid (_ ∷ hs) = as_grid hs

-- the root that is the first of them, or else one of nothing
abbrev pub as_root : List Held → Part
as_root (RootHeld degree body ∷ hs) = RootPart degree body
as_root _ = RootPart End EmptyPart

abbrev pub held_in : List Held → Span → List Held
held_in hs s = drop s.start (take s.end hs)

-- the list of a span
abbrev pub sequence_in : List Held → Span → Sequence
sequence_in hs s = as_sequence (held_in hs s)

abbrev pub rows_in : List Held → Span → Rows
rows_in hs s = as_rows (held_in hs s)

abbrev pub grid_in : List Held → Span → TableGrid
grid_in hs s = as_grid (held_in hs s)

abbrev pub root_in : List Held → ℕ → Part
root_in hs n = as_root (drop n (take (suc n) hs))

abbrev pub cell_part : List Held → Cell → Part
cell_part hs Empty = EmptyPart
cell_part hs (Sym s) = SymbolPart s
cell_part hs (OfList s) = ListPart (sequence_in hs s)
cell_part hs (OfRows s) = RowsPart (rows_in hs s)
cell_part hs (OfTable look s) = TablePart look (grid_in hs s)
cell_part hs (OfRoot n) = root_in hs n
cell_part hs (OfBig delim level) = BigPart delim level

abbrev pub glue_of : ShortGlue → Glue
glue_of g = record { width = g.width; shrink = g.shrink }

-- a thing whose lists lie among these
abbrev pub value_in : List Held → Thing → Held
value_in hs (Atom a) = ItemHeld (AtomElement a.kind a.limits (cell_part hs a.nucleus) (cell_part hs a.sup) (cell_part hs a.sub))
value_in hs (Fraction f) = ItemHeld (FractionElement f.thickness f.left f.right (sequence_in hs f.num) (sequence_in hs f.den))
value_in hs (Left d) = ItemHeld (LeftElement d)
value_in hs (Middle d) = ItemHeld (MiddleElement d)
value_in hs (Right d) = ItemHeld (RightElement d)
value_in hs (StyleItem s) = ItemHeld (StyleElement s)
value_in hs (Choice c) = ItemHeld (ChoiceElement (sequence_in hs c.display) (sequence_in hs c.text) (sequence_in hs c.script) (sequence_in hs c.small))
value_in hs (MuSpace g) = ItemHeld (MuSpaceElement (glue_of g))
value_in hs (Space g) = ItemHeld (SpaceElement (glue_of g))
value_in hs (MuKern k) = ItemHeld (MuKernElement k)
value_in hs (Kern k) = ItemHeld (KernElement k)
value_in hs Nonscript = ItemHeld NonscriptElement
value_in hs (Row s) = RowHeld (sequence_in hs s)
value_in hs (Cells s) = CellsHeld (rows_in hs s)
value_in hs (Root r) = RootHeld (sequence_in hs r.degree) (cell_part hs r.body)

-- where the last of the lists in it ends
abbrev pub cell_end : Cell → ℕ
cell_end (OfList s) = s.end
cell_end (OfRows s) = s.end
cell_end (OfTable look s) = s.end
cell_end (OfRoot n) = suc n
cell_end _ = 0

abbrev pub thing_end : Thing → ℕ
thing_end (Atom a) = max (cell_end a.nucleus) (max (cell_end a.sup) (cell_end a.sub))
thing_end (Fraction f) = max f.num.end f.den.end
thing_end (Choice c) = max (max c.display.end c.text.end) (max c.script.end c.small.end)
thing_end (Row s) = s.end
thing_end (Cells s) = s.end
thing_end (Root r) = max r.degree.end (cell_end r.body)
thing_end _ = 0

-- later elements behind those that there were
abbrev pub Extends : List Held → List Held → Type 0
Extends es fs = take (length es) fs ≡ es
