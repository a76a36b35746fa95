-- That each list in a list, at all levels, keeps what math lists keep.
use Rattle.std.specs.Prelude.{List, [], ◌∷◌, ⊤}
use Rattle.mt_rules.specs.Facts.{IsMathList}
use Rattle.mt_rules.specs.Sequence.{Sequence, Element, Part, Rows, TableGrid, End, More, AtomElement, FractionElement, LeftElement, MiddleElement, RightElement, StyleElement, ChoiceElement, MuSpaceElement, SpaceElement, MuKernElement, KernElement, NonscriptElement, EmptyPart, SymbolPart, ListPart, RowsPart, TablePart, RootPart, BigPart, NoRows, MoreRows, NoTableRows, MoreTableRows}
use Rattle.mt_arena.specs.Arena.{Held, ItemHeld, RowHeld, CellsHeld, RootHeld}

abbrev mutual
  -- of the lists in it, not of itself
  pub InnerLists : Sequence → Type 0
  InnerLists End = ⊤
  InnerLists (More first rest) = ElementLists first × InnerLists rest

  pub ElementLists : Element → Type 0
  ElementLists (AtomElement kind limits nucleus sup sub) = PartLists nucleus × PartLists sup × PartLists sub
  ElementLists (FractionElement thickness left right num den) =
      (IsMathList num × InnerLists num) × (IsMathList den × InnerLists den)
  ElementLists (LeftElement delim) = ⊤
  ElementLists (MiddleElement delim) = ⊤
  ElementLists (RightElement delim) = ⊤
  ElementLists (StyleElement style) = ⊤
  ElementLists (ChoiceElement display text script small) =
      (IsMathList display × InnerLists display) × (IsMathList text × InnerLists text)
      × (IsMathList script × InnerLists script) × (IsMathList small × InnerLists small)
  ElementLists (MuSpaceElement glue) = ⊤
  ElementLists (SpaceElement glue) = ⊤
  ElementLists (MuKernElement amount) = ⊤
  ElementLists (KernElement amount) = ⊤
  ElementLists NonscriptElement = ⊤

  pub PartLists : Part → Type 0
  PartLists EmptyPart = ⊤
  PartLists (SymbolPart symbol) = ⊤
  PartLists (ListPart list) = IsMathList list × InnerLists list
  PartLists (RowsPart rows) = RowsLists rows
  PartLists (TablePart look grid) = GridLists grid
  PartLists (RootPart degree body) = (IsMathList degree × InnerLists degree) × PartLists body
  PartLists (BigPart delim level) = ⊤

  pub RowsLists : Rows → Type 0
  RowsLists NoRows = ⊤
  RowsLists (MoreRows first rest) = (IsMathList first × InnerLists first) × RowsLists rest

  pub GridLists : TableGrid → Type 0
  GridLists NoTableRows = ⊤
  GridLists (MoreTableRows cells rest) = RowsLists cells × GridLists rest

-- of it and of the lists in it
abbrev pub KeptList : Sequence → Type 0
KeptList s = IsMathList s × InnerLists s

abbrev pub HeldLists : Held → Type 0
HeldLists (ItemHeld e) = ElementLists e
HeldLists (RowHeld s) = KeptList s
HeldLists (CellsHeld r) = RowsLists r
HeldLists (RootHeld degree body) = KeptList degree × PartLists body

abbrev pub AllLists : List Held → Type 0
AllLists [] = ⊤
AllLists (h ∷ hs) = HeldLists h × AllLists hs
