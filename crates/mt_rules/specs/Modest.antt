-- Lists that can be set within bounds (`IsModestList`): their nesting, their items and their amounts are bounded.
use Rattle.std.specs.Prelude.{ℕ, ℤ, ◌+◌, ◌≤◌, ◌^◌, max, ⊤, Option, Some, None}
use Rattle.mt_scaled.specs.Number.{Within, max_dimen}
use Rattle.mt_rules.specs.declared.symbol.Glue.{Glue}
use Rattle.mt_rules.specs.Sequence.{Sequence, Element, Part, Rows, End, More, AtomElement, FractionElement, LeftElement, MiddleElement, RightElement, StyleElement, ChoiceElement, MuSpaceElement, SpaceElement, MuKernElement, KernElement, NonscriptElement, EmptyPart, SymbolPart, ListPart, RowsPart, TablePart, RootPart, BigPart, NoRows, MoreRows, TableGrid, NoTableRows, MoreTableRows}

-- how many items a list has at all levels; each row of a vcenter atom, and each row and each cell of a table, counts
-- as one more
abbrev mutual
  pub list_items : Sequence → ℕ
  list_items End = 0
  list_items (More first rest) = element_items first + list_items rest

  pub element_items : Element → ℕ
  element_items (AtomElement kind limits nucleus sup sub) = part_items nucleus + part_items sup + part_items sub + 1
  element_items (FractionElement thickness left right num den) = list_items num + list_items den + 1
  element_items (LeftElement delim) = 1
  element_items (MiddleElement delim) = 1
  element_items (RightElement delim) = 1
  element_items (StyleElement style) = 1
  element_items (ChoiceElement display text script small) =
      list_items display + list_items text + list_items script + list_items small + 1
  element_items (MuSpaceElement glue) = 1
  element_items (SpaceElement glue) = 1
  element_items (MuKernElement amount) = 1
  element_items (KernElement amount) = 1
  element_items NonscriptElement = 1

  pub part_items : Part → ℕ
  part_items EmptyPart = 0
  part_items (SymbolPart symbol) = 0
  part_items (ListPart list) = list_items list
  part_items (RowsPart rows) = rows_items rows
  part_items (TablePart look grid) = grid_items grid
  part_items (RootPart degree body) = list_items degree + part_items body
  part_items (BigPart delim level) = 0

  pub rows_items : Rows → ℕ
  rows_items NoRows = 0
  rows_items (MoreRows first rest) = list_items first + rows_items rest + 1

  pub grid_items : TableGrid → ℕ
  grid_items NoTableRows = 0
  grid_items (MoreTableRows cells rest) = rows_items cells + grid_items rest + 1

-- the greatest number of lists that lie one inside another, the outermost counted; of an element, with the list in
-- which it is
abbrev mutual
  pub list_nesting : Sequence → ℕ
  list_nesting End = 1
  list_nesting (More first rest) = max (element_nesting first) (list_nesting rest)

  pub element_nesting : Element → ℕ
  element_nesting (AtomElement kind limits nucleus sup sub) =
      max (part_nesting nucleus) (max (part_nesting sup) (part_nesting sub)) + 1
  element_nesting (FractionElement thickness left right num den) = max (list_nesting num) (list_nesting den) + 1
  element_nesting (LeftElement delim) = 1
  element_nesting (MiddleElement delim) = 1
  element_nesting (RightElement delim) = 1
  element_nesting (StyleElement style) = 1
  element_nesting (ChoiceElement display text script small) =
      max (list_nesting display) (max (list_nesting text) (max (list_nesting script) (list_nesting small))) + 1
  element_nesting (MuSpaceElement glue) = 1
  element_nesting (SpaceElement glue) = 1
  element_nesting (MuKernElement amount) = 1
  element_nesting (KernElement amount) = 1
  element_nesting NonscriptElement = 1

  pub part_nesting : Part → ℕ
  part_nesting EmptyPart = 0
  part_nesting (SymbolPart symbol) = 0
  part_nesting (ListPart list) = list_nesting list
  part_nesting (RowsPart rows) = rows_nesting rows
  part_nesting (TablePart look grid) = grid_nesting grid
  part_nesting (RootPart degree body) = max (list_nesting degree) (part_nesting body)
  part_nesting (BigPart delim level) = 0

  pub rows_nesting : Rows → ℕ
  rows_nesting NoRows = 0
  rows_nesting (MoreRows first rest) = max (list_nesting first) (rows_nesting rest)

  pub grid_nesting : TableGrid → ℕ
  grid_nesting NoTableRows = 0
  grid_nesting (MoreTableRows cells rest) = max (rows_nesting cells) (grid_nesting rest)

-- below 2^30 in size
abbrev pub IsAmount : ℤ → Type 0
IsAmount amount = Within max_dimen amount

abbrev pub GlueAmounts : Glue → Type 0
GlueAmounts glue = IsAmount glue.width × IsAmount glue.shrink

abbrev pub ThicknessAmount : Option ℤ → Type 0
ThicknessAmount None = ⊤
ThicknessAmount (Some thickness) = IsAmount thickness

-- every space, shrink, kern and thickness, at all levels, is below 2^30 in size
abbrev mutual
  pub ListAmounts : Sequence → Type 0
  ListAmounts End = ⊤
  ListAmounts (More first rest) = ElementAmounts first × ListAmounts rest

  pub ElementAmounts : Element → Type 0
  ElementAmounts (AtomElement kind limits nucleus sup sub) = PartAmounts nucleus × PartAmounts sup × PartAmounts sub
  ElementAmounts (FractionElement thickness left right num den) =
      ThicknessAmount thickness × ListAmounts num × ListAmounts den
  ElementAmounts (LeftElement delim) = ⊤
  ElementAmounts (MiddleElement delim) = ⊤
  ElementAmounts (RightElement delim) = ⊤
  ElementAmounts (StyleElement style) = ⊤
  ElementAmounts (ChoiceElement display text script small) =
      ListAmounts display × ListAmounts text × ListAmounts script × ListAmounts small
  ElementAmounts (MuSpaceElement glue) = GlueAmounts glue
  ElementAmounts (SpaceElement glue) = GlueAmounts glue
  ElementAmounts (MuKernElement amount) = IsAmount amount
  ElementAmounts (KernElement amount) = IsAmount amount
  ElementAmounts NonscriptElement = ⊤

  pub PartAmounts : Part → Type 0
  PartAmounts EmptyPart = ⊤
  PartAmounts (SymbolPart symbol) = ⊤
  PartAmounts (ListPart list) = ListAmounts list
  PartAmounts (RowsPart rows) = RowsAmounts rows
  PartAmounts (TablePart look grid) = GridAmounts grid
  PartAmounts (RootPart degree body) = ListAmounts degree × PartAmounts body
  PartAmounts (BigPart delim level) = ⊤

  pub RowsAmounts : Rows → Type 0
  RowsAmounts NoRows = ⊤
  RowsAmounts (MoreRows first rest) = ListAmounts first × RowsAmounts rest

  pub GridAmounts : TableGrid → Type 0
  GridAmounts NoTableRows = ⊤
  GridAmounts (MoreTableRows cells rest) = RowsAmounts cells × GridAmounts rest

-- at most 320 lists one inside another, at most 2^18 items, and every amount below 2^30 in size
pub record IsModestList (list : Sequence) : Type 0 where
  pub nesting : list_nesting list ≤ 320
  pub items : list_items list ≤ 2 ^ 18
  pub amounts : ListAmounts list
