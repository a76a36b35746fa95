-- The row that a math list is set to (`list_row`; The TeXbook, Appendix G; tex.web, section 726): the first pass over
-- its items (`halves_of`), then the second one.
use Rattle.std.specs.Prelude.{ℕ, List, [], ◌∷◌}
use Rattle.mt_family.specs.SetValue.{SetValue}
use Rattle.mt_box.specs.Rows.{PieceValue}
use Rattle.mt_rules.specs.declared.style.Style.{Style}
use Rattle.mt_rules.specs.Setting.{Setting, ◌>>=◌}
use Rattle.mt_rules.specs.Sequence.{Sequence, Element, Part, Rows, End, More, AtomElement, FractionElement, LeftElement, MiddleElement, RightElement, StyleElement, ChoiceElement, MuSpaceElement, SpaceElement, MuKernElement, KernElement, NonscriptElement, EmptyPart, SymbolPart, ListPart, RowsPart, TablePart, RootPart, BigPart, NoRows, MoreRows, TableGrid, NoTableRows, MoreTableRows, sequence_size}
use Rattle.mt_rules.specs.Nuclei.{RowByStyle, Content, NoContent, SymbolContent, ListContent, RowsContent, TableContent, RootContent, BigContent}
use Rattle.mt_convert.specs.Contents.{ItemContent, AtomItem, FractionItem, LeftItem, MiddleItem, RightItem, StyleItem, ChoiceItem, MuSpaceItem, SpaceItem, MuKernItem, KernItem, NonscriptItem, ItemContents, NoItems, MoreItems}
use Rattle.mt_convert.specs.Halves.{Halves}
use Rattle.mt_convert.specs.FirstPass.{first_pass_of}
use Rattle.mt_convert.specs.SecondPass.{second_pass_of}

abbrev pub row_of_items : SetValue → ℕ → ItemContents → RowByStyle
row_of_items fonts turns items style = do
  halves ← first_pass_of fonts turns style items
  second_pass_of fonts style halves

-- Each list inside a list is set by itself, in the style in which the item that has it wants it.
module _ (fonts : SetValue) where
  abbrev mutual
    pub items_of : Sequence → ItemContents
    items_of End = NoItems
    items_of (More e s) = MoreItems (item_of e) (items_of s)

    pub item_of : Element → ItemContent
    item_of (AtomElement kind limits nucleus sup sub) =
        AtomItem (record {
          kind = kind;
          limits = limits;
          nucleus = content_of nucleus;
          sup = content_of sup;
          sub = content_of sub;
        })
    item_of (FractionElement thickness left right num den) =
        FractionItem (record {
          thickness = thickness;
          left = left;
          right = right;
          num = row_of_items fonts (sequence_size num) (items_of num);
          den = row_of_items fonts (sequence_size den) (items_of den);
        })
    item_of (LeftElement delim) = LeftItem delim
    item_of (MiddleElement delim) = MiddleItem delim
    item_of (RightElement delim) = RightItem delim
    item_of (StyleElement style) = StyleItem style
    item_of (ChoiceElement display text script small) =
        ChoiceItem (items_of display) (items_of text) (items_of script) (items_of small)
    item_of (MuSpaceElement glue) = MuSpaceItem glue
    item_of (SpaceElement glue) = SpaceItem glue
    item_of (MuKernElement amount) = MuKernItem amount
    item_of (KernElement amount) = KernItem amount
    item_of NonscriptElement = NonscriptItem

    pub content_of : Part → Content
    content_of EmptyPart = NoContent
    content_of (SymbolPart symbol) = SymbolContent symbol
    content_of (ListPart list) = ListContent (row_of_items fonts (sequence_size list) (items_of list))
    content_of (RowsPart rows) = RowsContent (rows_by_style rows)
    content_of (TablePart look grid) = TableContent look (cells_by_style grid)
    content_of (RootPart degree body) =
        RootContent (row_of_items fonts (sequence_size degree) (items_of degree)) (content_of body)
    content_of (BigPart delim level) = BigContent delim level

    pub rows_by_style : Rows → List RowByStyle
    rows_by_style NoRows = []
    rows_by_style (MoreRows s rows) = row_of_items fonts (sequence_size s) (items_of s) ∷ rows_by_style rows

    pub cells_by_style : TableGrid → List (List RowByStyle)
    cells_by_style NoTableRows = []
    cells_by_style (MoreTableRows cells rows) = rows_by_style cells ∷ cells_by_style rows

-- the items of a list between the passes, or the first fault of an item
unfoldable pub halves_of : SetValue → Style → Sequence → Setting Halves
halves_of fonts style list = first_pass_of fonts (sequence_size list) style (items_of fonts list)

-- the row of a list in a style, or its first fault
unfoldable pub list_row : SetValue → Style → Sequence → Setting (List PieceValue)
list_row fonts style list = do
  halves ← halves_of fonts style list
  second_pass_of fonts style halves
