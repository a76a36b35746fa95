-- Each row that a math list is set to has glyphs that exist in their fonts and rules that mark something (`list_row_holds`).
use Rattle.std.proofs.Common.{◌≡◌, ℕ, List, All, IfOk, Ok}
use Rattle.mt_convert.proofs.Common.{IsSoundFont, SetValue, PieceValue, Style, ◌>>=◌, Sequence, Element, Part, Rows, End, More, AtomElement, FractionElement, LeftElement, MiddleElement, RightElement, StyleElement, ChoiceElement, MuSpaceElement, SpaceElement, MuKernElement, KernElement, NonscriptElement, ListPart, RowsPart, TablePart, RootPart, TableGrid, NoTableRows, MoreTableRows, NoRows, MoreRows, sequence_size, ItemContents, Halves, first_pass_of, second_pass_of, items_of, item_of, content_of, rows_by_style, cells_by_style, RowHolds}
use Rattle.mt_convert.proofs.holds.Steps.{step_holds, answer_holds}
use Rattle.mt_convert.proofs.holds.Nuclei.{ListsHold, CellListsHold, ContentHolds}
use Rattle.mt_convert.proofs.holds.FirstPass.{ItemHolds, ItemsHold, HalvesHold, first_pass_holds}
use Rattle.mt_convert.proofs.holds.SecondPass.{second_pass_holds}
use Rattle.mt_convert.specs.ListRow.{halves_of, list_row}

module _ (fonts : SetValue) (sound : All IsSoundFont fonts.fonts) where
  two_passes : (turns : ℕ) (style : Style) (items : ItemContents) → ItemsHold fonts items → IfOk (first_pass_of fonts turns style items >>= (λ halves. second_pass_of fonts style halves)) (RowHolds fonts)
  two_passes turns style items h =
      step_holds (λ (halves : Halves). HalvesHold fonts halves.items) (RowHolds fonts) (first_pass_of fonts turns style items) (λ halves. second_pass_of fonts style halves)
      (first_pass_holds fonts turns style items sound h)
      (λ halves k. second_pass_holds fonts style halves sound k)

  -- ---- the lists inside a list, and so all of them

  mutual
    items_hold : (list : Sequence) → ItemsHold fonts (items_of fonts list)
    items_hold End = tt
    items_hold (More first rest) = (item_holds first, items_hold rest)

    item_holds : (e : Element) → ItemHolds fonts (item_of fonts e)
    item_holds (AtomElement kind limits nucleus sup sub) = (content_holds nucleus, content_holds sup, content_holds sub)
    item_holds (FractionElement thickness left right num den) = (
      λ style. two_passes (sequence_size num) style (items_of fonts num) (items_hold num),
      λ style. two_passes (sequence_size den) style (items_of fonts den) (items_hold den),
    )
    item_holds (LeftElement delim) = tt
    item_holds (MiddleElement delim) = tt
    item_holds (RightElement delim) = tt
    item_holds (StyleElement style) = tt
    item_holds (ChoiceElement display text script small) = (items_hold display, items_hold text, items_hold script, items_hold small)
    item_holds (MuSpaceElement glue) = tt
    item_holds (SpaceElement glue) = tt
    item_holds (MuKernElement amount) = tt
    item_holds (KernElement amount) = tt
    item_holds NonscriptElement = tt

    content_holds : (part : Part) → ContentHolds fonts (content_of fonts part)
    content_holds (ListPart list) = λ style. two_passes (sequence_size list) style (items_of fonts list) (items_hold list)
    content_holds (RowsPart rows) = each_row_holds rows
    content_holds (TablePart look grid) = each_cell_holds grid
    content_holds (RootPart degree body) = (λ style. two_passes (sequence_size degree) style (items_of fonts degree) (items_hold degree), content_holds body)
    content_holds _ = tt

    each_row_holds : (rows : Rows) → ListsHold fonts (rows_by_style fonts rows)
    each_row_holds NoRows = tt
    each_row_holds (MoreRows s rows) = (λ style. two_passes (sequence_size s) style (items_of fonts s) (items_hold s), each_row_holds rows)

    each_cell_holds : (grid : TableGrid) → CellListsHold fonts (cells_by_style fonts grid)
    each_cell_holds NoTableRows = tt
    each_cell_holds (MoreTableRows cells rows) = (each_row_holds cells, each_cell_holds rows)

  setting_holds : (style : Style) (list : Sequence) → IfOk (list_row fonts style list) (RowHolds fonts)
  unfolding list_row halves_of
  setting_holds style list = two_passes (sequence_size list) style (items_of fonts list) (items_hold list)

-- the row of a list
pub list_row_holds : (fonts : SetValue) → All IsSoundFont fonts.fonts → (style : Style) (list : Sequence) (row : List PieceValue) → list_row fonts style list ≡ Ok row → RowHolds fonts row
list_row_holds fonts sound style list row e = answer_holds (RowHolds fonts) (list_row fonts style list) row (setting_holds fonts sound style list) e
