-- The boxes of tables hold where their cells do.
use Rattle.std.proofs.Common.{ℤ, pos, ◌+ℤ◌, ◌-ℤ◌, List, [], ◌∷◌, IfOk, Ok}
use Rattle.mt_convert.proofs.Common.{half_of, Size, SetValue, Extents, Layout, all_moved, ◌>>=◌, make_box, axis_height, line_gap, Cells, column_widths, column_width, make_rows, rows_places, with_struts, columns_width, centred_places, matrix_rows, strut_drop, matrix_drop, matrix_layout, open_gap, open_drop, open_places, sides_places, equations_rows, equations_layout, PlacesHold, LayoutHolds}
use Rattle.std.specs.Prelude.{⊤}
use Rattle.mt_family.specs.Sets.{units_of}
use Rattle.mt_convert.proofs.holds.Steps.{step_holds, box_made}
use Rattle.mt_convert.proofs.holds.Boxes.{moved_hold, places_hold_append, LayoutsHold}
use Rattle.mt_rules.specs.Tables.{matrix_table, equations_table}

module _ (fonts : SetValue) where
  abbrev pub CellsHold : List Cells → Type 0
  CellsHold [] = ⊤
  CellsHold (row ∷ rows) = LayoutsHold fonts row × CellsHold rows

  -- ---- rows

  rows_made : (ls : List Layout) → LayoutsHold fonts ls → IfOk (make_rows ls) (LayoutsHold fonts)
  rows_made [] h = tt
  rows_made (l ∷ ls) h =
      step_holds (LayoutHolds fonts) (LayoutsHold fonts) (make_box l) (λ row. make_rows ls >>= (λ rows. Ok (row ∷ rows)))
      (box_made (LayoutHolds fonts) l h.0)
      (λ row x. step_holds (LayoutsHold fonts) (LayoutsHold fonts) (make_rows ls) (λ rows. Ok (row ∷ rows)) (rows_made ls h.1) (λ rows y. (x, y)))

  rows_hold : (gap : ℤ → ℤ → ℤ) (ls : List Layout) (y depth : ℤ) → LayoutsHold fonts ls → PlacesHold fonts (rows_places gap y depth ls)
  rows_hold gap [] y depth h = tt
  rows_hold gap (l ∷ ls) y depth h =
      let baseline = (y -ℤ gap depth l.extents.height) -ℤ l.extents.height in
      places_hold_append fonts (all_moved (pos 0) baseline l.places) (rows_places gap (baseline -ℤ l.extents.depth) l.extents.depth ls)
      (moved_hold fonts (pos 0) baseline l.places h.0) (rows_hold gap ls (baseline -ℤ l.extents.depth) l.extents.depth h.1)

  -- ---- matrices

  centred_hold : (gap x : ℤ) (widths : List ℤ) (cells : Cells) → LayoutsHold fonts cells → PlacesHold fonts (centred_places gap x widths cells)
  centred_hold gap x widths [] h = tt
  centred_hold gap x [] (c ∷ cs) h = tt
  centred_hold gap x (w ∷ ws) (c ∷ cs) h =
      let inset = x +ℤ half_of (w -ℤ c.extents.width) in
      places_hold_append fonts (all_moved inset (pos 0) c.places) (centred_places gap (x +ℤ (w +ℤ gap)) ws cs)
      (moved_hold fonts inset (pos 0) c.places h.0) (centred_hold gap (x +ℤ (w +ℤ gap)) ws cs h.1)

  matrix_rows_hold : (gap : ℤ) (widths : List ℤ) (rows : List Cells) → CellsHold rows → LayoutsHold fonts (matrix_rows gap widths rows)
  matrix_rows_hold gap widths [] h = tt
  matrix_rows_hold gap widths (cells ∷ rows) h = (centred_hold gap (pos 0) widths cells h.0, matrix_rows_hold gap widths rows h.1)

  pub matrix_holds : (size : Size) (strut : Extents) (cells : List Cells) → CellsHold cells → IfOk (matrix_table fonts size strut cells) (LayoutHolds fonts)
  unfolding matrix_table
  matrix_holds size strut cells h =
      let em = (units_of fonts).em in
      let widths = with_struts (column_widths cells) in
      let axis = axis_height fonts size in
      step_holds (LayoutsHold fonts) (LayoutHolds fonts) (make_rows (matrix_rows em widths cells)) (λ rows. make_box (matrix_layout axis strut (columns_width em widths) rows))
      (rows_made (matrix_rows em widths cells) (matrix_rows_hold em widths cells h))
      (λ rows k. box_made (LayoutHolds fonts) (matrix_layout axis strut (columns_width em widths) rows)
      (rows_hold line_gap rows ((axis +ℤ half_of (matrix_drop strut rows)) -ℤ strut_drop strut) strut.depth k))

  -- ---- equations

  sides_hold : (first : ℤ) (cells : Cells) → LayoutsHold fonts cells → PlacesHold fonts (sides_places first cells)
  sides_hold first [] h = tt
  sides_hold first (a ∷ []) h = moved_hold fonts (first -ℤ a.extents.width) (pos 0) a.places h.0
  sides_hold first (a ∷ b ∷ cs) h =
      places_hold_append fonts (all_moved (first -ℤ a.extents.width) (pos 0) a.places) (all_moved first (pos 0) b.places)
      (moved_hold fonts (first -ℤ a.extents.width) (pos 0) a.places h.0) (moved_hold fonts first (pos 0) b.places h.1.0)

  equations_rows_hold : (first second : ℤ) (rows : List Cells) → CellsHold rows → LayoutsHold fonts (equations_rows first second rows)
  equations_rows_hold first second [] h = tt
  equations_rows_hold first second (cells ∷ rows) h = (sides_hold first cells h.0, equations_rows_hold first second rows h.1)

  open_hold : (ls : List Layout) (y : ℤ) → LayoutsHold fonts ls → PlacesHold fonts (open_places y ls)
  open_hold [] y h = tt
  open_hold (l ∷ ls) y h =
      let baseline = y -ℤ l.extents.height in
      places_hold_append fonts (all_moved (pos 0) baseline l.places) (rows_places open_gap (baseline -ℤ l.extents.depth) l.extents.depth ls)
      (moved_hold fonts (pos 0) baseline l.places h.0) (rows_hold open_gap ls (baseline -ℤ l.extents.depth) l.extents.depth h.1)

  pub equations_hold : (size : Size) (cells : List Cells) → CellsHold cells → IfOk (equations_table fonts size cells) (LayoutHolds fonts)
  unfolding equations_table
  equations_hold size cells h =
      let first = column_width cells 0 in
      let second = column_width cells 1 in
      let axis = axis_height fonts size in
      step_holds (LayoutsHold fonts) (LayoutHolds fonts) (make_rows (equations_rows first second cells)) (λ rows. make_box (equations_layout axis (first +ℤ second) rows))
      (rows_made (equations_rows first second cells) (equations_rows_hold first second cells h))
      (λ rows k. box_made (LayoutHolds fonts) (equations_layout axis (first +ℤ second) rows) (open_hold rows (axis +ℤ half_of (open_drop rows)) k))
