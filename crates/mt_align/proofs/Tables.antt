-- The layouts of both looks.
use Rattle.std.proofs.Common.{◌≡◌, ℕ, ◌≤◌, ◌+◌, ◌^◌, List, [], ◌∷◌, ◌++◌, length, get_or, ℤ, pos, ◌+ℤ◌, ◌-ℤ◌, ◌≤ℤ◌, Some, None, Bool, true, false, refl, arith, w64, to_z, of_z, sym, ◌∙◌, ap, subst, Result, Ok, Err, OnOk, All}
use Rattle.std.proofs.lemmas.Int.{ints, clamps}
use Rattle.std.proofs.lemmas.Bool.{false≢true}
use Rattle.std.proofs.lemmas.List.Elements.{All-head, All-tail}
use Rattle.std.proofs.lemmas.Result.{on_ok_weaker}
use Rattle.std.specs.Int.{int_max}
use Rattle.mt_scaled.specs.Number.{Within, max_dimen, half_of, is_in_range}
use Rattle.mt_scaled.proofs.Products.{kept}
use Rattle.mt_family.specs.declared.size.Size.{Size}
use Rattle.mt_family.specs.SetValue.{SetValue}
use Rattle.mt_family.specs.Sets.{units_of}
use Rattle.mt_box.specs.declared.error.PackError.{PackError}
use Rattle.mt_box.specs.declared.error.PackError.TheVariants.{Overflow as PackOverflow, OutOfMemory as NoPackMemory}
use Rattle.mt_box.specs.declared.extents.Extents.{Extents}
use Rattle.mt_box.specs.declared.place.Place.{Place}
use Rattle.mt_box.specs.Layout.{Layout, all_moved}
use Rattle.mt_box.specs.Extents.{ExtentsInRange, first_out}
use Rattle.mt_box.specs.marks.Layers.{top}
use Rattle.mt_box.proofs.Lists.{nil_right}
use Rattle.mt_box.proofs.Equalities.{extents_eq, layout_eq}
use Rattle.mt_rules.specs.Setting.{Setting, Overflow, ◌>>=◌, make_box}
use Rattle.mt_rules.specs.OnMarks.{BoxSetsOn, layout_with}
use Rattle.mt_rules.specs.Parameters.{axis_height}
use Rattle.mt_rules.specs.Vcenter.{line_gap}
use Rattle.mt_rules.specs.Tables.{Cells, cells_height, cells_depth, column_widths, columns_width, with_struts, make_rows, rows_drop, rows_places, rows_width, strut_line, strut_drop, matrix_drop, matrix_layout, matrix_row, matrix_rows, matrix_table, centred_places, open_gap, open_drop, open_places, sides_places, equations_row, equations_rows, equations_layout, equations_table}
use Rattle.mt_rules.proofs.Answering.{then_ok, then_err, make_box-ok, make_box-err, first_out-none, in_range}
use Rattle.mt_align.specs.declared.look.Look.{Look}
use Rattle.mt_align.specs.declared.look.Look.TheVariants.{Matrix, Equations}
use Rattle.mt_align.specs.CellLayers.{bare_rows, cell_extents, table_extents, table_on}
use Rattle.mt_align.specs.CellRows.{cells_places, cells_row, cells_rows}
use Rattle.mt_align.specs.RowLines.{gap_before, last_depth, line_depth, line_height, line_drops, lines_end, lines_places, matrix_end}
use Rattle.mt_align.specs.CellsJoined.{rows_joined, table_reach}
use Rattle.mt_align.proofs.Placed.{Fits, bare_widths, bare_drops, bare_end, bare_last, extents_length, rows_placed, row_in_range}

-- ---- rows after one of a depth

further : (y g h d r : ℤ) → ((y +ℤ (g +ℤ h)) +ℤ d) +ℤ r ≡ y +ℤ (g +ℤ (h +ℤ (d +ℤ r)))
further y g h d r = omega (arith, ints)

only_last : (y g h d : ℤ) → y +ℤ (g +ℤ (h +ℤ d)) ≡ y +ℤ (g +ℤ (h +ℤ (d +ℤ pos 0)))
only_last y g h d = omega (arith, ints)

-- with a last row more
matrix_rows_end : (gap width : ℤ) (ws : List ℤ) (y depth : ℤ) (rows : List Cells) (s : Extents) → lines_end Matrix y (Some depth) rows +ℤ (gap_before Matrix (last_depth Matrix (Some depth) rows) s.height +ℤ (s.height +ℤ s.depth)) ≡ y +ℤ rows_drop line_gap depth (cells_rows Matrix gap width ws rows ++ strut_line s ∷ [])
matrix_rows_end gap width ws y depth [] s = only_last y (line_gap depth s.height) s.height s.depth
matrix_rows_end gap width ws y depth (cells ∷ rows) s =
    let high : ℤ = line_height Matrix cells in
    let deep : ℤ = line_depth Matrix cells in
    let g : ℤ = line_gap depth high in
    matrix_rows_end gap width ws ((y +ℤ (g +ℤ high)) +ℤ deep) deep rows s
    ∙ further y g high deep (rows_drop line_gap deep (cells_rows Matrix gap width ws rows ++ strut_line s ∷ []))

back_up : (e g s t a h d k : ℤ) → e +ℤ (g +ℤ (h +ℤ d)) ≡ s +ℤ t → a ≡ (h +ℤ d) -ℤ k → e +ℤ (g +ℤ a) ≡ s +ℤ (t -ℤ k)
back_up e g s t a h d k p q = omega (arith, ints, p, q)

matrix_ends : (gap width : ℤ) (ws : List ℤ) (strut : Extents) (rows : List Cells) → matrix_end strut rows ≡ matrix_drop strut (cells_rows Matrix gap width ws rows)
matrix_ends gap width ws strut rows =
    back_up (lines_end Matrix (strut_drop strut) (Some strut.depth) rows) (gap_before Matrix (last_depth Matrix (Some strut.depth) rows) strut.height) (strut_drop strut) _ (strut_drop strut) strut.height strut.depth (pos 786432)
    (matrix_rows_end gap width ws (strut_drop strut) strut.depth rows strut) refl

open_rows_end : (gap width : ℤ) (ws : List ℤ) (y depth : ℤ) (rows : List Cells) → lines_end Equations y (Some depth) rows ≡ y +ℤ rows_drop open_gap depth (cells_rows Equations gap width ws rows)
open_rows_end gap width ws y depth [] = omega (arith, ints)
open_rows_end gap width ws y depth (cells ∷ rows) =
    let high : ℤ = line_height Equations cells in
    let deep : ℤ = line_depth Equations cells in
    let g : ℤ = open_gap depth high in
    open_rows_end gap width ws ((y +ℤ (g +ℤ high)) +ℤ deep) deep rows
    ∙ further y g high deep (rows_drop open_gap deep (cells_rows Equations gap width ws rows))

open_ends : (gap width : ℤ) (ws : List ℤ) (rows : List Cells) → lines_end Equations (pos 0) None rows ≡ open_drop (cells_rows Equations gap width ws rows)
open_ends gap width ws [] = refl
open_ends gap width ws (cells ∷ rows) =
    let high : ℤ = line_height Equations cells in
    let deep : ℤ = line_depth Equations cells in
    open_rows_end gap width ws ((pos 0 +ℤ (pos 0 +ℤ high)) +ℤ deep) deep rows
    ∙ first high deep (rows_drop open_gap deep (cells_rows Equations gap width ws rows))
  where
    first : (h d r : ℤ) → ((pos 0 +ℤ (pos 0 +ℤ h)) +ℤ d) +ℤ r ≡ h +ℤ (d +ℤ r)
    first h d r = omega (arith, ints)

look_lines : (look : Look) (gap : ℤ → ℤ → ℤ) → ((d h : ℤ) → gap_before look (Some d) h ≡ gap d h) → (y depth : ℤ) (ls : List Layout) → lines_places look y (Some depth) ls ≡ rows_places gap y depth ls
look_lines look gap same y depth [] = refl
look_lines look gap same y depth (l ∷ ls) =
    let under : ℤ → List Place = λ g. all_moved (pos 0) ((y -ℤ g) -ℤ l.extents.height) l.places ++ lines_places look (((y -ℤ g) -ℤ l.extents.height) -ℤ l.extents.depth) (Some l.extents.depth) ls in
    let baseline = (y -ℤ gap depth l.extents.height) -ℤ l.extents.height in
    ap under (same depth l.extents.height) ∙ ap (λ ps. all_moved (pos 0) baseline l.places ++ ps) (look_lines look gap same (baseline -ℤ l.extents.depth) l.extents.depth ls)

first_lines : (y : ℤ) (ls : List Layout) → lines_places Equations (y -ℤ pos 0) None ls ≡ open_places y ls
first_lines y [] = refl
first_lines y (l ∷ ls) =
    let first : ((y -ℤ pos 0) -ℤ pos 0) -ℤ l.extents.height ≡ y -ℤ l.extents.height = omega (arith, ints) in
    ap (λ z. all_moved (pos 0) z l.places ++ lines_places Equations (z -ℤ l.extents.depth) (Some l.extents.depth) ls) first
    ∙ ap (λ ps. all_moved (pos 0) (y -ℤ l.extents.height) l.places ++ ps) (look_lines Equations open_gap (λ d h. refl) ((y -ℤ l.extents.height) -ℤ l.extents.depth) l.extents.depth ls)

-- ---- how wide they are

-- without rows columns have no width
rows_wide : (look : Look) (gap width : ℤ) (ws : List ℤ) (rows : List Cells) (f : List Cells → List ℤ) → columns_width gap (f []) ≡ pos 0 → ws ≡ f rows → width ≡ columns_width gap ws → int_max (pos 0) width ≡ rows_width width (cells_rows look gap width ws rows)
rows_wide look gap width ws [] f none is wide = ap (λ z. int_max (pos 0) z) (wide ∙ (ap (columns_width gap) is ∙ none))
rows_wide look gap width ws (r ∷ rows) f none is wide = refl

-- ---- a matrix

cells_height-low : (cs : Cells) → pos 0 ≤ℤ cells_height cs
cells_height-low [] = omega (arith, ints)
cells_height-low (c ∷ cs) = omega (arith, ints, clamps, cells_height-low cs)

cells_depth-low : (cs : Cells) → pos 0 ≤ℤ cells_depth cs
cells_depth-low [] = omega (arith, ints)
cells_depth-low (c ∷ cs) = omega (arith, ints, clamps, cells_depth-low cs)

matrix_cells : (gap : ℤ) (j : ℕ) (x : ℤ) (ws : List ℤ) (cs : Cells) → cells_places Matrix gap j x ws cs ≡ centred_places gap x ws cs
matrix_cells gap j x ws [] = refl
matrix_cells gap j x [] (c ∷ cs) = refl
matrix_cells gap j x (w ∷ ws) (c ∷ cs) = ap (λ ps. all_moved (x +ℤ half_of (w -ℤ c.extents.width)) (pos 0) c.places ++ ps) (matrix_cells gap (j + 1) (x +ℤ (w +ℤ gap)) ws cs)

at_least_zero : (z : ℤ) → pos 0 ≤ℤ z → int_max (pos 0) z ≡ z
at_least_zero z h = omega (arith, ints, clamps, h)

matrix_row_is : (gap : ℤ) (ws : List ℤ) (cs : Cells) → cells_row Matrix gap (columns_width gap ws) ws cs ≡ matrix_row gap ws cs
matrix_row_is gap ws cs = layout_eq (extents_eq refl (at_least_zero _ (cells_height-low cs)) (at_least_zero _ (cells_depth-low cs))) (matrix_cells gap 0 (pos 0) ws cs)

matrix_rows_are : (gap : ℤ) (ws : List ℤ) (rows : List Cells) → cells_rows Matrix gap (columns_width gap ws) ws rows ≡ matrix_rows gap ws rows
matrix_rows_are gap ws [] = refl
matrix_rows_are gap ws (cs ∷ rows) = ap (λ (l : Layout). l ∷ cells_rows Matrix gap (columns_width gap ws) ws rows) (matrix_row_is gap ws cs) ∙ ap (λ ls. matrix_row gap ws cs ∷ ls) (matrix_rows_are gap ws rows)

-- ---- equations

only_left : (w a : ℤ) (ps : List Place) → all_moved (pos 0 +ℤ (w -ℤ a)) (pos 0) ps ++ [] ≡ all_moved (w -ℤ a) (pos 0) ps
only_left w a ps =
    let e : pos 0 +ℤ (w -ℤ a) ≡ w -ℤ a = omega (arith, ints) in
    rw e (nil_right _)

both_sides : (w a : ℤ) (ps qs : List Place) → all_moved (pos 0 +ℤ (w -ℤ a)) (pos 0) ps ++ (all_moved ((pos 0 +ℤ (w +ℤ pos 0)) +ℤ pos 0) (pos 0) qs ++ []) ≡ all_moved (w -ℤ a) (pos 0) ps ++ all_moved w (pos 0) qs
both_sides w a ps qs =
    let e : pos 0 +ℤ (w -ℤ a) ≡ w -ℤ a = omega (arith, ints) in
    let f : (pos 0 +ℤ (w +ℤ pos 0)) +ℤ pos 0 ≡ w = omega (arith, ints) in
    rw (e, f, nil_right (all_moved w (pos 0) qs)) refl

sides : (ws : List ℤ) (cs : Cells) → length cs ≤ length ws → length cs ≤ 2 → cells_places Equations (pos 0) 0 (pos 0) ws cs ≡ sides_places (get_or ws 0 (pos 0)) cs
sides ws [] h k = refl
sides [] (a ∷ cs) h k = absurd (omega (arith, h))
sides (w ∷ ws) (a ∷ []) h k = only_left w a.extents.width a.places
sides (w ∷ []) (a ∷ b ∷ cs) h k = absurd (omega (arith, h))
sides (w ∷ v ∷ ws) (a ∷ b ∷ []) h k = both_sides w a.extents.width a.places b.places
sides (w ∷ v ∷ ws) (a ∷ b ∷ c ∷ cs) h k = absurd (omega (arith, k))

both_wide : (ws : List ℤ) → length ws ≤ 2 → columns_width (pos 0) ws ≡ get_or ws 0 (pos 0) +ℤ get_or ws 1 (pos 0)
both_wide [] h = refl
both_wide (w ∷ []) h = omega (arith, ints)
both_wide (w ∷ v ∷ []) h = omega (arith, ints)
both_wide (w ∷ v ∷ u ∷ ws) h = absurd (omega (arith, h))

equations_rows_are : (ws : List ℤ) (rows : List Cells) → length ws ≤ 2 → All (Fits (length ws)) (table_extents rows) → All (Fits 2) (table_extents rows) → cells_rows Equations (pos 0) (columns_width (pos 0) ws) ws rows ≡ equations_rows (get_or ws 0 (pos 0)) (get_or ws 1 (pos 0)) rows
equations_rows_are ws [] n h k = refl
equations_rows_are ws (cells ∷ rows) n h k =
    let fits : length (cell_extents cells) ≤ length ws = All-head (Fits (length ws)) (cell_extents cells) (table_extents rows) h in
    let two : length (cell_extents cells) ≤ 2 = All-head (Fits 2) (cell_extents cells) (table_extents rows) k in
    let first : ℤ = get_or ws 0 (pos 0) in
    let second : ℤ = get_or ws 1 (pos 0) in
    let one : cells_row Equations (pos 0) (columns_width (pos 0) ws) ws cells ≡ equations_row first second cells =
    layout_eq (extents_eq (both_wide ws n) refl refl) (sides ws cells (omega (arith, extents_length cells, fits)) (omega (arith, extents_length cells, two))) in
    ap (λ (l : Layout). l ∷ cells_rows Equations (pos 0) (columns_width (pos 0) ws) ws rows) one
    ∙ ap (λ ls. equations_row first second cells ∷ ls) (equations_rows_are ws rows n (All-tail (Fits (length ws)) (cell_extents cells) (table_extents rows) h) (All-tail (Fits 2) (cell_extents cells) (table_extents rows) k))

-- ---- what the calls answer

rows_made : (look : Look) (gap width : ℤ) (ws : List ℤ) (rows : List Cells) → Within max_dimen width → Within max_dimen (line_height look []) → Within max_dimen (line_depth look []) → All (All ExtentsInRange) (table_extents rows) → make_rows (cells_rows look gap width ws rows) ≡ Ok (cells_rows look gap width ws rows)
rows_made look gap width ws [] w h d range = refl
rows_made look gap width ws (cells ∷ rows) w h d range =
    let l : Layout = cells_row look gap width ws cells in
    let ls : List Layout = cells_rows look gap width ws rows in
    let first = first_out-none l.extents (row_in_range look gap width ws cells w h d (All-head (All ExtentsInRange) (cell_extents cells) (table_extents rows) range)) in
    let others = rows_made look gap width ws rows w h d (All-tail (All ExtentsInRange) (cell_extents cells) (table_extents rows) range) in
    then_ok (make_box l) l (λ row. make_rows ls >>= (λ rows. Ok (row ∷ rows))) (make_box-ok l first)
    ∙ then_ok (make_rows ls) ls (λ rows. Ok (l ∷ rows)) others

wide_row : (l : Layout) (ls : List Layout) (width : ℤ) → l.extents.width ≡ width → is_in_range width ≡ false → make_rows (l ∷ ls) ≡ Err (Overflow width)
wide_row l ls width e out =
    let first : first_out l.extents ≡ Some width = rw (e, out) refl in
    ap (λ s. s >>= (λ row. make_rows ls >>= (λ rows. Ok (row ∷ rows)))) (make_box-err l width first)

-- the same with other places that are those of the answer
pub same_places : (r : Result Extents PackError) (ps qs : List Place) (s : Setting Layout) → OnOk r (ps ≡ qs) → BoxSetsOn r qs s → BoxSetsOn r ps s
same_places (Ok e) ps qs s h k = k ∙ ap (λ rs. Ok (layout_with e rs)) (sym h)
same_places (Err (PackOverflow value)) ps qs s h k = k
same_places (Err NoPackMemory) ps qs s h k = tt

pub on_top : {l : List Place} {now rest : List (List Place)} → now ≡ l ∷ rest → now ≡ top now ∷ rest
on_top {l} {now} {rest} e = e ∙ ap (λ t. t ∷ rest) (sym (ap top e))

pub answered : (r : Result Extents PackError) (l : Layout) (e : Extents) (table : Setting Layout) (now all rest : List (List Place)) → all ≡ l.places ∷ rest → layout_with e l.places ≡ l → table ≡ make_box l → ((ps : List Place) → BoxSetsOn r ps (make_box (layout_with e ps))) → OnOk r (now ≡ all) → BoxSetsOn r (top now) table
answered r l e table now all rest stack reach is made marks =
    same_places r (top now) l.places table (on_ok_weaker r (λ p. ap top (p ∙ stack)) marks) (subst (λ s. BoxSetsOn r l.places s) (ap (λ m. make_box m) reach ∙ sym is) (made l.places))

-- ---- a matrix on marks

-- what is known of a matrix whose cells are placed
pub record MatrixPlaced (fonts : SetValue) (strut : Extents) (cells : List Cells) (ws ds : List ℤ) (width total : ℤ) : Type 0 where
  pub widths : ws ≡ with_struts (column_widths cells)
  pub wide : width ≡ columns_width (units_of fonts).em ws
  pub drops : ds ≡ line_drops Matrix (strut_drop strut) (Some strut.depth) cells
  pub ends : total ≡ matrix_drop strut (cells_rows Matrix (units_of fonts).em width ws cells)

pub matrix_placed : (fonts : SetValue) (strut : Extents) (rows : List (List Extents)) (cells : List Cells) (ws ds : List ℤ) (width total : ℤ) → rows ≡ table_extents cells → ws ≡ with_struts (column_widths (bare_rows rows)) → width ≡ columns_width (units_of fonts).em ws
    → ds ≡ line_drops Matrix (strut_drop strut) (Some strut.depth) (bare_rows rows) → total ≡ matrix_end strut (bare_rows rows) → MatrixPlaced fonts strut cells ws ds width total
matrix_placed fonts strut rows cells ws ds width total e is wide d t = record {
  widths = is ∙ (ap (λ rs. with_struts (column_widths (bare_rows rs))) e ∙ ap (λ xs. with_struts xs) (bare_widths cells));
  wide = wide;
  drops = d ∙ (ap (λ rs. line_drops Matrix (strut_drop strut) (Some strut.depth) (bare_rows rs)) e ∙ bare_drops Matrix (strut_drop strut) (Some strut.depth) cells);
  ends = t ∙ (ap (λ rs. matrix_end strut (bare_rows rs)) e ∙ (rw (bare_end Matrix (strut_drop strut) (Some strut.depth) cells, bare_last Matrix (Some strut.depth) cells) refl ∙ matrix_ends (units_of fonts).em width ws strut cells));
}

abbrev pub matrix_is : SetValue → Size → Extents → List Cells → List ℤ → ℤ → Layout
matrix_is fonts size strut cells ws width = matrix_layout (axis_height fonts size) strut width (cells_rows Matrix (units_of fonts).em width ws cells)

pub matrix_stack : (fonts : SetValue) (size : Size) (strut : Extents) (rows : List (List Extents)) (cells : List Cells) (ws ds : List ℤ) (width total : ℤ) (old rest : List (List Place)) → MatrixPlaced fonts strut cells ws ds width total → rows ≡ table_extents cells → All (Fits (length ws)) rows → old ≡ table_on cells rest
    → rows_joined Matrix (units_of fonts).em (table_reach fonts size width total).height ws ds rows ([] ∷ old) ≡ (matrix_is fonts size strut cells ws width).places ∷ rest
matrix_stack fonts size strut rows cells ws ds width total old rest h e fit o =
    let em = (units_of fonts).em in
    let axis = axis_height fonts size in
    let made : List Layout = cells_rows Matrix em width ws cells in
    let height : ℤ = axis +ℤ half_of total in
    let fits : All (Fits (length ws)) (table_extents cells) = subst (λ rs. All (Fits (length ws)) rs) e fit in
    ap (λ rs. rows_joined Matrix em height ws ds rs ([] ∷ old)) e
    ∙ (ap (λ xs. rows_joined Matrix em height ws xs (table_extents cells) ([] ∷ old)) h.drops
    ∙ (ap (λ ls. rows_joined Matrix em height ws (line_drops Matrix (strut_drop strut) (Some strut.depth) cells) (table_extents cells) ([] ∷ ls)) o
    ∙ (rows_placed Matrix em width height ws (strut_drop strut) (Some strut.depth) cells [] rest fits
    ∙ (ap (λ ps. ps ∷ rest) (nil_right _ ∙ look_lines Matrix line_gap (λ d h. refl) (height -ℤ strut_drop strut) strut.depth made)
    ∙ ap (λ z. rows_places line_gap ((axis +ℤ half_of z) -ℤ strut_drop strut) strut.depth made ∷ rest) h.ends))))

matrix_reach : (fonts : SetValue) (size : Size) (strut : Extents) (cells : List Cells) (ws ds : List ℤ) (width total : ℤ) → MatrixPlaced fonts strut cells ws ds width total → layout_with (table_reach fonts size width total) (matrix_is fonts size strut cells ws width).places ≡ matrix_is fonts size strut cells ws width
matrix_reach fonts size strut cells ws ds width total h =
    let axis = axis_height fonts size in
    let high = ap (λ z. axis +ℤ half_of z) h.ends in
    layout_eq
    (extents_eq (rows_wide Matrix (units_of fonts).em width ws cells (λ cs. with_struts (column_widths cs)) refl h.widths h.wide) high (ap (λ z. z -ℤ (axis +ℤ half_of z)) h.ends))
    refl

matrix_table_is : (fonts : SetValue) (size : Size) (strut : Extents) (cells : List Cells) (ws ds : List ℤ) (width total : ℤ) → MatrixPlaced fonts strut cells ws ds width total → Within max_dimen width → All (All ExtentsInRange) (table_extents cells) → matrix_table fonts size strut cells ≡ make_box (matrix_is fonts size strut cells ws width)
unfolding matrix_table
matrix_table_is fonts size strut cells ws ds width total h w range =
    let em = (units_of fonts).em in
    let axis = axis_height fonts size in
    let w' : Within max_dimen (columns_width em ws) = subst (λ z. Within max_dimen z) h.wide w in
    let made : make_rows (matrix_rows em ws cells) ≡ Ok (cells_rows Matrix em (columns_width em ws) ws cells) =
    ap (λ ls. make_rows ls) (sym (matrix_rows_are em ws cells)) ∙ rows_made Matrix em (columns_width em ws) ws cells w' no_height no_height range in
    let table = then_ok (make_rows (matrix_rows em ws cells)) (cells_rows Matrix em (columns_width em ws) ws cells) (λ ls. make_box (matrix_layout axis strut (columns_width em ws) ls)) made in
    rw (← h.widths) (table ∙ ap (λ z. make_box (matrix_layout axis strut z (cells_rows Matrix em z ws cells))) (sym h.wide))
  where
    no_height : Within max_dimen (int_max (pos 0) (pos 0))
    no_height = record { low = omega (arith, ints, clamps); high = omega (arith, ints, clamps) }

pub matrix_answers : (fonts : SetValue) (size : Size) (strut : Extents) (rows : List (List Extents)) (cells : List Cells) (ws ds : List ℤ) (width total : ℤ) (old now rest : List (List Place)) (r : Result Extents PackError)
    → MatrixPlaced fonts strut cells ws ds width total → rows ≡ table_extents cells → All (Fits (length ws)) rows → old ≡ table_on cells rest → Within max_dimen width → All (All ExtentsInRange) rows
    → ((ps : List Place) → BoxSetsOn r ps (make_box (layout_with (table_reach fonts size width total) ps))) → OnOk r (now ≡ rows_joined Matrix (units_of fonts).em (table_reach fonts size width total).height ws ds rows ([] ∷ old))
    → BoxSetsOn r (top now) (matrix_table fonts size strut cells)
matrix_answers fonts size strut rows cells ws ds width total old now rest r h e fit o w range made marks =
    answered r (matrix_is fonts size strut cells ws width) (table_reach fonts size width total) (matrix_table fonts size strut cells) now _ rest (matrix_stack fonts size strut rows cells ws ds width total old rest h e fit o)
    (matrix_reach fonts size strut cells ws ds width total h) (matrix_table_is fonts size strut cells ws ds width total h w (subst (λ rs. All (All ExtentsInRange) rs) e range)) made marks

wide_matrix : (gap : ℤ) (ws : List ℤ) (width : ℤ) (cells : List Cells) → ws ≡ with_struts (column_widths cells) → width ≡ columns_width gap ws → is_in_range width ≡ false → make_rows (matrix_rows gap ws cells) ≡ Err (Overflow width)
wide_matrix gap ws width [] is wide out = absurd (false≢true (sym out ∙ ap is_in_range (wide ∙ ap (columns_width gap) is)))
wide_matrix gap ws width (c ∷ cells) is wide out = wide_row (matrix_row gap ws c) (matrix_rows gap ws cells) width (sym wide) out

pub matrix_wide : (fonts : SetValue) (size : Size) (strut : Extents) (rows : List (List Extents)) (cells : List Cells) (ws : List ℤ) (width : ℤ) → rows ≡ table_extents cells → ws ≡ with_struts (column_widths (bare_rows rows)) → width ≡ columns_width (units_of fonts).em ws → is_in_range width ≡ false → matrix_table fonts size strut cells ≡ Err (Overflow width)
unfolding matrix_table
matrix_wide fonts size strut rows cells ws width e is' wide out =
    let em = (units_of fonts).em in
    let is : ws ≡ with_struts (column_widths cells) = is' ∙ (ap (λ rs. with_struts (column_widths (bare_rows rs))) e ∙ ap (λ xs. with_struts xs) (bare_widths cells)) in
    let rows_out = wide_matrix em ws width cells is wide out in
    rw (← is) (then_err (make_rows (matrix_rows em ws cells)) (Overflow width) (λ ls. make_box (matrix_layout (axis_height fonts size) strut (columns_width em ws) ls)) rows_out)

-- ---- equations on marks

-- what is known of equations whose sides are placed
pub record EquationsPlaced (cells : List Cells) (ws ds : List ℤ) (width total : ℤ) : Type 0 where
  pub widths : ws ≡ column_widths cells
  pub wide : width ≡ columns_width (pos 0) ws
  pub drops : ds ≡ line_drops Equations (pos 0) None cells
  pub ends : total ≡ open_drop (cells_rows Equations (pos 0) width ws cells)

pub equations_placed : (rows : List (List Extents)) (cells : List Cells) (ws ds : List ℤ) (width total : ℤ) → rows ≡ table_extents cells → ws ≡ column_widths (bare_rows rows) → width ≡ columns_width (pos 0) ws
    → ds ≡ line_drops Equations (pos 0) None (bare_rows rows) → total ≡ lines_end Equations (pos 0) None (bare_rows rows) → EquationsPlaced cells ws ds width total
equations_placed rows cells ws ds width total e is wide d t = record {
  widths = is ∙ (ap (λ rs. column_widths (bare_rows rs)) e ∙ bare_widths cells);
  wide = wide;
  drops = d ∙ (ap (λ rs. line_drops Equations (pos 0) None (bare_rows rs)) e ∙ bare_drops Equations (pos 0) None cells);
  ends = t ∙ (ap (λ rs. lines_end Equations (pos 0) None (bare_rows rs)) e ∙ (bare_end Equations (pos 0) None cells ∙ open_ends (pos 0) width ws cells));
}

abbrev pub equations_are : SetValue → Size → List Cells → List ℤ → ℤ → Layout
equations_are fonts size cells ws width = equations_layout (axis_height fonts size) width (cells_rows Equations (pos 0) width ws cells)

pub equations_stack : (fonts : SetValue) (size : Size) (rows : List (List Extents)) (cells : List Cells) (ws ds : List ℤ) (width total : ℤ) (old rest : List (List Place)) → EquationsPlaced cells ws ds width total → rows ≡ table_extents cells → All (Fits (length ws)) rows → old ≡ table_on cells rest
    → rows_joined Equations (pos 0) (table_reach fonts size width total).height ws ds rows ([] ∷ old) ≡ (equations_are fonts size cells ws width).places ∷ rest
equations_stack fonts size rows cells ws ds width total old rest h e fit o =
    let axis = axis_height fonts size in
    let made : List Layout = cells_rows Equations (pos 0) width ws cells in
    let height : ℤ = axis +ℤ half_of total in
    let fits : All (Fits (length ws)) (table_extents cells) = subst (λ rs. All (Fits (length ws)) rs) e fit in
    ap (λ rs. rows_joined Equations (pos 0) height ws ds rs ([] ∷ old)) e
    ∙ (ap (λ xs. rows_joined Equations (pos 0) height ws xs (table_extents cells) ([] ∷ old)) h.drops
    ∙ (ap (λ ls. rows_joined Equations (pos 0) height ws (line_drops Equations (pos 0) None cells) (table_extents cells) ([] ∷ ls)) o
    ∙ (rows_placed Equations (pos 0) width height ws (pos 0) None cells [] rest fits
    ∙ (ap (λ ps. ps ∷ rest) (nil_right _ ∙ first_lines height made)
    ∙ ap (λ z. open_places (axis +ℤ half_of z) made ∷ rest) h.ends))))

equations_reach : (fonts : SetValue) (size : Size) (cells : List Cells) (ws ds : List ℤ) (width total : ℤ) → EquationsPlaced cells ws ds width total → layout_with (table_reach fonts size width total) (equations_are fonts size cells ws width).places ≡ equations_are fonts size cells ws width
equations_reach fonts size cells ws ds width total h =
    let axis = axis_height fonts size in
    layout_eq
    (extents_eq (rows_wide Equations (pos 0) width ws cells column_widths refl h.widths h.wide) (ap (λ z. axis +ℤ half_of z) h.ends) (ap (λ z. z -ℤ (axis +ℤ half_of z)) h.ends))
    refl

equations_table_is : (fonts : SetValue) (size : Size) (cells : List Cells) (ws ds : List ℤ) (width total : ℤ) → EquationsPlaced cells ws ds width total → Within max_dimen width → length ws ≤ 2 → All (Fits (length ws)) (table_extents cells) → All (Fits 2) (table_extents cells) → All (All ExtentsInRange) (table_extents cells)
    → equations_table fonts size cells ≡ make_box (equations_are fonts size cells ws width)
unfolding equations_table
equations_table_is fonts size cells ws ds width total h w few fit two range =
    let axis = axis_height fonts size in
    let first : ℤ = get_or ws 0 (pos 0) in
    let second : ℤ = get_or ws 1 (pos 0) in
    let all : List Layout = cells_rows Equations (pos 0) (columns_width (pos 0) ws) ws cells in
    let w' : Within max_dimen (columns_width (pos 0) ws) = subst (λ z. Within max_dimen z) h.wide w in
    let made : make_rows (equations_rows first second cells) ≡ Ok all =
    ap (λ ls. make_rows ls) (sym (equations_rows_are ws cells few fit two)) ∙ rows_made Equations (pos 0) (columns_width (pos 0) ws) ws cells w' strut_height strut_depth range in
    let table = then_ok (make_rows (equations_rows first second cells)) all (λ ls. make_box (equations_layout axis (first +ℤ second) ls)) made in
    rw (← h.widths) (table ∙ (ap (λ z. make_box (equations_layout axis z all)) (sym (both_wide ws few)) ∙ ap (λ z. make_box (equations_layout axis z (cells_rows Equations (pos 0) z ws cells))) (sym h.wide)))
  where
    strut_height : Within max_dimen (int_max (pos 557056) (pos 0))
    strut_height = record { low = omega (arith, ints, clamps); high = omega (arith, ints, clamps) }

    strut_depth : Within max_dimen (int_max (pos 229376) (pos 0))
    strut_depth = record { low = omega (arith, ints, clamps); high = omega (arith, ints, clamps) }

pub equations_answers : (fonts : SetValue) (size : Size) (rows : List (List Extents)) (cells : List Cells) (ws ds : List ℤ) (width total : ℤ) (old now rest : List (List Place)) (r : Result Extents PackError)
    → EquationsPlaced cells ws ds width total → rows ≡ table_extents cells → length ws ≤ 2 → All (Fits (length ws)) rows → All (Fits 2) rows → old ≡ table_on cells rest → Within max_dimen width → All (All ExtentsInRange) rows
    → ((ps : List Place) → BoxSetsOn r ps (make_box (layout_with (table_reach fonts size width total) ps))) → OnOk r (now ≡ rows_joined Equations (pos 0) (table_reach fonts size width total).height ws ds rows ([] ∷ old))
    → BoxSetsOn r (top now) (equations_table fonts size cells)
equations_answers fonts size rows cells ws ds width total old now rest r h e few fit two o w range made marks =
    answered r (equations_are fonts size cells ws width) (table_reach fonts size width total) (equations_table fonts size cells) now _ rest (equations_stack fonts size rows cells ws ds width total old rest h e fit o)
    (equations_reach fonts size cells ws ds width total h) (equations_table_is fonts size cells ws ds width total h w few (subst (λ rs. All (Fits (length ws)) rs) e fit) (subst (λ rs. All (Fits 2) rs) e two) (subst (λ rs. All (All ExtentsInRange) rs) e range)) made marks

wide_equations : (ws : List ℤ) (first second width : ℤ) (cells : List Cells) → ws ≡ column_widths cells → width ≡ columns_width (pos 0) ws → first +ℤ second ≡ width → is_in_range width ≡ false → make_rows (equations_rows first second cells) ≡ Err (Overflow width)
wide_equations ws first second width [] is wide sum out = absurd (false≢true (sym out ∙ ap is_in_range (wide ∙ ap (columns_width (pos 0)) is)))
wide_equations ws first second width (c ∷ cells) is wide sum out = wide_row (equations_row first second c) (equations_rows first second cells) width sum out

pub equations_wide : (fonts : SetValue) (size : Size) (rows : List (List Extents)) (cells : List Cells) (ws : List ℤ) (width : ℤ) → rows ≡ table_extents cells → ws ≡ column_widths (bare_rows rows) → width ≡ columns_width (pos 0) ws → length ws ≤ 2 → is_in_range width ≡ false → equations_table fonts size cells ≡ Err (Overflow width)
unfolding equations_table
equations_wide fonts size rows cells ws width e is' wide few out =
    let first : ℤ = get_or ws 0 (pos 0) in
    let second : ℤ = get_or ws 1 (pos 0) in
    let is : ws ≡ column_widths cells = is' ∙ (ap (λ rs. column_widths (bare_rows rs)) e ∙ bare_widths cells) in
    let sum : first +ℤ second ≡ width = sym (both_wide ws few) ∙ sym wide in
    let rows_out = wide_equations ws first second width cells is wide sum out in
    rw (← is) (then_err (make_rows (equations_rows first second cells)) (Overflow width) (λ ls. make_box (equations_layout (axis_height fonts size) (first +ℤ second) ls)) rows_out)

-- ---- numbers that come through unchanged

-- a width that was tested
pub tested_width : (w : ℤ) (passes : Bool) → Within (2 ^ 53) w → passes ≡ is_in_range (to_z w64 (of_z w64 w)) → passes ≡ true → Within max_dimen w
tested_width w passes small is e =
    let within : is_in_range (to_z w64 (of_z w64 w)) ≡ true = sym is ∙ e in
    in_range w (rw (kept (2 ^ 53) w small (omega arith)) at within)

-- and is refused
pub refused_width : (w : ℤ) (passes : Bool) → Within (2 ^ 53) w → passes ≡ is_in_range (to_z w64 (of_z w64 w)) → passes ≡ false → (is_in_range w ≡ false) × (to_z w64 (of_z w64 w) ≡ w)
refused_width w passes small is e =
    let same : to_z w64 (of_z w64 w) ≡ w = kept (2 ^ 53) w small (omega arith) in
    let out : is_in_range (to_z w64 (of_z w64 w)) ≡ false = sym is ∙ e in
    (rw same at out, same)
