-- The layouts of a table's cells that became one, and where they are then.
use Rattle.std.proofs.Common.{◌≡◌, ℕ, suc, ◌≤◌, ◌+◌, List, [], ◌∷◌, ◌++◌, length, map, ℤ, pos, ◌+ℤ◌, ◌-ℤ◌, Option, Some, refl, arith, append_assoc, sym, ◌∙◌, ap, All}
use Rattle.std.proofs.lemmas.Int.{ints, clamps}
use Rattle.std.proofs.lemmas.List.Elements.{All-nil, All-cons, All-head, All-tail}
use Rattle.std.specs.Int.{int_max}
use Rattle.mt_scaled.specs.Number.{Within, max_dimen}
use Rattle.mt_box.specs.declared.extents.Extents.{Extents}
use Rattle.mt_box.specs.declared.place.Place.{Place}
use Rattle.mt_box.specs.Extents.{ExtentsInRange}
use Rattle.mt_box.specs.Layout.{BoxValue, layout_of, all_moved}
use Rattle.mt_box.specs.marks.Layers.{joined, moved_layer}
use Rattle.mt_box.proofs.Moved.{moved_append, moved_twice}
use Rattle.mt_rules.specs.Tables.{Cells, widened, column_widths, cells_height, cells_depth}
use Rattle.mt_align.specs.declared.look.Look.{Look}
use Rattle.mt_align.specs.Looks.{inset_of, least_height, least_depth}
use Rattle.mt_align.specs.Cells.{cells_of}
use Rattle.mt_align.specs.CellLayers.{bare, bare_rows, cell_extents, table_extents, cells_on, table_on}
use Rattle.mt_align.specs.CellRows.{cells_places, cells_row, cells_rows}
use Rattle.mt_align.specs.RowLines.{gap_before, last_depth, line_depth, line_height, line_drops, lines_end, lines_places}
use Rattle.mt_align.specs.CellsJoined.{cells_joined, rows_joined}

-- ---- what depends on extents alone

bare_widened : (ws : List ℤ) (cs : Cells) → widened ws (map bare (cell_extents cs)) ≡ widened ws cs
bare_widened ws [] = refl
bare_widened [] (c ∷ cs) = ap (λ xs. c.extents.width ∷ xs) (bare_widened [] cs)
bare_widened (w ∷ ws) (c ∷ cs) = ap (λ xs. int_max w c.extents.width ∷ xs) (bare_widened ws cs)

pub bare_widths : (rows : List Cells) → column_widths (bare_rows (table_extents rows)) ≡ column_widths rows
bare_widths [] = refl
bare_widths (cells ∷ rows) = ap (λ ws. widened ws (map bare (cell_extents cells))) (bare_widths rows) ∙ bare_widened (column_widths rows) cells

bare_height : (cs : Cells) → cells_height (map bare (cell_extents cs)) ≡ cells_height cs
bare_height [] = refl
bare_height (c ∷ cs) = ap (λ z. int_max c.extents.height z) (bare_height cs)

bare_depth : (cs : Cells) → cells_depth (map bare (cell_extents cs)) ≡ cells_depth cs
bare_depth [] = refl
bare_depth (c ∷ cs) = ap (λ z. int_max c.extents.depth z) (bare_depth cs)

bare_line_height : (look : Look) (cs : Cells) → line_height look (map bare (cell_extents cs)) ≡ line_height look cs
bare_line_height look cs = ap (λ z. int_max (least_height look) z) (bare_height cs)

bare_line_depth : (look : Look) (cs : Cells) → line_depth look (map bare (cell_extents cs)) ≡ line_depth look cs
bare_line_depth look cs = ap (λ z. int_max (least_depth look) z) (bare_depth cs)

pub bare_drops : (look : Look) (y : ℤ) (depth : Option ℤ) (rows : List Cells) → line_drops look y depth (bare_rows (table_extents rows)) ≡ line_drops look y depth rows
bare_drops look y depth [] = refl
bare_drops look y depth (cells ∷ rows) =
    let step : ℤ → ℤ → List ℤ = λ h d. (y +ℤ (gap_before look depth h +ℤ h)) ∷ line_drops look ((y +ℤ (gap_before look depth h +ℤ h)) +ℤ d) (Some d) (bare_rows (table_extents rows)) in
    let drop : ℤ = y +ℤ (gap_before look depth (line_height look cells) +ℤ line_height look cells) in
    ap (λ h. step h (line_depth look (map bare (cell_extents cells)))) (bare_line_height look cells)
    ∙ (ap (λ d. step (line_height look cells) d) (bare_line_depth look cells)
    ∙ ap (λ ds. drop ∷ ds) (bare_drops look (drop +ℤ line_depth look cells) (Some (line_depth look cells)) rows))

pub bare_end : (look : Look) (y : ℤ) (depth : Option ℤ) (rows : List Cells) → lines_end look y depth (bare_rows (table_extents rows)) ≡ lines_end look y depth rows
bare_end look y depth [] = refl
bare_end look y depth (cells ∷ rows) =
    let step : ℤ → ℤ → ℤ = λ h d. lines_end look ((y +ℤ (gap_before look depth h +ℤ h)) +ℤ d) (Some d) (bare_rows (table_extents rows)) in
    ap (λ h. step h (line_depth look (map bare (cell_extents cells)))) (bare_line_height look cells)
    ∙ (ap (λ d. step (line_height look cells) d) (bare_line_depth look cells)
    ∙ bare_end look ((y +ℤ (gap_before look depth (line_height look cells) +ℤ line_height look cells)) +ℤ line_depth look cells) (Some (line_depth look cells)) rows)

pub bare_last : (look : Look) (depth : Option ℤ) (rows : List Cells) → last_depth look depth (bare_rows (table_extents rows)) ≡ last_depth look depth rows
bare_last look depth [] = refl
bare_last look depth (cells ∷ rows) = ap (λ d. last_depth look (Some d) (bare_rows (table_extents rows))) (bare_line_depth look cells) ∙ bare_last look (Some (line_depth look cells)) rows

-- ---- how many there are

pub extents_length : (cs : Cells) → length (cell_extents cs) ≡ length cs
extents_length [] = refl
extents_length (c ∷ cs) = omega (arith, extents_length cs)

boxes_length : (bs : List BoxValue) → length (cell_extents (map layout_of bs)) ≡ length bs
boxes_length [] = refl
boxes_length (b ∷ bs) = omega (arith, boxes_length bs)

rows_length : (rows : List (List BoxValue)) → length (table_extents (cells_of rows)) ≡ length rows
rows_length [] = refl
rows_length (row ∷ rows) = omega (arith, rows_length rows)

as_few : (n : ℕ) (rows : List (List BoxValue)) → All (λ (cells : List BoxValue). length cells ≤ n) rows → All (λ (cells : List Extents). length cells ≤ n) (table_extents (cells_of rows))
as_few n [] h = All-nil (λ (cells : List Extents). length cells ≤ n)
as_few n (row ∷ rows) h =
    let first : length row ≤ n = All-head (λ (cells : List BoxValue). length cells ≤ n) row rows h in
    All-cons (λ (cells : List Extents). length cells ≤ n) (cell_extents (map layout_of row)) (table_extents (cells_of rows)) (omega (arith, boxes_length row, first))
    (as_few n rows (All-tail (λ (cells : List BoxValue). length cells ≤ n) row rows h))

pub few_rows : (rows : List (List BoxValue)) (es : List (List Extents)) (n : ℕ) → es ≡ table_extents (cells_of rows) → length rows ≤ n → length es ≤ n
few_rows rows es n e h =
    let same : length es ≡ length rows = ap (λ xs. length xs) e ∙ rows_length rows in
    omega (arith, same, h)

pub few_cells : (rows : List (List BoxValue)) (es : List (List Extents)) (n : ℕ) → es ≡ table_extents (cells_of rows) → All (λ (cells : List BoxValue). length cells ≤ n) rows → All (λ (cells : List Extents). length cells ≤ n) es
few_cells rows es n e h = rw e (as_few n rows h)

drops_length : (look : Look) (y : ℤ) (depth : Option ℤ) (rows : List (List Extents)) → length (line_drops look y depth (bare_rows rows)) ≡ length rows
drops_length look y depth [] = refl
drops_length look y depth (row ∷ rows) =
    let high : ℤ = line_height look (map bare row) in
    let deep : ℤ = line_depth look (map bare row) in
    ap (λ n. suc n) (drops_length look ((y +ℤ (gap_before look depth high +ℤ high)) +ℤ deep) (Some deep) rows)

pub as_many_drops : (look : Look) (y : ℤ) (depth : Option ℤ) (rows : List (List Extents)) (ds : List ℤ) → ds ≡ line_drops look y depth (bare_rows rows) → length ds ≡ length rows
as_many_drops look y depth rows ds e = ap (λ xs. length xs) e ∙ drops_length look y depth rows

-- ---- where the cells of a row are

moved_there : (x y : ℤ) (ps : List Place) → all_moved x y ps ≡ all_moved (pos 0) y (all_moved x (pos 0) ps)
moved_there x y ps =
    let e : x ≡ x +ℤ pos 0 = omega (arith, ints) in
    let f : y ≡ pos 0 +ℤ y = omega (arith, ints) in
    ap (λ z. all_moved z y ps) e ∙ (ap (λ z. all_moved (x +ℤ pos 0) z ps) f ∙ sym (moved_twice (pos 0) y x (pos 0) ps))

in_front : (x y : ℤ) (ps qs t : List Place) → all_moved x y ps ++ (all_moved (pos 0) y qs ++ t) ≡ all_moved (pos 0) y (all_moved x (pos 0) ps ++ qs) ++ t
in_front x y ps qs t =
    ap (λ rs. rs ++ (all_moved (pos 0) y qs ++ t)) (moved_there x y ps)
    ∙ (sym (append_assoc (all_moved (pos 0) y (all_moved x (pos 0) ps)) (all_moved (pos 0) y qs) t)
    ∙ ap (λ rs. rs ++ t) (sym (moved_append (pos 0) y (all_moved x (pos 0) ps) qs)))

cells_placed : (look : Look) (gap y : ℤ) (j : ℕ) (x : ℤ) (ws : List ℤ) (cs : Cells) (t : List Place) (rest : List (List Place)) → length (cell_extents cs) ≤ length ws → cells_joined look gap y j x ws (cell_extents cs) (t ∷ cells_on cs rest) ≡ (all_moved (pos 0) y (cells_places look gap j x ws cs) ++ t) ∷ rest
cells_placed look gap y j x ws [] t rest h = refl
cells_placed look gap y j x [] (c ∷ cs) t rest h = absurd (omega (arith, h))
cells_placed look gap y j x (w ∷ ws) (c ∷ cs) t rest h =
    let i : ℤ = x +ℤ inset_of look j (w -ℤ c.extents.width) in
    ap (λ ls. joined (moved_layer 1 i y ls)) (cells_placed look gap y (j + 1) (x +ℤ (w +ℤ gap)) ws cs t (c.places ∷ rest) (omega (arith, h)))
    ∙ ap (λ ps. ps ∷ rest) (in_front i y c.places (cells_places look gap (j + 1) (x +ℤ (w +ℤ gap)) ws cs) t)

-- ---- where all rows are

baseline_at : (top y g h : ℤ) → top -ℤ (y +ℤ (g +ℤ h)) ≡ ((top -ℤ y) -ℤ g) -ℤ h
baseline_at top y g h = omega (arith, ints)

bottom_at : (top b d : ℤ) → top -ℤ (b +ℤ d) ≡ (top -ℤ b) -ℤ d
bottom_at top b d = omega (arith, ints)

abbrev pub Fits : ℕ → List Extents → Type 0
Fits n cells = length cells ≤ n

pub rows_placed : (look : Look) (gap width top : ℤ) (ws : List ℤ) (y : ℤ) (depth : Option ℤ) (rows : List Cells) (t : List Place) (rest : List (List Place)) → All (Fits (length ws)) (table_extents rows)
    → rows_joined look gap top ws (line_drops look y depth rows) (table_extents rows) (t ∷ table_on rows rest) ≡ (lines_places look (top -ℤ y) depth (cells_rows look gap width ws rows) ++ t) ∷ rest
rows_placed look gap width top ws y depth [] t rest h = refl
rows_placed look gap width top ws y depth (cells ∷ rows) t rest h =
    let high : ℤ = line_height look cells in
    let deep : ℤ = line_depth look cells in
    let g : ℤ = gap_before look depth high in
    let drop : ℤ = y +ℤ (g +ℤ high) in
    let baseline : ℤ = ((top -ℤ y) -ℤ g) -ℤ high in
    let at : top -ℤ drop ≡ baseline = baseline_at top y g high in
    let first : List Place = cells_places look gap 0 (pos 0) ws cells in
    let others : ℤ → List Place = λ z. lines_places look z (Some deep) (cells_rows look gap width ws rows) in
    let fits : length (cell_extents cells) ≤ length ws = All-head (Fits (length ws)) (cell_extents cells) (table_extents rows) h in
    ap (λ ls. cells_joined look gap (top -ℤ drop) 0 (pos 0) ws (cell_extents cells) ls)
    (rows_placed look gap width top ws (drop +ℤ deep) (Some deep) rows t (cells_on cells rest) (All-tail (Fits (length ws)) (cell_extents cells) (table_extents rows) h))
    ∙ (cells_placed look gap (top -ℤ drop) 0 (pos 0) ws cells (others (top -ℤ (drop +ℤ deep)) ++ t) rest fits
    ∙ (ap (λ z. (all_moved (pos 0) (top -ℤ drop) first ++ (others z ++ t)) ∷ rest) (bottom_at top drop deep ∙ ap (λ z. z -ℤ deep) at)
    ∙ (ap (λ z. (all_moved (pos 0) z first ++ (others (baseline -ℤ deep) ++ t)) ∷ rest) at
    ∙ ap (λ ps. ps ∷ rest) (sym (append_assoc (all_moved (pos 0) baseline first) (others (baseline -ℤ deep)) t)))))

-- ---- rows in range

cells_high : (cs : Cells) → All ExtentsInRange (cell_extents cs) → Within max_dimen (cells_height cs)
cells_high [] h = record { low = omega (arith, ints); high = omega (arith, ints) }
cells_high (c ∷ cs) h =
    let first : Within max_dimen c.extents.height = (All-head ExtentsInRange c.extents (cell_extents cs) h).height in
    let others = cells_high cs (All-tail ExtentsInRange c.extents (cell_extents cs) h) in
    record { low = omega (arith, ints, clamps, first.low, others.low); high = omega (arith, ints, clamps, first.high, others.high) }

cells_deep : (cs : Cells) → All ExtentsInRange (cell_extents cs) → Within max_dimen (cells_depth cs)
cells_deep [] h = record { low = omega (arith, ints); high = omega (arith, ints) }
cells_deep (c ∷ cs) h =
    let first : Within max_dimen c.extents.depth = (All-head ExtentsInRange c.extents (cell_extents cs) h).depth in
    let others = cells_deep cs (All-tail ExtentsInRange c.extents (cell_extents cs) h) in
    record { low = omega (arith, ints, clamps, first.low, others.low); high = omega (arith, ints, clamps, first.high, others.high) }

pub row_in_range : (look : Look) (gap width : ℤ) (ws : List ℤ) (cs : Cells) → Within max_dimen width → Within max_dimen (line_height look []) → Within max_dimen (line_depth look []) → All ExtentsInRange (cell_extents cs) → ExtentsInRange (cells_row look gap width ws cs).extents
row_in_range look gap width ws cs h k l range = record {
  width = h;
  height = least_more _ (cells_height cs) k (cells_high cs range);
  depth = least_more _ (cells_depth cs) l (cells_deep cs range);
}
  where
    least_more : (a b : ℤ) → Within max_dimen (int_max a (pos 0)) → Within max_dimen b → Within max_dimen (int_max a b)
    least_more a b p q = record { low = omega (arith, ints, clamps, p.low, p.high, q.low, q.high); high = omega (arith, ints, clamps, p.low, p.high, q.low, q.high) }
