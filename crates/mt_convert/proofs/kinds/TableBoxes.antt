-- The cells of a table, set and packed row by row, and then its box.
use Rattle.std.proofs.Common.{◌≡◌, ℕ, ◌+◌, ◌≤◌, ◌^◌, List, [], ◌∷◌, ◌++◌, length, All, ap, sym, ◌∙◌, refl, subst, arith, append_assoc, Ok, map}
use Rattle.mt_convert.proofs.Common.{All-append, All-cons, SetValue, Layout, PieceValue, Look, Matrix, Equations, Style, Setting, ◌>>=◌, Cells, Rows, NoRows, MoreRows, TableGrid, NoTableRows, MoreTableRows, Part, TablePart, rows_length, rows_size, grid_size, grid_items, cells_in_columns, pack_rows, pack_cells, table_part, vcenter_part, unraised_boxes, SetFault, SetFails, content_of, rows_by_style, cells_by_style}
use Rattle.mt_pieces.specs.Celled.{cell_pieces, flat_box}
use Rattle.mt_convert.specs.inner.Appending.{appended_to}
use Rattle.mt_convert.specs.inner.Modest.{IsModestRows, IsModestGrid}
use Rattle.mt_convert.specs.inner.OnPieces.{BoxesOn, CellsOn}
use Rattle.mt_convert.specs.inner.Tables.{rows_in_columns}
use Rattle.mt_convert.proofs.Appending.{appended_nil, appended_end, fails_then}
use Rattle.mt_convert.proofs.Behind.{nil_right}
use Rattle.mt_convert.proofs.kinds.Bounds.{first_cells, other_cells}
use Rattle.mt_convert.proofs.kinds.RowBoxes.{appended_cons, one_longer}

-- ---- the cells that have a column

columns_by_style : (fonts : SetValue) (look : Look) (r : Rows) → cells_in_columns look (rows_by_style fonts r) ≡ rows_by_style fonts (rows_in_columns look r)
columns_by_style fonts Matrix r = refl
columns_by_style fonts Equations NoRows = refl
columns_by_style fonts Equations (MoreRows a NoRows) = refl
columns_by_style fonts Equations (MoreRows a (MoreRows b r)) = refl

only_one : {A : Type 0} (P : A → Type 0) (b : A) → P b → All P (b ∷ [])
only_one P b h = All-cons P b [] h (λ k d lt. absurd (omega (arith, lt)))

flat_boxes : (cells : Cells) → map flat_box cells ++ [] ≡ unraised_boxes cells
flat_boxes [] = refl
flat_boxes (c ∷ cells) = ap (λ ps. flat_box c ∷ ps) (flat_boxes cells)

two_columns : (look : Look) (r : Rows) → look ≡ Equations → rows_length (rows_in_columns look r) ≤ 2
two_columns Matrix r e = absurd (cc)
two_columns Equations NoRows e = omega arith
two_columns Equations (MoreRows a NoRows) e = omega arith
two_columns Equations (MoreRows a (MoreRows b r)) e = omega arith

-- ---- the cells so far

pieces_append : (rows : List Cells) (cells : Cells) → cell_pieces (rows ++ cells ∷ []) ≡ cell_pieces rows ++ unraised_boxes cells
pieces_append [] cells = flat_boxes cells
pieces_append (r ∷ rows) cells = ap (λ ps. map flat_box r ++ ps) (pieces_append rows cells) ∙ sym (append_assoc (map flat_box r) (cell_pieces rows) (unraised_boxes cells))

lengths_append : (rows : List Cells) (cells : Cells) → map length (rows ++ cells ∷ []) ≡ map length rows ++ length cells ∷ []
lengths_append [] cells = refl
lengths_append (r ∷ rows) cells = ap (λ ns. length r ∷ ns) (lengths_append rows cells)

-- the rows of the whole are those so far, and then those of the rest
pub record CellsSoFar (fonts : SetValue) (look : Look) (whole : TableGrid) (rest : TableGrid) (counts : List ℕ) (old new : List PieceValue) : Type 0 where
  pub rows : List Cells
  pub stays : new ≡ old ++ cell_pieces rows
  pub counted : counts ≡ map length rows
  pub whole_is : pack_cells look (cells_by_style fonts whole) ≡ appended_to rows (pack_cells look (cells_by_style fonts rest))
  pub few : length counts + grid_items rest ≤ grid_items whole
  pub columns : All (λ n. n ≤ 2 ^ 18) counts
  pub sides : look ≡ Equations → All (λ n. n ≤ 2) counts
  pub size : grid_size rest ≤ grid_size whole
  pub modest : IsModestGrid rest

pub cells_start : (fonts : SetValue) (look : Look) (whole : TableGrid) (counts : List ℕ) (old : List PieceValue) → IsModestGrid whole → counts ≡ [] → CellsSoFar fonts look whole whole counts old old
cells_start fonts look whole counts old m e = rw e (record {
  rows = [];
  stays = nil_right old;
  counted = refl;
  whole_is = sym (appended_nil _);
  few = omega arith;
  columns = λ k d lt. absurd (omega (arith, lt));
  sides = λ _ k d lt. absurd (omega (arith, lt));
  size = omega arith;
  modest = m;
})

pub next_cells : (fonts : SetValue) (look : Look) (whole : TableGrid) (rest : TableGrid) (counts : List ℕ) (old new : List PieceValue) (row : Rows) (rest' : TableGrid) → CellsSoFar fonts look whole rest counts old new → rest ≡ MoreTableRows row rest' → IsModestRows row
next_cells fonts look whole rest counts old new row rest' h e = first_cells row rest' (subst IsModestGrid e h.modest)

pub next_cells_size : (fonts : SetValue) (look : Look) (whole : TableGrid) (rest : TableGrid) (counts : List ℕ) (old new : List PieceValue) (row : Rows) (rest' : TableGrid) → CellsSoFar fonts look whole rest counts old new → rest ≡ MoreTableRows row rest' → rows_size row + 1 ≤ grid_size whole
next_cells_size fonts look whole rest counts old new row rest' h e = omega (arith, ap grid_size e, h.size)

-- what is left of a row that was packed, and the rows after it
abbrev packed_row : SetValue → Look → TableGrid → List Layout → Setting (List Cells)
packed_row fonts look rest cells = pack_cells look (cells_by_style fonts rest) >>= (λ others. Ok (cells ∷ others))

pub cells_step : (fonts : SetValue) (look : Look) (whole : TableGrid) (rest : TableGrid) (counts counts' : List ℕ) (old there new : List PieceValue) (row : Rows) (rest' : TableGrid) (count : ℕ) → CellsSoFar fonts look whole rest counts old there → rest ≡ MoreTableRows row rest' → BoxesOn count there new (pack_rows (rows_by_style fonts (rows_in_columns look row))) → count ≤ 2 ^ 18 → count ≡ rows_length (rows_in_columns look row) → counts' ≡ counts ++ count ∷ [] → CellsSoFar fonts look whole rest' counts' old new
cells_step fonts look whole rest counts counts' old there new row rest' count h e b few count_is pushed =
    let g = subst (λ r. CellsSoFar fonts look whole r counts old there) e h in
    let others = pack_cells look (cells_by_style fonts rest') in
    record {
      rows = g.rows ++ b.boxes ∷ [];
      stays =
          b.stays
          ∙ (ap (λ x. x ++ unraised_boxes b.boxes) g.stays
          ∙ (append_assoc old (cell_pieces g.rows) (unraised_boxes b.boxes) ∙ ap (λ x. old ++ x) (sym (pieces_append g.rows b.boxes))));
      counted = pushed ∙ (ap (λ ns. ns ++ count ∷ []) g.counted ∙ (ap (λ n. map length g.rows ++ n ∷ []) b.counted ∙ sym (lengths_append g.rows b.boxes)));
      whole_is =
          g.whole_is
          ∙ (ap (λ s. appended_to g.rows (s >>= packed_row fonts look rest')) (ap pack_rows (columns_by_style fonts look row) ∙ b.is)
          ∙ appended_cons g.rows b.boxes others);
      few = let f : length counts' ≡ length counts + 1 = ap length pushed ∙ one_longer counts count in omega (arith, f, g.few);
      columns = subst (All (λ n. n ≤ 2 ^ 18)) (sym pushed) (All-append (λ n. n ≤ 2 ^ 18) counts (count ∷ []) g.columns (only_one (λ n. n ≤ 2 ^ 18) count few));
      sides = λ same. subst (All (λ n. n ≤ 2)) (sym pushed) (All-append (λ n. n ≤ 2) counts (count ∷ []) (g.sides same) (only_one (λ n. n ≤ 2) count (omega (arith, count_is, two_columns look row same))));
      size = omega (arith, g.size);
      modest = other_cells row rest' g.modest;
    }

pub cells_fail : (fault : SetFault) (fonts : SetValue) (look : Look) (whole : TableGrid) (rest : TableGrid) (counts : List ℕ) (old new : List PieceValue) (row : Rows) (rest' : TableGrid) → CellsSoFar fonts look whole rest counts old new → rest ≡ MoreTableRows row rest' → SetFails fault (pack_rows (rows_by_style fonts (rows_in_columns look row))) → SetFails fault (pack_cells look (cells_by_style fonts whole))
cells_fail fault fonts look whole rest counts old new row rest' h e bad =
    let g = subst (λ r. CellsSoFar fonts look whole r counts old new) e h in
    subst (SetFails fault) (sym g.whole_is)
    (fails_then fault (pack_cells look (cells_by_style fonts (MoreTableRows row rest'))) (λ more. Ok (g.rows ++ more))
    (fails_then fault (pack_rows (cells_in_columns look (rows_by_style fonts row))) (packed_row fonts look rest') (subst (λ r. SetFails fault (pack_rows r)) (sym (columns_by_style fonts look row)) bad)))

pub cells_end : (fonts : SetValue) (look : Look) (whole : TableGrid) (rest : TableGrid) (counts : List ℕ) (old new : List PieceValue) → CellsSoFar fonts look whole rest counts old new → rest ≡ NoTableRows → CellsOn counts old new (pack_cells look (cells_by_style fonts whole))
cells_end fonts look whole rest counts old new h e =
    let g = subst (λ r. CellsSoFar fonts look whole r counts old new) e h in
    record { cells = g.rows; is = g.whole_is ∙ appended_end g.rows; counted = g.counted; stays = g.stays }

pub cells_few : (fonts : SetValue) (look : Look) (whole : TableGrid) (rest : TableGrid) (counts : List ℕ) (old new : List PieceValue) → IsModestGrid whole → CellsSoFar fonts look whole rest counts old new → length counts ≤ 2 ^ 18
cells_few fonts look whole rest counts old new m h = omega (arith, m.items, h.few)

-- ---- the nucleus of a vcenter atom

pub vcenter_table : (P : Setting Layout → Type 0) (fonts : SetValue) (style : Style) (p : Part) (look : Look) (grid : TableGrid) → p ≡ TablePart look grid → P (table_part fonts style look (cells_by_style fonts grid)) → P (vcenter_part fonts style (content_of fonts p))
vcenter_table P fonts style p look grid e h = subst (λ q. P (vcenter_part fonts style (content_of fonts q))) (sym e) h
