-- Rows one below another, as cells of one row.
use Rattle.std.proofs.Common.{◌≡◌, pos, List, [], ◌∷◌, refl, sym, ◌∙◌, ap, subst, map}
use Rattle.mt_box.specs.declared.extents.Extents.{Extents}
use Rattle.mt_box.specs.declared.place.Place.{Place}
use Rattle.mt_box.specs.declared.marks.row.RowPart.{RowPart}
use Rattle.mt_box.specs.Layout.{Layout}
use Rattle.mt_box.specs.Rows.{PieceValue, PieceBox}
use Rattle.mt_box.specs.marks.RowParts.{AreParts, on_stack}
use Rattle.mt_align.specs.CellLayers.{cell_extents, cells_on}
use Rattle.mt_parts.specs.LineLayers.{all_extents, all_places}
use Rattle.mt_pieces.specs.Celled.{flat_box}
use Rattle.mt_pieces.specs.Putting.{unraised_boxes}
use Rattle.mt_pieces.specs.inner.Cells.{AreBoxes}
use Rattle.mt_pieces.proofs.Celled.{cells_from, same_cells, some_cells}

flat_rows : (rows : List Layout) → unraised_boxes rows ≡ map flat_box rows
flat_rows [] = refl
flat_rows (l ∷ rows) = ap (λ z. PieceBox (pos 0) l ∷ z) (flat_rows rows)

extents_rows : (rows : List Layout) → cell_extents rows ≡ all_extents rows
extents_rows [] = refl
extents_rows (l ∷ rows) = ap (λ z. l.extents ∷ z) (extents_rows rows)

rows_on : (rows : List Layout) (rest : List (List Place)) → cells_on rows rest ≡ on_stack (all_places rows) rest
rows_on [] rest = refl
rows_on (l ∷ rows) rest = rows_on rows (l.places ∷ rest)

-- the rows are these
pub record AreRows (rows : List Layout) (es : List Extents) (ls : List (List Place)) : Type 0 where
  pub extents : es ≡ all_extents rows
  pub stack : (rest : List (List Place)) → on_stack ls rest ≡ on_stack (all_places rows) rest

pub rows_are : (rows : List Layout) (qs : List RowPart) (es : List Extents) (ls : List (List Place)) → AreBoxes qs es → AreParts (unraised_boxes rows) qs ls → AreRows rows es ls
rows_are rows qs es ls h k =
    let s = same_cells rows qs es ls h (subst (λ z. AreParts z qs ls) (flat_rows rows) k) in
    record { extents = s.extents ∙ extents_rows rows; stack = λ rest. s.stack rest ∙ rows_on rows rest }

-- some rows have these parts
pub some_rows : (ms : List PieceValue) (qs : List RowPart) (es : List Extents) (ls : List (List Place)) → AreBoxes qs es → AreParts ms qs ls → AreRows (cells_from es ls) es ls
some_rows ms qs es ls h k = rows_are (cells_from es ls) qs es ls h (subst (λ z. AreParts z qs ls) (sym (flat_rows (cells_from es ls))) (some_cells ms qs es ls h k).are)
