-- The marks of a table's boxes, pushed one by one.
use Rattle.std.proofs.Common.{◌≡◌, List, [], ◌∷◌, ◌++◌, map, append_assoc, sym, ◌∙◌, subst, All}
use Rattle.std.proofs.lemmas.List.Elements.{All-push}
use Rattle.mt_box.specs.declared.extents.Extents.{Extents}
use Rattle.mt_box.specs.declared.place.Place.{Place}
use Rattle.mt_box.specs.Extents.{ExtentsInRange}
use Rattle.mt_box.specs.Layout.{BoxValue, layout_of}
use Rattle.mt_box.proofs.Lists.{nil_right}
use Rattle.mt_align.specs.Cells.{cells_of}
use Rattle.mt_align.specs.CellLayers.{cell_extents, cells_on, table_extents, table_on}

-- the cells that are left go on the layouts so far
pub record PushingCells (cells rest : List BoxValue) (old now : List (List Place)) (extents : List Extents) : Type 0 where
  pub are : extents ++ cell_extents (map layout_of rest) ≡ cell_extents (map layout_of cells)
  pub marks : cells_on (map layout_of rest) now ≡ cells_on (map layout_of cells) old
  pub in_range : All ExtentsInRange extents

pub cells_more : (cells rest rest' : List BoxValue) (b : BoxValue) (old now now' : List (List Place)) (extents extents' : List Extents) → PushingCells cells rest old now extents → rest ≡ b ∷ rest' → now' ≡ b.places ∷ now → extents' ≡ extents ++ b.extents ∷ [] → ExtentsInRange b.extents → PushingCells cells rest' old now' extents'
cells_more cells rest rest' b old now now' extents extents' h e f g range =
    let h' : PushingCells cells (b ∷ rest') old now extents = subst (λ r. PushingCells cells r old now extents) e h in
    record {
      are = rw (g, append_assoc extents (b.extents ∷ []) (cell_extents (map layout_of rest'))) h'.are;
      marks = rw f h'.marks;
      in_range = rw g (All-push ExtentsInRange extents b.extents h'.in_range range);
    }

pub cells_end : (cells rest : List BoxValue) (old now : List (List Place)) (extents : List Extents) → PushingCells cells rest old now extents → rest ≡ [] → PushingCells cells [] old now extents
cells_end cells rest old now extents h e = subst (λ r. PushingCells cells r old now extents) e h

pub cells_are : (cells : List BoxValue) (old now : List (List Place)) (extents : List Extents) → PushingCells cells [] old now extents → extents ≡ cell_extents (map layout_of cells)
cells_are cells old now extents h = sym (nil_right extents) ∙ h.are

-- the rows that are left do
pub record PushingRows (rows rest : List (List BoxValue)) (old now : List (List Place)) (extents : List (List Extents)) : Type 0 where
  pub are : extents ++ table_extents (cells_of rest) ≡ table_extents (cells_of rows)
  pub marks : table_on (cells_of rest) now ≡ table_on (cells_of rows) old
  pub in_range : All (All ExtentsInRange) extents

pub rows_more : (rows rest rest' : List (List BoxValue)) (cells : List BoxValue) (old now now' : List (List Place)) (extents extents' : List (List Extents)) (es : List Extents) → PushingRows rows rest old now extents → rest ≡ cells ∷ rest' → now' ≡ cells_on (map layout_of cells) now → es ≡ cell_extents (map layout_of cells) → extents' ≡ extents ++ es ∷ [] → All ExtentsInRange es → PushingRows rows rest' old now' extents'
rows_more rows rest rest' cells old now now' extents extents' es h e f is g range =
    let h' : PushingRows rows (cells ∷ rest') old now extents = subst (λ r. PushingRows rows r old now extents) e h in
    record {
      are = rw (g, append_assoc extents (es ∷ []) (table_extents (cells_of rest')), is) h'.are;
      marks = rw f h'.marks;
      in_range = rw g (All-push (All ExtentsInRange) extents es h'.in_range range);
    }

pub rows_end : (rows rest : List (List BoxValue)) (old now : List (List Place)) (extents : List (List Extents)) → PushingRows rows rest old now extents → rest ≡ [] → PushingRows rows [] old now extents
rows_end rows rest old now extents h e = subst (λ r. PushingRows rows r old now extents) e h

pub rows_are : (rows : List (List BoxValue)) (old now : List (List Place)) (extents : List (List Extents)) → PushingRows rows [] old now extents → extents ≡ table_extents (cells_of rows)
rows_are rows old now extents h = sym (nil_right extents) ∙ h.are
