-- The parts and the layers of the cells of a table.
use Rattle.std.proofs.Common.{◌≡◌, pos, List, [], ◌∷◌, ◌++◌, append_assoc, drop, length, length-append, map, take, refl, sym, ◌∙◌, ap, subst, arith}
use Rattle.std.proofs.lemmas.List.{append-nil, drop_at, length-drop, length-take-le, map-append, take_at, take-append-drop}
use Rattle.std.proofs.lemmas.Int.{ints}
use Rattle.mt_box.specs.declared.extents.Extents.{Extents}
use Rattle.mt_box.specs.declared.place.Place.{Place}
use Rattle.mt_box.specs.declared.marks.row.RowPart.{RowPart}
use Rattle.mt_box.specs.declared.marks.row.RowPart.TheVariants as part
use Rattle.mt_box.specs.Rows.{PieceValue}
use Rattle.mt_box.specs.marks.RowParts.{AreParts, IsPieceOf, on_stack}
use Rattle.mt_box.proofs.Moved.{moved_zero}
use Rattle.mt_rules.specs.OnMarks.{layout_with}
use Rattle.mt_rules.specs.Tables.{Cells}
use Rattle.mt_align.specs.CellLayers.{cell_extents, cells_on, table_extents, table_on}
use Rattle.mt_pieces.specs.Celled.{cell_pieces, flat_box}
use Rattle.mt_pieces.specs.inner.Cells.{AreBoxes, flat}
use Rattle.mt_pieces.proofs.Attached.{extents_is}

-- ---- rows one after another

pub flat_more : {A : Type 0} (rows : List (List A)) (row : List A) → flat (rows ++ row ∷ []) ≡ flat rows ++ row
flat_more [] row = append-nil row
flat_more (r ∷ rows) row = ap (λ z. r ++ z) (flat_more rows row) ∙ sym (append_assoc r (flat rows) row)

pieces_flat : (cells : List Cells) → cell_pieces cells ≡ map flat_box (flat cells)
pieces_flat [] = refl
pieces_flat (row ∷ rows) = ap (λ z. map flat_box row ++ z) (pieces_flat rows) ∙ sym (map-append flat_box row (flat rows))

extents_more : (xs ys : Cells) → cell_extents (xs ++ ys) ≡ cell_extents xs ++ cell_extents ys
extents_more [] ys = refl
extents_more (x ∷ xs) ys = ap (λ z. x.extents ∷ z) (extents_more xs ys)

length_extents : (cs : Cells) → length (cell_extents cs) ≡ length cs
length_extents [] = refl
length_extents (c ∷ cs) = omega (arith, length_extents cs)

on_more : (xs ys : Cells) (rest : List (List Place)) → cells_on (xs ++ ys) rest ≡ cells_on ys (cells_on xs rest)
on_more [] ys rest = refl
on_more (x ∷ xs) ys rest = on_more xs ys (x.places ∷ rest)

table_flat : (cells : List Cells) (rest : List (List Place)) → cells_on (flat cells) rest ≡ table_on cells rest
table_flat [] rest = refl
table_flat (row ∷ rows) rest = on_more row (flat rows) rest ∙ table_flat rows (cells_on row rest)

same_rows : (t : List (List Extents)) (cells : List Cells) → map length t ≡ map length cells → flat t ≡ cell_extents (flat cells) → t ≡ table_extents cells
same_rows [] [] n e = refl
same_rows [] (cs ∷ cells) n e = absurd (let z : ⊥ = cc in z)
same_rows (es ∷ t) [] n e = absurd (let z : ⊥ = cc in z)
same_rows (es ∷ t) (cs ∷ cells) n e =
    let k : length es ≡ length cs = cc in
    let ks : map length t ≡ map length cells = cc in
    let both : es ++ flat t ≡ cell_extents cs ++ cell_extents (flat cells) = e ∙ extents_more cs (flat cells) in
    let m : length (cell_extents cs) ≡ length es = length_extents cs ∙ sym k in
    let one : es ≡ cell_extents cs = sym (take_at es (flat t) (length es) refl) ∙ (ap (take (length es)) both ∙ take_at (cell_extents cs) (cell_extents (flat cells)) (length es) m) in
    let two : flat t ≡ cell_extents (flat cells) = sym (drop_at es (flat t) (length es) refl) ∙ (ap (drop (length es)) both ∙ drop_at (cell_extents cs) (cell_extents (flat cells)) (length es) m) in
    rw (one, same_rows t cells ks two) refl

-- ---- cells and their parts

pub record SameCells (cs : Cells) (es : List Extents) (ls : List (List Place)) : Type 0 where
  pub extents : es ≡ cell_extents cs
  pub stack : (rest : List (List Place)) → on_stack ls rest ≡ cells_on cs rest

pub same_cells : (cs : Cells) (qs : List RowPart) (es : List Extents) (ls : List (List Place)) → AreBoxes qs es → AreParts (map flat_box cs) qs ls → SameCells cs es ls
same_cells [] [] [] [] h k = record { extents = refl; stack = λ rest. refl }
same_cells [] [] [] (l ∷ ls) h k = absurd k
same_cells [] [] (e ∷ es) ls h k = absurd h
same_cells [] (q ∷ qs) es ls h k = absurd k
same_cells (c ∷ cs) [] es ls h k = absurd k
same_cells (c ∷ cs) (q ∷ qs) [] ls h k = absurd h
same_cells (c ∷ cs) (part.Glyph f d x ∷ qs) (e ∷ es) ls h k = absurd h
same_cells (c ∷ cs) (part.Gap w ∷ qs) (e ∷ es) ls h k = absurd h
same_cells (c ∷ cs) (part.Space w s ∷ qs) (e ∷ es) ls h k = absurd h
same_cells (c ∷ cs) (part.Layout p ∷ qs) (e ∷ es) [] h k = absurd k
same_cells (c ∷ cs) (part.Layout p ∷ qs) (e ∷ es) (l ∷ ls) h k =
    let m : IsPieceOf (flat_box c) (record { extents = e; raise = pos 0 }) l = subst (λ z. IsPieceOf (flat_box c) z l) h.0 k.0 in
    let s = same_cells cs qs es ls h.1 k.1 in
    let x : e ≡ c.extents = extents_is e c.extents.width c.extents.height c.extents.depth m.width (omega (arith, ints, m.height)) (omega (arith, ints, m.depth)) in
    let y : l ≡ c.places = sym (moved_zero l) ∙ (m.places (pos 0) ∙ moved_zero c.places) in
    record { extents = rw (x, s.extents) refl; stack = λ rest. s.stack (l ∷ rest) ∙ ap (λ z. cells_on cs (z ∷ rest)) y }

-- the cells are those of a table
pub record IsTable (cells : List Cells) (t : List (List Extents)) (ls : List (List Place)) : Type 0 where
  pub extents : t ≡ table_extents cells
  pub stack : (rest : List (List Place)) → on_stack ls rest ≡ table_on cells rest

pub table_is : (cells : List Cells) (t : List (List Extents)) (qs : List RowPart) (ls : List (List Place)) → AreBoxes qs (flat t) → map length t ≡ map length cells → AreParts (cell_pieces cells) qs ls → IsTable cells t ls
table_is cells t qs ls h n k =
    let s = same_cells (flat cells) qs (flat t) ls h (subst (λ z. AreParts z qs ls) (pieces_flat cells) k) in
    record { extents = same_rows t cells n s.extents; stack = λ rest. s.stack rest ∙ table_flat cells rest }

-- ---- some cells with these parts

abbrev pub cells_from : List Extents → List (List Place) → Cells
cells_from [] ls = []
cells_from (e ∷ es) [] = []
cells_from (e ∷ es) (l ∷ ls) = layout_with e l ∷ cells_from es ls

pub record CellsThere (cs : Cells) (qs : List RowPart) (es : List Extents) (ls : List (List Place)) : Type 0 where
  pub are : AreParts (map flat_box cs) qs ls
  pub many : length cs ≡ length es

pub some_cells : (ms : List PieceValue) (qs : List RowPart) (es : List Extents) (ls : List (List Place)) → AreBoxes qs es → AreParts ms qs ls → CellsThere (cells_from es ls) qs es ls
some_cells [] [] [] [] h k = record { are = tt; many = refl }
some_cells [] [] [] (l ∷ ls) h k = absurd k
some_cells [] [] (e ∷ es) ls h k = absurd h
some_cells [] (q ∷ qs) es ls h k = absurd k
some_cells (m ∷ ms) [] es ls h k = absurd k
some_cells (m ∷ ms) (q ∷ qs) [] ls h k = absurd h
some_cells (m ∷ ms) (part.Glyph f d x ∷ qs) (e ∷ es) ls h k = absurd h
some_cells (m ∷ ms) (part.Gap w ∷ qs) (e ∷ es) ls h k = absurd h
some_cells (m ∷ ms) (part.Space w s ∷ qs) (e ∷ es) ls h k = absurd h
some_cells (m ∷ ms) (part.Layout p ∷ qs) (e ∷ es) [] h k = absurd k
some_cells (m ∷ ms) (part.Layout p ∷ qs) (e ∷ es) (l ∷ ls) h k =
    let s = some_cells ms qs es ls h.1 k.1 in
    let is : IsPieceOf (flat_box (layout_with e l)) (record { extents = e; raise = pos 0 }) l = record { width = refl; height = refl; depth = refl; places = λ x. refl } in
    record { are = (subst (λ z. IsPieceOf (flat_box (layout_with e l)) z l) (sym h.0) is, s.are); many = omega (arith, s.many) }

abbrev rows_of : List (List Extents) → Cells → List Cells
rows_of [] cs = []
rows_of (es ∷ t) cs = take (length es) cs ∷ rows_of t (drop (length es) cs)

rows_flat : (t : List (List Extents)) (cs : Cells) → length cs ≡ length (flat t) → flat (rows_of t cs) ≡ cs
rows_flat [] [] n = refl
rows_flat [] (c ∷ cs) n = absurd (let z : ⊥ = omega (arith, n) in z)
rows_flat (es ∷ t) cs n =
    ap (λ z. take (length es) cs ++ z) (rows_flat t (drop (length es) cs) (omega (arith, n, length-append es (flat t), length-drop (length es) cs))) ∙ take-append-drop (length es) cs

rows_counts : (t : List (List Extents)) (cs : Cells) → length cs ≡ length (flat t) → map length (rows_of t cs) ≡ map length t
rows_counts [] cs n = refl
rows_counts (es ∷ t) cs n =
    let k : length (take (length es) cs) ≡ length es = length-take-le (length es) cs (omega (arith, n, length-append es (flat t))) in
    rw (k, rows_counts t (drop (length es) cs) (omega (arith, n, length-append es (flat t), length-drop (length es) cs))) refl

pub record SomeTable (t : List (List Extents)) (ls : List (List Place)) : Type 0 where
  pub cells : List Cells
  pub is : IsTable cells t ls

pub some_table : (ms : List PieceValue) (t : List (List Extents)) (qs : List RowPart) (ls : List (List Place)) → AreBoxes qs (flat t) → AreParts ms qs ls → SomeTable t ls
some_table ms t qs ls h k =
    let s = some_cells ms qs (flat t) ls h k in
    let cs = cells_from (flat t) ls in
    record {
      cells = rows_of t cs;
      is = table_is (rows_of t cs) t qs ls h (sym (rows_counts t cs s.many))
          (subst (λ z. AreParts z qs ls) (sym (pieces_flat (rows_of t cs) ∙ ap (map flat_box) (rows_flat t cs s.many))) s.are);
    }
