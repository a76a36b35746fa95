-- Rows of layouts one on another, with gaps and spaces.
use Rattle.std.proofs.Common.{◌≡◌, List, [], ◌∷◌, ◌++◌, map, ℤ, pos, ◌+ℤ◌, ◌-ℤ◌, refl, arith, append_assoc, sym, ◌∙◌, ap, inl, inr, ◌⊎◌}
use Rattle.std.specs.Int.{int_min}
use Rattle.std.proofs.lemmas.Int.{ints}
use Rattle.mt_box.specs.declared.place.Place.{Place}
use Rattle.mt_box.specs.Layout.{all_moved}
use Rattle.mt_box.specs.Rows.{PieceValue, piece_width, piece_shrink, piece_places, row_places, row_width, row_height, row_depth, row_shrink}
use Rattle.mt_box.specs.SetRows.{shrunk, shrunk_places, used_shrink, pack_to}
use Rattle.mt_box.specs.declared.marks.row.RowReach.{RowReach}
use Rattle.mt_box.specs.declared.marks.row.RowPiece.{RowPiece}
use Rattle.mt_box.specs.declared.marks.row.RowPart.{RowPart}
use Rattle.mt_box.specs.declared.marks.row.RowPart.TheVariants as part
use Rattle.mt_box.specs.marks.Layers.{joined, moved_layer}
use Rattle.mt_box.specs.marks.RowParts.{AreParts, IsPieceOf, IsGapOf, glyph_piece, on_stack, part_width, part_height, part_depth, part_shrink, parts_sum, parts_max, parts_joined}

-- nothing shrinks, or these pieces shrink as these parts, after the same shrinks
abbrev Agree : ℤ → ℤ → ℤ → List PieceValue → List RowPart → Type 0
Agree most before done ms ps = (most ≡ pos 0) ⊎ ((before ≡ done) × (map piece_shrink ms ≡ map part_shrink ps))

agree_now : (most used before done : ℤ) (ms : List PieceValue) (ps : List RowPart) → Agree most before done ms ps → shrunk most used before ≡ shrunk most used done
agree_now most used before done ms ps (inl e) = rw e refl
agree_now most used before done ms ps (inr e) = ap (shrunk most used) e.0

agree_next : (most before done : ℤ) (m : PieceValue) (ms : List PieceValue) (p : RowPart) (ps : List RowPart) → Agree most before done (m ∷ ms) (p ∷ ps)
    → Agree most (before +ℤ part_shrink p) (done +ℤ piece_shrink m) ms ps
agree_next most before done m ms p ps (inl e) = inl e
agree_next most before done m ms p ps (inr e) =
    let s : piece_shrink m ≡ part_shrink p = cc in
    inr (rw (e.0, s) refl, cc)

gap_joined : (most used x before done w : ℤ) (m : PieceValue) (ms : List PieceValue) (p : RowPart) (top : List Place) (rest : List (List Place)) → IsGapOf m w
    → (shrunk_places most used (x +ℤ w) (done +ℤ piece_shrink m) ms ++ top) ∷ rest ≡ (shrunk_places most used x done (m ∷ ms) ++ top) ∷ rest
gap_joined most used x before done w m ms p top rest h = rw (h.places (x -ℤ shrunk most used done), h.width) refl

-- a layout moved to its place, in front of the rest of the row
piece_joined : (most used x before done : ℤ) (m : PieceValue) (ms : List PieceValue) (p : RowPiece) (l top : List Place) (rest now : List (List Place)) → IsPieceOf m p l → shrunk most used before ≡ shrunk most used done
    → now ≡ (shrunk_places most used (x +ℤ p.extents.width) (done +ℤ piece_shrink m) ms ++ top) ∷ l ∷ rest
    → joined (moved_layer 1 (x -ℤ shrunk most used before) p.raise now) ≡ (shrunk_places most used x done (m ∷ ms) ++ top) ∷ rest
piece_joined most used x before done m ms p l top rest now h a e =
    let at = x -ℤ shrunk most used done in
    let after = done +ℤ piece_shrink m in
    ap (λ r. joined (moved_layer 1 (x -ℤ shrunk most used before) p.raise r)) e
    ∙ (ap (λ (s : ℤ). (all_moved (x -ℤ s) p.raise l ++ (shrunk_places most used (x +ℤ p.extents.width) after ms ++ top)) ∷ rest) a
    ∙ (ap (λ (w : ℤ). (all_moved at p.raise l ++ (shrunk_places most used (x +ℤ w) after ms ++ top)) ∷ rest) h.width
    ∙ (ap (λ r. (r ++ (shrunk_places most used (x +ℤ piece_width m) after ms ++ top)) ∷ rest) (h.places at)
    ∙ ap (λ r. r ∷ rest) (sym (append_assoc (piece_places at m) (shrunk_places most used (x +ℤ piece_width m) after ms) top)))))

-- the row of layouts, gaps and spaces is the row of their pieces
pub parts_places : (most used x before done : ℤ) (ms : List PieceValue) (ps : List RowPart) (ls : List (List Place)) (top : List Place) (rest : List (List Place)) → AreParts ms ps ls → Agree most before done ms ps
    → parts_joined most used x before ps (top ∷ on_stack ls rest) ≡ (shrunk_places most used x done ms ++ top) ∷ rest
parts_places most used x before done [] [] [] top rest h a = refl
parts_places most used x before done [] [] (l ∷ ls) top rest h a = absurd h
parts_places most used x before done [] (p ∷ ps) ls top rest h a = absurd h
parts_places most used x before done (m ∷ ms) [] ls top rest h a = absurd h
parts_places most used x before done (m ∷ ms) (part.Glyph f c e ∷ ps) [] top rest h a = absurd h
parts_places most used x before done (m ∷ ms) (part.Glyph f c e ∷ ps) (l ∷ ls) top rest h a =
    piece_joined most used x before done m ms (glyph_piece e) l top rest (parts_joined most used (x +ℤ e.width) (before +ℤ pos 0) ps (top ∷ on_stack ls (l ∷ rest))) h.0 (agree_now most used before done (m ∷ ms) (part.Glyph f c e ∷ ps) a)
    (parts_places most used (x +ℤ e.width) (before +ℤ pos 0) (done +ℤ piece_shrink m) ms ps ls top (l ∷ rest) h.1 (agree_next most before done m ms (part.Glyph f c e) ps a))
parts_places most used x before done (m ∷ ms) (part.Layout p ∷ ps) [] top rest h a = absurd h
parts_places most used x before done (m ∷ ms) (part.Layout p ∷ ps) (l ∷ ls) top rest h a =
    piece_joined most used x before done m ms p l top rest (parts_joined most used (x +ℤ p.extents.width) (before +ℤ pos 0) ps (top ∷ on_stack ls (l ∷ rest))) h.0 (agree_now most used before done (m ∷ ms) (part.Layout p ∷ ps) a)
    (parts_places most used (x +ℤ p.extents.width) (before +ℤ pos 0) (done +ℤ piece_shrink m) ms ps ls top (l ∷ rest) h.1 (agree_next most before done m ms (part.Layout p) ps a))
parts_places most used x before done (m ∷ ms) (part.Gap w ∷ ps) ls top rest h a =
    parts_places most used (x +ℤ w) (before +ℤ pos 0) (done +ℤ piece_shrink m) ms ps ls top rest h.1 (agree_next most before done m ms (part.Gap w) ps a)
    ∙ gap_joined most used x before done w m ms (part.Gap w) top rest h.0
parts_places most used x before done (m ∷ ms) (part.Space w s ∷ ps) ls top rest h a =
    parts_places most used (x +ℤ w) (before +ℤ s) (done +ℤ piece_shrink m) ms ps ls top rest h.1 (agree_next most before done m ms (part.Space w s) ps a)
    ∙ gap_joined most used x before done w m ms (part.Space w s) top rest h.0

-- where nothing shrinks, the row is packed with its own width
pub places_unshrunk : (used x before : ℤ) (ms : List PieceValue) → shrunk_places (pos 0) used x before ms ≡ row_places x ms
places_unshrunk used x before [] = refl
places_unshrunk used x before (m ∷ ms) =
    let e : x -ℤ pos 0 ≡ x = omega (arith, ints) in
    rw (e, places_unshrunk used (x +ℤ piece_width m) (before +ℤ piece_shrink m) ms) refl

-- the parts reach as far as their pieces
pub record SameReach (ms : List PieceValue) (ps : List RowPart) : Type 0 where
  pub width : parts_sum part_width ps ≡ row_width ms
  pub height : parts_max part_height ps ≡ row_height ms
  pub depth : parts_max part_depth ps ≡ row_depth ms

pub same_reach : (ms : List PieceValue) (ps : List RowPart) (ls : List (List Place)) → AreParts ms ps ls → SameReach ms ps
same_reach [] [] [] h = record { width = refl; height = refl; depth = refl }
same_reach [] [] (l ∷ ls) h = absurd h
same_reach [] (p ∷ ps) ls h = absurd h
same_reach (m ∷ ms) [] ls h = absurd h
same_reach (m ∷ ms) (part.Glyph f c e ∷ ps) [] h = absurd h
same_reach (m ∷ ms) (part.Glyph f c e ∷ ps) (l ∷ ls) h =
    let r = same_reach ms ps ls h.1 in
    record { width = rw (h.0.width, r.width) refl; height = rw (h.0.height, r.height) refl; depth = rw (h.0.depth, r.depth) refl }
same_reach (m ∷ ms) (part.Layout p ∷ ps) [] h = absurd h
same_reach (m ∷ ms) (part.Layout p ∷ ps) (l ∷ ls) h =
    let r = same_reach ms ps ls h.1 in
    record { width = rw (h.0.width, r.width) refl; height = rw (h.0.height, r.height) refl; depth = rw (h.0.depth, r.depth) refl }
same_reach (m ∷ ms) (part.Gap w ∷ ps) ls h =
    let r = same_reach ms ps ls h.1 in
    record { width = rw (h.0.width, r.width) refl; height = rw (h.0.height, r.height) refl; depth = rw (h.0.depth, r.depth) refl }
same_reach (m ∷ ms) (part.Space w s ∷ ps) ls h =
    let r = same_reach ms ps ls h.1 in
    record { width = rw (h.0.width, r.width) refl; height = rw (h.0.height, r.height) refl; depth = rw (h.0.depth, r.depth) refl }

-- and may shrink as much
pub same_shrink : (ms : List PieceValue) (ps : List RowPart) → map piece_shrink ms ≡ map part_shrink ps → row_shrink ms ≡ parts_sum part_shrink ps
same_shrink [] [] e = refl
same_shrink [] (p ∷ ps) e = absurd (cc)
same_shrink (m ∷ ms) [] e = absurd (cc)
same_shrink (m ∷ ms) (p ∷ ps) e =
    let s : piece_shrink m ≡ part_shrink p = cc in
    let f : map piece_shrink ms ≡ map part_shrink ps = cc in
    rw (s, same_shrink ms ps f) refl

-- the shrink of the parts is that of a row set to this width
pub set_at : (ms : List PieceValue) (ps : List RowPart) (e : RowReach) (width most used : ℤ) → SameReach ms ps → map piece_shrink ms ≡ map part_shrink ps
    → e.width ≡ parts_sum part_width ps → e.shrink ≡ parts_sum part_shrink ps → most ≡ e.shrink → used ≡ int_min e.shrink (e.width -ℤ width)
    → shrunk_places most used (pos 0) (pos 0) ms ≡ (pack_to ms width).places
set_at ms ps e width most used same shrinks w s m u =
    let p : most ≡ row_shrink ms = m ∙ (s ∙ sym (same_shrink ms ps shrinks)) in
    let q : used ≡ used_shrink ms width = u ∙ (ap (λ z. int_min z (e.width -ℤ width)) (s ∙ sym (same_shrink ms ps shrinks)) ∙ ap (λ z. int_min (row_shrink ms) (z -ℤ width)) (w ∙ same.width)) in
    rw (p, q) refl
