-- What is reported of each piece and of its part.
use Rattle.std.proofs.Common.{◌≡◌, ℕ, Bool, false, List, [], ◌∷◌, ◌++◌, map, reverse, drop, refl, sym, ◌∙◌, ap}
use Rattle.std.proofs.lemmas.List.{drop-map, map-append, reverse-append, reverse-reverse}
use Rattle.mt_box.specs.declared.place.Place.{Place}
use Rattle.mt_box.specs.declared.marks.row.RowPart.{RowPart}
use Rattle.mt_box.specs.declared.marks.row.RowPart.TheVariants as part
use Rattle.mt_box.specs.Rows.{PieceValue, begins_with_space_piece, is_space_piece, piece_shrink}
use Rattle.mt_box.specs.marks.Layers.{top}
use Rattle.mt_box.specs.marks.RowParts.{part_shrink}
use Rattle.mt_rules.specs.Scripts.{begins_with_glyph, is_glyph}
use Rattle.mt_pieces.specs.inner.LastParts.{is_glyph_first, is_space_first}
use Rattle.mt_pieces.specs.inner.View.{piece_of, pieces_back, under}

alike : {X : Type 0} → (f : PieceValue → X) (g : RowPart → X) → ((p : RowPart) (l : List Place) → f (piece_of p l) ≡ g p) → (ps : List RowPart) (ls : List (List Place)) → map f (pieces_back ps ls) ≡ map g (reverse ps)
alike f g h [] ls = refl
alike f g h (p ∷ ps) ls =
    map-append f (pieces_back ps (under p ls)) (piece_of p (top ls) ∷ [])
    ∙ (ap (λ r. r ++ f (piece_of p (top ls)) ∷ []) (alike f g h ps (under p ls))
    ∙ (ap (λ z. map g (reverse ps) ++ z ∷ []) (h p (top ls))
    ∙ (sym (map-append g (reverse ps) (p ∷ [])) ∙ ap (map g) (sym (reverse-append (p ∷ []) ps)))))

alike_from : {X : Type 0} → (f : PieceValue → X) (g : RowPart → X) → ((p : RowPart) (l : List Place) → f (piece_of p l) ≡ g p) → (ps : List RowPart) (n : ℕ) (ls : List (List Place)) (now : List PieceValue)
    → pieces_back (reverse ps) ls ≡ now → map f (drop n now) ≡ map g (drop n ps)
alike_from f g h ps n ls now e =
    sym (drop-map f n now) ∙ (ap (λ z. drop n (map f z)) (sym e) ∙ (ap (drop n) (alike f g h (reverse ps) ls) ∙ (ap (λ z. drop n (map g z)) (reverse-reverse ps) ∙ drop-map g n ps)))

shrink_told : (p : RowPart) (l : List Place) → piece_shrink (piece_of p l) ≡ part_shrink p
shrink_told (part.Glyph f c e) l = refl
shrink_told (part.Layout p) l = refl
shrink_told (part.Gap w) l = refl
shrink_told (part.Space w s) l = refl

pub shrinks_alike : (ps : List RowPart) (n : ℕ) (ls : List (List Place)) (now : List PieceValue) → pieces_back (reverse ps) ls ≡ now → map piece_shrink (drop n now) ≡ map part_shrink (drop n ps)
shrinks_alike ps n ls now e = alike_from piece_shrink part_shrink shrink_told ps n ls now e

-- the first part is a character
abbrev is_glyph_part : RowPart → Bool
is_glyph_part p = is_glyph_first (p ∷ [])

glyph_told : (p : RowPart) (l : List Place) → is_glyph (piece_of p l) ≡ is_glyph_part p
glyph_told (part.Glyph f c e) l = refl
glyph_told (part.Layout p) l = refl
glyph_told (part.Gap w) l = refl
glyph_told (part.Space w s) l = refl

abbrev first_true : List Bool → Bool
first_true [] = false
first_true (b ∷ bs) = b

first_piece : (ms : List PieceValue) → begins_with_glyph ms ≡ first_true (map is_glyph ms)
first_piece [] = refl
first_piece (m ∷ ms) = refl

first_part : (ps : List RowPart) → is_glyph_first ps ≡ first_true (map is_glyph_part ps)
first_part [] = refl
first_part (part.Glyph f c e ∷ ps) = refl
first_part (part.Layout p ∷ ps) = refl
first_part (part.Gap w ∷ ps) = refl
first_part (part.Space w s ∷ ps) = refl

pub glyph_alike : (ps : List RowPart) (n : ℕ) (ls : List (List Place)) (now : List PieceValue) → pieces_back (reverse ps) ls ≡ now → is_glyph_first (drop n ps) ≡ begins_with_glyph (drop n now)
glyph_alike ps n ls now e = first_part (drop n ps) ∙ (ap first_true (sym (alike_from is_glyph is_glyph_part glyph_told ps n ls now e)) ∙ sym (first_piece (drop n now)))

-- the first part is a space
abbrev is_space_part : RowPart → Bool
is_space_part p = is_space_first (p ∷ [])

space_told : (p : RowPart) (l : List Place) → is_space_piece (piece_of p l) ≡ is_space_part p
space_told (part.Glyph f c e) l = refl
space_told (part.Layout p) l = refl
space_told (part.Gap w) l = refl
space_told (part.Space w s) l = refl

first_space_piece : (ms : List PieceValue) → begins_with_space_piece ms ≡ first_true (map is_space_piece ms)
first_space_piece [] = refl
first_space_piece (m ∷ ms) = refl

first_space : (ps : List RowPart) → is_space_first ps ≡ first_true (map is_space_part ps)
first_space [] = refl
first_space (part.Glyph f c e ∷ ps) = refl
first_space (part.Layout p ∷ ps) = refl
first_space (part.Gap w ∷ ps) = refl
first_space (part.Space w s ∷ ps) = refl

pub space_alike : (ps : List RowPart) (n : ℕ) (ls : List (List Place)) (now : List PieceValue) → pieces_back (reverse ps) ls ≡ now → is_space_first (drop n ps) ≡ begins_with_space_piece (drop n now)
space_alike ps n ls now e = first_space (drop n ps) ∙ (ap first_true (sym (alike_from is_space_piece is_space_part space_told ps n ls now e)) ∙ sym (first_space_piece (drop n now)))
