-- The places of a page can be written, and they are not too many.
use Rattle.std.proofs.Common.{◌≡◌, ℕ, ◌+◌, List, [], ◌∷◌, ◌++◌, length, sym, ◌∙◌, ap, subst, Option, Ok, All, IsSomeAnd}
use Rattle.mt_pages.proofs.Common.{append-nil, All-cons, All-nil, SetValue, PieceValue, PieceGlyph, PieceBox, PieceKern, PieceSpace, Place, Glyph, Rule, HasGlyph, IsWritable, all_places, LineValue, stacked_lines, LineHas, page_has, PlaceHolds, PieceHolds, RowHolds}
use Rattle.std.proofs.lemmas.List.{append_assoc, length-append}
use Rattle.mt_tfm.specs.Font.{Metrics}
use Rattle.mt_box.proofs.Room.{PlaceInRange}
use Rattle.mt_box.proofs.Still.{IsStill, PieceHas}
use Rattle.mt_convert.proofs.holds.Boxes.{all_places_hold}

-- that a glyph exists and that a rule marks something does not depend on where it is
pub places_still : (set : SetValue) → IsStill (PlaceHolds set)
places_still set = record { glyph = λ font code h v x y holds. holds; rule = λ h v x y height width holds. holds }

piece_has : (set : SetValue) (p : PieceValue) → PieceHolds set p → PieceHas (PlaceHolds set) p
piece_has set (PieceGlyph font code e) holds = holds.0
piece_has set (PieceBox raise body) holds = all_places_hold set body.places holds
piece_has set (PieceKern amount) holds = tt
piece_has set (PieceSpace width shrink) holds = tt

pub row_has : (set : SetValue) (row : List PieceValue) → RowHolds set row → All (PieceHas (PlaceHolds set)) row
row_has set [] holds = All-nil (PieceHas (PlaceHolds set))
row_has set (p ∷ ps) holds = All-cons (PieceHas (PlaceHolds set)) p ps (piece_has set p holds.0) (row_has set ps holds.1)

-- a place that holds, and whose coordinates are in range
pub place_writable : (set : SetValue) (p : Place) → PlaceHolds set p → PlaceInRange p → IsWritable set p
place_writable set (Glyph font code h v) holds near = record {
  h_in_range = near.h;
  v_in_range = near.v;
  glyph =
      subst (λ (o : Option Metrics). IsSomeAnd o (λ (m : Metrics). HasGlyph m code)) (sym holds.is)
      (record { there = holds.there; width = holds.extents.width; depth = holds.extents.depth });
}
place_writable set (Rule h v height width) holds near = record {
  h_in_range = near.h;
  v_in_range = near.v;
  height_in_range = holds.height_in_range;
  width_in_range = holds.width_in_range;
  tall = holds.tall;
  wide = holds.wide;
}

pub all_places_append : (pages : List (List Place)) (page : List Place) → all_places (pages ++ page ∷ []) ≡ all_places pages ++ page
all_places_append [] page = append-nil page
all_places_append (p ∷ ps) page = ap (λ (l : List Place). p ++ l) (all_places_append ps page) ∙ sym (append_assoc p (all_places ps) page)

pub all_places_length : (pages : List (List Place)) (page : List Place) → length (all_places (pages ++ page ∷ [])) ≡ length (all_places pages) + length page
all_places_length pages page = ap length (all_places_append pages page) ∙ length-append (all_places pages) page

-- the places of lines that hold can be written
pub stacked_writable : (set : SetValue) (room : ℕ) (lines : List LineValue) (page : List Place) → All (LineHas (PlaceHolds set)) lines → stacked_lines room lines ≡ Ok page → All (IsWritable set) page
stacked_writable set room lines page hold is = page_has (PlaceHolds set) (IsWritable set) (places_still set) (place_writable set) room lines page hold is
