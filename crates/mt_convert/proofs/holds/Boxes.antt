-- Places, boxes and rows put together: they hold where their parts do.
use Rattle.std.proofs.Common.{◌≡◌, ℤ, pos, ◌+ℤ◌, ◌-ℤ◌, List, [], ◌∷◌, ◌++◌, refl, Option, Some, None, Bool, true, false, if◌then◌else◌, arith, All, IfOk, int_lt}
use Rattle.mt_convert.proofs.Common.{ints, All-nil, All-cons, int_max, int_eq, Within, max_dimen, half_of, SetValue, Glyph, Rule, Layout, all_moved, rule_places, PieceValue, PieceGlyph, PieceBox, piece_width, piece_places, row_places, pack, rebox, is_unraised, clean_one, clean_row, pack_row, layout_or_empty, make_clean, PlaceHolds, PlacesHold, LayoutHolds, PieceHolds, RowHolds}
use Rattle.std.specs.Prelude.{⊤}
use Rattle.mt_box.specs.declared.place.Place.{Place}
use Rattle.mt_convert.proofs.holds.Steps.{box_made}

module _ (fonts : SetValue) where
  -- ---- places

  pub moved_hold : (x y : ℤ) (ps : List Place) → PlacesHold fonts ps → PlacesHold fonts (all_moved x y ps)
  moved_hold x y [] h = tt
  moved_hold x y (Glyph font code u v ∷ ps) h = (h.0, moved_hold x y ps h.1)
  moved_hold x y (Rule u v height width ∷ ps) h = (h.0, moved_hold x y ps h.1)

  pub places_hold_append : (ps qs : List Place) → PlacesHold fonts ps → PlacesHold fonts qs → PlacesHold fonts (ps ++ qs)
  places_hold_append [] qs h k = k
  places_hold_append (p ∷ ps) qs h k = (h.0, places_hold_append ps qs h.1 k)

  pub all_places_hold : (ps : List Place) → PlacesHold fonts ps → All (PlaceHolds fonts) ps
  all_places_hold [] h = All-nil (PlaceHolds fonts)
  all_places_hold (p ∷ ps) h = All-cons (PlaceHolds fonts) p ps h.0 (all_places_hold ps h.1)

  rule_by : (x y height width : ℤ) (a b : Bool) → int_lt (pos 0) height ≡ a → int_lt (pos 0) width ≡ b → Within max_dimen height → Within max_dimen width → PlacesHold fonts (if a then (if b then Rule x (pos 0 -ℤ y) height width ∷ [] else []) else [])
  rule_by x y height width true true e f h w = (record { tall = omega (arith, ints, e); wide = omega (arith, ints, f); height_in_range = h; width_in_range = w }, tt)
  rule_by x y height width true false e f h w = tt
  rule_by x y height width false b e f h w = tt

  -- a rule is placed only where it marks something
  pub rule_holds : (x y height width : ℤ) → Within max_dimen height → Within max_dimen width → PlacesHold fonts (rule_places x y height width)
  rule_holds x y height width h w = rule_by x y height width (int_lt (pos 0) height) (int_lt (pos 0) width) refl refl h w

  -- ---- rows

  pub row_holds_append : (ps qs : List PieceValue) → RowHolds fonts ps → RowHolds fonts qs → RowHolds fonts (ps ++ qs)
  row_holds_append [] qs h k = k
  row_holds_append (p ∷ ps) qs h k = (h.0, row_holds_append ps qs h.1 k)

  piece_hold : (x : ℤ) (p : PieceValue) → PieceHolds fonts p → PlacesHold fonts (piece_places x p)
  piece_hold x (PieceGlyph font code e) h = (h.0, tt)
  piece_hold x (PieceBox raise body) h = moved_hold x raise body.places h
  piece_hold x _ h = tt

  -- the places of a row that begins at x
  pub placed_hold : (ps : List PieceValue) (x : ℤ) → RowHolds fonts ps → PlacesHold fonts (row_places x ps)
  placed_hold [] x h = tt
  placed_hold (p ∷ ps) x h = places_hold_append (piece_places x p) (row_places (x +ℤ piece_width p) ps) (piece_hold x p h.0) (placed_hold ps (x +ℤ piece_width p) h.1)

  -- the row packed
  pub pack_holds : (ps : List PieceValue) → RowHolds fonts ps → LayoutHolds fonts (pack ps)
  pack_holds ps h = placed_hold ps (pos 0) h

  pub packed_row : (ps : List PieceValue) → RowHolds fonts ps → IfOk (pack_row ps) (LayoutHolds fonts)
  packed_row ps h = box_made (LayoutHolds fonts) (pack ps) (pack_holds ps h)

  -- ---- clean boxes

  clean_if : (b : Bool) (raise : ℤ) (body : Layout) → LayoutHolds fonts body → LayoutHolds fonts (if b then body else pack (PieceBox raise body ∷ []))
  clean_if true raise body h = h
  clean_if false raise body h = pack_holds (PieceBox raise body ∷ []) (h, tt)

  clean_one_holds : (p : PieceValue) → PieceHolds fonts p → LayoutHolds fonts (clean_one p)
  clean_one_holds (PieceGlyph font code e) h = pack_holds (PieceGlyph font code e ∷ []) (h, tt)
  clean_one_holds (PieceBox raise body) h = clean_if (is_unraised raise) raise body h
  clean_one_holds _ h = tt

  clean_holds : (ps : List PieceValue) → RowHolds fonts ps → LayoutHolds fonts (clean_row ps)
  clean_holds [] h = tt
  clean_holds (p ∷ []) h = clean_one_holds p h.0
  clean_holds (p ∷ q ∷ ps) h = pack_holds (p ∷ q ∷ ps) h

  pub clean_box : (ps : List PieceValue) → RowHolds fonts ps → IfOk (make_clean ps) (LayoutHolds fonts)
  clean_box ps h = box_made (LayoutHolds fonts) (clean_row ps) (clean_holds ps h)

  -- ---- in the middle of a width

  rebox_by : (b : Bool) (l : Layout) (width : ℤ) → LayoutHolds fonts l → LayoutHolds fonts (if b then l else record { extents = record { width = width; height = int_max (pos 0) l.extents.height; depth = int_max (pos 0) l.extents.depth }; places = all_moved (half_of (width -ℤ l.extents.width)) (pos 0) l.places })
  rebox_by true l width h = h
  rebox_by false l width h = moved_hold (half_of (width -ℤ l.extents.width)) (pos 0) l.places h

  pub rebox_holds : (l : Layout) (width : ℤ) → LayoutHolds fonts l → LayoutHolds fonts (rebox l width)
  rebox_holds l width h = rebox_by (int_eq l.extents.width width) l width h

  -- ---- boxes that may be absent

  abbrev pub SomeLayoutHolds : Option Layout → Type 0
  SomeLayoutHolds None = ⊤
  SomeLayoutHolds (Some l) = LayoutHolds fonts l

  pub or_empty : (o : Option Layout) → SomeLayoutHolds o → LayoutHolds fonts (layout_or_empty o)
  or_empty None h = tt
  or_empty (Some l) h = h

  -- ---- lists of boxes

  abbrev pub LayoutsHold : List Layout → Type 0
  LayoutsHold [] = ⊤
  LayoutsHold (l ∷ ls) = LayoutHolds fonts l × LayoutsHold ls
