-- Items whose pieces are on a stack, one list of them after another (`values_append`), and how far they reach (`high_as`,
-- `deep_as`).
use Rattle.std.proofs.Common.{◌≡◌, ◌+◌, ◌≤◌, ◌≤ℤ◌, ℤ, pos, List, [], ◌∷◌, ◌++◌, length, take, drop, ap, sym, ◌∙◌, refl, arith, length-drop}
use Rattle.std.proofs.lemmas.List.{take-append-drop}
use Rattle.mt_convert.proofs.Common.{ints, clamps, int_max, take-append-le, drop-append-le, nil_from_length, PieceValue, row_height, row_depth, PlacedItem, HalfAtom, half_height, half_depth, greatest_height, greatest_depth}
use Rattle.mt_box.specs.Rows.{piece_height, piece_depth}
use Rattle.mt_pieces.specs.declared.items.PlacedItem.TheVariants as placed
use Rattle.mt_convert.specs.inner.Placed.{placed_value, placed_values, placed_length, placed_count, AllPlacedFit}

-- what is behind the pieces of an item is not its own
pub value_within : (h : PlacedItem) (row more : List PieceValue) → placed_length h ≤ length row → placed_value h (row ++ more) ≡ placed_value h row
value_within (placed.Set c n) row more le = ap (λ r. HalfAtom c r) (take-append-le n row more le)
value_within _ row more le = refl

pub values_append : (hs ks : List PlacedItem) (row more : List PieceValue) → placed_count hs ≡ length row → placed_values (hs ++ ks) (row ++ more) ≡ placed_values hs row ++ placed_values ks more
values_append [] ks row more e = ap (λ r. placed_values ks (r ++ more)) (nil_from_length row (sym e))
values_append (h ∷ hs) ks row more e =
    let le : placed_length h ≤ length row = omega (arith, e) in
    let n = placed_length h in
    rw (value_within h row more le, drop-append-le n row more le)
    (ap (λ xs. placed_value h row ∷ xs) (values_append hs ks (drop n row) more (omega (arith, e, length-drop n row))))

pub count_append : (hs ks : List PlacedItem) → placed_count (hs ++ ks) ≡ placed_count hs + placed_count ks
count_append [] ks = omega arith
count_append (h ∷ hs) ks = omega (arith, count_append hs ks)

pub fits_append : (hs ks : List PlacedItem) → AllPlacedFit hs → AllPlacedFit ks → AllPlacedFit (hs ++ ks)
fits_append [] ks f g = g
fits_append (h ∷ hs) ks f g = (f.0, fits_append hs ks f.1 g)

-- ---- how far they reach

max_joined : (a b c : ℤ) → int_max a (int_max b c) ≡ int_max (int_max a b) c
max_joined a b c = omega (arith, ints, clamps)

row_high : (row : List PieceValue) → pos 0 ≤ℤ row_height row
row_high [] = omega (arith, ints)
row_high (m ∷ row) = let low = row_high row in omega (arith, ints, clamps, low)

row_deep : (row : List PieceValue) → pos 0 ≤ℤ row_depth row
row_deep [] = omega (arith, ints)
row_deep (m ∷ row) = let low = row_deep row in omega (arith, ints, clamps, low)

height_joined : (xs ys : List PieceValue) → row_height (xs ++ ys) ≡ int_max (row_height xs) (row_height ys)
height_joined [] ys = let low = row_high ys in omega (arith, ints, clamps, low)
height_joined (x ∷ xs) ys = ap (int_max (piece_height x)) (height_joined xs ys) ∙ max_joined (piece_height x) (row_height xs) (row_height ys)

depth_joined : (xs ys : List PieceValue) → row_depth (xs ++ ys) ≡ int_max (row_depth xs) (row_depth ys)
depth_joined [] ys = let low = row_deep ys in omega (arith, ints, clamps, low)
depth_joined (x ∷ xs) ys = ap (int_max (piece_depth x)) (depth_joined xs ys) ∙ max_joined (piece_depth x) (row_depth xs) (row_depth ys)

value_height : (h : PlacedItem) (row : List PieceValue) → row_height (take (placed_length h) row) ≡ half_height (placed_value h row)
value_height (placed.Set c n) row = refl
value_height _ row = refl

value_depth : (h : PlacedItem) (row : List PieceValue) → row_depth (take (placed_length h) row) ≡ half_depth (placed_value h row)
value_depth (placed.Set c n) row = refl
value_depth _ row = refl

-- as far as their pieces
pub high_as : (hs : List PlacedItem) (row : List PieceValue) → placed_count hs ≡ length row → row_height row ≡ greatest_height (placed_values hs row)
high_as [] row e = ap row_height (nil_from_length row (sym e))
high_as (h ∷ hs) row e =
    let n = placed_length h in
    let behind = drop n row in
    ap row_height (sym (take-append-drop n row))
    ∙ (height_joined (take n row) behind
    ∙ (ap (λ x. int_max x (row_height behind)) (value_height h row)
    ∙ ap (int_max (half_height (placed_value h row))) (high_as hs behind (omega (arith, e, length-drop n row)))))

pub deep_as : (hs : List PlacedItem) (row : List PieceValue) → placed_count hs ≡ length row → row_depth row ≡ greatest_depth (placed_values hs row)
deep_as [] row e = ap row_depth (nil_from_length row (sym e))
deep_as (h ∷ hs) row e =
    let n = placed_length h in
    let behind = drop n row in
    ap row_depth (sym (take-append-drop n row))
    ∙ (depth_joined (take n row) behind
    ∙ (ap (λ x. int_max x (row_depth behind)) (value_depth h row)
    ∙ ap (int_max (half_depth (placed_value h row))) (deep_as hs behind (omega (arith, e, length-drop n row)))))
