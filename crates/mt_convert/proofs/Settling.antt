-- Classes settled from the right, item by item (`settle_turn`, `settle_end`), and what a list keeps by it (`finishes`).
use Rattle.std.proofs.Common.{◌≡◌, ℕ, ◌+◌, ◌-◌, ◌<◌, ◌≤◌, ◌≤ℤ◌, get_or, subst, List, [], ◌∷◌, ◌++◌, length, take, drop, ap, sym, ◌∙◌, refl, arith, append_assoc, Option, Some, None, pos}
use Rattle.mt_convert.proofs.Common.{ints, clamps, take-set, drop-set, take_more, option_or, max_dimen, PieceValue, row_height, row_depth, Class, Open, Close, settled_of, PlacedItem, HalfValue, HalfAtom, HalfLeft, HalfMiddle, HalfRight, class_to_left, next_class, settled_half, settled_halves, greatest_height, greatest_depth, settle, BoundariesOutside, AllMeet, MayMeet}
use Rattle.std.proofs.Math.ListN.{set}
use Rattle.mt_pieces.specs.declared.items.PlacedItem.TheVariants as placed
use Rattle.mt_convert.specs.inner.Placed.{placed_value, placed_values, placed_length, placed_count, placed_left, reaching, PlacedFits, AllPlacedFit}
use Rattle.mt_convert.specs.inner.Settling.{settled_item, settled_items, next_placed, CanFollow, AllCanFollow, CanFinish, Finishes}
use Rattle.mt_convert.proofs.PlacedValues.{deep_as, high_as}
use Rattle.mt_convert.proofs.Remaining.{boundaries_settled}

-- ---- from the right

-- the first class of these items, or else that of the next atom after them
abbrev pub class_before : List PlacedItem → Option Class → Option Class
class_before [] after = after
class_before (h ∷ hs) after = option_or (placed_left h) (class_before hs after)

abbrev pub settled_before : Option Class → List PlacedItem → List PlacedItem
settled_before after [] = []
settled_before after (h ∷ hs) = settled_item h (class_before hs after) ∷ settled_before after hs

class_before-snoc : (hs : List PlacedItem) (h : PlacedItem) (after : Option Class) → class_before (hs ++ h ∷ []) after ≡ class_before hs (option_or (placed_left h) after)
class_before-snoc [] h after = refl
class_before-snoc (g ∷ hs) h after = ap (λ c. option_or (placed_left g) c) (class_before-snoc hs h after)

settled-snoc : (hs : List PlacedItem) (h : PlacedItem) (after : Option Class) → settled_before after (hs ++ h ∷ []) ≡ settled_before (option_or (placed_left h) after) hs ++ settled_item h after ∷ []
settled-snoc [] h after = refl
settled-snoc (g ∷ hs) h after = rw (class_before-snoc hs h after) (ap (λ xs. settled_item g (class_before hs (option_or (placed_left h) after)) ∷ xs) (settled-snoc hs h after))

settle_at : (hs : List PlacedItem) (k : ℕ) (d x : PlacedItem) (after : Option Class) (whole : List PlacedItem) → k < length hs → get_or hs k d ≡ x → settled_before after (take (k + 1) hs) ++ drop (k + 1) hs ≡ whole → settled_before (option_or (placed_left x) after) (take k (set hs k (settled_item x after))) ++ drop k (set hs k (settled_item x after)) ≡ whole
settle_at hs k d x after whole lt e h =
    let y = settled_item x after in
    let b = option_or (placed_left x) after in
    ap (λ t. settled_before b t ++ drop k (set hs k y)) (take-set hs k y)
    ∙ (ap (λ t. settled_before b (take k hs) ++ t) (drop-set hs k y lt)
    ∙ (sym (append_assoc (settled_before b (take k hs)) (y ∷ []) (drop (k + 1) hs))
    ∙ (ap (λ t. t ++ drop (k + 1) hs) (sym (settled-snoc (take k hs) x after))
    ∙ (ap (λ v. settled_before after (take k hs ++ v ∷ []) ++ drop (k + 1) hs) (sym e)
    ∙ (ap (λ t. settled_before after t ++ drop (k + 1) hs) (sym (take_more hs k d lt)) ∙ h)))))

-- one turn of the loop
pub settle_turn : (hs : List PlacedItem) (i : ℕ) (d x y : PlacedItem) (after next : Option Class) (whole : List PlacedItem) → 0 < i → i ≤ length hs → get_or hs (i - 1) d ≡ x → y ≡ settled_item x after → next ≡ option_or (placed_left x) after → settled_before after (take i hs) ++ drop i hs ≡ whole → settled_before next (take (i - 1) (set hs (i - 1) y)) ++ drop (i - 1) (set hs (i - 1) y) ≡ whole
settle_turn hs i d x y after next whole low le e f g h =
    let n : i ≡ i - 1 + 1 = omega arith in
    rw g (subst (λ v. settled_before (option_or (placed_left x) after) (take (i - 1) (set hs (i - 1) v)) ++ drop (i - 1) (set hs (i - 1) v) ≡ whole) (sym f)
    (settle_at hs (i - 1) d x after whole (omega arith) e (subst (λ m. settled_before after (take m hs) ++ drop m hs ≡ whole) n h)))

class_before_none : (hs : List PlacedItem) → class_before hs None ≡ next_placed hs
class_before_none [] = refl
class_before_none (h ∷ hs) = ap (λ c. option_or (placed_left h) c) (class_before_none hs)

-- from the last one on
settled_all : (hs : List PlacedItem) → settled_before None hs ≡ settled_items hs
settled_all [] = refl
settled_all (h ∷ hs) = rw (class_before_none hs, settled_all hs) refl

pub settle_end : (hs : List PlacedItem) (i : ℕ) (after : Option Class) (whole : List PlacedItem) → i ≡ 0 → settled_before after (take i hs) ++ drop i hs ≡ settled_before None whole → hs ≡ settled_items whole
settle_end hs i after whole z h = subst (λ n. settled_before after (take n hs) ++ drop n hs ≡ settled_before None whole) z h ∙ settled_all whole

-- ---- what a list keeps

-- what an item counts as does not depend on its pieces
pub left_is : (h : PlacedItem) (row : List PieceValue) → class_to_left (placed_value h row) ≡ placed_left h
left_is (placed.Set c n) row = refl
left_is _ row = refl

next_is : (hs : List PlacedItem) (row : List PieceValue) → next_class (placed_values hs row) ≡ next_placed hs
next_is [] row = refl
next_is (h ∷ hs) row = rw (left_is h row, next_is hs (drop (placed_length h) row)) refl

item_settled : (h : PlacedItem) (after : Option Class) (row : List PieceValue) → placed_value (settled_item h after) row ≡ settled_half (placed_value h row) after
item_settled (placed.Set c n) after row = refl
item_settled _ after row = refl

item_length : (h : PlacedItem) (after : Option Class) → placed_length (settled_item h after) ≡ placed_length h
item_length (placed.Set c n) after = refl
item_length _ after = refl

item_fits : (h : PlacedItem) (after : Option Class) → PlacedFits h → PlacedFits (settled_item h after)
item_fits (placed.Set c n) after k = k
item_fits _ after k = k

values_settled : (hs : List PlacedItem) (row : List PieceValue) → placed_values (settled_items hs) row ≡ settled_halves (placed_values hs row)
values_settled [] row = refl
values_settled (h ∷ hs) row =
    rw (item_settled h (next_placed hs) row, item_length h (next_placed hs), values_settled hs (drop (placed_length h) row), next_is hs (drop (placed_length h) row)) refl

count_settled : (hs : List PlacedItem) → placed_count (settled_items hs) ≡ placed_count hs
count_settled [] = refl
count_settled (h ∷ hs) = omega (arith, item_length h (next_placed hs), count_settled hs)

length_settled : (hs : List PlacedItem) → length (settled_items hs) ≡ length hs
length_settled [] = refl
length_settled (h ∷ hs) = omega (arith, length_settled hs)

fits_settled : (hs : List PlacedItem) → AllPlacedFit hs → AllPlacedFit (settled_items hs)
fits_settled [] k = tt
fits_settled (h ∷ hs) k = (item_fits h (next_placed hs) k.0, fits_settled hs k.1)

-- the final class of the last atom before
abbrev pub last_settled : Option Class → Option Class → Option Class
last_settled None after = None
last_settled (Some c) after = Some (settled_of c after)

meets : (last : Option Class) (c : Class) (after : Option Class) → CanFollow last (Some c) → MayMeet (last_settled last (Some c)) (Some (settled_of c after))
meets None c after h = tt
meets (Some l) c after h = h after

meets_none : (last : Option Class) → MayMeet last None
meets_none None = tt
meets_none (Some l) = tt

meet_settled : (last : Option Class) (hs : List HalfValue) → AllCanFollow last hs → AllMeet (last_settled last (next_class hs)) (settled_halves hs)
meet_settled last [] h = tt
meet_settled last (HalfAtom c r ∷ hs) h = (meets last c (next_class hs) h.0, meet_settled (Some c) hs h.1)
meet_settled last (HalfLeft d ∷ hs) h = (meets last Open (next_class hs) h.0, meet_settled (Some Open) hs h.1)
meet_settled last (HalfMiddle d ∷ hs) h = (meets last Close (next_class hs) h.0, meet_settled (Some Open) hs h.1)
meet_settled last (HalfRight d ∷ hs) h = (meets last Close (next_class hs) h.0, meet_settled (Some Close) hs h.1)
meet_settled last (_ ∷ hs) h = (meets_none (last_settled last (next_class hs)), meet_settled last hs h.1)

pub height_low : (hs : List HalfValue) → pos 0 ≤ℤ greatest_height hs
height_low [] = omega (arith, ints)
height_low (h ∷ hs) = omega (arith, ints, clamps, height_low hs)

pub depth_low : (hs : List HalfValue) → pos 0 ≤ℤ greatest_depth hs
depth_low [] = omega (arith, ints)
depth_low (h ∷ hs) = omega (arith, ints, clamps, depth_low hs)

pub finishes : (hs hs' : List PlacedItem) (row : List PieceValue) → CanFinish hs row → hs' ≡ settled_items hs → Finishes (reaching hs' row) row (settle (placed_values hs row))
finishes hs hs' row k e =
    let values : placed_values hs' row ≡ settled_halves (placed_values hs row) = ap (λ i. placed_values i row) e ∙ values_settled hs row in
    let high : row_height row ≡ greatest_height (placed_values hs row) = high_as hs row k.count in
    let deep : row_depth row ≡ greatest_depth (placed_values hs row) = deep_as hs row k.count in
    record {
      is = rw (values, high, deep) refl;
      placed = record {
        items = record {
          count = ap placed_count e ∙ (count_settled hs ∙ k.count);
          meet = subst (AllMeet None) (sym values) (meet_settled None (placed_values hs row) k.follow);
          few = omega (arith, ap length e, length_settled hs, k.few);
          total = k.total;
          fit = subst AllPlacedFit (sym e) (fits_settled hs k.fit);
        };
        boundaries = subst BoundariesOutside (sym values) (boundaries_settled (placed_values hs row) k.boundaries);
        height_low = subst (λ z. pos 0 ≤ℤ z) (sym high) (height_low (placed_values hs row));
        height_high = subst (λ z. z ≤ℤ pos max_dimen) (sym high) k.height;
        depth_low = subst (λ z. pos 0 ≤ℤ z) (sym deep) (depth_low (placed_values hs row));
        depth_high = subst (λ z. z ≤ℤ pos max_dimen) (sym deep) k.depth;
      };
    }
