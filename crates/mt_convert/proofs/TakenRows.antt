-- The rows of items taken from a stack, from the last item on (`ItemsTaken`).
use Rattle.std.proofs.Common.{◌≡◌, ℕ, ◌≤◌, ◌<◌, ◌+◌, ◌-◌, ◌^◌, List, [], ◌∷◌, ◌++◌, length, take, drop, reverse, get_or, ap, sym, ◌∙◌, refl, arith, subst, append_assoc, length-append, length-take-le, take-append-drop, None, pos, ◌≤ℤ◌}
use Rattle.mt_convert.proofs.Common.{take_all, drop_at, take_more, reverse-append, max_dimen, Piece, PieceValue, piece_values, AllMeasurable, row_level, Class, PlacedItem, PlacedHalves, HalfAtom, half_value, half_values, HalfwayValue, IsHalfway, HalvesFit, RowFits, total_of, AllMeet, BoundariesOutside}
use Rattle.mt_convert.specs.declared.half.Half.{Half}
use Rattle.mt_convert.specs.declared.half.Half.TheVariants as half
use Rattle.mt_pieces.specs.declared.items.PlacedItem.TheVariants as placed
use Rattle.mt_convert.specs.inner.Placed.{placed_values, placed_length, placed_count, PlacedFits, AllPlacedFit, IsPlaced}
use Rattle.mt_convert.specs.inner.Taken.{IsTaken, AreTaken}
use Rattle.mt_convert.proofs.PlacedValues.{values_append, count_append}
use Rattle.mt_convert.proofs.PutRows.{values_length}

-- ---- an item

-- the boxes of a row that is taken have level 1
pub taken_fits : (n : ℕ) (row : List Piece) → AllMeasurable row → row_level row ≤ 2 → 1 ≤ n → RowFits n row
taken_fits n row m l le = record { measurable = m; level = omega (arith, l, le) }

-- the row that was taken is the last pieces
pub atom_taken : (class : Class) (count first : ℕ) (taken : List Piece) (old front row : List PieceValue) → old ≡ front ++ row → count ≡ length row → first ≡ length old - count → piece_values taken ≡ drop first old → ((n : ℕ) → 1 ≤ n → RowFits n taken)
    → IsTaken (half.Set class taken) (placed.Set class count) row
atom_taken class count first taken old front row e c f g fits =
    let at : length front ≡ first = omega (arith, f, c, ap length e, length-append front row) in
    let values : piece_values taken ≡ row = g ∙ (ap (drop first) e ∙ drop_at front row first at) in
    record {
      is = ap (λ r. HalfAtom class r) (values ∙ sym (take_all count row (omega (arith, c))));
      count = omega (arith, values_length taken, ap length values, c);
      fits = λ _. fits;
    }

-- ---- items in order

pub record ItemsTaken (items left : List PlacedItem) (row now : List PieceValue) (halves : List Half) : Type 0 where
  pub count : placed_count left ≡ length now
  pub are : placed_values left now ++ half_values (reverse halves) ≡ placed_values items row
  pub total : total_of (reverse halves) + placed_count left ≡ placed_count items
  pub left_fit : AllPlacedFit items → AllPlacedFit left
  pub fit : AllPlacedFit items → (n : ℕ) → 1 ≤ n → HalvesFit n (reverse halves)

-- the pieces of the last item, and those before them
pub record Apart (hs : List PlacedItem) (item : PlacedItem) (now : List PieceValue) : Type 0 where
  pub front : List PieceValue
  pub last : List PieceValue
  pub is : now ≡ front ++ last
  pub front_count : placed_count hs ≡ length front
  pub last_length : placed_length item ≡ length last

pub apart : (items left hs : List PlacedItem) (item : PlacedItem) (row now : List PieceValue) (halves : List Half) → ItemsTaken items left row now halves → left ≡ hs ++ item ∷ [] → Apart hs item now
apart items left hs item row now halves s e =
    let k = placed_count hs in
    let c : k + placed_length item ≡ length now = omega (arith, s.count, ap placed_count e, count_append hs (item ∷ [])) in
    let f : length (take k now) ≡ k = length-take-le k now (omega (arith, c)) in
    record {
      front = take k now;
      last = drop k now;
      is = sym (take-append-drop k now);
      front_count = sym f;
      last_length = omega (arith, c, f, ap length (take-append-drop k now), length-append (take k now) (drop k now));
    }

last_fits : (hs : List PlacedItem) (item : PlacedItem) → AllPlacedFit (hs ++ item ∷ []) → AllPlacedFit hs × PlacedFits item
last_fits [] item k = (tt, k.0)
last_fits (h ∷ hs) item k = let r = last_fits hs item k.1 in ((k.0, r.0), r.1)

pub taken_step : (items left hs : List PlacedItem) (item : PlacedItem) (row now now' : List PieceValue) (halves halves' : List Half) (h : Half) → ItemsTaken items left row now halves → left ≡ hs ++ item ∷ [] → (a : Apart hs item now) → IsTaken h item a.last → now' ≡ a.front → halves' ≡ halves ++ h ∷ []
    → ItemsTaken items hs row now' halves'
taken_step items left hs item row now now' halves halves' h s e a k f g =
    let turned : reverse halves' ≡ h ∷ reverse halves = ap reverse g ∙ reverse-append halves (h ∷ []) in
    let parted : placed_values left now ≡ placed_values hs a.front ++ half_value h ∷ [] =
    ap (λ l. placed_values l now) e
    ∙ (ap (λ r. placed_values (hs ++ item ∷ []) r) a.is
    ∙ (values_append hs (item ∷ []) a.front a.last a.front_count ∙ ap (λ v. placed_values hs a.front ++ v ∷ []) (sym k.is))) in
    record {
      count = a.front_count ∙ ap length (sym f);
      are =
          ap (λ r. placed_values hs r ++ half_values (reverse halves')) f
          ∙ (ap (λ r. placed_values hs a.front ++ half_values r) turned
          ∙ (sym (append_assoc (placed_values hs a.front) (half_value h ∷ []) (half_values (reverse halves)))
          ∙ (ap (λ v. v ++ half_values (reverse halves)) (sym parted) ∙ s.are)));
      total = omega (arith, s.total, ap placed_count e, count_append hs (item ∷ []), ap total_of turned, k.count);
      left_fit = λ q. (last_fits hs item (subst AllPlacedFit e (s.left_fit q))).0;
      fit = λ q n le. subst (HalvesFit n) (sym turned) (k.fits (last_fits hs item (subst AllPlacedFit e (s.left_fit q))).1 n le, s.fit q n le);
    }

-- one turn of the loop
pub taken_turn : (items : List PlacedItem) (i : ℕ) (d : PlacedItem) (row now now' : List PieceValue) (halves halves' : List Half) (h : Half) → 0 < i → i ≤ length items → ItemsTaken items (take i items) row now halves
    → ((front last : List PieceValue) → now ≡ front ++ last → placed_length (get_or items (i - 1) d) ≡ length last → IsTaken h (get_or items (i - 1) d) last)
    → ((front last : List PieceValue) → now ≡ front ++ last → placed_length (get_or items (i - 1) d) ≡ length last → now' ≡ front)
    → halves' ≡ halves ++ h ∷ [] → ItemsTaken items (take (i - 1) items) row now' halves'
taken_turn items i d row now now' halves halves' h low le s is others pushed =
    let n : i ≡ i - 1 + 1 = omega (arith, low) in
    let item = get_or items (i - 1) d in
    let e : take i items ≡ take (i - 1) items ++ item ∷ [] = ap (λ k. take k items) n ∙ take_more items (i - 1) d (omega (arith, low, le)) in
    let a = apart items (take i items) (take (i - 1) items) item row now halves s e in
    taken_step items (take i items) (take (i - 1) items) item row now now' halves halves' h s e a (is a.front a.last a.is a.last_length) (others a.front a.last a.is a.last_length) pushed

pub taken_end : (items left : List PlacedItem) (row now : List PieceValue) (halves : List Half) → ItemsTaken items left row now halves → left ≡ [] → AreTaken (reverse halves) items row
taken_end items left row now halves s e = record {
  are = ap (λ l. placed_values l now ++ half_values (reverse halves)) (sym e) ∙ s.are;
  total = omega (arith, s.total, ap placed_count e);
  fit = s.fit;
}

-- ---- the list

halves_length : (hs : List Half) → length (half_values hs) ≡ length hs
halves_length [] = refl
halves_length (h ∷ hs) = omega (arith, halves_length hs)

items_length : (hs : List PlacedItem) (row : List PieceValue) → length (placed_values hs row) ≡ length hs
items_length [] row = refl
items_length (h ∷ hs) row = omega (arith, items_length hs (drop (placed_length h) row))

pub is_halfway : (h : PlacedHalves) (row : List PieceValue) (v : HalfwayValue) → IsPlaced h row → AreTaken v.items h.items row → v.height ≡ h.height.sp → v.depth ≡ h.depth.sp → IsHalfway v
is_halfway h row v p t e f = record {
  boundaries = subst BoundariesOutside (sym t.are) p.boundaries;
  meet = subst (AllMeet None) (sym t.are) p.items.meet;
  few = omega (arith, p.items.few, halves_length v.items, items_length h.items row, ap length t.are);
  total = omega (arith, t.total, p.items.count, p.items.total);
  fit = t.fit p.items.fit (2 ^ 16) (omega arith);
  height_low = subst (λ z. pos 0 ≤ℤ z) (sym e) p.height_low;
  height_high = subst (λ z. z ≤ℤ pos max_dimen) (sym e) p.height_high;
  depth_low = subst (λ z. pos 0 ≤ℤ z) (sym f) p.depth_low;
  depth_high = subst (λ z. z ≤ℤ pos max_dimen) (sym f) p.depth_high;
}
