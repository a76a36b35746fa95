-- What the places of rows have wherever they are, those of their lines and of a page have too; and the places of a page are in range.
--
-- How to go from rows to a page that can be written: let P be what a place needs besides coordinates in range, and Q all that it needs.
-- `inline_has` and `display_has` go from the pieces of a row (`PieceHas P`) to the lines that are answered, lists of lines are joined by
-- `All-append`, and `page_has` goes from there to the places that `stack_lines` answers: each has Q. `page_few` says how many they are.
use Rattle.std.proofs.Common.{◌≡◌, ℕ, ◌+◌, ◌-◌, ◌≤◌, ℤ, pos, ◌-ℤ◌, List, [], ◌∷◌, length, length-append, refl, subst, arith, Bool, true, false, Option, Some, None, All, if◌then◌else◌, Ok, flat_map}
use Rattle.mt_display.proofs.Common.{All-append, All-cons, All-head, All-nil, All-tail, Place, first_out, Layout, PieceValue, begins_with_space_piece, pack, row_width, row_shrink, Setting, ◌>>=◌, ◌>>◌, pass_unless, LineValue, inline_lines, NumberValue, beside, display_lines, fit, fitted, indent, line_of_both, number_room, number_width, numbered_lines, one_line, own_lines, placed_lines, room_between, row_shift, AboveValue, first_stack_fault, line_places, next_above, or_fault_below, places_below, places_unless, reference_below, stacked_lines}
use Rattle.std.specs.Ordering.{int_eq}
use Rattle.std.specs.Prelude.{⊤}
use Rattle.mt_box.specs.declared.error.PlaceError.{PlaceError}
use Rattle.mt_box.specs.Placing.{first_place_fault}
use Rattle.mt_box.proofs.Room.{PlaceInRange, all_in_range, fits_room}
use Rattle.mt_box.proofs.Still.{IsStill, PieceHas, lowered_have, pack_has, pack_to_has}
use Rattle.mt_display.specs.declared.error.StackError.{StackError}

abbrev pub LineHas : (Place → Type 0) → LineValue → Type 0
LineHas P l = All P l.body.places

abbrev pub NumberHas : (Place → Type 0) → Option NumberValue → Type 0
NumberHas P None = ⊤
NumberHas P (Some n) = All (PieceHas P) n.row

-- a box that was made leads on
pub made_then : (o : Option ℤ) (l : Layout) (next : Layout → Setting (List LineValue)) (ls : List LineValue) → ((pass_unless o >> Ok l) >>= next) ≡ Ok ls → next l ≡ Ok ls
made_then None l next ls is = is
made_then (Some value) l next ls is = absurd (cc)

pub are : (P : Place → Type 0) (ls ms : List LineValue) → All (LineHas P) ls → (let s : Setting (List LineValue) = Ok ls in s) ≡ Ok ms → All (LineHas P) ms
are P ls ms h is =
    let same : ls ≡ ms = cc in
    subst (λ (x : List LineValue). All (LineHas P) x) same h

-- ---- the lines of a row

module _ (P : Place → Type 0) (still : IsStill P) where
  pub one_has : (shift : ℤ) (body : Layout) → All P body.places → All (LineHas P) (one_line shift body)
  one_has shift body h = All-cons (LineHas P) (record { shift = shift; body = body }) [] h (All-nil (LineHas P))

  two_have : (x y : ℤ) (a b : Layout) → All P a.places → All P b.places → All (LineHas P) (record { shift = x; body = a } ∷ record { shift = y; body = b } ∷ [])
  two_have x y a b h k = All-cons (LineHas P) (record { shift = x; body = a }) (one_line y b) h (one_has y b k)

  -- the line of a formula in the text
  pub inline_has : (row : List PieceValue) (ls : List LineValue) → All (PieceHas P) row → inline_lines row ≡ Ok ls → All (LineHas P) ls
  inline_has row ls h is =
      are P (one_line (pos 0) (pack row)) ls (one_has (pos 0) (pack row) (pack_has P still row h))
      (made_then (first_out (pack row).extents) (pack row) (λ body. Ok (one_line (pos 0) body)) ls is)

  fitted_has : (row : List PieceValue) (target : Option ℤ) → All (PieceHas P) row → All P (fitted row target).places
  fitted_has row None h = pack_has P still row h
  fitted_has row (Some width) h = pack_to_has P still row width h

  own_have : (left : Bool) (d right : ℤ) (display number : Layout) → All P display.places → All P number.places → All (LineHas P) (own_lines left d right display number)
  own_have false d right display number h k = two_have d right display number h k
  own_have true d right display number h k = two_have (pos 0) d number display k h

  boxes_have : (room : PieceValue) (a b : PieceValue) → PieceHas P a → PieceHas P room → PieceHas P b → All (PieceHas P) (a ∷ room ∷ b ∷ [])
  boxes_have room a b h r k = All-cons (PieceHas P) a (room ∷ b ∷ []) h (All-cons (PieceHas P) room (b ∷ []) r (All-cons (PieceHas P) b [] k (All-nil (PieceHas P))))

  beside_has : (left : Bool) (room : ℤ) (display number : Layout) → All P display.places → All P number.places → All (PieceHas P) (beside left room display number)
  beside_has false room display number h k = boxes_have _ _ _ h tt k
  beside_has true room display number h k = boxes_have _ _ _ k tt h

  both_have : (left : Bool) (z e d : ℤ) (display number : Layout) (ls : List LineValue) → All P display.places → All P number.places → line_of_both left z e d display number ≡ Ok ls → All (LineHas P) ls
  both_have left z e d display number ls h k is =
      let row = beside left (room_between z display.extents.width e d) display number in
      are P (one_line (row_shift left d) (pack row)) ls (one_has (row_shift left d) (pack row) (pack_has P still row (beside_has left (room_between z display.extents.width e d) display number h k)))
      (made_then (first_out (pack row).extents) (pack row) (λ body. Ok (one_line (row_shift left d) body)) ls is)

  numbered_by : (own left : Bool) (z e d : ℤ) (display number : Layout) (ls : List LineValue) → All P display.places → All P number.places
      → (if own then Ok (own_lines left d (z -ℤ number.extents.width) display number) else line_of_both left z e d display number) ≡ Ok ls → All (LineHas P) ls
  numbered_by true left z e d display number ls h k is = are P (own_lines left d (z -ℤ number.extents.width) display number) ls (own_have left d (z -ℤ number.extents.width) display number h k) is
  numbered_by false left z e d display number ls h k is = both_have left z e d display number ls h k is

  placed_have : (z e d : ℤ) (display : Layout) (number : Option NumberValue) (ls : List LineValue) → All P display.places → NumberHas P number → placed_lines z e d display number ≡ Ok ls → All (LineHas P) ls
  placed_have z e d display None ls h k is = are P (one_line d display) ls (one_has d display h) is
  placed_have z e d display (Some n) ls h k is =
      numbered_by (int_eq e (pos 0)) n.left z e d display (pack n.row) ls h (pack_has P still n.row k)
      (made_then (first_out (pack n.row).extents) (pack n.row) (λ number. numbered_lines n.left z e d display number) ls is)

  -- the lines of a display, whose places are those of its row and of its number
  pub display_has : (quad z : ℤ) (row : List PieceValue) (number : Option NumberValue) (ls : List LineValue) → All (PieceHas P) row → NumberHas P number → display_lines quad row number z ≡ Ok ls → All (LineHas P) ls
  unfolding display_lines
  display_has quad z row number ls h k is =
      let f = fit z (row_width row) (row_shrink row) (number_width number) (number_room quad number) in
      let display = fitted row f.target in
      let flush = begins_with_space_piece row in
      placed_have z f.e (indent flush z display.extents.width f.e) display number ls (fitted_has row f.target h) k
      (made_then (first_out display.extents) display (λ l. placed_lines z f.e (indent flush z l.extents.width f.e) l number) ls is)

  -- ---- the page

  below_has : (above : Option AboveValue) (ls : List LineValue) → All (LineHas P) ls → All P (flat_map (λ ps. ps) (places_below above ls))
  below_has above [] h = All-nil P
  below_has above (l ∷ ls) h =
      All-append P (line_places (reference_below above l) l) (flat_map (λ ps. ps) (places_below (Some (next_above above l)) ls))
      (lowered_have P still l.shift (reference_below above l) l.body.places (All-head (LineHas P) l ls h))
      (below_has (Some (next_above above l)) ls (All-tail (LineHas P) l ls h))

or_none : (line : ℕ) (o : Option PlaceError) (p : Option StackError) → or_fault_below line o p ≡ None → (o ≡ None) × (p ≡ None)
or_none line None p is = (refl, is)
or_none line (Some fault) p is = absurd (cc)

unless_ok : (o : Option StackError) (ps qs : List Place) → places_unless o ps ≡ Ok qs → (o ≡ None) × (ps ≡ qs)
unless_ok None ps qs is = (refl, cc)
unless_ok (Some fault) ps qs is = absurd (cc)

below_in_range : (line room : ℕ) (pss : List (List Place)) → first_stack_fault line room pss ≡ None → All PlaceInRange (flat_map (λ ps. ps) pss)
below_in_range line room [] none = All-nil PlaceInRange
below_in_range line room (ps ∷ pss) none =
    let both = or_none line (first_place_fault room ps) (first_stack_fault (line + 1) (room - length ps) pss) none in
    All-append PlaceInRange ps (flat_map (λ ps. ps) pss) (all_in_range room ps both.0) (below_in_range (line + 1) (room - length ps) pss both.1)

below_few : (line room : ℕ) (pss : List (List Place)) → first_stack_fault line room pss ≡ None → length (flat_map (λ ps. ps) pss) ≤ room
below_few line room [] none = omega arith
below_few line room (ps ∷ pss) none =
    let both = or_none line (first_place_fault room ps) (first_stack_fault (line + 1) (room - length ps) pss) none in
    omega (arith, fits_room room ps both.0, below_few (line + 1) (room - length ps) pss both.1, length-append ps (flat_map (λ ps. ps) pss))

each_has : (P R Q : Place → Type 0) → ((p : Place) → P p → R p → Q p) → (ps : List Place) → All P ps → All R ps → All Q ps
each_has P R Q both [] h k = All-nil Q
each_has P R Q both (p ∷ ps) h k = All-cons Q p ps (both p (All-head P p ps h) (All-head R p ps k)) (each_has P R Q both ps (All-tail P p ps h) (All-tail R p ps k))

-- the places of a page of lines whose places have P are in range and have it
pub page_has : (P Q : Place → Type 0) → IsStill P → ((p : Place) → P p → PlaceInRange p → Q p) → (room : ℕ) (ls : List LineValue) (page : List Place) → All (LineHas P) ls → stacked_lines room ls ≡ Ok page → All Q page
unfolding stacked_lines
page_has P Q still both room ls page h is =
    let found = unless_ok (first_stack_fault 0 room (places_below None ls)) (flat_map (λ ps. ps) (places_below None ls)) page is in
    subst (λ (ps : List Place). All Q ps) found.1
    (each_has P PlaceInRange Q both (flat_map (λ ps. ps) (places_below None ls)) (below_has P still None ls h) (below_in_range 0 room (places_below None ls) found.0))

-- and they are no more than there is room for
pub page_few : (room : ℕ) (ls : List LineValue) (page : List Place) → stacked_lines room ls ≡ Ok page → length page ≤ room
unfolding stacked_lines
page_few room ls page is =
    let found = unless_ok (first_stack_fault 0 room (places_below None ls)) (flat_map (λ ps. ps) (places_below None ls)) page is in
    subst (λ (ps : List Place). length ps ≤ room) found.1 (below_few 0 room (places_below None ls) found.0)
