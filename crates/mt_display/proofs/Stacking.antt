-- Lines put on a page, one after another.
use Rattle.std.proofs.Common.{◌≡◌, ℕ, ◌≤◌, ◌+◌, ◌-◌, ◌*◌, ◌^◌, min, ℤ, ◌+ℤ◌, List, [], ◌∷◌, ◌++◌, length, take, drop, length-append, length-drop, append_assoc, append-nil, refl, sym, ◌∙◌, ap, subst, arith, w64, to_z, of_z, flat_map, IfSome, All, Option, Some, None, Result, Ok, Err}
use Rattle.mt_display.proofs.Common.{ints, map-append, length-map, length-take-le, drop-drop, drop_all, take-append-drop, All-head, All-tail, Within, max_dimen, Place, PieceValue, LineStack, IsStack, line_box, line_boxes, line_shifts, LineValue, AboveValue, StackAnswers, next_above, reference_below, or_fault_below, line_places, places_below, stacked_lines, stacked_after, places_unless}
use Rattle.mt_box.specs.declared.error.PlaceError.{PlaceError}
use Rattle.mt_box.specs.Placing.{first_place_fault}
use Rattle.mt_pieces.specs.declared.runs.PieceAt.{PieceAt}
use Rattle.mt_pieces.specs.Runs.{IsAt}
use Rattle.mt_display.specs.declared.error.StackError.{StackError}
use Rattle.mt_display.specs.declared.error.StackError.TheVariants.{OutOfRange, TooMany, OutOfMemory}
use Rattle.mt_display.specs.declared.stack.NextLine.{NextLine}
use Rattle.mt_display.specs.declared.stack.LineAbove.{LineAbove}
use Rattle.mt_display.specs.inner.NextLines.{IsFaultOf, IsNear, IsNearAbove, AddsLine, above_value}

-- ---- the definition, a line at a time

no_fault : (o : Option PlaceError) (line : ℕ) (others : Option StackError) → o ≡ None → or_fault_below line o others ≡ others
no_fault o line others e = ap (λ p. or_fault_below line p others) e

same_after : (ls : List LineValue) {a b : List Place} {i j r s : ℕ} {x y : Option AboveValue} → a ≡ b → i ≡ j → r ≡ s → x ≡ y → stacked_after a i r x ls ≡ stacked_after b j s y ls
same_after ls e f g h = rw (e, f, g, h) refl

same_by : {o p : Option StackError} {a b : List Place} → o ≡ p → a ≡ b → places_unless o a ≡ places_unless p b
same_by e f = rw (e, f) refl

one_more : (before : List Place) (line room : ℕ) (above : Option AboveValue) (l : LineValue) (ls : List LineValue) → first_place_fault room (line_places (reference_below above l) l) ≡ None
    → stacked_after before line room above (l ∷ ls)
    ≡ stacked_after (before ++ line_places (reference_below above l) l) (line + 1) (room - length (line_places (reference_below above l) l)) (Some (next_above above l)) ls
one_more before line room above l ls none =
    same_by
    (no_fault (first_place_fault room (line_places (reference_below above l) l)) line _ none)
    (sym (append_assoc before (line_places (reference_below above l) l) (flat_map (λ qs. qs) (places_below (Some (next_above above l)) ls))))

fault_err : (o : Option PlaceError) (here : NextLine) (others : Option StackError) (ps : List Place) (e : StackError) → IsFaultOf here.line o e → places_unless (or_fault_below here.line o others) ps ≡ Err e
fault_err None here others ps e h = absurd h
fault_err (Some f) here others ps e h = ap (λ (x : StackError). (let r : Result (List Place) StackError = Err x in r)) (sym h)

-- a fault of the next line is the answer
pub stopped : (room : ℕ) (here : NextLine) (before now : List Place) (l : LineValue) (ls : List LineValue) (whole : Result (List Place) StackError) (e : StackError)
    → whole ≡ stacked_after before here.line (room - length before) (above_value here.above) (l ∷ ls) → AddsLine room here before l (Err e) now → StackAnswers (Err e) whole
stopped room here before now l ls whole (OutOfRange line value) is h = is ∙ fault_err _ here _ _ _ h
stopped room here before now l ls whole (TooMany line) is h = is ∙ fault_err _ here _ _ _ h
stopped room here before now l ls whole OutOfMemory is h = tt

-- ---- the loop

-- how far the walk is on a stack of these lines
pub record Walked (room : ℕ) (lines : List LineValue) (shifts : List ℤ) (page : List Place) (at : PieceAt) (here : NextLine) : Type 0 where
  pub piece : at.piece ≡ here.line
  pub rest : shifts ≡ line_shifts (drop here.line lines)
  pub whole : stacked_after [] 0 room None lines ≡ stacked_after page here.line (room - length page) (above_value here.above) (drop here.line lines)

pub record Walking (room : ℕ) (s : LineStack) (rest : List ℤ) (page : List Place) (place : PieceAt) (here : NextLine) : Type 0 where
  pub at : IsAt place s.pieces
  pub near : IsNear here
  pub fits : length page ≤ room
  pub count : here.line + length rest ≡ length s.shifts.items
  pub few : length s.shifts.items ≤ 2 ^ 21
  pub shifts : All (λ (x : ℤ). Within (2 ^ 40) x) rest
  pub walked : (lines : List LineValue) → IsStack lines [] s → Walked room lines rest page place here

-- the line of the next shift
record NextIs (lines : List LineValue) (n : ℕ) (x : ℤ) (xs : List ℤ) : Type 0 where
  pub l : LineValue
  pub left : List LineValue
  pub here : drop n lines ≡ l ∷ left
  pub shift : x ≡ l.shift
  pub rest : xs ≡ line_shifts left
  pub next : drop (n + 1) lines ≡ left

next_is : (lines ls : List LineValue) (n : ℕ) (shift : ℤ) (rest : List ℤ) → drop n lines ≡ ls → shift ∷ rest ≡ line_shifts ls → NextIs lines n shift rest
next_is lines [] n shift rest e f = absurd (cc)
next_is lines (l ∷ left) n shift rest e f = record {
  l = l;
  left = left;
  here = e;
  shift = cc;
  rest = cc;
  next = sym (drop-drop 1 n lines) ∙ ap (drop 1) e;
}

-- the pieces with the box of the next line
next_box : (lines : List LineValue) (n : ℕ) (l : LineValue) (left : List LineValue) (s : LineStack) → IsStack lines [] s → drop n lines ≡ l ∷ left → s.pieces ≡ line_boxes (take n lines) ++ (line_box l ∷ line_boxes left)
next_box lines n l left s h e =
    h.pieces ∙ (append-nil (line_boxes lines)
    ∙ (ap line_boxes (sym (take-append-drop n lines) ∙ ap (λ ls. take n lines ++ ls) e) ∙ map-append line_box (take n lines) (l ∷ left)))

-- what the call that puts a line says of each line that may be there
abbrev pub AddsBox : ℕ → LineStack → PieceAt → ℤ → NextLine → List Place → Result NextLine StackError → List Place → Type 0
AddsBox room s at shift here page r page' =
    (before rest : List PieceValue) (l : LineValue) → s.pieces ≡ before ++ (line_box l ∷ rest) → length before ≡ at.piece → shift ≡ l.shift → AddsLine room here page l r page'

-- the next line, and what is put for it
record AddedLine (room : ℕ) (lines : List LineValue) (shift : ℤ) (rest : List ℤ) (here : NextLine) (page : List Place) (r : Result NextLine StackError) (page' : List Place) : Type 0 where
  pub next : NextIs lines here.line shift rest
  pub adds : AddsLine room here page next.l r page'

added_line : (room : ℕ) (s : LineStack) (rest rest' : List ℤ) (shift : ℤ) (page page' : List Place) (at : PieceAt) (here : NextLine) (r : Result NextLine StackError) (lines : List LineValue) → Walking room s rest page at here → rest ≡ shift ∷ rest'
    → AddsBox room s at shift here page r page' → IsStack lines [] s → AddedLine room lines shift rest' here page r page'
added_line room s rest rest' shift page page' at here r lines h e k is =
    let w = h.walked lines is in
    let next = next_is lines (drop here.line lines) here.line shift rest' refl (sym e ∙ w.rest) in
    let many : here.line ≤ length lines = omega (arith, h.count, ap length is.shifts, length-map lines (λ (q : LineValue). q.shift)) in
    let n : length (line_boxes (take here.line lines)) ≡ at.piece = length-map (take here.line lines) line_box ∙ (length-take-le here.line lines many ∙ sym w.piece) in
    record {
      next = next;
      adds = k (line_boxes (take here.line lines)) (line_boxes next.left) next.l (next_box lines here.line next.l next.left s is next.here) n next.shift;
    }

left_room : (room a b c : ℕ) → c ≡ a + b → (room - a) - b ≡ room - c
left_room room a b c e = omega (arith, e)

walked_step : (room : ℕ) (s : LineStack) (lines : List LineValue) (rest rest' : List ℤ) (shift : ℤ) (page page' : List Place) (at at' : PieceAt) (here here' : NextLine) → Walked room lines rest page at here
    → AddedLine room lines shift rest' here page (Ok here') page' → IsStack lines [] s → at'.piece ≡ min (at.piece + 1) (length s.pieces) → Walked room lines rest' page' at' here'
walked_step room s lines rest rest' shift page page' at at' here here' w a is n =
    let l = a.next.l in
    let k = a.adds in
    let ps = line_places (reference_below (above_value here.above) l) l in
    let left : drop here'.line lines ≡ a.next.left = ap (λ i. drop i lines) k.3 ∙ a.next.next in
    let more : length page' ≡ length page + length ps = ap (λ (x : List Place). length x) k.0 ∙ length-append page ps in
    let many : length s.pieces ≡ length (take here.line lines) + (1 + length a.next.left) =
    omega (arith, ap length (next_box lines here.line l a.next.left s is a.next.here), length-append (line_boxes (take here.line lines)) (line_boxes (l ∷ a.next.left)), length-map (take here.line lines) line_box, length-map a.next.left line_box) in
    let front : length lines ≡ length (take here.line lines) + (1 + length a.next.left) =
    omega (arith, ap length (sym (take-append-drop here.line lines) ∙ ap (λ ls. take here.line lines ++ ls) a.next.here), length-append (take here.line lines) (l ∷ a.next.left)) in
    record {
      piece = omega (arith, n, k.3, w.piece, many, front, length-drop here.line lines, ap length a.next.here);
      rest = a.next.rest ∙ ap line_shifts (sym left);
      whole =
          w.whole
          ∙ (ap (λ ls. stacked_after page here.line (room - length page) (above_value here.above) ls) a.next.here
          ∙ (one_more page here.line (room - length page) (above_value here.above) l a.next.left k.2
          ∙ (same_after a.next.left (sym k.0) (sym k.3) (left_room room (length page) (length ps) (length page') more) (sym k.4)
          ∙ ap (λ ls. stacked_after page' here'.line (room - length page') (above_value here'.above) ls) (sym left))));
    }

pub walking_step : (room : ℕ) (s : LineStack) (rest rest' : List ℤ) (shift : ℤ) (page page' : List Place) (at at' : PieceAt) (here here' : NextLine) → Walking room s rest page at here → rest ≡ shift ∷ rest'
    → AddsBox room s at shift here page (Ok here') page' → here'.line ≡ here.line + 1 → IsNear here' → length page' ≤ room → IsAt at' s.pieces → at'.piece ≡ min (at.piece + 1) (length s.pieces)
    → Walking room s rest' page' at' here'
walking_step room s rest rest' shift page page' at at' here here' h e k line near fits is n = record {
  at = is;
  near = near;
  fits = fits;
  count = omega (arith, h.count, line, ap length e);
  few = h.few;
  shifts = All-tail (λ (x : ℤ). Within (2 ^ 40) x) shift rest' (subst (All (λ (x : ℤ). Within (2 ^ 40) x)) e h.shifts);
  walked = λ lines stack. walked_step room s lines rest rest' shift page page' at at' here here' (h.walked lines stack) (added_line room s rest rest' shift page page' at here (Ok here') lines h e k stack) stack n;
}

pub walking_end : (room : ℕ) (s : LineStack) (rest : List ℤ) (page : List Place) (at : PieceAt) (here : NextLine) (lines : List LineValue) → Walking room s rest page at here → rest ≡ [] → IsStack lines [] s → StackAnswers (Ok page) (stacked_lines room lines)
unfolding stacked_lines
walking_end room s rest page at here lines h e is =
    let w = h.walked lines is in
    let none : drop here.line lines ≡ [] = drop_all here.line lines (omega (arith, h.count, ap length e, ap length is.shifts, length-map lines (λ (q : LineValue). q.shift))) in
    w.whole
    ∙ (ap (λ ls. stacked_after page here.line (room - length page) (above_value here.above) ls) none
    ∙ ap (λ (x : List Place). (let r : Result (List Place) StackError = Ok x in r)) (append-nil page))

pub walking_err : (room : ℕ) (s : LineStack) (rest rest' : List ℤ) (shift : ℤ) (page page' : List Place) (at : PieceAt) (here : NextLine) (fault : StackError) (lines : List LineValue) → Walking room s rest page at here → rest ≡ shift ∷ rest'
    → AddsBox room s at shift here page (Err fault) page' → IsStack lines [] s → StackAnswers (Err fault) (stacked_lines room lines)
unfolding stacked_lines
walking_err room s rest rest' shift page page' at here fault lines h e k is =
    let a = added_line room s rest rest' shift page page' at here (Err fault) lines h e k is in
    stopped room here page page' a.next.l a.next.left (stacked_lines room lines) fault ((h.walked lines is).whole ∙ ap (λ ls. stacked_after page here.line (room - length page) (above_value here.above) ls) a.next.here) a.adds

-- the next shift
pub shift_here : (room : ℕ) (s : LineStack) (rest rest' : List ℤ) (shift : ℤ) (page : List Place) (at : PieceAt) (here : NextLine) → Walking room s rest page at here → rest ≡ shift ∷ rest' → Within (2 ^ 40) shift
shift_here room s rest rest' shift page at here h e = All-head (λ (x : ℤ). Within (2 ^ 40) x) shift rest' (subst (All (λ (x : ℤ). Within (2 ^ 40) x)) e h.shifts)

-- ---- one line

-- how far out the bottom above is
pub bottom_above : (line : ℕ) (above : Option LineAbove) → IsNearAbove line above → IfSome above (λ (a : LineAbove). Within (2 ^ 33 * line) a.bottom.sp)
bottom_above line None h = tt
bottom_above line (Some a) h = h.0

pub reference_near : (line : ℕ) (r t h : ℤ) → r ≡ t +ℤ to_z w64 (of_z w64 h) → Within (2 ^ 33 * line + 2 ^ 32) t → Within max_dimen h → Within (2 ^ 33 * line + (2 ^ 32 + 2 ^ 31)) r
reference_near line r t h e a b = record { low = omega (arith, ints, e, a.low, a.high, b.low, b.high); high = omega (arith, ints, e, a.low, a.high, b.low, b.high) }
