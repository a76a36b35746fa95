-- The second pass, item by item (`PutSoFar`), and the test of the row.
use Rattle.std.proofs.Common.{◌≡◌, ℕ, ◌≤◌, ◌+◌, ◌^◌, List, [], ◌∷◌, ◌++◌, length, take, drop, min, ap, sym, ◌∙◌, arith, subst, ℤ, None, append_assoc, append-nil, length-append, length-drop, length-take-le, Result, Ok, Err, OnOk}
use Rattle.mt_convert.proofs.Common.{drop_at, drop-drop, Size, SetValue, PieceValue, Style, size_of, Setting, ◌>>=◌, make_row, boundary_size, Current, SetFault, PlacedItem, opening, HalfValue, SetFails, RowOn, SetsRowOn, AllMeet, MayMeet, all_pieces, half_pieces, current_after_half, row_of_halves}
use Rattle.mt_pieces.specs.declared.runs.PieceAt.{PieceAt}
use Rattle.mt_pieces.specs.Runs.{IsAt}
use Rattle.mt_convert.specs.inner.Appending.{appended_to}
use Rattle.mt_convert.specs.inner.OnPieces.{TestsRow}
use Rattle.mt_convert.specs.inner.Placed.{placed_value, placed_values, placed_length, placed_count, placed_left, PlacedFits, AllPlacedFit, PlacesIn}
use Rattle.mt_convert.proofs.Appending.{appended_nil, appended_step}
use Rattle.mt_convert.proofs.FewPieces.{all_few}
use Rattle.mt_convert.proofs.Settling.{left_is}
use Rattle.mt_convert.specs.SecondPass.{second_pass_of}

-- The pieces of the whole list are those that are put, and then those of the rest, whose own pieces begin at the place.
pub record PutSoFar (fonts : SetValue) (size : Size) (wanted : ℤ) (style : Style) (items : List PlacedItem) (first : ℕ) (old : List PieceValue) (current : Current) (rest : List PlacedItem) (from : PieceAt) (now : List PieceValue) : Type 0 where
  pub is_at : IsAt from now
  pub done : List PieceValue
  pub stays : now ≡ old ++ done
  pub whole_is : all_pieces fonts size wanted (opening style) (placed_values items (drop first old)) ≡ appended_to done (all_pieces fonts size wanted current (placed_values rest (drop from.piece old)))
  pub room : from.piece + placed_count rest ≡ length old
  pub meet : AllMeet current.last (placed_values rest (drop from.piece old))
  pub fit : AllPlacedFit rest

pub put_start : (fonts : SetValue) (size : Size) (wanted : ℤ) (style : Style) (items : List PlacedItem) (first : ℕ) (old : List PieceValue) (current : Current) (from : PieceAt) → first ≤ length old → PlacesIn items (drop first old) → current ≡ opening style → IsAt from old → from.piece ≡ min first (length old)
    → PutSoFar fonts size wanted style items first old current items from old
put_start fonts size wanted style items first old current from le p c at n =
    let e : from.piece ≡ first = omega (arith, n, le) in
    rw c (record {
      is_at = at;
      done = [];
      stays = sym (append-nil old);
      whole_is = sym (appended_nil _ ∙ ap (λ k. all_pieces fonts size wanted (opening style) (placed_values items (drop k old))) e);
      room = omega (arith, le, p.count, length-drop first old, e);
      meet = subst (λ k. AllMeet None (placed_values items (drop k old))) (sym e) p.meet;
      fit = p.fit;
    })

-- what putting the next item needs
pub record NextPut (current : Current) (h : PlacedItem) (at : ℕ) (old : List PieceValue) : Type 0 where
  pub meets : MayMeet current.last (placed_left h)
  pub fits : PlacedFits h
  pub room : at + placed_length h ≤ length old

pub next_put : (fonts : SetValue) (size : Size) (wanted : ℤ) (style : Style) (items : List PlacedItem) (first : ℕ) (old : List PieceValue) (current : Current) (rest : List PlacedItem) (from : PieceAt) (now : List PieceValue) (h : PlacedItem) (rest' : List PlacedItem) → (s : PutSoFar fonts size wanted style items first old current rest from now) → rest ≡ h ∷ rest'
    → NextPut current h from.piece old
next_put fonts size wanted style items first old current rest from now h rest' s e =
    let room : from.piece + placed_count (h ∷ rest') ≡ length old = ap (λ r. from.piece + placed_count r) (sym e) ∙ s.room in
    let meet : AllMeet current.last (placed_values (h ∷ rest') (drop from.piece old)) = subst (λ r. AllMeet current.last (placed_values r (drop from.piece old))) e s.meet in
    record {
      meets = subst (MayMeet current.last) (left_is h (drop from.piece old)) meet.0;
      fits = (subst AllPlacedFit e s.fit).0;
      room = omega (arith, room);
    }

pub put_step : (fonts : SetValue) (size : Size) (wanted : ℤ) (style : Style) (items : List PlacedItem) (first : ℕ) (old : List PieceValue) (current current' : Current) (rest : List PlacedItem) (from from' : PieceAt) (now now' : List PieceValue) (h : PlacedItem) (rest' : List PlacedItem) → (s : PutSoFar fonts size wanted style items first old current rest from now) → rest ≡ h ∷ rest'
    → RowOn now now' (half_pieces fonts size wanted current (placed_value h (drop from.piece old))) → IsAt from' now' → (from.piece + placed_length h ≤ length now → from'.piece ≡ from.piece + placed_length h) → current' ≡ current_after_half current (placed_value h (drop from.piece old))
    → PutSoFar fonts size wanted style items first old current' rest' from' now'
put_step fonts size wanted style items first old current current' rest from from' now now' h rest' s e m at p c =
    let next = from.piece + placed_length h in
    let n : from'.piece ≡ next = p (omega (arith, ap (λ r. from.piece + placed_count r) (sym e) ∙ s.room, ap length s.stays, length-append old s.done)) in
    let half = placed_value h (drop from.piece old) in
    let dropped : drop (placed_length h) (drop from.piece old) ≡ drop from'.piece old = drop-drop (placed_length h) from.piece old ∙ ap (λ k. drop k old) (sym n) in
    let room : from.piece + placed_count (h ∷ rest') ≡ length old = ap (λ r. from.piece + placed_count r) (sym e) ∙ s.room in
    let meet : AllMeet current.last (placed_values (h ∷ rest') (drop from.piece old)) = subst (λ r. AllMeet current.last (placed_values r (drop from.piece old))) e s.meet in
    rw c (record {
      is_at = at;
      done = s.done ++ m.row;
      stays = m.stays ∙ (ap (λ x. x ++ m.row) s.stays ∙ append_assoc old s.done m.row);
      whole_is =
          s.whole_is
          ∙ (ap (λ r. appended_to s.done (all_pieces fonts size wanted current (placed_values r (drop from.piece old)))) e
          ∙ (appended_step s.done (s.done ++ m.row) (half_pieces fonts size wanted current half) (all_pieces fonts size wanted (current_after_half current half) (placed_values rest' (drop (placed_length h) (drop from.piece old)))) (ap (λ r. appended_to s.done r) m.is)
          ∙ ap (λ r. appended_to (s.done ++ m.row) (all_pieces fonts size wanted (current_after_half current half) (placed_values rest' r))) dropped));
      room = omega (arith, room, n);
      meet = subst (λ r. AllMeet (current_after_half current half).last (placed_values rest' r)) dropped meet.1;
      fit = (subst AllPlacedFit e s.fit).1;
    })

-- ---- the row is tested

pub always : {U : Type 0} (r : Result U SetFault) (P : Type 0) → P → OnOk r P
always (Ok u) P p = p
always (Err e) P p = tt

-- the row of a list is what is behind the pieces that stay
row_behind : (first : ℕ) (old mid : List PieceValue) (setting : Setting (List PieceValue)) → first ≤ length old → (m : RowOn (take first old) mid setting) → drop first mid ≡ m.row
row_behind first old mid setting le m = ap (drop first) m.stays ∙ drop_at (take first old) m.row first (length-take-le first old le)

pub row_few : (fonts : SetValue) (size : Size) (wanted : ℤ) (style : Style) (items : List PlacedItem) (first : ℕ) (old mid : List PieceValue) → first ≤ length old → PlacesIn items (drop first old)
    → RowOn (take first old) mid (all_pieces fonts size wanted (opening style) (placed_values items (drop first old))) → length (drop first mid) ≤ 2 ^ 21
row_few fonts size wanted style items first old mid le p m =
    let few = all_few fonts size wanted (opening style) items (drop first old) m.row m.is in
    omega (arith, few, p.count, p.total, p.few, ap length (row_behind first old mid _ le m))

pub row_tested : {U : Type 0} (r : Result U SetFault) (fonts : SetValue) (size : Size) (wanted : ℤ) (style : Style) (halves : List HalfValue) (first : ℕ) (old mid : List PieceValue) → first ≤ length old
    → RowOn (take first old) mid (all_pieces fonts size wanted (opening style) halves) → TestsRow r (drop first mid) → SetsRowOn r (take first old) mid (row_of_halves fonts size wanted style halves)
row_tested (Ok u) fonts size wanted style halves first old mid le m t = record {
  row = m.row;
  is = ap (λ s. s >>= make_row) m.is ∙ subst (λ z. make_row z ≡ Ok z) (row_behind first old mid _ le m) t;
  stays = m.stays;
}
row_tested (Err fault) fonts size wanted style halves first old mid le m t =
    subst (SetFails fault) (ap make_row (row_behind first old mid _ le m) ∙ sym (ap (λ s. s >>= make_row) m.is)) t

-- the frame of the code is that of the list
pub second_is : (fonts : SetValue) (style : Style) (size : Size) (wanted height depth : ℤ) (items : List HalfValue) → size ≡ size_of style → wanted ≡ boundary_size fonts (size_of style) height depth
    → row_of_halves fonts size wanted style items ≡ second_pass_of fonts style (record { items = items; height = height; depth = depth })
unfolding second_pass_of
second_is fonts style size wanted height depth items e g = ap (λ s. row_of_halves fonts s wanted style items) e ∙ ap (λ w. row_of_halves fonts (size_of style) w style items) g
