-- How far the first pass has set a list (`Going`).
use Rattle.std.proofs.Common.{◌≡◌, ℕ, zero, suc, ◌<◌, ◌≤◌, ◌+◌, ◌*◌, ◌^◌, ◌≤ℤ◌, ℤ, pos, List, [], ◌∷◌, ◌++◌, length, ap, sym, ◌∙◌, refl, arith, subst, append_assoc, length-append, Option, Some, None, Bool, true, false, if◌then◌else◌, Ok, Err}
use Rattle.mt_convert.proofs.Common.{KeptItem, current_after_half, ints, clamps, int_max, Within, is_in_range, max_dimen, PieceValue, SetValue, Style, IsModestList, list_items, element_items, list_nesting, ListAmounts, Sequence, Element, End, More, AtomElement, sequence_size, element_size, Setting, Overflow, ◌>>=◌, test_value, in_range, Current, SetFault, PlacedItem, Thing, Held, value_in, is_item, more_of, SetFails, opening, set_item, set_items, flat, flat_by, current_after_items, HalfValue, half_height, half_depth, greatest_height, greatest_depth, settle, items_of}
use Rattle.std.specs.Prelude.{⊤}
use Rattle.mt_rules.specs.Facts.{IsMathList}
use Rattle.mt_convert.specs.declared.flat.passed.Joined.{Joined}
use Rattle.mt_convert.specs.inner.OnPieces.{HalfOn}
use Rattle.mt_convert.specs.inner.Placed.{AllPlacedFit, ItemsOn, PlacedFits, placed_count, placed_length, placed_value, placed_values, reaching}
use Rattle.mt_convert.specs.inner.Settling.{CanFinish, Finishes}
use Rattle.mt_convert.specs.inner.Appending.{appended_to}
use Rattle.mt_convert.specs.inner.Boundaries.{Remains, RestOfList, LeavesBy}
use Rattle.mt_convert.specs.inner.Lengths.{kern_halves, test_kern}
use Rattle.mt_convert.specs.inner.Modest.{IsModestElement}
use Rattle.mt_convert.specs.inner.Spans.{ModestPassed, passed_in, turn_of_held}
use Rattle.mt_convert.specs.inner.Turns.{PassedElement, ListTurn, PassesOne, RewritesTo, element_of_passed, turn_of, turned_by, turn_meaning, flat_item, flat_items, kern_of}
use Rattle.mt_convert.proofs.Appending.{appended_nil, appended_end, fails_on}
use Rattle.mt_convert.proofs.Following.{FollowSoFar, follow_start, follow_step, item_follows}
use Rattle.mt_convert.proofs.ThingKinds.{an_item}
use Rattle.mt_convert.proofs.ItemsSet.{after_set}
use Rattle.mt_convert.proofs.InOrder.{items_set, items_fail, item_err, kern_err, kern_values}
use Rattle.mt_convert.proofs.Remaining.{remains_start, remains_again, remains_pass, remains_end}
use Rattle.mt_convert.proofs.Settling.{height_low, depth_low}
use Rattle.mt_convert.proofs.Behind.{nil_right}
use Rattle.mt_convert.proofs.PlacedValues.{count_append, fits_append, values_append}
use Rattle.mt_convert.proofs.Turning.{positive, element_positive, TurnKeeps, turn_keeps, same_turn}
use Rattle.mt_convert.specs.ListRow.{halves_of}
use Rattle.mt_convert.specs.FirstPass.{first_pass_of}

-- The items of the whole list are those so far, and then those of the rest. An item makes at most itself and a kern, and at most 4 pieces.
pub record Going (fonts : SetValue) (first : Style) (whole : Sequence) (current : Current) (rest : Sequence) (items : List PlacedItem) (old new : List PieceValue) : Type 0 where
  pub row : List PieceValue
  pub stays : new ≡ old ++ row
  pub count : placed_count items ≡ length row
  pub turns : ℕ
  pub enough : sequence_size rest ≤ turns
  pub whole_is : set_items fonts (opening first) (flat fonts (sequence_size whole) (opening first) (items_of fonts whole)) ≡ appended_to (placed_values items row) (set_items fonts current (flat fonts turns current (items_of fonts rest)))
  pub size : sequence_size rest ≤ sequence_size whole
  pub items_few : length items + 2 * list_items rest ≤ 2 * list_items whole
  pub total : length row + 4 * list_items rest ≤ 4 * list_items whole
  pub nesting : list_nesting rest ≤ list_nesting whole
  pub amounts : ListAmounts rest
  pub fits : AllPlacedFit items
  pub height : greatest_height (placed_values items row) ≤ℤ pos max_dimen
  pub depth : greatest_depth (placed_values items row) ≤ℤ pos max_dimen
  pub follow : FollowSoFar current.last (placed_values items row)
  pub remains : Remains (placed_values items row) rest
  pub modest : IsModestList whole

pub going_start : (fonts : SetValue) (style : Style) (whole : Sequence) (current : Current) (rest : Sequence) (items : List PlacedItem) (old : List PieceValue) → IsModestList whole → IsMathList whole → current ≡ opening style → rest ≡ whole → items ≡ [] → Going fonts style whole current rest items old old
going_start fonts style whole current rest items old m i c e f = rw (c, e, f) (record {
  row = [];
  stays = nil_right old;
  count = refl;
  turns = sequence_size whole;
  enough = omega arith;
  whole_is = sym (appended_nil _);
  size = omega arith;
  items_few = omega arith;
  total = omega arith;
  nesting = omega arith;
  amounts = m.amounts;
  fits = tt;
  height = omega (arith, ints);
  depth = omega (arith, ints);
  follow = follow_start;
  remains = remains_start whole i;
  modest = m;
})

-- ---- one turn of many

pub record TurnsLeft (fonts : SetValue) (current : Current) (f : Element) (s : Sequence) (turns : ℕ) : Type 0 where
  pub left : ℕ
  pub is : turns ≡ suc left
  pub first_turn : flat fonts turns current (items_of fonts (More f s)) ≡ flat_by (flat fonts left) current (turn_meaning fonts (turn_of fonts current f s))

turns_left : (fonts : SetValue) (current : Current) (f : Element) (s : Sequence) (turns : ℕ) → sequence_size (More f s) ≤ turns → TurnsLeft fonts current f s turns
turns_left fonts current f s zero h = absurd (omega (arith, h, positive s))
turns_left fonts current f s (suc t) h = record { left = t; is = refl; first_turn = ap (λ u. flat_by (flat fonts t) current u) (same_turn fonts current f s) }

-- ---- the front was rewritten

going_rewritten : (fonts : SetValue) (first : Style) (whole : Sequence) (current : Current) (f : Element) (s : Sequence) (items : List PlacedItem) (old new : List PieceValue) (rest' : Sequence) → Going fonts first whole current (More f s) items old new → turn_of fonts current f s ≡ RewritesTo rest' → ((enclosed : Bool) → RestOfList enclosed (More f s) → RestOfList enclosed rest') → Going fonts first whole current rest' items old new
going_rewritten fonts first whole current f s items old new rest' g e l =
    let k : TurnKeeps f s (RewritesTo rest') = subst (TurnKeeps f s) e (turn_keeps fonts current f s) in
    let t = turns_left fonts current f s g.turns g.enough in
    let done = placed_values items g.row in
    record {
      row = g.row;
      stays = g.stays;
      count = g.count;
      turns = t.left;
      enough = omega (arith, g.enough, t.is, k.size);
      whole_is = g.whole_is ∙ ap (λ xs. appended_to done (set_items fonts current xs)) (t.first_turn ∙ ap (λ u. flat_by (flat fonts t.left) current (turn_meaning fonts u)) e);
      size = omega (arith, g.size, k.size);
      items_few = omega (arith, g.items_few, k.items);
      total = omega (arith, g.total, k.items);
      nesting = omega (arith, g.nesting, k.nesting);
      amounts = k.amounts g.amounts.0 g.amounts.1;
      fits = g.fits;
      height = g.height;
      depth = g.depth;
      follow = g.follow;
      remains = remains_again fonts current done f s rest' g.remains (sym e) l;
      modest = g.modest;
    }

pub going_again : (fonts : SetValue) (first : Style) (whole : Sequence) (current : Current) (rest : Sequence) (items : List PlacedItem) (old new : List PieceValue) (f : Element) (s rest' : Sequence) → Going fonts first whole current rest items old new → rest ≡ More f s → RewritesTo rest' ≡ turn_of fonts current f s → ((enclosed : Bool) → RestOfList enclosed (More f s) → RestOfList enclosed rest') → Going fonts first whole current rest' items old new
going_again fonts first whole current rest items old new f s rest' g e u l =
    going_rewritten fonts first whole current f s items old new rest' (subst (λ r. Going fonts first whole current r items old new) e g) (sym u) l

again_smaller : (fonts : SetValue) (current : Current) (f : Element) (s rest' : Sequence) → RewritesTo rest' ≡ turn_of fonts current f s → sequence_size rest' < sequence_size (More f s)
again_smaller fonts current f s rest' u =
    let k : TurnKeeps f s (RewritesTo rest') = subst (TurnKeeps f s) (sym u) (turn_keeps fonts current f s) in
    omega (arith, k.size)

pub again_falls : (fonts : SetValue) (current : Current) (rest : Sequence) (f : Element) (s rest' : Sequence) → rest ≡ More f s → RewritesTo rest' ≡ turn_of fonts current f s → sequence_size rest' < sequence_size rest
again_falls fonts current rest f s rest' e u = rw e (again_smaller fonts current f s rest' u)

-- ---- an item passes

-- what setting it needs
pub record NextFits (whole : Sequence) (e : Element) (rest rest' : Sequence) : Type 0 where
  pub modest : IsModestElement e
  pub smaller : element_size e < sequence_size whole
  pub falls : sequence_size rest' < sequence_size rest

next_of : (fonts : SetValue) (first : Style) (whole : Sequence) (current : Current) (f : Element) (s : Sequence) (items : List PlacedItem) (old new : List PieceValue) (p : PassedElement) (rest' : Sequence) → Going fonts first whole current (More f s) items old new → PassesOne p rest' ≡ turn_of fonts current f s → NextFits whole (element_of_passed p) (More f s) rest'
next_of fonts first whole current f s items old new p rest' g u =
    let k : TurnKeeps f s (PassesOne p rest') = subst (TurnKeeps f s) (sym u) (turn_keeps fonts current f s) in
    record {
      modest = record {
        nesting = omega (arith, g.nesting, g.modest.nesting, k.nesting);
        items = omega (arith, g.items_few, g.modest.items, k.items);
        amounts = (k.amounts g.amounts.0 g.amounts.1).0;
      };
      smaller = omega (arith, g.size, k.size, positive rest');
      falls = omega (arith, k.size, element_positive (element_of_passed p));
    }

pub next_fits : (fonts : SetValue) (first : Style) (whole : Sequence) (current : Current) (rest : Sequence) (items : List PlacedItem) (old new : List PieceValue) (f : Element) (s : Sequence) (p : PassedElement) (rest' : Sequence) → Going fonts first whole current rest items old new → rest ≡ More f s → PassesOne p rest' ≡ turn_of fonts current f s → NextFits whole (element_of_passed p) rest rest'
next_fits fonts first whole current rest items old new f s p rest' g is u =
    subst (λ r. NextFits whole (element_of_passed p) r rest') (sym is) (next_of fonts first whole current f s items old new p rest' (subst (λ r. Going fonts first whole current r items old new) is g) u)

-- ---- what is put after the items so far

items_positive : (e : Element) → 1 ≤ element_items e
items_positive (AtomElement kind limits nucleus sup sub) = omega arith
items_positive _ = omega arith

both_low : (a b n : ℤ) → a ≤ℤ n → b ≤ℤ n → int_max a b ≤ℤ n
both_low a b n h k = omega (arith, ints, clamps, h, k)

max_joined : (a b c : ℤ) → int_max a (int_max b c) ≡ int_max (int_max a b) c
max_joined a b c = omega (arith, ints, clamps)

height_append : (hs ks : List HalfValue) → greatest_height (hs ++ ks) ≡ int_max (greatest_height hs) (greatest_height ks)
height_append [] ks = let low = height_low ks in omega (arith, ints, clamps, low)
height_append (h ∷ hs) ks = ap (int_max (half_height h)) (height_append hs ks) ∙ max_joined (half_height h) (greatest_height hs) (greatest_height ks)

depth_append : (hs ks : List HalfValue) → greatest_depth (hs ++ ks) ≡ int_max (greatest_depth hs) (greatest_depth ks)
depth_append [] ks = let low = depth_low ks in omega (arith, ints, clamps, low)
depth_append (h ∷ hs) ks = ap (int_max (half_depth h)) (depth_append hs ks) ∙ max_joined (half_depth h) (greatest_depth hs) (greatest_depth ks)

kern_height : (kern : Option ℤ) → greatest_height (kern_values kern) ≡ pos 0
kern_height None = refl
kern_height (Some k) = omega (arith, ints, clamps)

kern_depth : (kern : Option ℤ) → greatest_depth (kern_values kern) ≡ pos 0
kern_depth None = refl
kern_depth (Some k) = omega (arith, ints, clamps)

-- an item and the kern after it, behind those so far
more_high : (done : List HalfValue) (h : HalfValue) (kern : Option ℤ) → greatest_height done ≤ℤ pos max_dimen → half_height h ≤ℤ pos max_dimen → greatest_height (done ++ h ∷ kern_values kern) ≤ℤ pos max_dimen
more_high done h kern d e =
    let k : greatest_height (kern_values kern) ≤ℤ pos max_dimen = subst (λ x. x ≤ℤ pos max_dimen) (sym (kern_height kern)) (omega (arith, ints)) in
    subst (λ x. x ≤ℤ pos max_dimen) (sym (height_append done (h ∷ kern_values kern)))
    (both_low (greatest_height done) (greatest_height (h ∷ kern_values kern)) (pos max_dimen) d (both_low (half_height h) (greatest_height (kern_values kern)) (pos max_dimen) e k))

more_deep : (done : List HalfValue) (h : HalfValue) (kern : Option ℤ) → greatest_depth done ≤ℤ pos max_dimen → half_depth h ≤ℤ pos max_dimen → greatest_depth (done ++ h ∷ kern_values kern) ≤ℤ pos max_dimen
more_deep done h kern d e =
    let k : greatest_depth (kern_values kern) ≤ℤ pos max_dimen = subst (λ x. x ≤ℤ pos max_dimen) (sym (kern_depth kern)) (omega (arith, ints)) in
    subst (λ x. x ≤ℤ pos max_dimen) (sym (depth_append done (h ∷ kern_values kern)))
    (both_low (greatest_depth done) (greatest_depth (h ∷ kern_values kern)) (pos max_dimen) d (both_low (half_depth h) (greatest_depth (kern_values kern)) (pos max_dimen) e k))

wide : (x : ℤ) → Within max_dimen x → Within (2 ^ 40) x
wide x h = record { low = omega (arith, ints, h.low); high = omega (arith, ints, h.high) }

test_passes : (b : Bool) (x : ℤ) → ◌≡◌ {A = Setting ⊤} (if b then Ok tt else Err (Overflow x)) (Ok tt) → b ≡ true
test_passes true x e = refl
test_passes false x e = absurd (cc)

kern_fits : (x : ℤ) → test_value x ≡ Ok tt → Within (2 ^ 40) x
kern_fits x e = wide x (in_range x (test_passes (is_in_range x) x e))

-- an item with the kern after it
record Pushes (hs : List PlacedItem) (h : PlacedItem) (kern : Option ℤ) (row : List PieceValue) : Type 0 where
  pub count : length hs ≤ 2
  pub total : placed_count hs ≡ length row
  pub fits : AllPlacedFit hs
  pub are : placed_values hs row ≡ placed_value h row ∷ kern_values kern

pushes : (h : PlacedItem) (kern : Option ℤ) (row : List PieceValue) → PlacedFits h → placed_length h ≡ length row → test_kern kern ≡ Ok tt → Pushes (h ∷ kern_halves kern) h kern row
pushes h None row fits e t = record { count = omega arith; total = omega (arith, e); fits = (fits, tt); are = refl }
pushes h (Some k) row fits e t = record { count = omega arith; total = omega (arith, e); fits = (fits, (kern_fits k t, tt)); are = refl }

-- an item that was set, and the kern after it
pub record WasSet (fonts : SetValue) (current : Current) (p : PassedElement) (h : PlacedItem) (between : Option ℤ) (old new : List PieceValue) : Type 0 where
  pub half : HalfOn h old new (set_item fonts current (flat_item fonts p))
  pub kern : test_kern between ≡ Ok tt

going_set : (fonts : SetValue) (first : Style) (whole : Sequence) (current : Current) (f : Element) (s : Sequence) (items : List PlacedItem) (old mid new : List PieceValue) (p : PassedElement) (rest' : Sequence) (h : PlacedItem) → Going fonts first whole current (More f s) items old mid → PassesOne p rest' ≡ turn_of fonts current f s → ((enclosed : Bool) → RestOfList enclosed (More f s) → RestOfList enclosed (More (element_of_passed p) rest')) → (w : WasSet fonts current p h (kern_of p) mid new) → Going fonts first whole (current_after_half current (placed_value h w.half.row)) rest' (items ++ h ∷ kern_halves (kern_of p)) old new
going_set fonts first whole current f s items old mid new p rest' h g u l w =
    let k : TurnKeeps f s (PassesOne p rest') = subst (TurnKeeps f s) (sym u) (turn_keeps fonts current f s) in
    let t = turns_left fonts current f s g.turns g.enough in
    let done = placed_values items g.row in
    let more = w.half.row in
    let value = placed_value h more in
    let next : List PlacedItem = h ∷ kern_halves (kern_of p) in
    let a = pushes h (kern_of p) more w.half.fits w.half.count w.kern in
    let now : placed_values (items ++ next) (g.row ++ more) ≡ done ++ value ∷ kern_values (kern_of p) =
    values_append items next g.row more g.count ∙ ap (λ xs. done ++ xs) a.are in
    record {
      row = g.row ++ more;
      stays = w.half.stays ∙ (ap (λ x. x ++ more) g.stays ∙ append_assoc old g.row more);
      count = omega (arith, count_append items next, g.count, a.total, length-append g.row more);
      turns = t.left;
      enough = omega (arith, g.enough, t.is, k.size, element_positive (element_of_passed p));
      whole_is =
          g.whole_is
          ∙ (ap (λ xs. appended_to done (set_items fonts current xs)) (t.first_turn ∙ ap (λ v. flat_by (flat fonts t.left) current (turn_meaning fonts v)) (sym u))
          ∙ (items_set fonts current done p value (flat fonts t.left (current_after_items current (flat_items fonts p)) (items_of fonts rest')) w.half.is w.kern
          ∙ (ap (λ x. appended_to (done ++ value ∷ kern_values (kern_of p)) (set_items fonts x (flat fonts t.left x (items_of fonts rest')))) (after_set fonts current p value w.half.is)
          ∙ ap (λ xs. appended_to xs (set_items fonts (current_after_half current value) (flat fonts t.left (current_after_half current value) (items_of fonts rest')))) (sym now))));
      size = omega (arith, g.size, k.size);
      items_few = omega (arith, g.items_few, k.items, a.count, items_positive (element_of_passed p), length-append items next);
      total = omega (arith, g.total, k.items, w.half.few, items_positive (element_of_passed p), length-append g.row more);
      nesting = omega (arith, g.nesting, k.nesting);
      amounts = (k.amounts g.amounts.0 g.amounts.1).1;
      fits = fits_append items next g.fits a.fits;
      height = subst (λ xs. greatest_height xs ≤ℤ pos max_dimen) (sym now) (more_high done value (kern_of p) g.height w.half.height);
      depth = subst (λ xs. greatest_depth xs ≤ℤ pos max_dimen) (sym now) (more_deep done value (kern_of p) g.depth w.half.depth);
      follow = subst (FollowSoFar (current_after_half current value).last) (sym now) (follow_step current.last done value (kern_of p) g.follow (item_follows fonts current p value w.half.is));
      remains = subst (λ xs. Remains xs rest') (sym now) (remains_pass fonts current done f s p rest' value g.remains u l w.half.is);
      modest = g.modest;
    }

pub going_pass : (fonts : SetValue) (first : Style) (whole : Sequence) (current current' : Current) (rest : Sequence) (items items' : List PlacedItem) (old mid new : List PieceValue) (f : Element) (s : Sequence) (p : PassedElement) (rest' : Sequence) (h : PlacedItem) (kern : Option ℤ) → Going fonts first whole current rest items old mid → rest ≡ More f s → PassesOne p rest' ≡ turn_of fonts current f s → ((enclosed : Bool) → RestOfList enclosed (More f s) → RestOfList enclosed (More (element_of_passed p) rest')) → kern ≡ kern_of p → WasSet fonts current p h kern mid new → items' ≡ items ++ h ∷ kern_halves kern → ((row : List PieceValue) → current' ≡ current_after_half current (placed_value h row)) → Going fonts first whole current' rest' items' old new
going_pass fonts first whole current current' rest items items' old mid new f s p rest' h kern g is u l k w eq c =
    let v : WasSet fonts current p h (kern_of p) mid new = record { half = w.half; kern = subst (λ x. test_kern x ≡ Ok tt) k w.kern } in
    rw (eq, k, c w.half.row) (going_set fonts first whole current f s items old mid new p rest' h (subst (λ r. Going fonts first whole current r items old mid) is g) u l v)

-- ---- a fault of an item is the fault of the list

err_set : (fonts : SetValue) (first : Style) (whole : Sequence) (current : Current) (f : Element) (s : Sequence) (items : List PlacedItem) (old new : List PieceValue) (p : PassedElement) (rest' : Sequence) (fault : SetFault) → Going fonts first whole current (More f s) items old new → PassesOne p rest' ≡ turn_of fonts current f s → SetFails fault (set_items fonts current (flat_items fonts p)) → SetFails fault (halves_of fonts first whole)
unfolding halves_of first_pass_of
err_set fonts first whole current f s items old new p rest' fault g u h =
    let t = turns_left fonts current f s g.turns g.enough in
    fails_on fault (set_items fonts current (flat_items fonts p)) (halves_of fonts first whole) h
    (λ x k. ap (λ a. a >>= (λ hs. Ok (settle hs)))
    (g.whole_is
    ∙ (ap (λ xs. appended_to (placed_values items g.row) (set_items fonts current xs)) (t.first_turn ∙ ap (λ v. flat_by (flat fonts t.left) current (turn_meaning fonts v)) (sym u))
    ∙ items_fail fonts current (placed_values items g.row) p (flat fonts t.left (current_after_items current (flat_items fonts p)) (items_of fonts rest')) x k)))

pub going_err : (fonts : SetValue) (first : Style) (whole : Sequence) (current : Current) (rest : Sequence) (items : List PlacedItem) (old new : List PieceValue) (f : Element) (s : Sequence) (p : PassedElement) (rest' : Sequence) (fault : SetFault) → Going fonts first whole current rest items old new → rest ≡ More f s → PassesOne p rest' ≡ turn_of fonts current f s → SetFails fault (set_item fonts current (flat_item fonts p)) → SetFails fault (halves_of fonts first whole)
going_err fonts first whole current rest items old new f s p rest' fault g is u h =
    err_set fonts first whole current f s items old new p rest' fault (subst (λ r. Going fonts first whole current r items old new) is g) u (item_err fonts current p fault h)

pub going_kern_err : (fonts : SetValue) (first : Style) (whole : Sequence) (current : Current) (rest : Sequence) (items : List PlacedItem) (old new : List PieceValue) (f : Element) (s : Sequence) (p : PassedElement) (rest' : Sequence) (h : HalfValue) (kern : Option ℤ) (fault : SetFault) → Going fonts first whole current rest items old new → rest ≡ More f s → PassesOne p rest' ≡ turn_of fonts current f s → set_item fonts current (flat_item fonts p) ≡ Ok h → kern ≡ kern_of p → SetFails fault (test_kern kern) → SetFails fault (halves_of fonts first whole)
going_kern_err fonts first whole current rest items old new f s p rest' h kern fault g is u e k t =
    err_set fonts first whole current f s items old new p rest' fault (subst (λ r. Going fonts first whole current r items old new) is g) u (kern_err fonts current p h fault e (subst (λ x. SetFails fault (test_kern x)) k t))

-- ---- no turn is left at the end

at_end : (fonts : SetValue) (current : Current) (turns : ℕ) → set_items fonts current (flat fonts turns current (items_of fonts End)) ≡ Ok []
at_end fonts current zero = refl
at_end fonts current (suc t) = refl

end_on : (fonts : SetValue) (first : Style) (whole : Sequence) (current : Current) (items : List PlacedItem) (old new : List PieceValue) (g : Going fonts first whole current End items old new) → halves_of fonts first whole ≡ Ok (settle (placed_values items g.row))
unfolding halves_of first_pass_of
end_on fonts first whole current items old new g =
    ap (λ a. a >>= (λ hs. Ok (settle hs))) (g.whole_is ∙ (ap (λ s. appended_to (placed_values items g.row) s) (at_end fonts current g.turns) ∙ appended_end (placed_values items g.row)))

-- the items so far can be settled
can_finish : (fonts : SetValue) (first : Style) (whole : Sequence) (current : Current) (items : List PlacedItem) (old new : List PieceValue) (g : Going fonts first whole current End items old new) → CanFinish items g.row
can_finish fonts first whole current items old new g = record {
  count = g.count;
  boundaries = remains_end (placed_values items g.row) g.remains;
  follow = g.follow.follow;
  few = omega (arith, g.items_few, g.modest.items);
  total = omega (arith, g.total, g.modest.items);
  fit = g.fits;
  height = g.height;
  depth = g.depth;
}

end_set : (fonts : SetValue) (first : Style) (whole : Sequence) (current : Current) (items : List PlacedItem) (old new : List PieceValue) (x : List PlacedItem) → Going fonts first whole current End items old new → ((row : List PieceValue) → CanFinish items row → Finishes (reaching x row) row (settle (placed_values items row))) → ItemsOn x old new (halves_of fonts first whole)
end_set fonts first whole current items old new x g f =
    let d = f g.row (can_finish fonts first whole current items old new g) in
    record { row = g.row; is = end_on fonts first whole current items old new g ∙ ap (λ v. Ok v) (sym d.is); stays = g.stays; placed = d.placed }

pub going_end : (fonts : SetValue) (first : Style) (whole : Sequence) (current : Current) (rest : Sequence) (items : List PlacedItem) (old new : List PieceValue) (x : List PlacedItem) → Going fonts first whole current rest items old new → rest ≡ End → ((row : List PieceValue) → CanFinish items row → Finishes (reaching x row) row (settle (placed_values items row))) → ItemsOn x old new (halves_of fonts first whole)
going_end fonts first whole current rest items old new x g e f = end_set fonts first whole current items old new x (subst (λ r. Going fonts first whole current r items old new) e g) f

-- ---- what the program answers of a turn

-- where boundaries are after a turn
abbrev pub TurnLeaves : Bool → ListTurn → Type 0
TurnLeaves enclosed (PassesOne p rest) = RestOfList enclosed (More (element_of_passed p) rest)
TurnLeaves enclosed (RewritesTo rest) = RestOfList enclosed rest

turn_leaves : {P : Type 0} (meaning : P → PassedElement) (enclosed : Bool) (o : Option P) (rest : Sequence) → LeavesBy meaning enclosed o rest → TurnLeaves enclosed (turned_by meaning o rest)
turn_leaves meaning enclosed None rest x = x
turn_leaves meaning enclosed (Some p) rest x = x

-- a turn at the front of a list in an arena
pub record FrontTurn (fonts : SetValue) (current : Current) (rest : Sequence) (t : ListTurn) : Type 0 where
  pub element : Element
  pub after : Sequence
  pub is : rest ≡ More element after
  pub turn : t ≡ turn_of fonts current element after
  pub leaves : (enclosed : Bool) → RestOfList enclosed (More element after) → TurnLeaves enclosed t

front_turn : (fonts : SetValue) (current : Current) (es : List Held) (front : Thing) (rest after rest' : Sequence) (o : Option Joined) → is_item front ≡ true → rest ≡ more_of (value_in es front) after → turned_by (passed_in es front) o rest' ≡ turn_of_held fonts current (value_in es front) after → ((enclosed : Bool) → RestOfList enclosed (more_of (value_in es front) after) → LeavesBy (passed_in es front) enclosed o rest') → FrontTurn fonts current rest (turned_by (passed_in es front) o rest')
front_turn fonts current es front rest after rest' o i e u l =
    let h = an_item es front i in
    record {
      element = h.element;
      after = after;
      is = e ∙ ap (λ x. more_of x after) h.is;
      turn = u ∙ ap (λ x. turn_of_held fonts current x after) h.is;
      leaves = λ enclosed x. turn_leaves (passed_in es front) enclosed o rest' (l enclosed (subst (λ v. RestOfList enclosed (more_of v after)) (sym h.is) x));
    }

pub front_passes : (fonts : SetValue) (current : Current) (es : List Held) (front : Thing) (rest after rest' : Sequence) (o : Option Joined) (p : Joined) → is_item front ≡ true → rest ≡ more_of (value_in es front) after → turned_by (passed_in es front) o rest' ≡ turn_of_held fonts current (value_in es front) after → ((enclosed : Bool) → RestOfList enclosed (more_of (value_in es front) after) → LeavesBy (passed_in es front) enclosed o rest') → o ≡ Some p → FrontTurn fonts current rest (PassesOne (passed_in es front p) rest')
front_passes fonts current es front rest after rest' o p i e u l f = subst (λ x. FrontTurn fonts current rest (turned_by (passed_in es front) x rest')) f (front_turn fonts current es front rest after rest' o i e u l)

pub front_again : (fonts : SetValue) (current : Current) (es : List Held) (front : Thing) (rest after rest' : Sequence) (o : Option Joined) → is_item front ≡ true → rest ≡ more_of (value_in es front) after → turned_by (passed_in es front) o rest' ≡ turn_of_held fonts current (value_in es front) after → ((enclosed : Bool) → RestOfList enclosed (more_of (value_in es front) after) → LeavesBy (passed_in es front) enclosed o rest') → ((p : Joined) → o ≡ Some p → ⊥) → FrontTurn fonts current rest (RewritesTo rest')
front_again fonts current es front rest after rest' None i e u l n = front_turn fonts current es front rest after rest' None i e u l
front_again fonts current es front rest after rest' (Some p) i e u l n = absurd (n p refl)

pub modest_passed : (es : List Held) (front : Thing) (p : Joined) → KeptItem es front → IsModestElement (element_of_passed (passed_in es front p)) → ModestPassed es front p
modest_passed es front p k m = record { within = k.1.0; modest = m; kept = k.1.1 }
