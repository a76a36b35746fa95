-- Rows one below another: their column is their layout, and how it is made.
use Rattle.std.proofs.Common.{◌≡◌, ℕ, ◌≤◌, ◌+◌, ◌-◌, ◌*◌, ◌^◌, max, List, [], ◌∷◌, ◌++◌, length, map, ℤ, pos, negsuc, ◌+ℤ◌, ◌-ℤ◌, ◌≤ℤ◌, Option, Some, None, refl, arith, append_assoc, length-append, sym, ◌∙◌, ap, subst, true, false, ◌<◌, w64, to_z, of_z, Result, Err, All}
use Rattle.mt_display.proofs.Common.{ints, clamps, nat_tests, All-head, All-tail, int_max, Within, max_dimen, is_in_range, PackError, BoxValue, Layout, layout_of, all_moved, ExtentsInRange, first_out, nil_right, Overflow, make_box, last_depth, stacked_rows, boxes_level}
use Rattle.std.specs.Option.{ForSome}
use Rattle.mt_scaled.specs.declared.length.Length.{Length}
use Rattle.mt_box.specs.declared.entry.Entry.{Entry}
use Rattle.mt_box.specs.declared.entry.Entry.TheVariants.{Boxed, Kern}
use Rattle.mt_box.specs.Packs.{Packs}
use Rattle.mt_box.specs.Columns.{EntryValue, EntryBox, EntryKern, entry_values, column_width, column_drop, column_places, column_level, stack, AllModestEntries}
use Rattle.mt_box.proofs.Equalities.{extents_eq, layout_eq}
use Rattle.mt_rules.specs.Calls.{BoxAnswers}
use Rattle.mt_rules.specs.Tables.{open_gap, rows_drop, open_drop, rows_places, open_places}
use Rattle.mt_rules.proofs.Answering.{box_answers, make_box-err}
use Rattle.mt_rules.proofs.Stacks.{column_width-append}
use Rattle.mt_rules.proofs.Appends.{entry_values-append, column_level-append, modest_entries-append}
use Rattle.mt_display.specs.inner.OpenRows.{depth_or_0, depth_value, gap_before, last_after, row_entries, strut}

-- ---- the column is the layout

drop_more : (g h d a b : ℤ) → a ≡ b → g +ℤ ((h +ℤ d) +ℤ a) ≡ g +ℤ (h +ℤ (d +ℤ b))
drop_more g h d a b e = omega (arith, ints, e)

drop_first : (h d a b : ℤ) → a ≡ b → pos 0 +ℤ ((h +ℤ d) +ℤ a) ≡ h +ℤ (d +ℤ b)
drop_first h d a b e = omega (arith, ints, e)

after_drop : (depth : ℤ) (ls : List Layout) → column_drop (row_entries (Some depth) ls) ≡ rows_drop open_gap depth ls
after_drop depth [] = refl
after_drop depth (l ∷ ls) = drop_more (open_gap depth l.extents.height) l.extents.height l.extents.depth _ _ (after_drop l.extents.depth ls)

pub all_drop : (ls : List Layout) → column_drop (row_entries None ls) ≡ open_drop ls
all_drop [] = refl
all_drop (l ∷ ls) = drop_first l.extents.height l.extents.depth _ _ (after_drop l.extents.depth ls)

below : (y h d : ℤ) → y -ℤ (h +ℤ d) ≡ (y -ℤ h) -ℤ d
below y h d = omega (arith, ints)

after_places : (w y depth : ℤ) (ls : List Layout) → column_places w y (row_entries (Some depth) ls) ≡ rows_places open_gap y depth ls
after_places w y depth [] = refl
after_places w y depth (l ∷ ls) =
    let top = y -ℤ open_gap depth l.extents.height in
    ap (λ ps. all_moved (pos 0) (top -ℤ l.extents.height) l.places ++ ps)
    (ap (λ z. column_places w z (row_entries (Some l.extents.depth) ls)) (below top l.extents.height l.extents.depth)
    ∙ after_places w ((top -ℤ l.extents.height) -ℤ l.extents.depth) l.extents.depth ls)

less_nothing : (y : ℤ) → y -ℤ pos 0 ≡ y
less_nothing y = omega (arith, ints)

all_places : (w y : ℤ) (ls : List Layout) → column_places w y (row_entries None ls) ≡ open_places y ls
all_places w y [] = refl
all_places w y (l ∷ ls) =
    ap (λ z. all_moved (pos 0) (z -ℤ l.extents.height) l.places ++ column_places w (z -ℤ (l.extents.height +ℤ l.extents.depth)) (row_entries (Some l.extents.depth) ls)) (less_nothing y)
    ∙ ap (λ ps. all_moved (pos 0) (y -ℤ l.extents.height) l.places ++ ps)
    (ap (λ z. column_places w z (row_entries (Some l.extents.depth) ls)) (below y l.extents.height l.extents.depth)
    ∙ after_places w ((y -ℤ l.extents.height) -ℤ l.extents.depth) l.extents.depth ls)

last_row : (l : Layout) (ls : List Layout) → last_after (Some l.extents.depth) ls ≡ last_depth (l ∷ ls)
last_row l [] = refl
last_row l (m ∷ ms) = last_row m ms

pub last_is : (ls : List Layout) → last_after None ls ≡ last_depth ls
last_is [] = refl
last_is (l ∷ ls) = last_row l ls

depth_is : (total last drop top : ℤ) → drop ≡ total → top ≡ total -ℤ last → drop -ℤ top ≡ last
depth_is total last drop top e f = omega (arith, ints, e, f)

from_nothing : (z : ℤ) → pos 0 +ℤ z ≡ z
from_nothing z = omega (arith, ints)

rows_stack : (z top : ℤ) (ls : List Layout) (es : List EntryValue) → es ≡ EntryBox (pos 0) (strut z) ∷ row_entries None ls → column_width es ≡ z → top ≡ open_drop ls -ℤ last_depth ls → stack es top ≡ stacked_rows z ls
rows_stack z top ls es e w f =
    let rest = row_entries None ls in
    let w' : column_width (EntryBox (pos 0) (strut z) ∷ rest) ≡ z = subst (λ x. column_width x ≡ z) e w in
    rw e
    (layout_eq
    (extents_eq w' f (depth_is (open_drop ls) (last_depth ls) (pos 0 +ℤ column_drop rest) top (from_nothing (column_drop rest) ∙ all_drop ls) f))
    (ap (λ y. column_places (column_width (EntryBox (pos 0) (strut z) ∷ rest)) y rest) (less_nothing top)
    ∙ all_places (column_width (EntryBox (pos 0) (strut z) ∷ rest)) top ls
    ∙ ap (λ y. open_places y ls) f))

-- ---- what the call answers

pub boxed : (z top : ℤ) (ls : List Layout) (es : List EntryValue) (r : Result BoxValue PackError)
    → es ≡ EntryBox (pos 0) (strut z) ∷ row_entries None ls → column_width es ≡ z → top ≡ open_drop ls -ℤ last_depth ls
    → Packs (stack es top) r → BoxAnswers r (make_box (stacked_rows z ls))
boxed z top ls es r e w f h = subst (λ l. BoxAnswers r (make_box l)) (rows_stack z top ls es e w f) (box_answers (stack es top) r h)

in_range_true : (x : ℤ) → Within max_dimen x → is_in_range x ≡ true
in_range_true (pos n) h = let few : n ≤ max_dimen = omega (arith, ints, h.high) in grind (arith, nat_tests)
in_range_true (negsuc n) h = let few : n < max_dimen = omega (arith, ints, h.low) in grind (arith, nat_tests)

high : (w h d : ℤ) → Within max_dimen w → is_in_range h ≡ false → first_out (record { width = w; height = h; depth = d }) ≡ Some h
high w h d k out = rw (in_range_true w k, out) refl

pub too_high : (z top : ℤ) (ls : List Layout) → Within max_dimen z → top ≡ open_drop ls -ℤ last_depth ls → is_in_range top ≡ false
    → make_box (stacked_rows z ls) ≡ Err (Overflow top)
too_high z top ls h f out =
    let here : is_in_range (open_drop ls -ℤ last_depth ls) ≡ false = subst (λ y. is_in_range y ≡ false) f out in
    make_box-err (stacked_rows z ls) top (high z (open_drop ls -ℤ last_depth ls) (last_depth ls) h here ∙ ap (λ y. Some y) (sym f))

-- ---- the column as it is made

pub record Opened (z : ℤ) (rows rest : List BoxValue) (entries : List Entry) (total : ℤ) (depth : Option Length) : Type 0 where
  pub values : entry_values entries ++ row_entries (depth_value depth) (map layout_of rest) ≡ EntryBox (pos 0) (strut z) ∷ row_entries None (map layout_of rows)
  pub drop : total +ℤ column_drop (row_entries (depth_value depth) (map layout_of rest)) ≡ column_drop (row_entries None (map layout_of rows))
  pub last : last_after (depth_value depth) (map layout_of rest) ≡ last_after None (map layout_of rows)
  pub modest : AllModestEntries entries
  pub levels : boxes_level rest ≤ 2 ^ 20 - 2
  pub level : max (column_level entries) (boxes_level rest + 1) ≡ boxes_level rows + 1
  pub level_low : 2 ≤ column_level entries
  pub width : column_width (entry_values entries) ≡ z
  pub wide : All (λ (b : BoxValue). b.extents.width ≡ z) rest
  pub count : length entries + 2 * length rest ≤ 2 ^ 21
  pub few : length rest ≤ 2 ^ 19
  pub near : Within (2 ^ 33 * (2 ^ 19 - length rest)) total
  pub depth_small : ForSome depth (λ (d : Length). Within max_dimen d.sp)

none_deep : (d : Length) → None ≡ Some d → ⊥
none_deep d e = cc

boxes_level-low : (bs : List BoxValue) → 1 ≤ boxes_level bs
boxes_level-low [] = omega arith
boxes_level-low (b ∷ bs) = omega (arith, boxes_level-low bs)

strut_width : (z : ℤ) → pos 1 ≤ℤ z → int_max (z +ℤ pos 0) (pos 0) ≡ z
strut_width z h = omega (arith, ints, clamps, h)

zero_small : Within (2 ^ 40) (pos 0)
zero_small = record { low = omega (arith, ints); high = omega (arith, ints) }

pub opened_start : (z : ℤ) (rows rest : List BoxValue) (entries : List Entry) (b : BoxValue) → pos 1 ≤ℤ z → layout_of b ≡ strut z → b.level ≡ 1 → entries ≡ Boxed (pos 0) b ∷ [] → rest ≡ rows → length rows ≤ 2 ^ 19 → boxes_level rows ≤ 2 ^ 20 - 2
    → All (λ (c : BoxValue). c.extents.width ≡ z) rows → Opened z rows rest entries (pos 0) None
opened_start z rows rest entries b some is one e f few levels wide = rw (e, f) (record {
  values = ap (λ l. EntryBox (pos 0) l ∷ row_entries None (map layout_of rows)) is;
  drop = from_nothing _;
  last = refl;
  modest = ((zero_small, omega (arith, one)), tt);
  levels = levels;
  level = omega (arith, one, boxes_level-low rows);
  level_low = omega (arith, one);
  width = ap (λ (l : Layout). int_max (l.extents.width +ℤ pos 0) (pos 0)) is ∙ strut_width z some;
  wide = wide;
  count = omega (arith, few);
  few = few;
  near = record { low = omega (arith, ints); high = omega (arith, ints) };
  depth_small = λ d p. absurd (none_deep d p);
})

moved_on : (n m : ℕ) (t g h d t' : ℤ) → m ≡ n + 1 → m ≤ 2 ^ 19 → t' ≡ t +ℤ (g +ℤ (h +ℤ d)) → Within (2 ^ 33 * (2 ^ 19 - m)) t → Within (2 ^ 32) g → Within max_dimen h → Within max_dimen d → Within (2 ^ 33 * (2 ^ 19 - n)) t'
moved_on n m t g h d t' e few is a b c k = record {
  low = omega (arith, ints, a.low, b.low, c.low, k.low, is);
  high = omega (arith, ints, a.high, b.high, c.high, k.high, is);
}

drop_step : (t g h d r t' : ℤ) → t' ≡ t +ℤ (g +ℤ (h +ℤ d)) → t' +ℤ r ≡ t +ℤ (g +ℤ ((h +ℤ d) +ℤ r))
drop_step t g h d r t' e = omega (arith, ints, e)

same_width : (z w v : ℤ) → w ≡ z → v ≡ z → pos 0 ≤ℤ z → int_max w (int_max (pos 0) (int_max (v +ℤ pos 0) (pos 0))) ≡ z
same_width z w v e f h = omega (arith, ints, clamps, e, f, h)

kern_small : (g : ℤ) → Within (2 ^ 32) g → Within (2 ^ 40) g
kern_small g h = record { low = omega (arith, ints, h.low); high = omega (arith, ints, h.high) }

some_depth : (depth : Option Length) (x : ℤ) → depth_value depth ≡ Some x → Within max_dimen x → ForSome depth (λ (d : Length). Within max_dimen d.sp)
some_depth None x e h = λ d p. absurd (none_deep d p)
some_depth (Some d) x e h = λ d' p. (let same : d'.sp ≡ x = cc in subst (λ y. Within max_dimen y) (sym same) h)

pub opened_step : (z : ℤ) (rows rest rest' : List BoxValue) (b : BoxValue) (entries entries' : List Entry) (total total' g : ℤ) (depth depth' : Option Length) → pos 1 ≤ℤ z → Opened z rows rest entries total depth → rest ≡ b ∷ rest' → ExtentsInRange b.extents
    → g ≡ gap_before (depth_value depth) b.extents.height → Within (2 ^ 32) g
    → entries' ≡ entries ++ Kern g ∷ Boxed (pos 0) b ∷ [] → total' ≡ total +ℤ (g +ℤ (b.extents.height +ℤ b.extents.depth)) → depth_value depth' ≡ Some b.extents.depth → Opened z rows rest' entries' total' depth'
opened_step z rows rest rest' b entries entries' total total' g depth depth' some h e range is small f t d =
    let h' : Opened z rows (b ∷ rest') entries total depth = subst (λ r. Opened z rows r entries total depth) e h in
    let new : List Entry = Kern g ∷ Boxed (pos 0) b ∷ [] in
    let level : b.level ≤ 2 ^ 20 - 2 = omega (arith, h'.levels) in
    rw f (record {
      values =
          ap (λ o. entry_values (entries ++ new) ++ row_entries o (map layout_of rest')) d
          ∙ ap (λ es. es ++ row_entries (Some b.extents.depth) (map layout_of rest')) (entry_values-append entries new)
          ∙ append_assoc (entry_values entries) (EntryKern g ∷ EntryBox (pos 0) (layout_of b) ∷ []) (row_entries (Some b.extents.depth) (map layout_of rest'))
          ∙ ap (λ y. entry_values entries ++ EntryKern y ∷ EntryBox (pos 0) (layout_of b) ∷ row_entries (Some b.extents.depth) (map layout_of rest')) is
          ∙ h'.values;
      drop =
          ap (λ o. total' +ℤ column_drop (row_entries o (map layout_of rest'))) d
          ∙ drop_step total g b.extents.height b.extents.depth _ total' t
          ∙ ap (λ y. total +ℤ (y +ℤ ((b.extents.height +ℤ b.extents.depth) +ℤ column_drop (row_entries (Some b.extents.depth) (map layout_of rest'))))) is
          ∙ h'.drop;
      last = ap (λ o. last_after o (map layout_of rest')) d ∙ h'.last;
      modest = modest_entries-append entries new h'.modest (kern_small g small, ((zero_small, omega (arith, level)), tt));
      levels = omega (arith, h'.levels);
      level = omega (arith, column_level-append entries new, h'.level, h'.level_low);
      level_low = omega (arith, column_level-append entries new, h'.level_low);
      width =
          rw (entry_values-append entries new, column_width-append (entry_values entries) (entry_values new))
          (same_width z (column_width (entry_values entries)) b.extents.width h'.width (All-head (λ (c : BoxValue). c.extents.width ≡ z) b rest' h'.wide) (omega (arith, ints, some)));
      wide = All-tail (λ (c : BoxValue). c.extents.width ≡ z) b rest' h'.wide;
      count = omega (arith, length-append entries new, h'.count);
      few = omega (arith, h'.few);
      near = moved_on (length rest') (length (b ∷ rest')) total g b.extents.height b.extents.depth total' (omega arith) h'.few t h'.near small range.height range.depth;
      depth_small = some_depth depth' b.extents.depth d range.depth;
    })

-- a number of a call comes through unchanged
pub top_kept : (x : ℤ) → Within (2 ^ 54) x → to_z w64 (of_z w64 x) ≡ x
top_kept x h = omega (arith, ints, h.low, h.high)

pub record RowsDone (z : ℤ) (rows : List BoxValue) (entries : List Entry) (total : ℤ) (depth : Option Length) : Type 0 where
  pub values : entry_values entries ≡ EntryBox (pos 0) (strut z) ∷ row_entries None (map layout_of rows)
  pub total_is : total ≡ open_drop (map layout_of rows)
  pub depth_is : depth_or_0 (depth_value depth) ≡ last_depth (map layout_of rows)
  pub level : column_level entries ≡ boxes_level rows + 1
  pub count : length entries ≤ 2 ^ 21
  pub small : Within (2 ^ 53) total
  pub depth_small : ForSome depth (λ (d : Length). Within max_dimen d.sp)
  pub modest : AllModestEntries entries
  pub width : column_width (entry_values entries) ≡ z

total_end : (t y : ℤ) → t +ℤ pos 0 ≡ y → t ≡ y
total_end t y e = omega (arith, ints, e)

pub opened_end : (z : ℤ) (rows rest : List BoxValue) (entries : List Entry) (total : ℤ) (depth : Option Length) → Opened z rows rest entries total depth → rest ≡ [] → RowsDone z rows entries total depth
opened_end z rows rest entries total depth h e =
    let h' : Opened z rows [] entries total depth = subst (λ r. Opened z rows r entries total depth) e h in
    record {
      values = sym (nil_right _) ∙ h'.values;
      total_is = total_end total _ h'.drop ∙ all_drop (map layout_of rows);
      depth_is = h'.last ∙ last_is (map layout_of rows);
      level = omega (arith, h'.level, h'.level_low);
      count = omega (arith, h'.count);
      small = record { low = omega (arith, ints, h'.near.low); high = omega (arith, ints, h'.near.high) };
      depth_small = h'.depth_small;
      modest = h'.modest;
      width = h'.width;
    }

-- where the top of the column is
pub top_is : (total depth : ℤ) (ls : List Layout) (top : ℤ) → Within (2 ^ 54) top → top ≡ total -ℤ depth → total ≡ open_drop ls → depth ≡ last_depth ls → to_z w64 (of_z w64 top) ≡ open_drop ls -ℤ last_depth ls
top_is total depth ls top small e f g = top_kept top small ∙ e ∙ ap (λ x. x -ℤ depth) f ∙ ap (λ x. open_drop ls -ℤ x) g

pub line_in_range : (z : ℤ) → pos 1 ≤ℤ z → z ≤ℤ pos max_dimen → Within max_dimen z
line_in_range z h k = record { low = omega (arith, ints, h); high = k }
