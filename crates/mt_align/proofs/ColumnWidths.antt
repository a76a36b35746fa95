-- The widths of columns, as rows are gone through from the last to the first.
use Rattle.std.proofs.Common.{◌≡◌, ℕ, suc, false, ◌≤◌, ◌<◌, ◌+◌, ◌-◌, ◌*◌, ◌^◌, max, List, [], ◌∷◌, ◌++◌, length, map, take, drop, get_or, set, ℤ, pos, ◌+ℤ◌, ◌-ℤ◌, refl, arith, add-one, append_assoc, length-append, sym, ◌∙◌, ap, subst, w64, to_z, of_z, All, ◌==◌}
use Rattle.std.proofs.lemmas.Int.{ints, clamps}
use Rattle.std.proofs.lemmas.List.{take-append-drop, take-set, drop-set, length-drop, length-take-le}
use Rattle.std.proofs.lemmas.List.Elements.{All-nil, All-cons, All-head, All-tail, All-drop, All-get_or}
use Rattle.std.proofs.lemmas.Bool.{false≢true}
use Rattle.std.specs.Int.{int_max}
use Rattle.mt_scaled.specs.Number.{Within, max_dimen}
use Rattle.mt_box.specs.declared.extents.Extents.{Extents}
use Rattle.mt_box.specs.Layout.{Layout}
use Rattle.mt_box.proofs.Lists.{item_before, next_item}
use Rattle.mt_rules.specs.Tables.{Cells, widened, column_widths, with_struts, columns_width}
use Rattle.mt_align.specs.CellLayers.{bare, bare_rows}
use Rattle.mt_align.specs.CellRows.{columns_reach}

-- ---- a column gets a cell more

pub kept : (x : ℤ) → Within max_dimen x → to_z w64 (of_z w64 x) ≡ x
kept x h = omega (arith, ints, h.low, h.high)

pub greater_in_range : (x y : ℤ) → Within max_dimen x → Within max_dimen y → Within max_dimen (int_max x y)
greater_in_range x y h k = record { low = omega (arith, ints, clamps, h.low, k.low); high = omega (arith, ints, clamps, h.high, k.high) }

-- the greater of the width so far and that of a cell
pub wider : (ws : List ℤ) (j : ℕ) (x y m : ℤ) → j < length ws → x ≡ get_or ws j x → m ≡ int_max (to_z w64 (of_z w64 x)) (to_z w64 (of_z w64 y)) → Within max_dimen y → All (Within max_dimen) ws → (to_z w64 (of_z w64 m) ≡ int_max x y) × Within max_dimen (to_z w64 (of_z w64 m))
wider ws j x y m lt is e h small =
    let k : Within max_dimen x = subst (λ z. Within max_dimen z) (sym is) (All-get_or (Within max_dimen) ws j x lt small) in
    let f : m ≡ int_max x y = rw (kept x k, kept y h) at e in
    let n : Within max_dimen m = subst (λ z. Within max_dimen z) (sym f) (greater_in_range x y k h) in
    (kept m n ∙ f, subst (λ z. Within max_dimen z) (sym (kept m n)) n)

pub set_widens : (ws : List ℤ) (j : ℕ) (c : Layout) (x v : ℤ) → j < length ws → x ≡ get_or ws j x → v ≡ int_max x c.extents.width → set ws j v ≡ take j ws ++ widened (drop j ws) (c ∷ [])
set_widens ws j c x v lt is e =
    let before = take-set ws j v in
    let behind = drop-set ws j v lt in
    let next = next_item ws j x lt is in
    sym (take-append-drop j (set ws j v)) ∙ rw (before, behind, next, e) refl

pub push_widens : (ws : List ℤ) (j : ℕ) (c : Layout) → take j ws ≡ ws → drop j ws ≡ [] → ws ++ c.extents.width ∷ [] ≡ take j ws ++ widened (drop j ws) (c ∷ [])
push_widens ws j c e f = rw (e, f) refl

-- ---- columns get a row of cells more

-- the first of some columns that get cells, and those behind it
record Widened (ws : List ℤ) (c : Layout) : Type 0 where
  head : ℤ
  tail : List ℤ
  one : widened ws (c ∷ []) ≡ head ∷ tail
  more : (cs : Cells) → widened ws (c ∷ cs) ≡ head ∷ widened tail cs

widened_one : (ws : List ℤ) (c : Layout) → Widened ws c
widened_one [] c = record { head = c.extents.width; tail = []; one = refl; more = λ cs. refl }
widened_one (w ∷ ws) c = record { head = int_max w c.extents.width; tail = ws; one = refl; more = λ cs. refl }

take_behind : (xs : List ℤ) (h : ℤ) (t : List ℤ) → take (suc (length xs)) (xs ++ h ∷ t) ≡ xs ++ h ∷ []
take_behind [] h t = refl
take_behind (x ∷ xs) h t = ap (λ ys. x ∷ ys) (take_behind xs h t)

drop_behind : (xs : List ℤ) (h : ℤ) (t : List ℤ) → drop (suc (length xs)) (xs ++ h ∷ t) ≡ t
drop_behind [] h t = refl
drop_behind (x ∷ xs) h t = drop_behind xs h t

widening_step : (before ws new : List ℤ) (c : Layout) (cs : Cells) (j : ℕ) → j ≡ length before → new ≡ before ++ widened ws (c ∷ []) → take (suc j) new ++ widened (drop (suc j) new) cs ≡ before ++ widened ws (c ∷ cs)
widening_step before ws new c cs j e is =
    let s = widened_one ws c in
    rw (is, s.one, e, take_behind before s.head s.tail, drop_behind before s.head s.tail, append_assoc before (s.head ∷ []) (widened s.tail cs)) (ap (λ xs. before ++ xs) (sym (s.more cs)))

longer : (before ws new : List ℤ) (c : Layout) → new ≡ before ++ widened ws (c ∷ []) → length before + 1 ≤ length new
longer before ws new c is =
    let s = widened_one ws c in
    let e : new ≡ before ++ s.head ∷ s.tail = is ∙ ap (λ xs. before ++ xs) s.one in
    let l : length new ≡ length (before ++ s.head ∷ s.tail) = ap (λ xs. length xs) e in
    omega (arith, l, length-append before (s.head ∷ s.tail))

-- the columns, and the cells that are left from column j on
pub record Widening (old : List ℤ) (cells rest : List Extents) (j : ℕ) (ws : List ℤ) : Type 0 where
  pub same : take j ws ++ widened (drop j ws) (map bare rest) ≡ widened old (map bare cells)
  pub far : j ≤ length ws
  pub small : All (Within max_dimen) ws

pub widening_start : (old : List ℤ) (cells rest : List Extents) → rest ≡ cells → All (Within max_dimen) old → Widening old cells rest 0 old
widening_start old cells rest e small = rw e (record { same = refl; far = omega arith; small = small })

pub widening_more : (old : List ℤ) (cells rest rest' : List Extents) (b : Extents) (j : ℕ) (ws new : List ℤ) → Widening old cells rest j ws → rest ≡ b ∷ rest' → new ≡ take j ws ++ widened (drop j ws) (bare b ∷ []) → All (Within max_dimen) new → Widening old cells rest' (j + 1) new
widening_more old cells rest rest' b j ws new h e is small =
    let h' : Widening old cells (b ∷ rest') j ws = subst (λ r. Widening old cells r j ws) e h in
    let len : length (take j ws) ≡ j = length-take-le j ws h'.far in
    record {
      same = rw add-one (widening_step (take j ws) (drop j ws) new (bare b) (map bare rest') j (sym len) is ∙ h'.same);
      far = omega (arith, longer (take j ws) (drop j ws) new (bare b) is, len);
      small = small;
    }

pub widening_end : (old : List ℤ) (cells rest : List Extents) (j : ℕ) (ws : List ℤ) → Widening old cells rest j ws → rest ≡ [] → ws ≡ widened old (map bare cells)
widening_end old cells rest j ws h e =
    let h' : Widening old cells [] j ws = subst (λ r. Widening old cells r j ws) e h in
    sym (take-append-drop j ws) ∙ h'.same

-- ---- all rows

pub row_before : (rows : List (List Extents)) (i : ℕ) (row : List Extents) (ws new : List ℤ) → 0 < i → i ≤ length rows → row ≡ get_or rows (i - 1) row → ws ≡ column_widths (bare_rows (drop i rows)) → new ≡ widened ws (map bare row) → new ≡ column_widths (bare_rows (drop (i - 1) rows))
row_before rows i row ws new low far is e f =
    let back : (i - 1) + 1 ≡ i = omega arith in
    let next : drop (i - 1) rows ≡ row ∷ drop ((i - 1) + 1) rows = next_item rows (i - 1) row (omega arith) is in
    rw (next, back, f, e) refl

-- ---- how many columns there are

widened_length : (ws : List ℤ) (cs : Cells) → length (widened ws cs) ≡ max (length ws) (length cs)
widened_length ws [] = omega arith
widened_length [] (c ∷ cs) = omega (arith, widened_length [] cs)
widened_length (w ∷ ws) (c ∷ cs) = omega (arith, widened_length ws cs)

pub bare_length : (bs : List Extents) → length (map bare bs) ≡ length bs
bare_length [] = refl
bare_length (b ∷ bs) = omega (arith, bare_length bs)

no_wider : (rows : List (List Extents)) (n : ℕ) → All (λ (cells : List Extents). length cells ≤ n) rows → length (column_widths (bare_rows rows)) ≤ n
no_wider [] n h = omega arith
no_wider (row ∷ rows) n h =
    let first : length row ≤ n = All-head (λ (cells : List Extents). length cells ≤ n) row rows h in
    let others = no_wider rows n (All-tail (λ (cells : List Extents). length cells ≤ n) row rows h) in
    omega (arith, widened_length (column_widths (bare_rows rows)) (map bare row), bare_length row, first, others)

each_fits : (rows : List (List Extents)) (n : ℕ) → length (column_widths (bare_rows rows)) ≤ n → All (λ (cells : List Extents). length cells ≤ n) rows
each_fits [] n h = All-nil (λ (cells : List Extents). length cells ≤ n)
each_fits (row ∷ rows) n h =
    let l = widened_length (column_widths (bare_rows rows)) (map bare row) in
    All-cons (λ (cells : List Extents). length cells ≤ n) row rows (omega (arith, l, bare_length row, h)) (each_fits rows n (omega (arith, l, h)))

struts_length : (ws : List ℤ) → length (with_struts ws) ≡ length ws
struts_length [] = refl
struts_length (w ∷ ws) = refl

pub struts_few : (rows : List (List Extents)) (n : ℕ) (ws : List ℤ) → ws ≡ with_struts (column_widths (bare_rows rows)) → All (λ (cells : List Extents). length cells ≤ n) rows → length ws ≤ n
struts_few rows n ws e h = omega (arith, ap length e ∙ struts_length (column_widths (bare_rows rows)), no_wider rows n h)

pub struts_fit : (rows : List (List Extents)) (ws : List ℤ) → ws ≡ with_struts (column_widths (bare_rows rows)) → All (λ (cells : List Extents). length cells ≤ length ws) rows
struts_fit rows ws e = each_fits rows (length ws) (omega (arith, ap length e ∙ struts_length (column_widths (bare_rows rows))))

pub columns_few : (rows : List (List Extents)) (n : ℕ) (ws : List ℤ) → ws ≡ column_widths (bare_rows rows) → All (λ (cells : List Extents). length cells ≤ n) rows → length ws ≤ n
columns_few rows n ws e h = rw e (no_wider rows n h)

pub columns_fit : (rows : List (List Extents)) (ws : List ℤ) → ws ≡ column_widths (bare_rows rows) → All (λ (cells : List Extents). length cells ≤ length ws) rows
columns_fit rows ws e = each_fits rows (length ws) (omega (arith, ap length e))

-- the first width is at least that of a strut
pub struts_set : (ws : List ℤ) (x v : ℤ) → 0 < length ws → x ≡ get_or ws 0 x → v ≡ int_max x (pos 0) → set ws 0 v ≡ with_struts ws
struts_set [] x v h is e = absurd (omega (arith, h))
struts_set (w ∷ ws) x v h is e =
    let other : int_max w (pos 0) ≡ int_max (pos 0) w = omega (arith, ints, clamps) in
    rw (e, is) (ap (λ z. z ∷ ws) other)

pub struts_none : (ws : List ℤ) → ws ≡ [] → ws ≡ with_struts ws
struts_none ws e = rw e refl

-- ---- how wide they are together

reach_is : (gap w : ℤ) (ws : List ℤ) → columns_width gap (w ∷ ws) ≡ columns_reach gap (w ∷ ws) -ℤ gap
reach_is gap w [] = omega (arith, ints)
reach_is gap w (v ∷ ws) =
    let rest : ℤ = columns_width gap (v ∷ ws) in
    let all : ℤ = columns_reach gap (v ∷ ws) in
    let ih : rest ≡ all -ℤ gap = reach_is gap v ws in
    behind w gap rest all ih
  where
    behind : (w g c r : ℤ) → c ≡ r -ℤ g → w +ℤ (g +ℤ c) ≡ ((w +ℤ g) +ℤ r) -ℤ g
    behind w g c r e = omega (arith, ints, e)

pub reach_near : (gap : ℤ) (ws : List ℤ) → All (Within max_dimen) ws → Within (2 ^ 31) gap → Within (2 ^ 32 * length ws) (columns_reach gap ws)
reach_near gap [] h k = record { low = omega (arith, ints); high = omega (arith, ints) }
reach_near gap (w ∷ ws) h k =
    let first : Within max_dimen w = All-head (Within max_dimen) w ws h in
    let others = reach_near gap ws (All-tail (Within max_dimen) w ws h) k in
    record { low = omega (arith, ints, first.low, k.low, others.low); high = omega (arith, ints, first.high, k.high, others.high) }

-- the columns from number i on
pub record Reaching (gap : ℤ) (ws : List ℤ) (i : ℕ) (end : ℤ) : Type 0 where
  pub within : i ≤ length ws
  pub is : end ≡ columns_reach gap (drop i ws)
  pub near : Within (2 ^ 51) end

pub width_none : (gap : ℤ) (ws : List ℤ) (end : ℤ) → end ≡ columns_reach gap ws → ws ≡ [] → end ≡ columns_width gap ws
width_none gap ws end e f = e ∙ rw f refl

pub width_some : (gap : ℤ) (ws : List ℤ) (end : ℤ) → end ≡ columns_reach gap ws → (ws ≡ [] → ⊥) → end -ℤ gap ≡ columns_width gap ws
width_some gap [] end e f = absurd (f refl)
width_some gap (w ∷ ws) end e f = ap (λ z. z -ℤ gap) e ∙ sym (reach_is gap w ws)

pub reaching_item : (gap : ℤ) (ws : List ℤ) (i : ℕ) (d end end' : ℤ) → Reaching gap ws i end → 0 < i → length ws ≤ 2 ^ 19 → All (Within max_dimen) ws → Within (2 ^ 31) gap → end' ≡ (end +ℤ to_z w64 (of_z w64 (get_or ws (i - 1) d))) +ℤ gap → Reaching gap ws (i - 1) end'
reaching_item gap ws i d end end' h low few small k is =
    let in_range : Within max_dimen (get_or ws (i - 1) d) = All-get_or (Within max_dimen) ws (i - 1) d (omega (arith, low, h.within)) small in
    let sum : end' ≡ (get_or ws (i - 1) d +ℤ gap) +ℤ columns_reach gap (drop i ws) = omega (arith, ints, (rw (kept _ in_range) at is), h.is) in
    let all : end' ≡ columns_reach gap (drop (i - 1) ws) = sum ∙ ap (columns_reach gap) (sym (item_before ws i d low h.within)) in
    let near = reach_near gap (drop (i - 1) ws) (All-drop (Within max_dimen) (i - 1) ws small) k in
    record { within = omega (arith, h.within); is = all; near = record { low = omega (arith, ints, near.low, all, length-drop (i - 1) ws, few); high = omega (arith, ints, near.high, all, length-drop (i - 1) ws, few) } }

pub not_empty : (ws : List ℤ) → false ≡ (length ws == 0) → ws ≡ [] → ⊥
not_empty [] h e = absurd (false≢true h)
not_empty (w ∷ ws) h e = cc
