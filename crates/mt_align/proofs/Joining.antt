-- The layouts of cells that are moved to their places and become one, from the last one on.
use Rattle.std.proofs.Common.{◌≡◌, ℕ, zero, suc, ◌≤◌, ◌<◌, ◌+◌, ◌-◌, ◌^◌, List, [], ◌∷◌, length, take, drop, get_or, ℤ, pos, ◌+ℤ◌, ◌-ℤ◌, arith, sym, ◌∙◌, ap, subst, w64, to_z, of_z, All}
use Rattle.std.proofs.lemmas.Int.{ints}
use Rattle.std.proofs.lemmas.List.{drop_more, length-take-le}
use Rattle.std.proofs.lemmas.List.Elements.{All-take, All-get_or}
use Rattle.mt_scaled.specs.Number.{Within, max_dimen}
use Rattle.mt_box.specs.declared.extents.Extents.{Extents}
use Rattle.mt_box.specs.declared.place.Place.{Place}
use Rattle.mt_box.specs.marks.Layers.{joined, moved_layer}
use Rattle.mt_align.specs.declared.look.Look.{Look}
use Rattle.mt_align.specs.Looks.{inset_of}
use Rattle.mt_align.specs.CellRows.{columns_reach}
use Rattle.mt_align.specs.CellsJoined.{cells_joined, rows_joined}
use Rattle.mt_align.proofs.ColumnWidths.{kept, reach_near}
use Rattle.mt_align.proofs.Items.{same_item}
use Rattle.mt_align.proofs.Rows.{kept_drop}

-- ---- the cells of a row

-- the cells from column j on are joined; column j begins at the edge
pub record JoiningCells (look : Look) (gap y : ℤ) (ws : List ℤ) (cells : List Extents) (j : ℕ) (edge : ℤ) (old now : List (List Place)) : Type 0 where
  pub far : j ≤ length cells
  pub edge_is : edge ≡ columns_reach gap (take j ws)
  pub marks : now ≡ cells_joined look gap y j edge (drop j ws) (drop j cells) old

take_more : (ws : List ℤ) (j : ℕ) (d : ℤ) → j < length ws → (gap : ℤ) → columns_reach gap (take (suc j) ws) ≡ columns_reach gap (take j ws) +ℤ (get_or ws j d +ℤ gap)
take_more [] j d lt gap = absurd (omega (arith, lt))
take_more (w ∷ ws) zero d lt gap = omega (arith, ints)
take_more (w ∷ ws) (suc j) d lt gap = regrouped w gap _ _ _ (take_more ws j d (omega (arith, lt)) gap)
  where
    regrouped : (w g a b c : ℤ) → a ≡ b +ℤ c → (w +ℤ g) +ℤ a ≡ ((w +ℤ g) +ℤ b) +ℤ c
    regrouped w g a b c e = omega (arith, ints, e)

-- no edge is far
pub edge_near : (look : Look) (gap y : ℤ) (ws : List ℤ) (cells : List Extents) (j : ℕ) (edge : ℤ) (old now : List (List Place)) → JoiningCells look gap y ws cells j edge old now → length cells ≤ 2 ^ 19 → length cells ≤ length ws → All (Within max_dimen) ws → Within (2 ^ 31) gap → Within (2 ^ 53) edge
edge_near look gap y ws cells j edge old now h few fits small k =
    let n : length (take j ws) ≡ j = length-take-le j ws (omega (arith, h.far, fits)) in
    let near = reach_near gap (take j ws) (All-take (Within max_dimen) j ws small) k in
    record { low = omega (arith, ints, near.low, n, h.far, few, h.edge_is); high = omega (arith, ints, near.high, n, h.far, few, h.edge_is) }

edge_forth : (e e' w g : ℤ) → e' ≡ e -ℤ (w +ℤ g) → e' +ℤ (w +ℤ g) ≡ e
edge_forth e e' w g p = omega (arith, ints, p)

joining_more : (look : Look) (gap y : ℤ) (ws : List ℤ) (cells : List Extents) (j : ℕ) (w : ℤ) (c : Extents) (edge edge' x : ℤ) (old now now' : List (List Place)) → JoiningCells look gap y ws cells j edge old now → 0 < j → length cells ≤ length ws
    → w ≡ get_or ws (j - 1) w → c ≡ get_or cells (j - 1) c → edge' ≡ edge -ℤ (w +ℤ gap) → x ≡ edge' +ℤ inset_of look (j - 1) (w -ℤ c.width) → now' ≡ joined (moved_layer 1 x y now) → JoiningCells look gap y ws cells (j - 1) edge' old now'
joining_more look gap y ws cells j w c edge edge' x old now now' h low fits is_w is_c is_e is_x is =
    let back : (j - 1) + 1 ≡ j = omega (arith, low) in
    let one : suc (j - 1) ≡ j = omega (arith, low) in
    let lt : j - 1 < length ws = omega (arith, low, h.far, fits) in
    let lt_c : j - 1 < length cells = omega (arith, low, h.far) in
    let next_w : drop (j - 1) ws ≡ w ∷ drop j ws = drop_more ws (j - 1) w lt ∙ (ap (λ n. get_or ws (j - 1) w ∷ drop n ws) back ∙ ap (λ z. z ∷ drop j ws) (sym is_w)) in
    let next_c : drop (j - 1) cells ≡ c ∷ drop j cells = drop_more cells (j - 1) c lt_c ∙ (ap (λ n. get_or cells (j - 1) c ∷ drop n cells) back ∙ ap (λ z. z ∷ drop j cells) (sym is_c)) in
    let sum : columns_reach gap (take j ws) ≡ columns_reach gap (take (j - 1) ws) +ℤ (w +ℤ gap) = ap (λ n. columns_reach gap (take n ws)) (sym one) ∙ (take_more ws (j - 1) w lt gap ∙ ap (λ z. columns_reach gap (take (j - 1) ws) +ℤ (z +ℤ gap)) (sym is_w)) in
    let others : now ≡ cells_joined look gap y ((j - 1) + 1) (edge' +ℤ (w +ℤ gap)) (drop j ws) (drop j cells) old = h.marks ∙ (ap (λ n. cells_joined look gap y n edge (drop j ws) (drop j cells) old) (sym back) ∙ ap (λ z. cells_joined look gap y ((j - 1) + 1) z (drop j ws) (drop j cells) old) (sym (edge_forth edge edge' w gap is_e))) in
    record {
      far = omega (arith, h.far);
      edge_is = omega (arith, ints, is_e, h.edge_is, sum);
      marks =
          is
          ∙ (ap (λ z. joined (moved_layer 1 z y now)) is_x
          ∙ (ap (λ ls. joined (moved_layer 1 (edge' +ℤ inset_of look (j - 1) (w -ℤ c.width)) y ls)) others
          ∙ (ap (λ cs. cells_joined look gap y (j - 1) edge' (w ∷ drop j ws) cs old) (sym next_c) ∙ ap (λ xs. cells_joined look gap y (j - 1) edge' xs (drop (j - 1) cells) old) (sym next_w))));
    }

-- one more of them
pub joining_item : (look : Look) (gap y : ℤ) (ws : List ℤ) (cells : List Extents) (j : ℕ) (w : ℤ) (d : Extents) (edge edge' i x : ℤ) (old now now' : List (List Place)) → JoiningCells look gap y ws cells j edge old now → 0 < j → length cells ≤ length ws → All (Within max_dimen) ws
    → w ≡ get_or ws (j - 1) w → edge' ≡ edge -ℤ (to_z w64 (of_z w64 w) +ℤ gap) → i ≡ inset_of look (j - 1) (to_z w64 (of_z w64 w) -ℤ (get_or cells (j - 1) d).width) → x ≡ edge' +ℤ i → now' ≡ joined (moved_layer 1 x y now) → JoiningCells look gap y ws cells (j - 1) edge' old now'
joining_item look gap y ws cells j w d edge edge' i x old now now' h low fits small is_w is_e is_i is_x is =
    let c : Extents = get_or cells (j - 1) d in
    let lt : j - 1 < length ws = omega (arith, low, h.far, fits) in
    let lt_c : j - 1 < length cells = omega (arith, low, h.far) in
    let near : Within max_dimen w = subst (λ z. Within max_dimen z) (sym is_w) (All-get_or (Within max_dimen) ws (j - 1) w lt small) in
    joining_more look gap y ws cells j w c edge edge' x old now now' h low fits is_w (same_item cells (j - 1) d lt_c) (rw (kept w near) at is_e) (is_x ∙ ap (λ z. edge' +ℤ z) (rw (kept w near) at is_i)) is

pub joining_end : (look : Look) (gap y : ℤ) (ws : List ℤ) (cells : List Extents) (edge : ℤ) (old now : List (List Place)) → JoiningCells look gap y ws cells 0 edge old now → now ≡ cells_joined look gap y 0 (pos 0) ws cells old
joining_end look gap y ws cells edge old now h = h.marks ∙ ap (λ z. cells_joined look gap y 0 z ws cells old) h.edge_is

-- ---- the rows

rows_more : (look : Look) (gap y : ℤ) (ws ds : List ℤ) (rows : List (List Extents)) (i : ℕ) (d v : ℤ) (cells : List Extents) (old now now' : List (List Place)) → now ≡ rows_joined look gap y ws (drop i ds) (drop i rows) old → 0 < i → i ≤ length rows → length ds ≡ length rows
    → d ≡ get_or ds (i - 1) d → cells ≡ get_or rows (i - 1) cells → v ≡ y -ℤ d → now' ≡ cells_joined look gap v 0 (pos 0) ws cells now → now' ≡ rows_joined look gap y ws (drop (i - 1) ds) (drop (i - 1) rows) old
rows_more look gap y ws ds rows i d v cells old now now' h low far same is_d is_c is_v is =
    let back : (i - 1) + 1 ≡ i = omega (arith, low) in
    let next_d : drop (i - 1) ds ≡ d ∷ drop i ds = drop_more ds (i - 1) d (omega (arith, low, far, same)) ∙ (ap (λ n. get_or ds (i - 1) d ∷ drop n ds) back ∙ ap (λ z. z ∷ drop i ds) (sym is_d)) in
    let next_c : drop (i - 1) rows ≡ cells ∷ drop i rows = drop_more rows (i - 1) cells (omega (arith, low, far)) ∙ (ap (λ n. get_or rows (i - 1) cells ∷ drop n rows) back ∙ ap (λ z. z ∷ drop i rows) (sym is_c)) in
    is
    ∙ (ap (λ z. cells_joined look gap z 0 (pos 0) ws cells now) is_v
    ∙ (ap (λ ls. cells_joined look gap (y -ℤ d) 0 (pos 0) ws cells ls) h
    ∙ (ap (λ rs. rows_joined look gap y ws (d ∷ drop i ds) rs old) (sym next_c) ∙ ap (λ xs. rows_joined look gap y ws xs (drop (i - 1) rows) old) (sym next_d))))

-- one more of them
pub rows_item : (look : Look) (gap y : ℤ) (ws ds : List ℤ) (rows : List (List Extents)) (i : ℕ) (d v : ℤ) (cells : List Extents) (old now now' : List (List Place)) → now ≡ rows_joined look gap y ws (drop i ds) (drop i rows) old → 0 < i → i ≤ length rows → length ds ≡ length rows → All (Within (2 ^ 54)) ds
    → cells ≡ get_or rows (i - 1) cells → v ≡ y -ℤ to_z w64 (of_z w64 (get_or ds (i - 1) d)) → now' ≡ cells_joined look gap v 0 (pos 0) ws cells now → now' ≡ rows_joined look gap y ws (drop (i - 1) ds) (drop (i - 1) rows) old
rows_item look gap y ws ds rows i d v cells old now now' h low far same near is_c is_v is =
    let lt : i - 1 < length ds = omega (arith, low, far, same) in
    let small : Within (2 ^ 54) (get_or ds (i - 1) d) = All-get_or (Within (2 ^ 54)) ds (i - 1) d lt near in
    rows_more look gap y ws ds rows i (get_or ds (i - 1) d) v cells old now now' h low far same (same_item ds (i - 1) d lt) is_c (rw (kept_drop _ small) at is_v) is
