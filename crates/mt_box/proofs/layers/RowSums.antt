-- The loops over the parts of a row.
use Rattle.std.proofs.Common.{◌≡◌, ℕ, zero, suc, ◌<◌, ◌≤◌, ◌+◌, ◌-◌, ◌*◌, ◌^◌, List, [], ◌∷◌, ◌++◌, Some, None, length, length-drop, take, drop, get_or, ℤ, pos, ◌+ℤ◌, ◌-ℤ◌, ◌≤ℤ◌, refl, arith, sym, ◌∙◌, ap, w64, to_z, of_z}
use Rattle.std.proofs.lemmas.List.{drop_all, drop_more, take_more, take_all}
use Rattle.std.proofs.lemmas.Int.{ints, clamps}
use Rattle.std.proofs.lemmas.Option.{none-some, same_Some}
use Rattle.std.specs.Int.{int_max, int_min}
use Rattle.mt_scaled.specs.Number.{Within}
use Rattle.mt_box.specs.declared.place.Place.{Place}
use Rattle.mt_box.specs.SetRows.{IsShrink, shrunk}
use Rattle.mt_box.specs.declared.marks.row.RowReach.{RowReach}
use Rattle.mt_box.specs.declared.marks.row.RowPiece.{RowPiece}
use Rattle.mt_box.specs.declared.marks.row.RowPart.{RowPart}
use Rattle.mt_box.specs.declared.marks.row.RowPart.TheVariants as part
use Rattle.mt_box.specs.marks.Layers.{joined, moved_layer}
use Rattle.mt_box.specs.marks.RowParts.{IsNearPart, AllNearParts, part_piece, part_width, part_height, part_depth, part_shrink, parts_sum, parts_max, part_joined, parts_joined}

none_near : Within (2 ^ 40) (pos 0)
none_near = record { low = omega (arith, ints); high = omega (arith, ints) }

near_width : (p : RowPart) → IsNearPart p → Within (2 ^ 40) (part_width p)
near_width (part.Glyph f c e) h = h.width
near_width (part.Layout p) h = h.width
near_width (part.Gap w) h = h
near_width (part.Space w s) h = h.0

near_shrink : (p : RowPart) → IsNearPart p → Within (2 ^ 40) (part_shrink p)
near_shrink (part.Glyph f c e) h = none_near
near_shrink (part.Layout p) h = none_near
near_shrink (part.Gap w) h = none_near
near_shrink (part.Space w s) h = h.1

pub near_at : (ps : List RowPart) (j : ℕ) (d : RowPart) → j < length ps → AllNearParts ps → IsNearPart (get_or ps j d)
near_at [] j d h n = absurd (omega (arith, h))
near_at (p ∷ ps) zero d h n = n.0
near_at (p ∷ ps) (suc j) d h n = near_at ps j d (omega (arith, h)) n.1

pub near_more : (ps qs : List RowPart) (p : RowPart) → qs ≡ ps ++ p ∷ [] → AllNearParts ps → IsNearPart p → AllNearParts qs
near_more ps qs p e h k = rw e (more ps h)
  where
    more : (rs : List RowPart) → AllNearParts rs → AllNearParts (rs ++ p ∷ [])
    more [] h = (k, tt)
    more (r ∷ rs) h = (h.0, more rs h.1)

-- ---- what a row reaches, from the last part

pub record PartsSummed (ps : List RowPart) (e : RowReach) : Type 0 where
  pub width : e.width ≡ parts_sum part_width ps
  pub height : e.height ≡ parts_max part_height ps
  pub depth : e.depth ≡ parts_max part_depth ps
  pub shrink : e.shrink ≡ parts_sum part_shrink ps

-- what a part adds
pub record Adds (p : RowPart) (e e' : RowReach) : Type 0 where
  pub width : e'.width ≡ e.width +ℤ part_width p
  pub height : e'.height ≡ int_max e.height (part_height p)
  pub depth : e'.depth ≡ int_max e.depth (part_depth p)
  pub shrink : e'.shrink ≡ e.shrink +ℤ part_shrink p

pub summed_none : (ps : List RowPart) → ps ≡ [] → PartsSummed ps record { width = pos 0; height = pos 0; depth = pos 0; shrink = pos 0 }
summed_none ps none = rw none (record { width = refl; height = refl; depth = refl; shrink = refl })

pub summed_more : (ps rest : List RowPart) (p : RowPart) (e e' : RowReach) → PartsSummed rest e → ps ≡ p ∷ rest → Adds p e e' → PartsSummed ps e'
summed_more ps rest p e e' h is a = rw is (record {
  width = omega (arith, ints, h.width, a.width);
  height = omega (arith, ints, clamps, h.height, a.height);
  depth = omega (arith, ints, clamps, h.depth, a.depth);
  shrink = omega (arith, ints, h.shrink, a.shrink);
})

near_drop : (i : ℕ) (ps : List RowPart) → AllNearParts ps → AllNearParts (drop i ps)
near_drop zero ps h = h
near_drop (suc i) [] h = tt
near_drop (suc i) (p ∷ ps) h = near_drop i ps h.1

-- ---- joining, from the last part

pub record PartsEdge (ps : List RowPart) (i : ℕ) (x before : ℤ) : Type 0 where
  pub left : x ≡ parts_sum part_width (take i ps)
  pub shrinks : before ≡ parts_sum part_shrink (take i ps)
  pub few : i ≤ length ps
  pub near : AllNearParts ps
  pub all_few : length ps ≤ 2 ^ 21

sum_more : (f : RowPart → ℤ) (ps : List RowPart) (p : RowPart) → parts_sum f (ps ++ p ∷ []) ≡ parts_sum f ps +ℤ f p
sum_more f [] p = omega (arith, ints)
sum_more f (q ∷ ps) p = omega (arith, ints, sum_more f ps p)

sum_bound : (f : RowPart → ℤ) → ((p : RowPart) → IsNearPart p → Within (2 ^ 40) (f p)) → (ps : List RowPart) (j : ℕ) → AllNearParts ps → Within (2 ^ 40 * j) (parts_sum f (take j ps))
sum_bound f near ps zero n = record { low = omega (arith, ints); high = omega (arith, ints) }
sum_bound f near [] (suc j) n = record { low = omega (arith, ints); high = omega (arith, ints) }
sum_bound f near (p ∷ ps) (suc j) n =
    let h = sum_bound f near ps j n.1 in
    let k = near p n.0 in
    record { low = omega (arith, ints, h.low, k.low); high = omega (arith, ints, h.high, k.high) }

edge_within : (x s : ℤ) (i n : ℕ) → x ≡ s → i ≤ n → n ≤ 2 ^ 21 → Within (2 ^ 40 * i) s → Within (2 ^ 61) x
edge_within x s i n e h k b = record { low = omega (arith, ints, b.low, e, h, k); high = omega (arith, ints, b.high, e, h, k) }

-- the sums of a whole row
pub whole_wide : (ps : List RowPart) (x : ℤ) → x ≡ parts_sum part_width ps → AllNearParts ps → length ps ≤ 2 ^ 21 → Within (2 ^ 61) x
whole_wide ps x e near few = edge_within x _ (length ps) (length ps) (e ∙ ap (parts_sum part_width) (sym (take_all (length ps) ps (omega arith)))) (omega arith) few (sum_bound part_width near_width ps (length ps) near)

pub whole_soft : (ps : List RowPart) (x : ℤ) → x ≡ parts_sum part_shrink ps → AllNearParts ps → length ps ≤ 2 ^ 21 → Within (2 ^ 61) x
whole_soft ps x e near few = edge_within x _ (length ps) (length ps) (e ∙ ap (parts_sum part_shrink) (sym (take_all (length ps) ps (omega arith)))) (omega arith) few (sum_bound part_shrink near_shrink ps (length ps) near)

-- and of those from a number on
pub summed_within : (i : ℕ) (ps : List RowPart) (e : RowReach) → PartsSummed (drop i ps) e → AllNearParts ps → length ps ≤ 2 ^ 21 → Within (2 ^ 61) e.width × Within (2 ^ 61) e.shrink
summed_within i ps e h near few =
    let n : length (drop i ps) ≤ 2 ^ 21 = omega (arith, few, length-drop i ps) in
    (whole_wide (drop i ps) _ h.width (near_drop i ps near) n, whole_soft (drop i ps) _ h.shrink (near_drop i ps near) n)

pub edge_wide : (ps : List RowPart) (i : ℕ) (x before : ℤ) → PartsEdge ps i x before → Within (2 ^ 61) x
edge_wide ps i x before h = edge_within x _ i (length ps) h.left h.few h.all_few (sum_bound part_width near_width ps i h.near)

pub edge_soft : (ps : List RowPart) (i : ℕ) (x before : ℤ) → PartsEdge ps i x before → Within (2 ^ 61) before
edge_soft ps i x before h = edge_within before _ i (length ps) h.shrinks h.few h.all_few (sum_bound part_shrink near_shrink ps i h.near)

pub edge_near : (ps : List RowPart) (i : ℕ) (x before : ℤ) (d : RowPart) → PartsEdge ps i x before → 0 < i → IsNearPart (get_or ps (i - 1) d)
edge_near ps i x before d h low = near_at ps (i - 1) d (omega (arith, h.few, low)) h.near

pub edge_back : (ps : List RowPart) (i : ℕ) (x x' before before' : ℤ) (p d : RowPart) → PartsEdge ps i x before → 0 < i → p ≡ get_or ps (i - 1) d
    → x' ≡ x -ℤ part_width p → before' ≡ before -ℤ part_shrink p → PartsEdge ps (i - 1) x' before'
edge_back ps i x x' before before' p d h low e w s =
    let n : i ≡ i - 1 + 1 = omega (arith, low) in
    let t : take i ps ≡ take (i - 1) ps ++ p ∷ [] = ap (λ k. take k ps) n ∙ (take_more ps (i - 1) d (omega (arith, h.few, low)) ∙ ap (λ q. take (i - 1) ps ++ q ∷ []) (sym e)) in
    let l = ap (parts_sum part_width) t ∙ sum_more part_width (take (i - 1) ps) p in
    let r = ap (parts_sum part_shrink) t ∙ sum_more part_shrink (take (i - 1) ps) p in
    record {
      left = omega (arith, ints, w, h.left, l);
      shrinks = omega (arith, ints, s, h.shrinks, r);
      few = omega (arith, h.few);
      near = h.near;
      all_few = h.all_few;
    }

pub record PartsJoining (ps : List RowPart) (most used : ℤ) (i : ℕ) (x before : ℤ) (old now : List (List Place)) : Type 0 where
  pub edge : PartsEdge ps i x before
  pub same : now ≡ parts_joined most used x before (drop i ps) old

pub join_start : (ps : List RowPart) (most used : ℤ) (i : ℕ) (x before : ℤ) (old : List (List Place)) → i ≡ length ps → x ≡ parts_sum part_width ps → before ≡ parts_sum part_shrink ps
    → AllNearParts ps → length ps ≤ 2 ^ 21 → PartsJoining ps most used i x before old old
join_start ps most used i x before old n w s near few =
    let all : ps ≡ take i ps = sym (take_all i ps (omega (arith, n))) in
    record {
      edge = record { left = w ∙ ap (parts_sum part_width) all; shrinks = s ∙ ap (parts_sum part_shrink) all; few = omega (arith, n); near = near; all_few = few };
      same = ap (λ z. parts_joined most used x before z old) (sym (drop_all i ps (omega (arith, n))));
    }

-- a gap and a space leave the layouts as they are
pub gap_kept : (x : ℤ) (p : RowPart) (ls : List (List Place)) → part_piece p ≡ None → ls ≡ part_joined x p ls
gap_kept x (part.Glyph f c e) ls h = absurd (none-some _ (sym h))
gap_kept x (part.Layout q) ls h = absurd (none-some _ (sym h))
gap_kept x (part.Gap w) ls h = refl
gap_kept x (part.Space w s) ls h = refl

-- the layout of a part that has one is moved and joined
pub piece_joined : (x : ℤ) (p : RowPart) (r : RowPiece) (ls : List (List Place)) → part_piece p ≡ Some r → joined (moved_layer 1 x r.raise ls) ≡ part_joined x p ls
piece_joined x (part.Glyph f c e) r ls h = ap (λ (k : RowPiece). joined (moved_layer 1 x k.raise ls)) (sym (same_Some _ _ h))
piece_joined x (part.Layout p) r ls h = ap (λ (k : RowPiece). joined (moved_layer 1 x k.raise ls)) (sym (same_Some _ _ h))
piece_joined x (part.Gap w) r ls h = absurd (none-some _ h)
piece_joined x (part.Space w s) r ls h = absurd (none-some _ h)

joined_at : (most used : ℤ) (ps : List RowPart) (old : List (List Place)) {x x' b b' : ℤ} → x ≡ x' → b ≡ b' → parts_joined most used x b ps old ≡ parts_joined most used x' b' ps old
joined_at most used ps old e f = cc

pub join_step : (ps : List RowPart) (most used : ℤ) (i : ℕ) (x x' before before' : ℤ) (old now now' : List (List Place)) (p d : RowPart) → PartsJoining ps most used i x before old now → 0 < i → p ≡ get_or ps (i - 1) d
    → x' ≡ x -ℤ part_width p → before' ≡ before -ℤ part_shrink p → now' ≡ part_joined (x' -ℤ shrunk most used before') p now → PartsJoining ps most used (i - 1) x' before' old now'
join_step ps most used i x x' before before' old now now' p d h low e w s m =
    let n : i ≡ i - 1 + 1 = omega (arith, low) in
    let rest : drop (i - 1) ps ≡ p ∷ drop i ps = drop_more ps (i - 1) d (omega (arith, h.edge.few, low)) ∙ (ap (λ q. q ∷ drop (i - 1 + 1) ps) (sym e) ∙ ap (λ k. p ∷ drop k ps) (sym n)) in
    let back : x ≡ x' +ℤ part_width p = omega (arith, ints, w) in
    let grown : before ≡ before' +ℤ part_shrink p = omega (arith, ints, s) in
    record {
      edge = edge_back ps i x x' before before' p d h.edge low e w s;
      same = m ∙ (ap (part_joined (x' -ℤ shrunk most used before') p) (h.same ∙ joined_at most used (drop i ps) old back grown) ∙ ap (λ z. parts_joined most used x' before' z old) (sym rest));
    }

pub join_end : (ps : List RowPart) (most used : ℤ) (i : ℕ) (x before : ℤ) (old now : List (List Place)) → PartsJoining ps most used i x before old now → i ≡ 0 → now ≡ parts_joined most used (pos 0) (pos 0) ps old
join_end ps most used i x before old now h e =
    let l : x ≡ pos 0 = h.edge.left ∙ ap (λ k. parts_sum part_width (take k ps)) e in
    let s : before ≡ pos 0 = h.edge.shrinks ∙ ap (λ k. parts_sum part_shrink (take k ps)) e in
    h.same ∙ (ap (λ k. parts_joined most used x before (drop k ps) old) e ∙ joined_at most used ps old l s)

-- ---- by how much a row shrinks

pub shrink_found : (most used e n w : ℤ) → Within (2 ^ 61) most → Within (2 ^ 61) n → Within (2 ^ 62) w
    → used ≡ int_min (to_z w64 (of_z w64 most)) e → e ≡ to_z w64 (of_z w64 n) -ℤ w → w ≤ℤ n → IsShrink (to_z w64 (of_z w64 most)) used
shrink_found most used e n w a b d f g h =
    let k : to_z w64 (of_z w64 most) ≡ most = omega (arith, ints, a.low, a.high) in
    let l : to_z w64 (of_z w64 n) ≡ n = omega (arith, ints, b.low, b.high) in
    record {
      small = rw k a;
      part = omega (arith, ints, clamps, f);
      low = λ z. omega (arith, ints, clamps, f, g, l, h, z);
    }
