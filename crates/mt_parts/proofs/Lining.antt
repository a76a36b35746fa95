-- Lines one below another on marks.
use Rattle.std.proofs.Common.{◌≡◌, ℕ, zero, suc, ◌≤◌, ◌<◌, ◌+◌, ◌-◌, ◌*◌, ◌^◌, List, [], ◌∷◌, ◌++◌, length, drop, drop-cons, length-drop, get_or, ℤ, pos, ◌+ℤ◌, ◌-ℤ◌, None, refl, arith, append_assoc, sym, ◌∙◌, ap, subst, Bool, true, false, if◌then◌else◌, w64, to_z, of_z, lit<, Result, Ok, All, int_lt, append-nil}
use Rattle.std.proofs.lemmas.Int.{ints}
use Rattle.std.proofs.lemmas.List.Elements.{All-head, All-tail, All-drop, All-get_or}
use Rattle.std.specs.Int.{int_max}
use Rattle.mt_scaled.specs.Number.{Within, max_dimen, half_of}
use Rattle.mt_scaled.proofs.Products.{kept}
use Rattle.mt_family.specs.declared.size.Size.{Size}
use Rattle.mt_family.specs.SetValue.{SetValue}
use Rattle.mt_box.specs.declared.place.Place.{Place}
use Rattle.mt_box.specs.declared.extents.Extents.{Extents}
use Rattle.mt_box.specs.Layout.{Layout, all_moved}
use Rattle.mt_box.specs.Extents.{ExtentsInRange, first_out}
use Rattle.mt_box.specs.marks.Layers.{begun, joined, moved_layer, top}
use Rattle.mt_box.specs.marks.RowParts.{on_stack}
use Rattle.mt_box.proofs.Equalities.{extents_is, layout_eq}
use Rattle.mt_rules.specs.declared.part_error.PartError.{PartError}
use Rattle.mt_rules.specs.Setting.{make_box}
use Rattle.mt_rules.specs.OnMarks.{SetsOn, layout_with}
use Rattle.mt_rules.specs.Parameters.{axis_height}
use Rattle.mt_rules.specs.Vcenter.{line_gap, lines_total, places_after, lines_places, lines_width, vcenter}
use Rattle.mt_rules.proofs.Answering.{make_box-ok}
use Rattle.mt_parts.specs.LineLayers.{all_extents, all_places, first_gap, lines_reach, widest, lines_joined}

-- ---- how far they reach

regrouped : (g h d a b : ℤ) → a ≡ b → ((a +ℤ g) +ℤ d) +ℤ h ≡ h +ℤ (d +ℤ (g +ℤ b))
regrouped g h d a b e = omega (arith, ints, e)

alone : (h d : ℤ) → ((pos 0 +ℤ pos 0) +ℤ d) +ℤ h ≡ h +ℤ (d +ℤ pos 0)
alone h d = omega (arith, ints)

total_is : (ls : List Layout) → lines_reach (all_extents ls) ≡ lines_total ls
total_is [] = refl
total_is (l ∷ []) = alone l.extents.height l.extents.depth
total_is (l ∷ m ∷ ls) = regrouped (line_gap l.extents.depth m.extents.height) l.extents.height l.extents.depth _ _ (total_is (m ∷ ls))

width_is : (ls : List Layout) → widest (all_extents ls) ≡ lines_width ls
width_is [] = refl
width_is (l ∷ ls) = ap (λ z. int_max l.extents.width z) (width_is ls)

by_sign : (b : Bool) (g : ℤ) → Within (2 ^ 32) g → Within (2 ^ 32) (if b then pos 65536 else g)
by_sign true g h = record { low = omega (arith, ints); high = omega (arith, ints) }
by_sign false g h = h

gap_small : (es : List Extents) → All ExtentsInRange es → Within (2 ^ 32) (first_gap es)
gap_small [] h = record { low = omega (arith, ints); high = omega (arith, ints) }
gap_small (e ∷ []) h = record { low = omega (arith, ints); high = omega (arith, ints) }
gap_small (e ∷ f ∷ es) h =
    let p = (All-head ExtentsInRange e (f ∷ es) h).depth in
    let q = (All-head ExtentsInRange f es (All-tail ExtentsInRange e (f ∷ es) h)).height in
    by_sign (int_lt ((pos 786432 -ℤ e.depth) -ℤ f.height) (pos 0)) _ (record { low = omega (arith, ints, p.high, q.high); high = omega (arith, ints, p.low, q.low) })

reach_near : (es : List Extents) → All ExtentsInRange es → Within (2 ^ 33 * length es) (lines_reach es)
reach_near [] h = record { low = omega (arith, ints); high = omega (arith, ints) }
reach_near (e ∷ es) h =
    let first = All-head ExtentsInRange e es h in
    let others = reach_near es (All-tail ExtentsInRange e es h) in
    let gap = gap_small (e ∷ es) h in
    record {
      low = omega (arith, ints, first.height.low, first.depth.low, gap.low, others.low);
      high = omega (arith, ints, first.height.high, first.depth.high, gap.high, others.high);
    }

-- those from one on reach no farther than that
pub reach_small : (rows : List Extents) (i : ℕ) (t : ℤ) → length rows ≤ 2 ^ 20 → All ExtentsInRange rows → t ≡ lines_reach (drop i rows) → Within (2 ^ 53) t
reach_small rows i t few range e =
    let near = reach_near (drop i rows) (All-drop ExtentsInRange i rows range) in
    let n : length (drop i rows) ≤ 2 ^ 20 = omega (arith, length-drop i rows, few) in
    record { low = omega (arith, ints, e, near.low, n); high = omega (arith, ints, e, near.high, n) }

pub edge_small : (rows : List Extents) (i : ℕ) (y d : ℤ) → length rows ≤ 2 ^ 20 → All ExtentsInRange rows → y ≡ lines_reach (drop i rows) -ℤ d → Within max_dimen d → Within (2 ^ 54) y
edge_small rows i y d few range e k =
    let near = reach_small rows i (lines_reach (drop i rows)) few range refl in
    record { low = omega (arith, ints, e, near.low, k.high); high = omega (arith, ints, e, near.high, k.low) }

-- the last one has no gap below
pub last_gap : (es : List Extents) (i : ℕ) → length es ≤ i + 1 → first_gap (drop i es) ≡ pos 0
last_gap [] zero le = refl
last_gap [] (suc i) le = refl
last_gap (e ∷ []) zero le = refl
last_gap (e ∷ f ∷ es) zero le = absurd (omega (arith, le))
last_gap (e ∷ es) (suc i) le = last_gap es i (omega (arith, le))

-- ---- the layouts, each at its baseline

under_first : (y : ℤ) (l : Layout) (ls : List Layout) → lines_places (y -ℤ first_gap (all_extents (l ∷ ls))) ls ≡ places_after y l.extents.depth ls
under_first y l [] = refl
under_first y l (m ∷ ls) = refl

-- the lines become one layout
lines_placed : (y : ℤ) (ls : List Layout) (t : List Place) (rest : List (List Place)) → lines_joined y (all_extents ls) (t ∷ on_stack (all_places ls) rest) ≡ (lines_places y ls ++ t) ∷ rest
lines_placed y [] t rest = refl
lines_placed y (l ∷ ls) t rest =
    let b = y -ℤ l.extents.height in
    let next = (b -ℤ l.extents.depth) -ℤ first_gap (all_extents (l ∷ ls)) in
    let first = all_moved (pos 0) b l.places in
    ap (λ s. joined (moved_layer 1 (pos 0) b s)) (lines_placed next ls t (l.places ∷ rest))
    ∙ (ap (λ ps. ps ∷ rest) (sym (append_assoc first (lines_places next ls) t))
    ∙ ap (λ ps. ((first ++ ps) ++ t) ∷ rest) (under_first (b -ℤ l.extents.depth) l ls))

-- ---- the loops over them, from the last one on

-- one line more
line_more : (rows : List Extents) (i : ℕ) (d : Extents) → 0 < i → i ≤ length rows → drop (i - 1) rows ≡ get_or rows (i - 1) d ∷ drop i rows
line_more rows i d low far =
    let back : suc (i - 1) ≡ i = omega (arith, low) in
    drop-cons rows (i - 1) d (omega (arith, low, far)) ∙ ap (λ n. get_or rows (i - 1) d ∷ drop n rows) back

pub measured_more : (rows : List Extents) (i : ℕ) (d : Extents) (w t g w' t' : ℤ) → 0 < i → i ≤ length rows → w ≡ widest (drop i rows) → t ≡ lines_reach (drop i rows) → g ≡ first_gap (drop (i - 1) rows)
    → w' ≡ int_max (get_or rows (i - 1) d).width w → t' ≡ ((t +ℤ g) +ℤ (get_or rows (i - 1) d).depth) +ℤ (get_or rows (i - 1) d).height → (w' ≡ widest (drop (i - 1) rows)) × (t' ≡ lines_reach (drop (i - 1) rows))
measured_more rows i d w t g w' t' low far p q k a b =
    let next = line_more rows i d low far in
    let e : Extents = get_or rows (i - 1) d in
    let gap : g ≡ first_gap (e ∷ drop i rows) = k ∙ ap first_gap next in (
      a ∙ (ap (λ z. int_max e.width z) p ∙ ap widest (sym next)),
      b ∙ (ap (λ z. ((z +ℤ g) +ℤ e.depth) +ℤ e.height) q ∙ (ap (λ z. ((lines_reach (drop i rows) +ℤ z) +ℤ e.depth) +ℤ e.height) gap ∙ ap lines_reach (sym next))),
    )

pub joined_more : (rows : List Extents) (i : ℕ) (d : Extents) (y g b y' low : ℤ) (old now now' : List (List Place)) → All ExtentsInRange rows → 0 < i → i ≤ length rows → y ≡ lines_reach (drop i rows) -ℤ low → now ≡ lines_joined y (drop i rows) old
    → g ≡ first_gap (drop (i - 1) rows) → b ≡ (y +ℤ g) +ℤ (get_or rows (i - 1) d).depth → now' ≡ joined (moved_layer 1 (pos 0) b now) → y' ≡ b +ℤ to_z w64 (of_z w64 (get_or rows (i - 1) d).height)
    → (y' ≡ lines_reach (drop (i - 1) rows) -ℤ low) × (now' ≡ lines_joined y' (drop (i - 1) rows) old)
joined_more rows i d y g b y' low old now now' range first far edge h k at put up' =
    let next = line_more rows i d first far in
    let e : Extents = get_or rows (i - 1) d in
    let gap : g ≡ first_gap (e ∷ drop i rows) = k ∙ ap first_gap next in
    let sum : lines_reach (drop (i - 1) rows) ≡ ((lines_reach (drop i rows) +ℤ g) +ℤ e.depth) +ℤ e.height =
    ap lines_reach next ∙ ap (λ z. ((lines_reach (drop i rows) +ℤ z) +ℤ e.depth) +ℤ e.height) (sym gap) in
    let up : y' ≡ b +ℤ e.height = rw (kept max_dimen e.height (All-get_or ExtentsInRange rows (i - 1) d (omega (arith, first, far)) range).height (lit< tt)) at up' in
    let here : b ≡ y' -ℤ e.height = omega (arith, ints, up) in
    let under : y ≡ (b -ℤ e.depth) -ℤ first_gap (e ∷ drop i rows) = omega (arith, ints, at, gap) in (
      omega (arith, ints, sum, edge, at, up),
      put
          ∙ (ap (λ ls. joined (moved_layer 1 (pos 0) b ls)) (h ∙ ap (λ z. lines_joined z (drop i rows) old) under)
          ∙ (ap (λ z. joined (moved_layer 1 (pos 0) z (lines_joined ((z -ℤ e.depth) -ℤ first_gap (e ∷ drop i rows)) (drop i rows) old))) here
          ∙ ap (λ es. lines_joined y' es old) (sym next))),
    )

-- ---- the whole

pub lines_stack : (whole : Extents) (rows : List Extents) (ls : List Layout) (old rest : List (List Place)) → whole.height +ℤ whole.depth ≡ lines_reach rows → rows ≡ all_extents ls → old ≡ on_stack (all_places ls) rest
    → lines_joined (lines_reach rows -ℤ whole.depth) rows (begun old) ≡ lines_places whole.height ls ∷ rest
lines_stack whole rows ls old rest h r e =
    let high : lines_reach rows -ℤ whole.depth ≡ whole.height = omega (arith, ints, h) in
    ap (λ y. lines_joined y rows (begun old)) high ∙ rw (r, e) (lines_placed whole.height ls [] rest ∙ ap (λ ps. ps ∷ rest) (append-nil (lines_places whole.height ls)))

-- what was tested and placed
pub lines_made : (e whole : Extents) (ls : List Layout) (now rest : List (List Place)) → e ≡ whole → first_out whole ≡ None → now ≡ lines_places e.height ls ∷ rest
    → make_box (layout_with whole (lines_places whole.height ls)) ≡ Ok (layout_with e (top now))
lines_made e whole ls now rest is none s =
    make_box-ok (layout_with whole (lines_places whole.height ls)) none
    ∙ (sym (ap (λ (x : Extents). Ok (layout_with x (lines_places x.height ls))) is) ∙ ap (λ ps. Ok (layout_with e ps)) (sym (ap top s)))

pub vcenter_made : (fonts : SetValue) (size : Size) (rows : List Extents) (ls : List Layout) (whole : Extents) (width total : ℤ) (r : Result Extents PartError) (ps : List Place)
    → rows ≡ all_extents ls → width ≡ widest rows → total ≡ lines_reach rows
    → whole.width ≡ width → whole.height ≡ axis_height fonts size +ℤ half_of total → whole.depth ≡ total -ℤ (axis_height fonts size +ℤ half_of total)
    → SetsOn r ps (make_box (layout_with whole (lines_places whole.height ls))) → SetsOn r ps (vcenter fonts size ls)
unfolding vcenter
vcenter_made fonts size rows ls whole width total r ps is w t ew eh ed h =
    let wide : whole.width ≡ lines_width ls = ew ∙ (w ∙ (ap widest is ∙ width_is ls)) in
    let all : total ≡ lines_total ls = t ∙ (ap lines_reach is ∙ total_is ls) in
    let high : whole.height ≡ axis_height fonts size +ℤ half_of (lines_total ls) = eh ∙ ap (λ z. axis_height fonts size +ℤ half_of z) all in
    let deep : whole.depth ≡ lines_total ls -ℤ (axis_height fonts size +ℤ half_of (lines_total ls)) = ed ∙ ap (λ z. z -ℤ (axis_height fonts size +ℤ half_of z)) all in
    subst (λ l. SetsOn r ps (make_box l)) (layout_eq (extents_is whole _ _ _ wide high deep) (ap (λ y. lines_places y ls) high)) h
