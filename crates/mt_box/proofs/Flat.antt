-- Nodes none of which is in another.
use Rattle.std.proofs.Common.{◌≡◌, ℕ, zero, suc, ◌<◌, ◌≤◌, ◌+◌, List, [], ◌∷◌, ◌++◌, length, drop, get_or, ℤ, pos, ◌+ℤ◌, ◌-ℤ◌, refl, arith, sym, ◌∙◌, ap, Bool, true, false, eq-eqb, ◌==◌, nat_lt, nat_le, ◌&&◌, drop-drop}
use Rattle.std.proofs.lemmas.Int.{ints}
use Rattle.std.proofs.lemmas.Bool.Decides.{nat_tests}
use Rattle.std.proofs.lemmas.List.Elements.{All-nil, All-cons}
use Rattle.mt_scaled.specs.Number.{Within}
use Rattle.mt_box.specs.declared.place.Place.{Place}
use Rattle.mt_box.specs.declared.node.Node.{Node}
use Rattle.mt_box.specs.Unfold.{marks, unfolded_in, unfolded, is_nested_in, is_nested}
use Rattle.mt_box.specs.inner.Nodes.{node_places, nodes_moved, HasMark, AreMarks, AreFlat}

-- ---- which nodes they are

pub flat_marks : (far i : ℕ) (ns : List Node) → AreFlat far i ns → AreMarks ns
flat_marks far i [] h = All-nil HasMark
flat_marks far i (n ∷ ns) h = All-cons HasMark n ns h.2 (flat_marks far (i + 1) ns h.3)

pub flat_wider : (a b i : ℕ) (ns : List Node) → a ≤ b → AreFlat a i ns → AreFlat b i ns
flat_wider a b i [] le h = tt
flat_wider a b i (n ∷ ns) le h = (h.0, record { low = omega (arith, ints, h.1.low, le); high = omega (arith, ints, h.1.high, le) }, h.2, flat_wider a b (i + 1) ns le h.3)

pub flat_near : (far i k : ℕ) (ns : List Node) (d : Node) → k < length ns → AreFlat far i ns → Within far (get_or ns k d).x
flat_near far i k [] d low h = absurd (omega (arith, low))
flat_near far i zero (n ∷ ns) d low h = h.1
flat_near far i (suc k) (n ∷ ns) d low h = flat_near far (i + 1) k ns d (omega (arith, low)) h.3

pub flat_moved : (far by i : ℕ) (d : ℤ) (ns : List Node) → Within by d → AreFlat far i ns → AreFlat (far + by) i (nodes_moved d (pos 0) ns)
flat_moved far by i d [] near h = tt
flat_moved far by i d (n ∷ ns) near h = (h.0, record { low = omega (arith, ints, h.1.low, near.low); high = omega (arith, ints, h.1.high, near.high) }, h.2, flat_moved far by (i + 1) d ns near h.3)

-- ---- what they unfold to

is_same : (i end : ℕ) → end ≡ i → (i == end) ≡ true
is_same i end e = eq-eqb i end (sym e)

is_less : (i end : ℕ) → i < end → (i == end) ≡ false
is_less i end h = grind (arith, nat_tests)

next_node : (i : ℕ) (nodes ns : List Node) (n : Node) → drop i nodes ≡ n ∷ ns → drop (i + 1) nodes ≡ ns
next_node i nodes ns n at = sym (drop-drop 1 i nodes) ∙ ap (drop 1) at

none_inside : (turns : ℕ) (nodes : List Node) (i end : ℕ) (x y : ℤ) → end ≡ i → unfolded_in turns nodes i end x y ≡ []
none_inside zero nodes i end x y e = refl
none_inside (suc turns) nodes i end x y e = rw (is_same i end e) refl

one_node : (turns : ℕ) (nodes ns : List Node) (i end : ℕ) (n : Node) → i < end → drop i nodes ≡ n ∷ ns
    → unfolded_in (suc turns) nodes i end (pos 0) (pos 0)
    ≡ marks n.mark (pos 0 +ℤ n.x) (pos 0 -ℤ (pos 0 +ℤ n.y)) ++ (unfolded_in turns nodes (i + 1) n.after.0 (pos 0 +ℤ n.x) (pos 0 +ℤ n.y) ++ unfolded_in turns nodes n.after.0 end (pos 0) (pos 0))
one_node turns nodes ns i end n h e = rw (is_less i end h, e) refl

parts_eq : {a a' b b' c c' : List Place} → a ≡ a' → b ≡ b' → c ≡ c' → a ++ (b ++ c) ≡ a' ++ (b' ++ c')
parts_eq p q r = cc

unfolded_flat : (far turns i end : ℕ) (nodes ns : List Node) → drop i nodes ≡ ns → length ns ≤ turns → end ≡ i + length ns → AreFlat far i ns
    → unfolded_in turns nodes i end (pos 0) (pos 0) ≡ node_places ns
unfolded_flat far zero i end nodes [] at few is h = refl
unfolded_flat far zero i end nodes (n ∷ ns) at few is h = absurd (omega (arith, few))
unfolded_flat far (suc turns) i end nodes [] at few is h = none_inside (suc turns) nodes i end (pos 0) (pos 0) (omega (arith, is))
unfolded_flat far (suc turns) i end nodes (n ∷ ns) at few is h =
    let right : pos 0 +ℤ n.x ≡ n.x = omega (arith, ints) in
    let up : pos 0 -ℤ (pos 0 +ℤ n.y) ≡ pos 0 -ℤ n.y = omega (arith, ints) in
    one_node turns nodes ns i end n (omega (arith, is)) at
    ∙ parts_eq {b' = []}
    (ap (λ h. marks n.mark h (pos 0 -ℤ (pos 0 +ℤ n.y))) right ∙ ap (λ v. marks n.mark n.x v) up)
    (none_inside turns nodes (i + 1) n.after.0 (pos 0 +ℤ n.x) (pos 0 +ℤ n.y) h.0)
    (ap (λ k. unfolded_in turns nodes k end (pos 0) (pos 0)) h.0
    ∙ unfolded_flat far turns (i + 1) end nodes ns (next_node i nodes ns n at) (omega (arith, few)) (omega (arith, is)) h.3)

pub places_unfolded : (far : ℕ) (nodes : List Node) → AreFlat far 0 nodes → unfolded nodes ≡ node_places nodes
places_unfolded far nodes h = unfolded_flat far (length nodes) 0 (length nodes) nodes nodes refl (omega arith) (omega arith) h

-- ---- they are nested

none_nested : (turns : ℕ) (nodes : List Node) (i end : ℕ) → end ≡ i → is_nested_in turns nodes i end ≡ true
none_nested zero nodes i end e = is_same i end e
none_nested (suc turns) nodes i end e = rw (is_same i end e) refl

one_nested : (turns : ℕ) (nodes ns : List Node) (i end : ℕ) (n : Node) → i < end → drop i nodes ≡ n ∷ ns
    → is_nested_in (suc turns) nodes i end ≡ (nat_lt i n.after.0 && nat_le n.after.0 end && is_nested_in turns nodes (i + 1) n.after.0 && is_nested_in turns nodes n.after.0 end)
one_nested turns nodes ns i end n h e = rw (is_less i end h, e) refl

all_four : (a b c d : Bool) → a ≡ true → b ≡ true → c ≡ true → d ≡ true → (a && b && c && d) ≡ true
all_four a b c d p q r s = rw (p, q, r, s) refl

is_below : (a b : ℕ) → a < b → nat_lt a b ≡ true
is_below a b h = grind (arith, nat_tests)

is_within : (a b : ℕ) → a ≤ b → nat_le a b ≡ true
is_within a b h = grind (arith, nat_tests)

nested_flat : (far turns i end : ℕ) (nodes ns : List Node) → drop i nodes ≡ ns → length ns ≤ turns → end ≡ i + length ns → AreFlat far i ns → is_nested_in turns nodes i end ≡ true
nested_flat far turns i end nodes [] at few is h = none_nested turns nodes i end (omega (arith, is))
nested_flat far zero i end nodes (n ∷ ns) at few is h = absurd (omega (arith, few))
nested_flat far (suc turns) i end nodes (n ∷ ns) at few is h =
    one_nested turns nodes ns i end n (omega (arith, is)) at
    ∙ all_four (nat_lt i n.after.0) (nat_le n.after.0 end) (is_nested_in turns nodes (i + 1) n.after.0) (is_nested_in turns nodes n.after.0 end)
    (is_below i n.after.0 (omega (arith, h.0))) (is_within n.after.0 end (omega (arith, h.0, is)))
    (none_nested turns nodes (i + 1) n.after.0 h.0)
    (ap (λ k. is_nested_in turns nodes k end) h.0
    ∙ nested_flat far turns (i + 1) end nodes ns (next_node i nodes ns n at) (omega (arith, few)) (omega (arith, is)) h.3)

pub flat_nested : (far : ℕ) (nodes : List Node) → AreFlat far 0 nodes → is_nested nodes ≡ true
flat_nested far nodes h = nested_flat far (length nodes) 0 (length nodes) nodes nodes refl (omega arith) (omega arith) h
