-- Layouts that are put on others and taken off, and those that are not there.
use Rattle.std.proofs.Common.{◌≡◌, ℕ, zero, suc, ◌≤◌, ◌+◌, ◌-◌, List, [], ◌∷◌, ◌++◌, length, take, drop, get_or, reverse, ℤ, pos, ◌-ℤ◌, refl, arith, length-append, sym, ◌∙◌, ap, subst}
use Rattle.std.proofs.lemmas.List.{append-nil, take_all, drop_all, take_at, drop_at, drop-append-le, take-append-le, take_more, length-take-le, length_push, reverse-append}
use Rattle.mt_box.specs.declared.node.Node.{Node}
use Rattle.mt_box.specs.Unfold.{marks}
use Rattle.mt_box.specs.inner.Nodes.{node_places}
use Rattle.mt_box.specs.marks.Layers.{begun, put_on, moved_layer, joined, swapped_layers, top}
use Rattle.mt_box.specs.marks.inner.View.{layers, Fall}
use Rattle.mt_box.specs.declared.place.Place.{Place}
use Rattle.mt_box.proofs.Moved.{moved_zero}
use Rattle.mt_box.proofs.NodePlaces.{places_append}

pub top_more : (ns : List ℕ) (n : ℕ) → reverse (ns ++ n ∷ []) ≡ n ∷ reverse ns
top_more ns n = reverse-append ns (n ∷ [])

-- the last one, and those before it
pub last_apart : (ns : List ℕ) → 1 ≤ length ns → reverse ns ≡ get_or ns (length ns - 1) 0 ∷ reverse (take (length ns - 1) ns)
last_apart ns h =
    let e : length ns ≡ length ns - 1 + 1 = omega (arith, h) in
    let m : take (length ns - 1 + 1) ns ≡ take (length ns - 1) ns ++ get_or ns (length ns - 1) 0 ∷ [] = take_more ns (length ns - 1) 0 (omega (arith, h)) in
    let w : ns ≡ take (length ns - 1) ns ++ get_or ns (length ns - 1) 0 ∷ [] = sym (take_all (length ns) ns (omega arith)) ∙ (ap (λ k. take k ns) e ∙ m) in
    ap reverse w ∙ top_more (take (length ns - 1) ns) (get_or ns (length ns - 1) 0)

-- without the last one
pub rest_of : (ns rest : List ℕ) (s : ℕ) → 1 ≤ length ns → reverse ns ≡ s ∷ rest → reverse (take (length ns - 1) ns) ≡ rest
rest_of ns rest s h e = let f = sym (last_apart ns h) ∙ e in cc

-- ---- a layout more, and a mark more

pub fall_more : (n m : ℕ) (ts : List ℕ) → Fall n ts → n ≤ m → Fall m ts
fall_more n m [] h le = tt
fall_more n m (t ∷ ts) h le = (omega (arith, h.0, le), h.1)

pub layers_begun : (is : List Node) (ss : List ℕ) → layers is (length is ∷ ss) ≡ begun (layers is ss)
layers_begun is ss = rw (drop_all (length is) is (omega arith), take_all (length is) is (omega arith)) refl

pub layers_put : (is : List Node) (i : Node) (ss : List ℕ) → Fall (length is) ss → layers (is ++ i ∷ []) ss ≡ put_on (marks i.mark i.x (pos 0 -ℤ i.y)) (layers is ss)
layers_put is i [] h = refl
layers_put is i (s ∷ ss) h =
    let d : drop s (is ++ i ∷ []) ≡ drop s is ++ i ∷ [] = drop-append-le s is (i ∷ []) h.0 in
    let t : take s (is ++ i ∷ []) ≡ take s is = take-append-le s is (i ∷ []) h.0 in
    rw (d, t, places_append (drop s is) (i ∷ []), append-nil (marks i.mark i.x (pos 0 -ℤ i.y))) refl

pub put_fall : (is is' : List Node) (i : Node) (ts : List ℕ) → is' ≡ is ++ i ∷ [] → Fall (length is) ts → Fall (length is') ts
put_fall is is' i ts e h = fall_more (length is) (length is') ts h (omega (arith, ap length e, length_push is i))

pub split_layers : (g v : List Node) (t : ℕ) (ts : List ℕ) → length g ≡ t → layers (g ++ v) (t ∷ ts) ≡ node_places v ∷ layers g ts
split_layers g v t ts l = rw (drop_at g v t l, take_at g v t l) refl

pub pushed_view : (is js ms : List Node) (ns ns' : List ℕ) (n : ℕ) → js ≡ is ++ ms → n ≡ length is → ns' ≡ ns ++ n ∷ [] → layers js (reverse ns') ≡ node_places ms ∷ layers is (reverse ns)
pushed_view is js ms ns ns' n j l e =
    ap (λ (r : List Node). layers r (reverse ns')) j
    ∙ (ap (λ r. layers (is ++ ms) (reverse r)) e
    ∙ (ap (layers (is ++ ms)) (top_more ns n)
    ∙ split_layers is ms n (reverse ns) (sym l)))

pub pushed_fall : (is js ms : List Node) (ns ns' : List ℕ) (n : ℕ) → js ≡ is ++ ms → n ≡ length is → ns' ≡ ns ++ n ∷ [] → Fall (length is) (reverse ns) → Fall (length js) (reverse ns')
pushed_fall is js ms ns ns' n j l e h =
    subst (Fall (length js)) (sym (ap reverse e ∙ top_more ns n)) (omega (arith, l, ap length j, length-append is ms), subst (λ k. Fall k (reverse ns)) (sym l) h)

-- ---- the top one

pub dropped_fall : (is is' : List Node) (ns ns' : List ℕ) (s : ℕ) → is' ≡ take s is → ns ≡ ns' ++ s ∷ [] → Fall (length is) (reverse ns) → Fall (length is') (reverse ns')
dropped_fall is is' ns ns' s e f h =
    let both : Fall (length is) (s ∷ reverse ns') = subst (Fall (length is)) (ap reverse f ∙ top_more ns' s) h in
    subst (λ n. Fall n (reverse ns')) (sym (ap length e ∙ length-take-le s is both.0)) both.1

pub top_places : (is : List Node) (ns ms : List ℕ) (n s : ℕ) → ms ≡ ns → n ≡ length is → s ≡ get_or (reverse ms) 0 n → node_places (drop s is) ≡ top (layers is (reverse ns))
top_places is ns ms n s m l at =
    ap (λ k. node_places (drop k is)) (at ∙ (ap (λ r. get_or (reverse r) 0 n) m ∙ ap (λ k. get_or (reverse ns) 0 k) l)) ∙ by_top (reverse ns)
  where
    by_top : (ts : List ℕ) → node_places (drop (get_or ts 0 (length is)) is) ≡ top (layers is ts)
    by_top [] = ap node_places (drop_all (length is) is (omega arith))
    by_top (t ∷ ts) = refl

-- ---- it is moved by nothing, or there is none so far below

pub still_layer : (k : ℕ) (ls : List (List Place)) → ls ≡ moved_layer k (pos 0) (pos 0) ls
still_layer k [] = refl
still_layer zero (l ∷ ls) = ap (λ z. z ∷ ls) (sym (moved_zero l))
still_layer (suc k) (l ∷ ls) = ap (λ z. l ∷ z) (still_layer k ls)

pub beyond : (x y : ℤ) (k : ℕ) (is : List Node) (ts : List ℕ) → length ts ≤ k → layers is ts ≡ moved_layer k x y (layers is ts)
beyond x y k is [] h = refl
beyond x y zero is (t ∷ ts) h = absurd (omega (arith, h))
beyond x y (suc k) is (t ∷ ts) h = ap (λ r. node_places (drop t is) ∷ r) (beyond x y k (take t is) ts (omega (arith, h)))

-- fewer than two
pub alone_joined : (is : List Node) (ts : List ℕ) → length ts ≤ 1 → layers is ts ≡ joined (layers is ts)
alone_joined is [] h = refl
alone_joined is (t ∷ []) h = refl
alone_joined is (t ∷ s ∷ ts) h = absurd (omega (arith, h))

pub alone_swapped : (k : ℕ) (is : List Node) (ts : List ℕ) → length ts ≤ k + 1 → layers is ts ≡ swapped_layers k (layers is ts)
alone_swapped k is [] h = refl
alone_swapped zero is (t ∷ []) h = refl
alone_swapped zero is (t ∷ s ∷ ts) h = absurd (omega (arith, h))
alone_swapped (suc k) is (t ∷ ts) h = ap (λ r. node_places (drop t is) ∷ r) (alone_swapped k (take t is) ts (omega (arith, h)))
