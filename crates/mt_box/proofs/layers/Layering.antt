-- Layouts one on another, as lists of nodes: those of each, from the top one, after the nodes that are in none.
use Rattle.std.proofs.Common.{◌≡◌, ℕ, zero, suc, ◌≤◌, ◌+◌, ◌-◌, List, [], ◌∷◌, ◌++◌, length, map, take, drop, get_or, reverse, refl, arith, append_assoc, length-append, sym, ◌∙◌, ap, subst}
use Rattle.std.proofs.lemmas.List.{append-nil, map-append, take_at, drop_at, take-append-drop, length-take-le, length-drop, length-reverse, reverse-append, reverse-reverse, get_or_past}
use Rattle.mt_box.specs.declared.node.Node.{Node}
use Rattle.mt_box.specs.inner.Nodes.{node_places}
use Rattle.mt_box.specs.marks.inner.View.{layers, Fall}

abbrev pub laid : List Node → List (List Node) → List Node
laid f [] = f
laid f (c ∷ cs) = laid f cs ++ c

-- where each begins
abbrev pub begins : List Node → List (List Node) → List ℕ
begins f [] = []
begins f (c ∷ cs) = length (laid f cs) ∷ begins f cs

laid_on : (f : List Node) (us cs : List (List Node)) → laid f (us ++ cs) ≡ laid (laid f cs) us
laid_on f [] cs = refl
laid_on f (u ∷ us) cs = ap (λ r. r ++ u) (laid_on f us cs)

laid_after : (g : List Node) (us : List (List Node)) → laid g us ≡ g ++ laid [] us
laid_after g [] = sym (append-nil g)
laid_after g (u ∷ us) = ap (λ r. r ++ u) (laid_after g us) ∙ append_assoc g (laid [] us) u

pub laid_apart : (f : List Node) (us cs : List (List Node)) → laid f (us ++ cs) ≡ laid f cs ++ laid [] us
laid_apart f us cs = laid_on f us cs ∙ laid_after (laid f cs) us

length_laid : (g : List Node) (us : List (List Node)) → length (laid g us) ≡ length g + length (laid [] us)
length_laid g us = ap length (laid_after g us) ∙ length-append g (laid [] us)

pub begins_apart : (f : List Node) (us cs : List (List Node)) → begins f (us ++ cs) ≡ begins (laid f cs) us ++ begins f cs
begins_apart f [] cs = refl
begins_apart f (u ∷ us) cs = ap (λ r. length (laid f (us ++ cs)) ∷ r) (begins_apart f us cs) ∙ ap (λ g. length g ∷ (begins (laid f cs) us ++ begins f cs)) (laid_on f us cs)

pub length_begins : (f : List Node) (cs : List (List Node)) → length (begins f cs) ≡ length cs
length_begins f [] = refl
length_begins f (c ∷ cs) = ap suc (length_begins f cs)

-- they begin where they did, after as many nodes
pub same_begins : (g h : List Node) (us : List (List Node)) → length g ≡ length h → begins g us ≡ begins h us
same_begins g h [] e = refl
same_begins g h (u ∷ us) e = ap (λ r. length (laid g us) ∷ r) (same_begins g h us e) ∙ ap (λ k. k ∷ begins h us) (length_laid g us ∙ (ap (λ k. k + length (laid [] us)) e ∙ sym (length_laid h us)))

-- and lower, after fewer
pub lower_begins : (d : ℕ) (g h : List Node) (us : List (List Node)) → length g ≡ length h + d → map (λ n. n - d) (begins g us) ≡ begins h us
lower_begins d g h [] e = refl
lower_begins d g h (u ∷ us) e =
    let n : length (laid g us) - d ≡ length (laid h us) = omega (arith, e, length_laid g us, length_laid h us) in
    ap (λ r. (length (laid g us) - d) ∷ r) (lower_begins d g h us e) ∙ ap (λ k. k ∷ begins h us) n

-- and higher, after more
pub raise_begins : (g h : List Node) (us : List (List Node)) → map (λ n. n - length g + length h) (begins g us) ≡ begins h us
raise_begins g h [] = refl
raise_begins g h (u ∷ us) =
    let n : length (laid g us) - length g + length h ≡ length (laid h us) = omega (arith, length_laid g us, length_laid h us) in
    ap (λ r. (length (laid g us) - length g + length h) ∷ r) (raise_begins g h us) ∙ ap (λ k. k ∷ begins h us) n

-- ---- a list of nodes, and where layouts begin in it, from the top one

pub record Are (is : List Node) (ss : List ℕ) (f : List Node) (cs : List (List Node)) : Type 0 where
  pub nodes : is ≡ laid f cs
  pub starts : ss ≡ begins f cs

seen_all : (f : List Node) (cs : List (List Node)) → layers (laid f cs) (begins f cs) ≡ map node_places cs
seen_all f [] = refl
seen_all f (c ∷ cs) = rw (drop_at (laid f cs) c (length (laid f cs)) refl, take_at (laid f cs) c (length (laid f cs)) refl, seen_all f cs) refl

pub seen : {is : List Node} {ss : List ℕ} {f : List Node} {cs : List (List Node)} → Are is ss f cs → layers is ss ≡ map node_places cs
seen {is} {ss} {f} {cs} h = ap (λ z. layers z ss) h.nodes ∙ (ap (layers (laid f cs)) h.starts ∙ seen_all f cs)

-- with one of them apart
pub seen_at : {is : List Node} {ss : List ℕ} {f : List Node} (us : List (List Node)) (c : List Node) (cs : List (List Node)) → Are is ss f (us ++ c ∷ cs) → layers is ss ≡ map node_places us ++ node_places c ∷ map node_places cs
seen_at {is} {ss} {f} us c cs h = seen h ∙ map-append node_places us (c ∷ cs)

fall_all : (f : List Node) (cs : List (List Node)) → Fall (length (laid f cs)) (begins f cs)
fall_all f [] = tt
fall_all f (c ∷ cs) = (omega (arith, length-append (laid f cs) c), fall_all f cs)

pub falls : {is : List Node} {ss : List ℕ} {f : List Node} {cs : List (List Node)} → Are is ss f cs → Fall (length is) ss
falls {is} {ss} {f} {cs} h = subst (λ z. Fall (length z) ss) (sym h.nodes) (subst (Fall (length (laid f cs))) (sym h.starts) (fall_all f cs))

pub record Lists (is : List Node) (ss : List ℕ) : Type 0 where
  pub f : List Node
  pub cs : List (List Node)
  pub are : Are is ss f cs

pub lists : (is : List Node) (ss : List ℕ) → Fall (length is) ss → Lists is ss
lists is [] h = record { f = is; cs = []; are = record { nodes = refl; starts = refl } }
lists is (s ∷ ss) h =
    let n : length (take s is) ≡ s = length-take-le s is h.0 in
    let p = lists (take s is) ss (subst (λ z. Fall z ss) (sym n) h.1) in
    record {
      f = p.f;
      cs = drop s is ∷ p.cs;
      are = record {
        nodes = sym (take-append-drop s is) ∙ ap (λ r. r ++ drop s is) p.are.nodes;
        starts = ap (λ r. s ∷ r) p.are.starts ∙ ap (λ k. k ∷ begins p.f p.cs) (sym n ∙ ap length p.are.nodes);
      };
    }

pub length_layers : (is : List Node) (ss : List ℕ) → length (layers is ss) ≡ length ss
length_layers is [] = refl
length_layers is (s ∷ ss) = ap suc (length_layers (take s is) ss)

-- ---- split under so many of them

pub record Split (is : List Node) (ns : List ℕ) (k : ℕ) : Type 0 where
  pub f : List Node
  pub us : List (List Node)
  pub cs : List (List Node)
  pub are : Are is (reverse ns) f (us ++ cs)
  pub above : length us ≡ k
  pub below : length cs ≡ length ns - k

pub split : (is : List Node) (ns : List ℕ) (k : ℕ) → k ≤ length ns → Fall (length is) (reverse ns) → Split is ns k
split is ns k le h =
    let p = lists is (reverse ns) h in
    let n : length p.cs ≡ length ns = sym (length_begins p.f p.cs) ∙ (sym (ap length p.are.starts) ∙ length-reverse ns) in
    record {
      f = p.f;
      us = take k p.cs;
      cs = drop k p.cs;
      are = subst (Are is (reverse ns) p.f) (sym (take-append-drop k p.cs)) p.are;
      above = length-take-le k p.cs (omega (arith, n, le));
      below = length-drop k p.cs ∙ ap (λ z. z - k) n;
    }

more_default : (xs : List ℕ) (s n i : ℕ) → i ≤ length xs → get_or (xs ++ s ∷ []) i n ≡ get_or xs i s
more_default [] s n zero h = refl
more_default [] s n (suc i) h = absurd (omega (arith, h))
more_default (x ∷ xs) s n zero h = refl
more_default (x ∷ xs) s n (suc i) h = more_default xs s n i (omega (arith, h))

begins_at : (f : List Node) (us cs : List (List Node)) → get_or (reverse (begins f (us ++ cs))) (length cs) (length (laid f (us ++ cs))) ≡ length (laid f cs)
begins_at f [] cs = get_or_past (reverse (begins f cs)) (length cs) (length (laid f cs)) (omega (arith, length-reverse (begins f cs), length_begins f cs))
begins_at f (u ∷ us) cs =
    let bs = begins f (us ++ cs) in
    let s = length (laid f (us ++ cs)) in
    let few : length cs ≤ length (reverse bs) = omega (arith, length-reverse bs, length_begins f (us ++ cs), length-append us cs) in
    ap (λ r. get_or r (length cs) (length (laid f (us ++ cs) ++ u))) (reverse-append (s ∷ []) bs)
    ∙ (more_default (reverse bs) s (length (laid f (us ++ cs) ++ u)) (length cs) few ∙ begins_at f us cs)

-- where the top one of those below ends
pub ends : {is : List Node} {f : List Node} {all : List (List Node)} (ns : List ℕ) (us cs : List (List Node)) (n i a : ℕ) → Are is (reverse ns) f all → all ≡ us ++ cs → n ≡ length is → length cs ≡ i → a ≡ get_or ns i n → a ≡ length (laid f cs)
ends {is} {f} {all} ns us cs n i a h w l b e =
    let s : ns ≡ reverse (begins f (us ++ cs)) = sym (reverse-reverse ns) ∙ ap reverse (h.starts ∙ ap (begins f) w) in
    let m : n ≡ length (laid f (us ++ cs)) = l ∙ ap length (h.nodes ∙ ap (laid f) w) in
    e ∙ (ap (λ z. get_or z i n) s ∙ (ap (λ z. get_or (reverse (begins f (us ++ cs))) z n) (sym b) ∙ (ap (get_or (reverse (begins f (us ++ cs))) (length cs)) m ∙ begins_at f us cs)))

-- the parts of a list that ends are put at
pub record Apart (is g m u : List Node) (a e : ℕ) : Type 0 where
  pub front : take a is ≡ g
  pub middle : take (e - a) (drop a is) ≡ m
  pub back : drop e is ≡ u
  pub low : a ≤ e
  pub high : e ≤ length is

pub apart : (is g m u : List Node) (a e : ℕ) → is ≡ g ++ (m ++ u) → a ≡ length g → e ≡ length g + length m → Apart is g m u a e
apart is g m u a e w s t =
    let d : drop a is ≡ m ++ u = ap (drop a) w ∙ drop_at g (m ++ u) a (sym s) in
    record {
      front = ap (take a) w ∙ take_at g (m ++ u) a (sym s);
      middle = ap (take (e - a)) d ∙ take_at m u (e - a) (omega (arith, s, t));
      back = ap (drop e) (w ∙ sym (append_assoc g m u)) ∙ drop_at (g ++ m) u e (length-append g m ∙ sym t);
      low = omega (arith, s, t);
      high = omega (arith, t, ap length w, length-append g (m ++ u), length-append m u);
    }
