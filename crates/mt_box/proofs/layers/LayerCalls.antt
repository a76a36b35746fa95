-- What the calls of `Marks` do to layouts and to where they begin.
use Rattle.std.proofs.Common.{◌≡◌, ℕ, ◌<◌, ◌≤◌, ◌+◌, ◌-◌, min, List, [], ◌∷◌, ◌++◌, length, map, take, drop, set, get_or, reverse, ℤ, refl, arith, append_assoc, length-append, sym, ◌∙◌, ap}
use Rattle.std.proofs.lemmas.List.{map-append, take_at, drop_at, set_at, take_min, drop_min, take-append-drop, length-take-le, length-drop, length-reverse, length-map, reverse-append, reverse-reverse}
use Rattle.std.proofs.lemmas.List.Elements.{All-append, All-take, All-drop}
use Rattle.mt_box.specs.declared.node.Node.{Node}
use Rattle.mt_box.specs.declared.place.Place.{Place}
use Rattle.mt_box.specs.Layout.{all_moved}
use Rattle.mt_box.specs.inner.Nodes.{node_places, node_moved, nodes_moved, HasMark, AreMarks}
use Rattle.mt_box.specs.marks.Layers.{moved_layer, joined, swapped_layers}
use Rattle.mt_box.specs.marks.inner.View.{layers, Fall}
use Rattle.mt_box.proofs.NodePlaces.{places_append, places_moved}
use Rattle.mt_box.proofs.layers.Layering.{laid, begins, laid_apart, begins_apart, same_begins, lower_begins, length_begins, Are, seen, seen_at, falls, length_layers, split, lists, ends, Apart, apart}
use Rattle.mt_box.proofs.layers.StartLists.{rest_of}

-- ---- one of them

pub record Found (is : List Node) (ns : List ℕ) (k a e : ℕ) : Type 0 where
  pub f : List Node
  pub us : List (List Node)
  pub c : List Node
  pub cs : List (List Node)
  pub are : Are is (reverse ns) f (us ++ c ∷ cs)
  pub above : length us ≡ k
  pub cut : Apart is (laid f cs) c (laid [] us) a e

whole : (f c : List Node) (us cs : List (List Node)) → laid f (us ++ c ∷ cs) ≡ laid f cs ++ (c ++ laid [] us)
whole f c us cs = laid_apart f us (c ∷ cs) ∙ append_assoc (laid f cs) c (laid [] us)

pub found : (is : List Node) (ns : List ℕ) (k n a e : ℕ) → n ≡ length is → Fall (length is) (reverse ns) → k < length ns
    → a ≡ get_or ns (length ns - (k + 1)) n → e ≡ get_or ns (length ns - k) n → Found is ns k a e
found is ns k n a e l h low s t = let p = split is ns k (omega (arith, low)) h in by_rest p.f p.us p.cs p.are p.above p.below
  where
    by_rest : (f : List Node) (us cs : List (List Node)) → Are is (reverse ns) f (us ++ cs) → length us ≡ k → length cs ≡ length ns - k → Found is ns k a e
    by_rest f us [] are above below = absurd (omega (arith, below, low))
    by_rest f us (c ∷ cs) are above below =
        let start = ends ns (us ++ c ∷ []) cs n _ a are (sym (append_assoc us (c ∷ []) cs)) l (omega (arith, below)) s in
        let end = ends ns us (c ∷ cs) n _ e are refl l below t in
        record { f = f; us = us; c = c; cs = cs; are = are; above = above; cut = apart is (laid f cs) c (laid [] us) a e (are.nodes ∙ whole f c us cs) start (end ∙ length-append (laid f cs) c) }

moved_at : (x y : ℤ) (xs : List (List Place)) (l : List Place) (zs : List (List Place)) → moved_layer (length xs) x y (xs ++ l ∷ zs) ≡ xs ++ all_moved x y l ∷ zs
moved_at x y [] l zs = refl
moved_at x y (a ∷ xs) l zs = ap (λ r. a ∷ r) (moved_at x y xs l zs)

pub moved_view : (is is' : List Node) (ns : List ℕ) (k a e : ℕ) (x y : ℤ) → Found is ns k a e → is' ≡ take a is ++ (nodes_moved x y (take (e - a) (drop a is)) ++ drop e is)
    → layers is' (reverse ns) ≡ moved_layer k x y (layers is (reverse ns))
moved_view is is' ns k a e x y p eq =
    let g = laid p.f p.cs in
    let m = nodes_moved x y p.c in
    let xs = map node_places p.us in
    let zs = map node_places p.cs in
    let len : length (g ++ p.c) ≡ length (g ++ m) = omega (arith, length-append g p.c, length-append g m, length-map p.c (node_moved x y)) in
    let now : Are is' (reverse ns) p.f (p.us ++ m ∷ p.cs) = record {
      nodes = (rw (p.cut.front, p.cut.middle, p.cut.back) at eq) ∙ sym (whole p.f m p.us p.cs);
      starts = p.are.starts ∙ (begins_apart p.f p.us (p.c ∷ p.cs) ∙ (ap (λ r. r ++ length g ∷ begins p.f p.cs) (same_begins (g ++ p.c) (g ++ m) p.us len) ∙ sym (begins_apart p.f p.us (m ∷ p.cs))));
    } in
    seen_at p.us m p.cs now ∙ (ap (λ l. xs ++ l ∷ zs) (places_moved x y p.c) ∙ (sym (moved_at x y xs (node_places p.c) zs)
    ∙ (ap (λ j. moved_layer j x y (xs ++ node_places p.c ∷ zs)) (length-map p.us node_places ∙ p.above) ∙ ap (moved_layer k x y) (sym (seen_at p.us p.c p.cs p.are)))))

-- ---- the two on top become one

pub record Now (is : List Node) (ns : List ℕ) (view : List (List Place)) : Type 0 where
  pub view_is : layers is (reverse ns) ≡ view
  pub fall : Fall (length is) (reverse ns)

pub join_now : (is : List Node) (ns ns' : List ℕ) → 2 ≤ length ns → Fall (length is) (reverse ns) → ns' ≡ take (length ns - 1) ns → Now is ns' (joined (layers is (reverse ns)))
join_now is ns ns' low h e = let p = lists is (reverse ns) h in by_lists p.f p.cs p.are
  where
    count : {f : List Node} {cs : List (List Node)} → Are is (reverse ns) f cs → length cs ≡ length ns
    count {f} {cs} are = sym (length_begins f cs) ∙ (sym (ap length are.starts) ∙ length-reverse ns)

    by_lists : (f : List Node) (cs : List (List Node)) → Are is (reverse ns) f cs → Now is ns' (joined (layers is (reverse ns)))
    by_lists f [] are = absurd (omega (arith, low, count are))
    by_lists f (t ∷ []) are = absurd (omega (arith, low, count are))
    by_lists f (t ∷ u ∷ cs) are =
        let now : Are is (reverse ns') f ((u ++ t) ∷ cs) = record { nodes = are.nodes ∙ append_assoc (laid f cs) u t; starts = ap reverse e ∙ rest_of ns (begins f (u ∷ cs)) _ (omega (arith, low)) are.starts } in
        record { view_is = seen now ∙ (ap (λ l. l ∷ map node_places cs) (places_append u t) ∙ ap joined (sym (seen are))); fall = falls now }

-- ---- two neighbours change places

pub record FoundTwo (is : List Node) (ns : List ℕ) (k a s e : ℕ) : Type 0 where
  pub f : List Node
  pub us : List (List Node)
  pub d : List Node
  pub c : List Node
  pub cs : List (List Node)
  pub are : Are is (reverse ns) f (us ++ d ∷ c ∷ cs)
  pub above : length us ≡ k
  pub below : length cs + 2 + k ≡ length ns
  pub start : a ≡ length (laid f cs)
  pub middle : s ≡ length (laid f cs) + length c
  pub end : e ≡ length (laid f cs) + (length c + length d)
  pub cut : Apart is (laid f cs) (c ++ d) (laid [] us) a e

two_whole : (f d c : List Node) (us cs : List (List Node)) → laid f (us ++ d ∷ c ∷ cs) ≡ laid f cs ++ ((c ++ d) ++ laid [] us)
two_whole f d c us cs = laid_apart f us (d ∷ c ∷ cs) ∙ regrouped (laid f cs) c d (laid [] us)
  where
    regrouped : (g c d u : List Node) → ((g ++ c) ++ d) ++ u ≡ g ++ ((c ++ d) ++ u)
    regrouped g c d u = simp append_assoc

pub found_two : (is : List Node) (ns : List ℕ) (k n a s e : ℕ) → n ≡ length is → Fall (length is) (reverse ns) → k + 1 < length ns
    → a ≡ get_or ns (length ns - (k + 1 + 1)) n → s ≡ get_or ns (length ns - (k + 1)) n → e ≡ get_or ns (length ns - k) n → FoundTwo is ns k a s e
found_two is ns k n a s e l h low q r t = let p = split is ns k (omega (arith, low)) h in by_rest p.f p.us p.cs p.are p.above p.below
  where
    by_rest : (f : List Node) (us cs : List (List Node)) → Are is (reverse ns) f (us ++ cs) → length us ≡ k → length cs ≡ length ns - k → FoundTwo is ns k a s e
    by_rest f us [] are above below = absurd (omega (arith, below, low))
    by_rest f us (d ∷ []) are above below = absurd (omega (arith, below, low))
    by_rest f us (d ∷ c ∷ cs) are above below =
        let g = laid f cs in
        let start = ends ns (us ++ d ∷ c ∷ []) cs n _ a are (sym (append_assoc us (d ∷ c ∷ []) cs)) l (omega (arith, below)) q in
        let mid = ends ns (us ++ d ∷ []) (c ∷ cs) n _ s are (sym (append_assoc us (d ∷ []) (c ∷ cs))) l (omega (arith, below)) r in
        let all = ends ns us (d ∷ c ∷ cs) n _ e are refl l below t in
        let end : e ≡ length g + (length c + length d) = omega (arith, all, length-append (g ++ c) d, length-append g c) in
        record {
          f = f;
          us = us;
          d = d;
          c = c;
          cs = cs;
          are = are;
          above = above;
          below = omega (arith, below, low);
          start = start;
          middle = mid ∙ length-append g c;
          end = end;
          cut = apart is g (c ++ d) (laid [] us) a e (are.nodes ∙ two_whole f d c us cs) start (end ∙ ap (λ z. length g + z) (sym (length-append c d)));
        }

swapped_at : (xs : List (List Place)) (u l : List Place) (zs : List (List Place)) → swapped_layers (length xs) (xs ++ u ∷ l ∷ zs) ≡ xs ++ l ∷ u ∷ zs
swapped_at [] u l zs = refl
swapped_at (a ∷ xs) u l zs = ap (λ r. a ∷ r) (swapped_at xs u l zs)

-- one of the starts is another
set_turned : (ns xs : List ℕ) (x : ℕ) (zs : List ℕ) (v i : ℕ) → reverse ns ≡ xs ++ x ∷ zs → length zs ≡ i → reverse (set ns i v) ≡ xs ++ v ∷ zs
set_turned ns xs x zs v i h l =
    ap (λ z. reverse (set z i v)) (sym (reverse-reverse ns) ∙ (ap reverse h ∙ turned x)) ∙ (ap reverse (set_at (reverse zs) x (reverse xs) v i (length-reverse zs ∙ l) ∙ sym (turned v)) ∙ reverse-reverse (xs ++ v ∷ zs))
  where
    turned : (y : ℕ) → reverse (xs ++ y ∷ zs) ≡ reverse zs ++ y ∷ reverse xs
    turned y = reverse-append xs (y ∷ zs) ∙ (ap (λ r. r ++ reverse xs) (reverse-append (y ∷ []) zs) ∙ append_assoc (reverse zs) (y ∷ []) (reverse xs))

pub swap_now : (is is' : List Node) (ns ns' : List ℕ) (k a s e : ℕ) → FoundTwo is ns k a s e
    → is' ≡ take a is ++ ((drop (s - a) (take (e - a) (drop a is)) ++ take (s - a) (take (e - a) (drop a is))) ++ drop e is)
    → ns' ≡ set ns (length ns - 1 - k) (a + (e - s)) → Now is' ns' (swapped_layers k (layers is (reverse ns)))
swap_now is is' ns ns' k a s e p eq new =
    let g = laid p.f p.cs in
    let xs = map node_places p.us in
    let zs = map node_places p.cs in
    let upper : drop (s - a) (p.c ++ p.d) ≡ p.d = drop_at p.c p.d (s - a) (omega (arith, p.start, p.middle)) in
    let lower : take (s - a) (p.c ++ p.d) ≡ p.c = take_at p.c p.d (s - a) (omega (arith, p.start, p.middle)) in
    let len : length ((g ++ p.c) ++ p.d) ≡ length ((g ++ p.d) ++ p.c) = omega (arith, length-append (g ++ p.c) p.d, length-append g p.c, length-append (g ++ p.d) p.c, length-append g p.d) in
    let at : a + (e - s) ≡ length (g ++ p.d) = omega (arith, p.start, p.middle, p.end, length-append g p.d) in
    let under : length (length g ∷ begins p.f p.cs) ≡ length ns - 1 - k = omega (arith, length_begins p.f p.cs, p.below) in
    let now : Are is' (reverse ns') p.f (p.us ++ p.c ∷ p.d ∷ p.cs) = record {
      nodes = (rw (p.cut.front, p.cut.middle, p.cut.back, upper, lower) at eq) ∙ sym (two_whole p.f p.c p.d p.us p.cs);
      starts = ap reverse new ∙ (set_turned ns (begins ((g ++ p.c) ++ p.d) p.us) (length (g ++ p.c)) (length g ∷ begins p.f p.cs) (a + (e - s)) (length ns - 1 - k) (p.are.starts ∙ begins_apart p.f p.us (p.d ∷ p.c ∷ p.cs)) under
          ∙ (ap (λ z. begins ((g ++ p.c) ++ p.d) p.us ++ z ∷ length g ∷ begins p.f p.cs) at
          ∙ (ap (λ r. r ++ length (g ++ p.d) ∷ length g ∷ begins p.f p.cs) (same_begins ((g ++ p.c) ++ p.d) ((g ++ p.d) ++ p.c) p.us len) ∙ sym (begins_apart p.f p.us (p.c ∷ p.d ∷ p.cs)))));
    } in
    record {
      view_is = seen_at p.us p.c (p.d ∷ p.cs) now ∙ (sym (swapped_at xs (node_places p.d) (node_places p.c) zs) ∙ (ap (λ j. swapped_layers j (xs ++ node_places p.d ∷ node_places p.c ∷ zs)) (length-map p.us node_places ∙ p.above) ∙ ap (swapped_layers k) (sym (seen_at p.us p.d (p.c ∷ p.cs) p.are))));
      fall = falls now;
    }

-- ---- some are taken out

pub record Between (is : List Node) (ns : List ℕ) (under count a e : ℕ) : Type 0 where
  pub f : List Node
  pub us : List (List Node)
  pub ms : List (List Node)
  pub cs : List (List Node)
  pub are : Are is (reverse ns) f (us ++ (ms ++ cs))
  pub above : length us ≡ min under (length ns)
  pub gone : length ms + length cs ≡ length ns - under
  pub below : length cs ≡ length ns - under - count
  pub end : length (laid f (ms ++ cs)) ≡ length (laid f cs) + (e - a)
  pub cut : Apart is (laid f cs) (laid [] ms) (laid [] us) a e

pub between : (is : List Node) (ns : List ℕ) (under count n a e : ℕ) → n ≡ length is → Fall (length is) (reverse ns)
    → a ≡ get_or ns (length ns - under - count) n → e ≡ get_or ns (length ns - under) n → Between is ns under count a e
between is ns under count n a e l h s t =
    let p = split is ns (min under (length ns)) (omega arith) h in
    let m = length p.cs - (length ns - under - count) in
    let ms = take m p.cs in
    let cs = drop m p.cs in
    let apart_again : p.us ++ p.cs ≡ p.us ++ (ms ++ cs) = ap (λ z. p.us ++ z) (sym (take-append-drop m p.cs)) in
    let all : length p.cs ≡ length ns - under = omega (arith, p.below) in
    let below : length cs ≡ length ns - under - count = omega (arith, length-drop m p.cs, all) in
    let gone : length ms + length cs ≡ length ns - under = omega (arith, length-take-le m p.cs (omega arith), length-drop m p.cs, all) in
    let start = ends ns (p.us ++ ms) cs n _ a p.are (apart_again ∙ sym (append_assoc p.us ms cs)) l below s in
    let high = ends ns p.us (ms ++ cs) n _ e p.are apart_again l (length-append ms cs ∙ gone) t in
    let end : e ≡ length (laid p.f cs) + length (laid [] ms) = high ∙ (ap length (laid_apart p.f ms cs) ∙ length-append (laid p.f cs) (laid [] ms)) in
    let nodes : is ≡ laid p.f cs ++ (laid [] ms ++ laid [] p.us) =
    p.are.nodes ∙ (ap (laid p.f) apart_again ∙ (laid_apart p.f p.us (ms ++ cs) ∙ (ap (λ z. z ++ laid [] p.us) (laid_apart p.f ms cs) ∙ append_assoc (laid p.f cs) (laid [] ms) (laid [] p.us)))) in
    record {
      f = p.f;
      us = p.us;
      ms = ms;
      cs = cs;
      are = record { nodes = p.are.nodes ∙ ap (laid p.f) apart_again; starts = p.are.starts ∙ ap (begins p.f) apart_again };
      above = p.above;
      gone = gone;
      below = below;
      end = omega (arith, start, end, high);
      cut = apart is (laid p.f cs) (laid [] ms) (laid [] p.us) a e nodes start end;
    }

pub reverse-map : (f : ℕ → ℕ) (xs : List ℕ) → reverse (map f (reverse xs)) ≡ map f xs
reverse-map f [] = refl
reverse-map f (x ∷ xs) =
    ap (λ z. reverse (map f z)) (reverse-append (x ∷ []) xs) ∙ (ap reverse (map-append f (reverse xs) (x ∷ [])) ∙ (reverse-append (map f (reverse xs)) (f x ∷ []) ∙ ap (λ z. f x ∷ z) (reverse-map f xs)))

-- the starts below so many, and those above
pub starts_cut : (ns : List ℕ) (f : List Node) (us cs : List (List Node)) (i : ℕ) → reverse ns ≡ begins f (us ++ cs) → length cs ≡ i → (take i ns ≡ reverse (begins f cs)) × (drop i ns ≡ reverse (begins (laid f cs) us))
starts_cut ns f us cs i h l =
    let w : ns ≡ reverse (begins f cs) ++ reverse (begins (laid f cs) us) = sym (reverse-reverse ns) ∙ (ap reverse (h ∙ begins_apart f us cs) ∙ reverse-append (begins (laid f cs) us) (begins f cs)) in
    let n : length (reverse (begins f cs)) ≡ i = length-reverse (begins f cs) ∙ (length_begins f cs ∙ l) in
    (ap (take i) w ∙ take_at (reverse (begins f cs)) (reverse (begins (laid f cs) us)) i n, ap (drop i) w ∙ drop_at (reverse (begins f cs)) (reverse (begins (laid f cs) us)) i n)

pub remove_now : (is is' : List Node) (ns ns' : List ℕ) (under count a e : ℕ) → Between is ns under count a e → is' ≡ take a is ++ drop e is
    → ns' ≡ take (length ns - under - count) ns ++ map (λ n. n - (e - a)) (drop (length ns - under) ns) → Now is' ns' (take under (layers is (reverse ns)) ++ drop (under + count) (layers is (reverse ns)))
remove_now is is' ns ns' under count a e p i s =
    let g = laid p.f p.cs in
    let h = laid p.f (p.ms ++ p.cs) in
    let xs = map node_places p.us in
    let ys = map node_places p.ms in
    let zs = map node_places p.cs in
    let low = (starts_cut ns p.f (p.us ++ p.ms) p.cs _ (p.are.starts ∙ ap (begins p.f) (sym (append_assoc p.us p.ms p.cs))) p.below).0 in
    let high = (starts_cut ns p.f p.us (p.ms ++ p.cs) _ p.are.starts (length-append p.ms p.cs ∙ p.gone)).1 in
    let f : ℕ → ℕ = λ n. n - (e - a) in
    let now : Are is' (reverse ns') p.f (p.us ++ p.cs) = record {
      nodes = i ∙ (ap (λ z. z ++ drop e is) p.cut.front ∙ (ap (λ z. g ++ z) p.cut.back ∙ sym (laid_apart p.f p.us p.cs)));
      starts = ap reverse (s ∙ (ap (λ z. z ++ map f (drop (length ns - under) ns)) low ∙ ap (λ z. reverse (begins p.f p.cs) ++ map f z) high))
          ∙ (reverse-append (reverse (begins p.f p.cs)) (map f (reverse (begins h p.us)))
          ∙ (ap (λ z. z ++ reverse (reverse (begins p.f p.cs))) (reverse-map f (begins h p.us) ∙ lower_begins (e - a) h g p.us p.end)
          ∙ (ap (λ z. begins g p.us ++ z) (reverse-reverse (begins p.f p.cs)) ∙ sym (begins_apart p.f p.us p.cs))));
    } in
    let old : layers is (reverse ns) ≡ xs ++ (ys ++ zs) = seen p.are ∙ (map-append node_places p.us (p.ms ++ p.cs) ∙ ap (λ z. xs ++ z) (map-append node_places p.ms p.cs)) in
    let all : length (xs ++ (ys ++ zs)) ≡ length ns = ap length (sym old) ∙ (length_layers is (reverse ns) ∙ length-reverse ns) in
    let la : length xs ≡ min under (length ns) = length-map p.us node_places ∙ p.above in
    let upper : take under (xs ++ (ys ++ zs)) ≡ xs = sym (take_min under (xs ++ (ys ++ zs))) ∙ take_at xs (ys ++ zs) _ (omega (arith, la, all)) in
    let lower : drop (under + count) (xs ++ (ys ++ zs)) ≡ zs =
    sym (drop_min (under + count) (xs ++ (ys ++ zs))) ∙ (ap (drop (min (under + count) (length (xs ++ (ys ++ zs))))) (sym (append_assoc xs ys zs))
    ∙ drop_at (xs ++ ys) zs _ (omega (arith, la, all, length-append xs ys, length-map p.ms node_places, p.gone, p.below))) in
    record {
      view_is = seen now ∙ (map-append node_places p.us p.cs ∙ sym (ap (λ z. take under z ++ drop (under + count) z) old ∙ (ap (λ z. z ++ drop (under + count) (xs ++ (ys ++ zs))) upper ∙ ap (λ z. xs ++ z) lower)));
      fall = falls now;
    }

pub cut_sound : (is : List Node) (a e : ℕ) → AreMarks is → AreMarks (take a is ++ drop e is)
cut_sound is a e h = All-append HasMark (take a is) (drop e is) (All-take HasMark a is h) (All-drop HasMark e is h)
