-- A run of layouts copied onto the others, and one of them read.
use Rattle.std.proofs.Common.{◌≡◌, ℕ, ◌≤◌, ◌+◌, ◌-◌, min, List, [], ◌∷◌, ◌++◌, length, map, take, drop, get_or, reverse, Result, Ok, Err, OnOk, OnErr, refl, arith, append_assoc, length-append, sym, ◌∙◌, ap, subst}
use Rattle.std.specs.Prelude.{All, ◌<◌, ⊤}
use Rattle.std.specs.declared.alloc.AllocError.{AllocError}
use Rattle.std.proofs.lemmas.List.{map-append, take_at, drop_at, length-take-le, length-reverse, length-map, reverse-append, reverse-reverse}
use Rattle.std.proofs.lemmas.List.Elements.{All-nil, All-push}
use Rattle.mt_box.specs.declared.node.Node.{Node}
use Rattle.mt_box.specs.declared.place.Place.{Place}
use Rattle.mt_box.specs.inner.Nodes.{node_places}
use Rattle.mt_box.specs.marks.inner.View.{layers, Fall}
use Rattle.mt_box.proofs.layers.Layering.{laid, begins, laid_apart, begins_apart, length_begins, raise_begins, length_layers, Are, seen, seen_at, falls}
use Rattle.mt_box.proofs.layers.StartLists.{fall_more}
use Rattle.mt_box.proofs.layers.LayerCalls.{Between, Found, between, found, reverse-map, starts_cut}

same_middle : {A : Type 0} (xs ys zs us rs bs : List A) → xs ++ (ys ++ zs) ≡ us ++ (rs ++ bs) → length zs ≡ length bs → length ys ≡ length rs → ys ≡ rs
same_middle xs ys zs us rs bs e n k =
    let m : length us ≡ length xs = omega (arith, ap length e, n, k, length-append xs (ys ++ zs), length-append ys zs, length-append us (rs ++ bs), length-append rs bs) in
    let rest : ys ++ zs ≡ rs ++ bs = sym (drop_at xs (ys ++ zs) (length xs) refl) ∙ (ap (drop (length xs)) e ∙ drop_at us (rs ++ bs) (length xs) m) in
    sym (take_at ys zs (length ys) refl) ∙ (ap (take (length ys)) rest ∙ take_at rs bs (length ys) (sym k))

-- the run lies between
pub run_between : (is : List Node) (ns : List ℕ) (i j n a e : ℕ) → i ≤ j → j ≤ length ns → n ≡ length is → Fall (length is) (reverse ns) → a ≡ get_or ns i n → e ≡ get_or ns j n → Between is ns (length ns - j) (j - i) a e
run_between is ns i j n a e low high l h s t =
    let first : length ns - (length ns - j) - (j - i) ≡ i = omega (arith, low, high) in
    let last : length ns - (length ns - j) ≡ j = omega (arith, high) in
    between is ns (length ns - j) (j - i) n a e l h (s ∙ ap (λ k. get_or ns k n) (sym first)) (t ∙ ap (λ k. get_or ns k n) (sym last))

-- the starts of those that are copied
run_starts : (ns : List ℕ) (f : List Node) (us ms cs : List (List Node)) (i k : ℕ) → reverse ns ≡ begins f (us ++ (ms ++ cs)) → length cs ≡ i → length ms ≡ k → take k (drop i ns) ≡ reverse (begins (laid f cs) ms)
run_starts ns f us ms cs i k h l n =
    let all = (starts_cut ns f (us ++ ms) cs i (h ∙ ap (begins f) (sym (append_assoc us ms cs))) l).1 in
    let r = all ∙ (ap reverse (begins_apart (laid f cs) us ms) ∙ reverse-append (begins (laid (laid f cs) ms) us) (begins (laid f cs) ms)) in
    ap (take k) r ∙ take_at (reverse (begins (laid f cs) ms)) (reverse (begins (laid (laid f cs) ms) us)) k (length-reverse (begins (laid f cs) ms) ∙ (length_begins (laid f cs) ms ∙ n))

pub record RunMade (r : Result ⊤ AllocError) (is is' : List Node) (ns ns' : List ℕ) (first count : ℕ) : Type 0 where
  pub view : (above run below : List (List Place)) → layers is (reverse ns) ≡ above ++ (run ++ below) → length below ≡ first → length run ≡ count → OnOk r (layers is' (reverse ns') ≡ run ++ layers is (reverse ns))
  pub fall : Fall (length is') (reverse ns')

pub run_made : (r : Result ⊤ AllocError) (is is' : List Node) (ns ns' : List ℕ) (first count i j n a e : ℕ) → i ≡ min first (length ns) → j ≡ min (i + count) (length ns) → n ≡ length is → Between is ns (length ns - j) (j - i) a e
    → is' ≡ is ++ take (e - a) (drop a is) → OnOk r (ns' ≡ ns ++ map (λ k. k - a + n) (take (j - i) (drop i ns))) → OnErr r (ns' ≡ ns) → Fall (length is) (reverse ns) → RunMade r is is' ns ns' first count
run_made (Ok u) is is' ns ns' first count i j n a e low high l p more new old h =
    let all = p.us ++ (p.ms ++ p.cs) in
    let g = laid p.f p.cs in
    let below : length p.cs ≡ i = omega (arith, p.below, low, high) in
    let some : length p.ms ≡ j - i = omega (arith, p.gone, below, low, high) in
    let start : a ≡ length g = omega (arith, ap length p.cut.front, length-take-le a is (omega (arith, p.cut.low, p.cut.high))) in
    let mid = run_starts ns p.f p.us p.ms p.cs i (j - i) p.are.starts below some in
    let raised : map (λ k. k - a + n) (begins g p.ms) ≡ begins (laid p.f all) p.ms =
    ap (λ z. map (λ k. k - z + n) (begins g p.ms)) start ∙ (ap (λ z. map (λ k. k - length g + z) (begins g p.ms)) (l ∙ ap length p.are.nodes) ∙ raise_begins g (laid p.f all) p.ms) in
    let now : Are is' (reverse ns') p.f (p.ms ++ all) = record {
      nodes = more ∙ (ap (λ z. is ++ z) p.cut.middle ∙ (ap (λ z. z ++ laid [] p.ms) p.are.nodes ∙ sym (laid_apart p.f p.ms all)));
      starts = ap reverse (new ∙ ap (λ z. ns ++ map (λ k. k - a + n) z) mid)
          ∙ (reverse-append ns (map (λ k. k - a + n) (reverse (begins g p.ms)))
          ∙ (ap (λ z. z ++ reverse ns) (reverse-map (λ k. k - a + n) (begins g p.ms) ∙ raised)
          ∙ (ap (λ z. begins (laid p.f all) p.ms ++ z) p.are.starts ∙ sym (begins_apart p.f p.ms all))));
    } in
    let ys = map node_places p.ms in
    let old : layers is (reverse ns) ≡ map node_places p.us ++ (ys ++ map node_places p.cs) =
    seen p.are ∙ (map-append node_places p.us (p.ms ++ p.cs) ∙ ap (λ z. map node_places p.us ++ z) (map-append node_places p.ms p.cs)) in
    record {
      view = λ above run under w q k.
          let whole : length ns ≡ length above + (length run + length under) = sym (length_layers is (reverse ns) ∙ length-reverse ns) ∙ (ap length w ∙ (length-append above (run ++ under) ∙ ap (λ z. length above + z) (length-append run under))) in
          let same : ys ≡ run = same_middle (map node_places p.us) ys (map node_places p.cs) above run under (sym old ∙ w) (omega (arith, length-map p.cs node_places, below, low, q, whole)) (omega (arith, length-map p.ms node_places, some, low, high, q, k, whole)) in
          seen now ∙ (map-append node_places p.ms all ∙ (ap (λ z. z ++ map node_places all) same ∙ ap (λ z. run ++ z) (sym (seen p.are))));
      fall = falls now;
    }
run_made (Err f) is is' ns ns' first count i j n a e low high l p more new old h = record {
  view = λ above run below w b c. tt;
  fall = subst (λ z. Fall (length is') (reverse z)) (sym old) (fall_more (length is) (length is') (reverse ns) h (omega (arith, ap length more, length-append is (take (e - a) (drop a is)))));
}

-- each begins where there are nodes
pub all_below : (n : ℕ) (ts : List ℕ) → Fall n (reverse ts) → All (λ t. t ≤ n) ts
all_below n ts h = subst (All (λ t. t ≤ n)) (reverse-reverse ts) (falling n (reverse ts) h (omega arith))
  where
    falling : (m : ℕ) (ss : List ℕ) → Fall m ss → m ≤ n → All (λ t. t ≤ n) (reverse ss)
    falling m [] h le = All-nil (λ t. t ≤ n)
    falling m (s ∷ ss) h le =
        subst (All (λ t. t ≤ n)) (sym (reverse-append (s ∷ []) ss)) (All-push (λ t. t ≤ n) (reverse ss) s (falling s ss h.1 (omega (arith, h.0, le))) (omega (arith, h.0, le)))

-- ---- one of them, from below

pub record LayerAt (is : List Node) (ns : List ℕ) (number a e : ℕ) : Type 0 where
  pub low : a ≤ e
  pub high : e ≤ length is
  pub places : (above below : List (List Place)) (layer : List Place) → layers is (reverse ns) ≡ above ++ layer ∷ below → length below ≡ number → node_places (take (e - a) (drop a is)) ≡ layer

pub layer_at : (is : List Node) (ns : List ℕ) (number n a e : ℕ) → n ≡ length is → Fall (length is) (reverse ns) → number < length ns → a ≡ get_or ns number n → e ≡ get_or ns (number + 1) n → LayerAt is ns number a e
layer_at is ns number n a e l h low s t =
    let k = length ns - (number + 1) in
    let first : number ≡ length ns - (k + 1) = omega (arith, low) in
    let last : number + 1 ≡ length ns - k = omega (arith, low) in
    by_found (found is ns k n a e l h (omega (arith, low)) (s ∙ ap (λ i. get_or ns i n) first) (t ∙ ap (λ i. get_or ns i n) last))
  where
    by_found : Found is ns (length ns - (number + 1)) a e → LayerAt is ns number a e
    by_found p =
        let us = map node_places p.us in
        let cs = map node_places p.cs in
        let seen = seen_at p.us p.c p.cs p.are in
        let many : length us + (1 + length cs) ≡ length ns = omega (arith, length-append us (node_places p.c ∷ cs), ap length seen, length_layers is (reverse ns), length-reverse ns) in
        record {
          low = p.cut.low;
          high = p.cut.high;
          places = λ above below layer w b.
              let same : node_places p.c ∷ [] ≡ layer ∷ [] = same_middle us (node_places p.c ∷ []) cs above (layer ∷ []) below (sym seen ∙ w) (omega (arith, many, length-map p.us node_places, p.above, low, b)) refl in
              ap node_places p.cut.middle ∙ cc;
        }
