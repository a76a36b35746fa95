-- Elements behind elements: what is put behind changes nothing before.
use Rattle.std.proofs.Common.{◌≡◌, ℕ, zero, suc, ◌+◌, ◌<◌, ◌≤◌, List, [], ◌∷◌, ◌++◌, length, map, take, drop, get_or, refl, sym, ap, ◌∙◌, arith, append_assoc, append-nil, slice_get, Some, None, unwrap_or, subst}
use Rattle.std.proofs.lemmas.List.{take-append-le, take-append-drop, length-take-le, take-map, drop-map}
use Rattle.std.proofs.Math.Seq.{take-length, drop-append_seam}
use Rattle.std.specs.Prelude.{Result, Ok, Err, OnOk, IfSome, Option}
use Rattle.std.specs.Option.{option_to_list}
use Rattle.mt_arena.specs.declared.thing.Span.{Span}
use Rattle.mt_arena.specs.declared.thing.Cell.{Cell}
use Rattle.mt_arena.specs.declared.thing.Cell.TheVariants.{Empty, Sym, List as OfList, Rows as OfRows, Table as OfTable, Root as OfRoot, Big as OfBig}
use Rattle.mt_arena.specs.declared.thing.Thing.{Thing}
use Rattle.mt_arena.specs.declared.thing.Thing.TheVariants.{Atom, Fraction, Left, Middle, Right, Style as StyleItem, Choice, MuSpace, Space, MuKern, Kern, Nonscript, Row, Cells, Root}
use Rattle.mt_arena.specs.Arena.{Held, held_in, as_root, cell_part, value_in, cell_end, thing_end}
use Rattle.mt_arena.specs.Keeping.{HeldLists, AllLists}
use Rattle.mt_arena.specs.inner.Backward.{elements_behind, elements_of, AllWithin, AllBackward}

pub span_stays : (es fs : List Held) (s : Span) → s.end ≤ length es → held_in (es ++ fs) s ≡ held_in es s
span_stays es fs s h = ap (λ x. drop s.start x) (take-append-le s.end es fs h)

pub cell_stays : (es fs : List Held) (c : Cell) → cell_end c ≤ length es → cell_part (es ++ fs) c ≡ cell_part es c
cell_stays es fs Empty h = refl
cell_stays es fs (Sym s) h = refl
cell_stays es fs (OfList s) h = rw (span_stays es fs s h) refl
cell_stays es fs (OfRows s) h = rw (span_stays es fs s h) refl
cell_stays es fs (OfTable look s) h = rw (span_stays es fs s h) refl
cell_stays es fs (OfRoot n) h = ap (λ x. as_root (drop n x)) (take-append-le (suc n) es fs h)
cell_stays es fs (OfBig d l) h = refl

pub thing_stays : (es fs : List Held) (t : Thing) → thing_end t ≤ length es → value_in (es ++ fs) t ≡ value_in es t
thing_stays es fs (Atom a) h =
    rw (cell_stays es fs a.nucleus (omega (arith, h)), cell_stays es fs a.sup (omega (arith, h)), cell_stays es fs a.sub (omega (arith, h))) refl
thing_stays es fs (Fraction f) h =
    rw (span_stays es fs f.num (omega (arith, h)), span_stays es fs f.den (omega (arith, h))) refl
thing_stays es fs (Left d) h = refl
thing_stays es fs (Middle d) h = refl
thing_stays es fs (Right d) h = refl
thing_stays es fs (StyleItem s) h = refl
thing_stays es fs (Choice c) h =
    rw (span_stays es fs c.display (omega (arith, h)), span_stays es fs c.text (omega (arith, h)), span_stays es fs c.script (omega (arith, h)), span_stays es fs c.small (omega (arith, h))) refl
thing_stays es fs (MuSpace g) h = refl
thing_stays es fs (Space g) h = refl
thing_stays es fs (MuKern k) h = refl
thing_stays es fs (Kern k) h = refl
thing_stays es fs Nonscript h = refl
thing_stays es fs (Row s) h = rw (span_stays es fs s h) refl
thing_stays es fs (Cells s) h = rw (span_stays es fs s h) refl
thing_stays es fs (Root r) h =
    rw (span_stays es fs r.degree (omega (arith, h)), cell_stays es fs r.body (omega (arith, h))) refl

pub things_stay : (es fs : List Held) (ts : List Thing) → AllWithin (length es) ts → map (value_in (es ++ fs)) ts ≡ map (value_in es) ts
things_stay es fs [] h = refl
things_stay es fs (t ∷ ts) h = rw (thing_stays es fs t h.0, things_stay es fs ts h.1) refl

pub length-behind : (es : List Held) (ts : List Thing) → length (elements_behind es ts) ≡ length ts
length-behind es [] = refl
length-behind es (t ∷ ts) = omega (arith, length-behind (es ++ value_in es t ∷ []) ts)

pub behind_append : (es : List Held) (ts us : List Thing) → elements_behind es (ts ++ us) ≡ elements_behind es ts ++ elements_behind (es ++ elements_behind es ts) us
behind_append es [] us = rw (append-nil es) refl
behind_append es (t ∷ ts) us =
    let e = value_in es t in
    rw (behind_append (es ++ e ∷ []) ts us, append_assoc es (e ∷ []) (elements_behind (es ++ e ∷ []) ts)) refl

-- things whose lists lie before all of them
pub behind_map : (es fs : List Held) (ts : List Thing) → AllWithin (length es) ts → elements_behind (es ++ fs) ts ≡ map (value_in es) ts
behind_map es fs [] h = refl
behind_map es fs (t ∷ ts) h =
    let e = value_in es t in
    rw (thing_stays es fs t h.0, append_assoc es fs (e ∷ []), behind_map es (fs ++ e ∷ []) ts h.1) refl

pub all_within_more : (n m : ℕ) (ts : List Thing) → n ≤ m → AllWithin n ts → AllWithin m ts
all_within_more n m [] l h = tt
all_within_more n m (t ∷ ts) l h = (omega (arith, l, h.0), all_within_more n m ts l h.1)

pub all_within_append : (n : ℕ) (ts us : List Thing) → AllWithin n ts → AllWithin n us → AllWithin n (ts ++ us)
all_within_append n [] us h k = k
all_within_append n (t ∷ ts) us h k = (h.0, all_within_append n ts us h.1 k)

pub all_within_take : (n i : ℕ) (ts : List Thing) → AllWithin n ts → AllWithin n (take i ts)
all_within_take n zero [] h = tt
all_within_take n (suc i) [] h = tt
all_within_take n zero (t ∷ ts) h = tt
all_within_take n (suc i) (t ∷ ts) h = (h.0, all_within_take n i ts h.1)

pub all_within_drop : (n i : ℕ) (ts : List Thing) → AllWithin n ts → AllWithin n (drop i ts)
all_within_drop n zero [] h = tt
all_within_drop n (suc i) [] h = tt
all_within_drop n zero (t ∷ ts) h = h
all_within_drop n (suc i) (t ∷ ts) h = all_within_drop n i ts h.1

backward_within : (n m : ℕ) (ts : List Thing) → m ≤ n → AllWithin m ts → AllBackward n ts
backward_within n m [] l h = tt
backward_within n m (t ∷ ts) l h = (omega (arith, l, h.0), backward_within (suc n) m ts (omega (arith, l)) h.1)

pub backward_append : (n m : ℕ) (ts us : List Thing) → m ≤ n + length ts → AllBackward n ts → AllWithin m us → AllBackward n (ts ++ us)
backward_append n m [] us l h k = backward_within n m us (omega (arith, l)) k
backward_append n m (t ∷ ts) us l h k = (h.0, backward_append (suc n) m ts us (omega (arith, l)) h.1 k)

pub backward_at : (n i : ℕ) (ts : List Thing) (d : Thing) → i < length ts → AllBackward n ts → thing_end (get_or ts i d) ≤ n + i
backward_at n i [] d l h = absurd (omega (arith, l))
backward_at n zero (t ∷ ts) d l h = omega (arith, h.0)
backward_at n (suc i) (t ∷ ts) d l h = omega (arith, backward_at (suc n) i ts d (omega (arith, l)) h.1)

-- a thing's element, by those before it
behind_at : (es : List Held) (i : ℕ) (ts : List Thing) (d : Thing) → i < length ts
    → slice_get (elements_behind es ts) i ≡ Some (value_in (es ++ take i (elements_behind es ts)) (get_or ts i d))
behind_at es i [] d l = absurd (omega (arith, l))
behind_at es zero (t ∷ ts) d l = rw (append-nil es) refl
behind_at es (suc i) (t ∷ ts) d l =
    let e = value_in es t in
    rw (behind_at (es ++ e ∷ []) i ts d (omega (arith, l)), append_assoc es (e ∷ []) (take i (elements_behind (es ++ e ∷ []) ts))) refl

pub element_at_index : (i : ℕ) (ts : List Thing) (d : Thing) → i < length ts → AllBackward 0 ts
    → slice_get (elements_of ts) i ≡ Some (value_in (elements_of ts) (get_or ts i d))
element_at_index i ts d l h =
    let es = elements_of ts in
    let n : length (take i es) ≡ i = length-take-le i es (omega (arith, l, length-behind [] ts)) in
    let b : thing_end (get_or ts i d) ≤ length (take i es) = omega (arith, n, backward_at 0 i ts d l h) in
    behind_at [] i ts d l
    ∙ ap (λ e. Some e) (sym (thing_stays (take i es) (drop i es) (get_or ts i d) b) ∙ ap (λ x. value_in x (get_or ts i d)) (take-append-drop i es))

pub length-elements : (ts : List Thing) → length (elements_of ts) ≡ length ts
length-elements ts = length-behind [] ts

within_elements : (ts ps : List Thing) → AllWithin (length ts) ps → AllWithin (length (elements_of ts)) ps
within_elements ts ps h = all_within_more (length ts) (length (elements_of ts)) ps (omega (arith, length-elements ts)) h

pub closes : (ts ps : List Thing) (i : ℕ) → AllWithin (length ts) ps
    → elements_of (ts ++ drop i ps) ≡ elements_of ts ++ drop i (map (value_in (elements_of ts)) ps)
closes ts ps i h =
    let es = elements_of ts in
    behind_append [] ts (drop i ps)
    ∙ ap (λ x. es ++ x) (ap (λ x. elements_behind x (drop i ps)) (sym (append-nil es))
    ∙ (behind_map es [] (drop i ps) (all_within_drop (length es) i ps (within_elements ts ps h)) ∙ sym (drop-map (value_in es) i ps)))

pub keeps_pending : (ts ps : List Thing) (i : ℕ) → AllWithin (length ts) ps
    → map (value_in (elements_of (ts ++ drop i ps))) (take i ps) ≡ take i (map (value_in (elements_of ts)) ps)
keeps_pending ts ps i h =
    let es = elements_of ts in
    ap (λ x. map (value_in x) (take i ps)) (closes ts ps i h)
    ∙ (things_stay es (drop i (map (value_in es) ps)) (take i ps) (all_within_take (length es) i ps (within_elements ts ps h))
    ∙ sym (take-map (value_in es) i ps))

pub inserted : (ts us : List Thing) (t : Thing) → us ≡ ts ++ t ∷ [] → thing_end t ≤ length ts → elements_of us ≡ elements_of ts ++ value_in (elements_of ts) t ∷ []
inserted ts us t e h = ap elements_of e ∙ closes ts (t ∷ []) 0 (h, tt)

pub inserted_pending : (ts us ps : List Thing) (t : Thing) → us ≡ ts ++ t ∷ [] → thing_end t ≤ length ts → AllWithin (length ts) ps
    → map (value_in (elements_of us)) ps ≡ map (value_in (elements_of ts)) ps
inserted_pending ts us ps t e h k =
    let es = elements_of ts in
    ap (λ x. map (value_in x) ps) (inserted ts us t e h) ∙ things_stay es (value_in es t ∷ []) ps (within_elements ts ps k)

pub last_list : (es fs all : List Held) (start end : ℕ) → all ≡ es ++ fs → start ≡ length es → end ≡ length all
    → held_in all (record { start = start; end = end }) ≡ fs
last_list es fs all start end a s e =
    rw (e, a, s) (ap (λ x. drop (length es) x) (take-length (es ++ fs)) ∙ drop-append_seam es fs)

some_same : {A : Type 0} (x y : A) → Some x ≡ Some y → x ≡ y
some_same x y e = ap (λ o. unwrap_or o x) e

none_some : {A : Type 0} (x : A) → None ≡ Some x → ⊥
none_some x e = cc

pub all_lists_append : (hs ks : List Held) → AllLists hs → AllLists ks → AllLists (hs ++ ks)
all_lists_append [] ks h k = k
all_lists_append (x ∷ hs) ks h k = (h.0, all_lists_append hs ks h.1 k)

pub all_lists_drop : (i : ℕ) (hs : List Held) → AllLists hs → AllLists (drop i hs)
all_lists_drop zero [] h = tt
all_lists_drop (suc i) [] h = tt
all_lists_drop zero (x ∷ hs) h = h
all_lists_drop (suc i) (x ∷ hs) h = all_lists_drop i hs h.1

pub all_lists_take : (i : ℕ) (hs : List Held) → AllLists hs → AllLists (take i hs)
all_lists_take zero [] h = tt
all_lists_take (suc i) [] h = tt
all_lists_take zero (x ∷ hs) h = tt
all_lists_take (suc i) (x ∷ hs) h = (h.0, all_lists_take i hs h.1)

pub lists_at : (hs : List Held) (i : ℕ) (x : Held) → slice_get hs i ≡ Some x → AllLists hs → HeldLists x
lists_at [] i x e h = absurd (none_some x e)
lists_at (y ∷ hs) zero x e h = subst (λ z. HeldLists z) (some_same y x e) h.0
lists_at (y ∷ hs) (suc i) x e h = lists_at hs i x e h.1

pub map_push : (es : List Held) (ps : List Thing) (t : Thing) → map (value_in es) (ps ++ t ∷ []) ≡ map (value_in es) ps ++ value_in es t ∷ []
map_push es [] t = refl
map_push es (p ∷ ps) t = ap (λ x. value_in es p ∷ x) (map_push es ps t)

pub on_ok : {T E : Type 0} (r : Result T E) {P : Type 0} → P → OnOk r P
on_ok (Ok s) p = p
on_ok (Err e) p = tt

first_in : (es : List Held) (at end : ℕ) (e : Held) → at < end → end ≤ length es → slice_get es at ≡ Some e
    → held_in es (record { start = at; end = end }) ≡ e ∷ held_in es (record { start = suc at; end = end })
first_in [] at end e h k g = absurd (omega (arith, h, k))
first_in (x ∷ xs) at zero e h k g = absurd (omega (arith, h))
first_in (x ∷ xs) zero (suc m) e h k g = ap (λ y. y ∷ take m xs) (some_same x e g)
first_in (x ∷ xs) (suc i) (suc m) e h k g = first_in xs i m e (omega (arith, h)) (omega (arith, k)) g

-- the first of a span, and the rest
pub next_in : (es : List Held) (at end : ℕ) (e : Held) → at < end → end ≤ length es → slice_get es at ≡ Some e
    → held_in es (record { start = at; end = end }) ≡ e ∷ held_in es (record { start = at + 1; end = end })
next_in es at end e h k g =
    let n : suc at ≡ at + 1 = omega arith in
    first_in es at end e h k g ∙ ap (λ i. e ∷ held_in es (record { start = i; end = end })) n

all_within_back : (n : ℕ) (ts us : List Thing) → AllWithin n (ts ++ us) → AllWithin n us
all_within_back n [] us h = h
all_within_back n (t ∷ ts) us h = all_within_back n ts us h.1

pub popped_within : (n : ℕ) (ps qs : List Thing) (o : Option Thing) → ps ≡ qs ++ option_to_list o → AllWithin n ps → IfSome o (λ t. thing_end t ≤ n)
popped_within n ps qs None e h = tt
popped_within n ps qs (Some t) e h = (all_within_back n qs (t ∷ []) (subst (λ x. AllWithin n x) e h)).0

pub map_front : (es : List Held) (i : ℕ) (ps : List Thing) → AllLists (map (value_in es) ps) → AllLists (map (value_in es) (take i ps))
map_front es i ps h = subst (λ x. AllLists x) (take-map (value_in es) i ps) (all_lists_take i (map (value_in es) ps) h)
