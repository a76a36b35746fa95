-- Items in an arena: put one behind another, and seen later.
use Rattle.std.proofs.Common.{◌≡◌, ℕ, zero, suc, add-one, ◌≤◌, ◌-◌, true, List, [], ◌∷◌, ◌++◌, ◌+◌, slice_get, length, take, drop, Option, Some, None, Result, Ok, Err, IfOk, refl, sym, ap, ◌∙◌, subst, arith, true≢false, length-drop, length-take}
use Rattle.std.proofs.lemmas.List.{nil_from_length}
use Rattle.mt_rules.specs.Sequence.{Sequence, Element, End, More, AtomElement}
use Rattle.mt_arena.specs.declared.thing.Cell.{Cell}
use Rattle.mt_arena.specs.declared.thing.Noad.{Noad}
use Rattle.mt_arena.specs.declared.thing.Span.{Span}
use Rattle.mt_arena.specs.declared.thing.Cell.TheVariants.{List as OfList}
use Rattle.mt_arena.specs.declared.thing.Thing.{Thing}
use Rattle.mt_arena.specs.declared.thing.Thing.TheVariants.{Atom, Fraction, Left, Middle, Right, Style as StyleItem, Choice, MuSpace, Space, MuKern, Kern, Nonscript, Row, Cells, Root}
use Rattle.mt_arena.specs.Arena.{Extends, Held, ItemHeld, RowHeld, CellsHeld, RootHeld, as_sequence, cell_part, held_in, sequence_in, thing_end, value_in}
use Rattle.mt_arena.specs.Keeping.{AllLists, InnerLists, ElementLists, KeptList}
use Rattle.mt_arena.proofs.Growing.{next_in}
use Rattle.mt_arena.proofs.Putting.{extends_length, span_later, cell_later, inner_lists}
use Rattle.mt_formula.specs.Atoms.{append, element_of_atom, last_atom_items, only_atom, prime_atom, prime_items, takes_scripts}
use Rattle.mt_formula.specs.reading.Facts.{atom_fits, is_inside, no_boundary, stands_inside}
use Rattle.mt_formula.specs.reading.Inside.{are_inside}
use Rattle.mt_scan.specs.declared.role.FieldKind.{FieldKind}
use Rattle.mt_scan.specs.Role.{nucleus_kind}
use Rattle.mt_formula.specs.reading.Noads.{bare_noad, KeptField, KeptLast, KeptNoad, OpenNoad, last_held, last_in, noad_in}
use Rattle.mt_formula.specs.reading.WholeLists.{KeptSpan}
use Rattle.mt_formula.proofs.Inside.{atom_of_field, inside_no_boundary, first_true, second_true, both_true, math_list}

pub sequence_more : (hs ks : List Held) → as_sequence (hs ++ ks) ≡ append (as_sequence hs) (as_sequence ks)
sequence_more [] ks = refl
sequence_more (ItemHeld e ∷ hs) ks = ap (More e) (sequence_more hs ks)
sequence_more (RowHeld list ∷ hs) ks = sequence_more hs ks
sequence_more (CellsHeld cells ∷ hs) ks = sequence_more hs ks
sequence_more (RootHeld degree body ∷ hs) ks = sequence_more hs ks

pub inside_more : (hs ks : List Held) → are_inside hs ≡ true → are_inside ks ≡ true → are_inside (hs ++ ks) ≡ true
inside_more [] ks h k = k
inside_more (ItemHeld e ∷ hs) ks h k = both_true _ _ (first_true (stands_inside e) _ h) (inside_more hs ks (second_true (stands_inside e) _ h) k)
inside_more (RowHeld list ∷ hs) ks h k = absurd (true≢false (sym h))
inside_more (CellsHeld cells ∷ hs) ks h k = absurd (true≢false (sym h))
inside_more (RootHeld degree body ∷ hs) ks h k = absurd (true≢false (sym h))

pub inside_sequence : (hs : List Held) → are_inside hs ≡ true → is_inside (as_sequence hs) ≡ true
inside_sequence [] h = refl
inside_sequence (ItemHeld e ∷ hs) h = both_true _ _ (first_true (stands_inside e) _ h) (inside_sequence hs (second_true (stands_inside e) _ h))
inside_sequence (RowHeld list ∷ hs) h = absurd (true≢false (sym h))
inside_sequence (CellsHeld cells ∷ hs) h = absurd (true≢false (sym h))
inside_sequence (RootHeld degree body ∷ hs) h = absurd (true≢false (sym h))

-- ---- the atom at hand

pub last_items : (es : List Held) (last : Option Noad) → as_sequence (last_held es last) ≡ last_atom_items (last_in es last)
last_items es None = refl
last_items es (Some a) = refl

pub last_inside : (es : List Held) (last : Option Noad) → KeptLast es last → are_inside (last_held es last) ≡ true
last_inside es None k = refl
last_inside es (Some a) k = both_true _ true k.kept.fits refl

-- the items of an open list with the atom at hand
pub with_last : (es hs ks : List Held) (last : Option Noad) → ks ≡ hs ++ last_held es last → as_sequence ks ≡ append (as_sequence hs) (last_atom_items (last_in es last))
with_last es hs ks last e = ap as_sequence e ∙ sequence_more hs (last_held es last) ∙ ap (append (as_sequence hs)) (last_items es last)

pub with_last_inside : (es hs ks : List Held) (last : Option Noad) → ks ≡ hs ++ last_held es last → are_inside hs ≡ true → are_inside (last_held es last) ≡ true → are_inside ks ≡ true
with_last_inside es hs ks last e h k = ap are_inside e ∙ inside_more hs (last_held es last) h k

-- ---- spans

-- the things of a span that has just been closed
pub closed_span : {E : Type 0} (r : Result Span E) (cs hs : List Held) → IfOk r (λ s. s.end ≤ length cs) → IfOk r (λ s. held_in cs s ≡ hs) → AllLists hs → are_inside hs ≡ true → IfOk r (KeptSpan cs)
closed_span (Ok s) cs hs w e l i = record {
  within = w;
  lists = subst (λ ks. InnerLists (as_sequence ks)) (sym e) (inner_lists hs l);
  inside = ap are_inside e ∙ i;
}
closed_span (Err fault) cs hs w e l i = tt

pub span_length : (es : List Held) (s : Span) → s.end ≤ length es → length (held_in es s) ≡ s.end - s.start
span_length es s w = length-drop s.start (take s.end es) ∙ ap (λ n. n - s.start) (length-take s.end es ∙ omega (arith, w))

-- one thing
pub lone_thing : (es : List Held) (s : Span) (h : Held) → s.end - s.start ≡ 1 → s.end ≤ length es → slice_get es s.start ≡ Some h → held_in es s ≡ h ∷ []
lone_thing es s h n w g =
    next_in es s.start s.end h (omega (arith, n)) w g
    ∙ ap (λ hs. h ∷ hs) (nil_from_length (drop (s.start + 1) (take s.end es)) (length-drop (s.start + 1) (take s.end es) ∙ ap (λ k. k - (s.start + 1)) (length-take s.end es) ∙ omega (arith, n, w)))

-- a list of no item or of two and more is no atom
two_items : (e f : Element) (s : Sequence) → only_atom (More e (More f s)) ≡ None
two_items (AtomElement kind limits nucleus sup sub) f s = refl
two_items _ f s = refl

pub no_atom : (hs : List Held) → are_inside hs ≡ true → (length hs ≡ 1 → ⊥) → only_atom (as_sequence hs) ≡ None
no_atom [] h n = refl
no_atom (ItemHeld e ∷ []) h n = absurd (n refl)
no_atom (ItemHeld e ∷ ItemHeld f ∷ hs) h n = two_items e f (as_sequence hs)
no_atom (ItemHeld e ∷ RowHeld list ∷ hs) h n = absurd (true≢false (sym (second_true (stands_inside e) _ h)))
no_atom (ItemHeld e ∷ CellsHeld cells ∷ hs) h n = absurd (true≢false (sym (second_true (stands_inside e) _ h)))
no_atom (ItemHeld e ∷ RootHeld degree body ∷ hs) h n = absurd (true≢false (sym (second_true (stands_inside e) _ h)))
no_atom (RowHeld list ∷ hs) h n = absurd (true≢false (sym h))
no_atom (CellsHeld cells ∷ hs) h n = absurd (true≢false (sym h))
no_atom (RootHeld degree body ∷ hs) h n = absurd (true≢false (sym h))

-- ---- later

pub noad_later : (es fs : List Held) (a : Noad) → Extends es fs → thing_end (Atom a) ≤ length es → noad_in fs a ≡ noad_in es a
noad_later es fs a e w =
    let n : cell_part fs a.nucleus ≡ cell_part es a.nucleus = cell_later es fs a.nucleus e (omega (arith, w)) in
    let p : cell_part fs a.sup ≡ cell_part es a.sup = cell_later es fs a.sup e (omega (arith, w)) in
    let b : cell_part fs a.sub ≡ cell_part es a.sub = cell_later es fs a.sub e (omega (arith, w)) in
    ap (λ x. record { kind = a.kind; limits = a.limits; nucleus = x; sup = cell_part fs a.sup; sub = cell_part fs a.sub }) n
    ∙ ap (λ x. record { kind = a.kind; limits = a.limits; nucleus = cell_part es a.nucleus; sup = x; sub = cell_part fs a.sub }) p
    ∙ ap (λ x. record { kind = a.kind; limits = a.limits; nucleus = cell_part es a.nucleus; sup = cell_part es a.sup; sub = x }) b

pub kept_later : (es fs : List Held) (a : Noad) → Extends es fs → KeptNoad es a → KeptNoad fs a
kept_later es fs a e k =
    let same = sym (noad_later es fs a e k.within) in
    record {
      within = omega (arith, k.within, extends_length es fs e);
      lists = subst (λ v. ElementLists (element_of_atom v)) same k.lists;
      fits = subst (λ v. atom_fits v.kind v.nucleus v.sup v.sub ≡ true) same k.fits;
    }

pub open_later : (es fs : List Held) (a : Noad) → Extends es fs → OpenNoad es a → OpenNoad fs a
open_later es fs a e k = record {
  kept = kept_later es fs a e k.kept;
  takes = subst (λ v. takes_scripts v.kind v.nucleus ≡ true) (sym (noad_later es fs a e k.kept.within)) k.takes;
}

pub last_later : (es fs : List Held) (last : Option Noad) → Extends es fs → KeptLast es last → last_in fs last ≡ last_in es last
last_later es fs None e k = refl
last_later es fs (Some a) e k = ap Some (noad_later es fs a e k.kept.within)

pub kept_last_later : (es fs : List Held) (last : Option Noad) → Extends es fs → KeptLast es last → KeptLast fs last
kept_last_later es fs None e k = tt
kept_last_later es fs (Some a) e k = open_later es fs a e k

-- ---- a thing that is the whole list

-- it is an atom, and keeps what atoms keep
pub lone_atom : (es hs : List Held) (a : Noad) → hs ≡ value_in es (Atom a) ∷ [] → only_atom (as_sequence hs) ≡ Some (noad_in es a)
lone_atom es hs a e = ap (λ x. only_atom (as_sequence x)) e

pub lone_kept : (es hs : List Held) (a : Noad) (at : ℕ) → hs ≡ value_in es (Atom a) ∷ [] → are_inside hs ≡ true → thing_end (Atom a) ≤ at → at ≤ length es → ElementLists (element_of_atom (noad_in es a)) → KeptNoad es a
lone_kept es hs a at e h b n l = record {
  within = omega (arith, b, n);
  lists = l;
  fits = first_true (atom_fits a.kind (cell_part es a.nucleus) (cell_part es a.sup) (cell_part es a.sub)) true (sym (ap are_inside e) ∙ h);
}

-- it is none
pub lone_other : (es hs : List Held) (t : Thing) → hs ≡ value_in es t ∷ [] → ((a : Noad) → t ≡ Atom a → ⊥) → only_atom (as_sequence hs) ≡ None
lone_other es hs (Atom a) e n = absurd (n a refl)
lone_other es hs (Fraction f) e n = ap (λ x. only_atom (as_sequence x)) e
lone_other es hs (Left d) e n = ap (λ x. only_atom (as_sequence x)) e
lone_other es hs (Middle d) e n = ap (λ x. only_atom (as_sequence x)) e
lone_other es hs (Right d) e n = ap (λ x. only_atom (as_sequence x)) e
lone_other es hs (StyleItem s) e n = ap (λ x. only_atom (as_sequence x)) e
lone_other es hs (Choice c) e n = ap (λ x. only_atom (as_sequence x)) e
lone_other es hs (MuSpace g) e n = ap (λ x. only_atom (as_sequence x)) e
lone_other es hs (Space g) e n = ap (λ x. only_atom (as_sequence x)) e
lone_other es hs (MuKern k) e n = ap (λ x. only_atom (as_sequence x)) e
lone_other es hs (Kern k) e n = ap (λ x. only_atom (as_sequence x)) e
lone_other es hs Nonscript e n = ap (λ x. only_atom (as_sequence x)) e
lone_other es hs (Row s) e n = ap (λ x. only_atom (as_sequence x)) e
lone_other es hs (Cells s) e n = ap (λ x. only_atom (as_sequence x)) e
lone_other es hs (Root r) e n = ap (λ x. only_atom (as_sequence x)) e

-- ---- parts of atoms

-- a list as a field
pub list_field : (es : List Held) (s : Span) → KeptSpan es s → KeptField es (OfList s)
list_field es s k = record {
  within = k.within;
  lists = (math_list (sequence_in es s) (inside_sequence (held_in es s) k.inside), k.lists);
  field = refl;
}

-- an atom of a nucleus that is a field, without scripts
pub field_noad : (es : List Held) (kind : FieldKind) (c : Cell) → KeptField es c → KeptNoad es (bare_noad (nucleus_kind kind) c)
field_noad es kind c k = record {
  within = omega (arith, k.within);
  lists = (k.lists, tt, tt);
  fits = atom_of_field kind (cell_part es c) k.field;
}

-- ---- primes

pub one_more : (n : ℕ) → append (prime_items n) (More (element_of_atom prime_atom) End) ≡ prime_items (suc n)
one_more zero = refl
one_more (suc n) = ap (More (element_of_atom prime_atom)) (one_more n)

-- one prime more
pub prime_pushed : (hs ks : List Held) (n : ℕ) → ks ≡ hs ++ ItemHeld (element_of_atom prime_atom) ∷ [] → as_sequence hs ≡ prime_items n → as_sequence ks ≡ prime_items (n + 1)
prime_pushed hs ks n e h =
    ap as_sequence e ∙ sequence_more hs (ItemHeld (element_of_atom prime_atom) ∷ []) ∙ ap (λ s. append s (More (element_of_atom prime_atom) End)) h ∙ one_more n ∙ ap prime_items (sym (add-one n))

pub prime_inside : (hs ks : List Held) → ks ≡ hs ++ ItemHeld (element_of_atom prime_atom) ∷ [] → are_inside hs ≡ true → are_inside ks ≡ true
prime_inside hs ks e h = ap are_inside e ∙ inside_more hs (ItemHeld (element_of_atom prime_atom) ∷ []) h refl

-- ---- a span later

pub kept_span_later : (es fs : List Held) (s : Span) → Extends es fs → KeptSpan es s → KeptSpan fs s
kept_span_later es fs s e k =
    let same = sym (span_later es fs s e k.within) in
    record {
      within = omega (arith, k.within, extends_length es fs e);
      lists = subst (λ hs. InnerLists (as_sequence hs)) same k.lists;
      inside = subst (λ hs. are_inside hs ≡ true) same k.inside;
    }

-- a list of a span, with the lists in it
pub span_lists : (es : List Held) (s : Span) → KeptSpan es s → KeptList (sequence_in es s)
span_lists es s k = (math_list (sequence_in es s) (inside_sequence (held_in es s) k.inside), k.lists)

pub no_boundaries_in : (es : List Held) (s : Span) → KeptSpan es s → no_boundary (sequence_in es s) ≡ true
no_boundaries_in es s k = inside_no_boundary (sequence_in es s) (inside_sequence (held_in es s) k.inside)
