-- What is left of a list, item by item.
use Rattle.std.proofs.Common.{◌≡◌, ℕ, ◌+◌, ◌<◌, ◌≤◌, List, [], ◌∷◌, ◌++◌, length, take, refl, ap, ◌∙◌, arith, slice_get, Some, false}
use Rattle.std.proofs.lemmas.List.{drop_all, length-take}
use Rattle.mt_rules.specs.Sequence.{Sequence, End, More}
use Rattle.mt_arena.specs.declared.thing.Span.{Span}
use Rattle.mt_arena.specs.declared.thing.Thing.{Thing}
use Rattle.mt_arena.specs.declared.thing.Thing.TheVariants.{Atom, Fraction, Left, Middle, Right, Style as StyleItem, Choice, MuSpace, Space, MuKern, Kern, Nonscript, Row, Cells, Root}
use Rattle.mt_arena.specs.Arena.{Held, ItemHeld, RowHeld, CellsHeld, RootHeld, held_in, as_sequence, sequence_in, value_in}
use Rattle.mt_arena.specs.Rest.{append_list, more_of, is_item, stacked_on, SpansWithin}
use Rattle.mt_arena.proofs.Growing.{next_in}

pub append_end : (s : Sequence) → append_list s End ≡ s
append_end End = refl
append_end (More n s) = ap (More n) (append_end s)

pub first_more : (h : Held) (hs : List Held) → as_sequence (h ∷ hs) ≡ more_of h (as_sequence hs)
first_more (ItemHeld e) hs = refl
first_more (RowHeld s) hs = refl
first_more (CellsHeld r) hs = refl
first_more (RootHeld d b) hs = refl

pub append_more : (h : Held) (s r : Sequence) → append_list (more_of h s) r ≡ more_of h (append_list s r)
append_more (ItemHeld e) s r = refl
append_more (RowHeld t) s r = refl
append_more (CellsHeld c) s r = refl
append_more (RootHeld d b) s r = refl

-- what is no item is in no list
pub none_more : (es : List Held) (t : Thing) (s : Sequence) → is_item t ≡ false → more_of (value_in es t) s ≡ s
none_more es (Atom a) s e = absurd cc
none_more es (Fraction a) s e = absurd cc
none_more es (Left a) s e = absurd cc
none_more es (Middle a) s e = absurd cc
none_more es (Right a) s e = absurd cc
none_more es (StyleItem a) s e = absurd cc
none_more es (Choice a) s e = absurd cc
none_more es (MuSpace a) s e = absurd cc
none_more es (Space a) s e = absurd cc
none_more es (MuKern a) s e = absurd cc
none_more es (Kern a) s e = absurd cc
none_more es Nonscript s e = absurd cc
none_more es (Row a) s e = refl
none_more es (Cells a) s e = refl
none_more es (Root a) s e = refl

-- the thing at hand of a range, and the range behind it
pub range_more : (es : List Held) (at end : ℕ) (h : Held) → at < end → end ≤ length es → slice_get es at ≡ Some h
    → sequence_in es (record { start = at; end = end }) ≡ more_of h (sequence_in es (record { start = at + 1; end = end }))
range_more es at end h l k s = ap as_sequence (next_in es at end h l k s) ∙ first_more h (held_in es (record { start = at + 1; end = end }))

-- a range at its end
pub range_end : (es : List Held) (at end : ℕ) → end ≤ at → sequence_in es (record { start = at; end = end }) ≡ End
range_end es at end h = ap as_sequence (drop_all at (take end es) (omega (arith, h, length-take end es)))

-- the innermost of the lists round it
pub stacked_last : (es : List Held) (ss : List Span) (s : Span) (after : Sequence)
    → stacked_on es (ss ++ s ∷ []) after ≡ append_list (sequence_in es s) (stacked_on es ss after)
stacked_last es [] s after = refl
stacked_last es (x ∷ ss) s after = stacked_last es ss s (append_list (sequence_in es x) after)

pub spans_last : (n : ℕ) (ss : List Span) (s : Span) → SpansWithin n ss → s.end ≤ n → SpansWithin n (ss ++ s ∷ [])
spans_last n [] s h k = (k, tt)
spans_last n (x ∷ ss) s h k = (h.0, spans_last n ss s h.1 k)

pub spans_front : (n : ℕ) (ss : List Span) (s : Span) → SpansWithin n (ss ++ s ∷ []) → SpansWithin n ss × (s.end ≤ n)
spans_front n [] s h = (tt, h.0)
spans_front n (x ∷ ss) s h = let r = spans_front n ss s h.1 in ((h.0, r.0), r.1)
