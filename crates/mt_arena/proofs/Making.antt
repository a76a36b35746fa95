-- A list that is made of a span, as far as it was made.
use Rattle.std.proofs.Common.{◌≡◌, ℕ, suc, ◌+◌, ◌<◌, ◌≤◌, List, [], ◌∷◌, ◌++◌, length, refl, sym, ap, ◌∙◌, slice_get, Some, None, take, arith}
use Rattle.std.specs.Prelude.{Option}
use Rattle.std.proofs.Math.ListN.{drop_of_length-le}
use Rattle.std.proofs.lemmas.List.{length-take}
use Rattle.std.specs.Option.{option_to_list}
use Rattle.mt_rules.specs.declared.list.Item.{Item}
use Rattle.mt_rules.specs.Sequence.{Sequence, Element, Rows, TableGrid, End, More, NoRows, MoreRows, NoTableRows, MoreTableRows, NonscriptElement}
use Rattle.mt_rules.specs.View.{sequence_of, element_of}
use Rattle.mt_rules.specs.Rows.{rows_of, grid_of}
use Rattle.mt_arena.specs.Arena.{Held, ItemHeld, RowHeld, CellsHeld, RootHeld, held_in, as_sequence, as_rows, as_grid, as_root, root_in}
use Rattle.mt_arena.proofs.Growing.{next_in}

abbrev pub after : List Item → Sequence → Sequence
after [] s = s
after (i ∷ is) s = More (element_of i) (after is s)

abbrev pub rows_after : List Sequence → Rows → Rows
rows_after [] r = r
rows_after (s ∷ ss) r = MoreRows s (rows_after ss r)

abbrev pub grid_after : List Rows → TableGrid → TableGrid
grid_after [] g = g
grid_after (r ∷ rs) g = MoreTableRows r (grid_after rs g)

pub after_more : (is js : List Item) (s : Sequence) → after (is ++ js) s ≡ after is (after js s)
after_more [] js s = refl
after_more (i ∷ is) js s = ap (λ x. More (element_of i) x) (after_more is js s)

pub rows_after_more : (is js : List Sequence) (s : Rows) → rows_after (is ++ js) s ≡ rows_after is (rows_after js s)
rows_after_more [] js s = refl
rows_after_more (i ∷ is) js s = ap (λ x. MoreRows i x) (rows_after_more is js s)

pub grid_after_more : (is js : List Rows) (s : TableGrid) → grid_after (is ++ js) s ≡ grid_after is (grid_after js s)
grid_after_more [] js s = refl
grid_after_more (i ∷ is) js s = ap (λ x. MoreTableRows i x) (grid_after_more is js s)

pub after_end : (is : List Item) → after is End ≡ sequence_of is
after_end [] = refl
after_end (i ∷ is) = ap (λ x. More (element_of i) x) (after_end is)

pub rows_after_end : (ss : List Sequence) → rows_after ss NoRows ≡ rows_of ss
rows_after_end [] = refl
rows_after_end (s ∷ ss) = ap (λ x. MoreRows s x) (rows_after_end ss)

pub grid_after_end : (rs : List Rows) → grid_after rs NoTableRows ≡ grid_of rs
grid_after_end [] = refl
grid_after_end (r ∷ rs) = ap (λ x. MoreTableRows r x) (grid_after_end rs)

first_of : Sequence → Element
first_of End = NonscriptElement
first_of (More e s) = e

same_first : (e f : Element) → More e End ≡ More f End → e ≡ f
unfolding first_of
same_first e f h = ap first_of h

not_end : (e : Element) → More e End ≡ End → ⊥
not_end e h = cc

not_more : (e : Element) → End ≡ More e End → ⊥
not_more e h = cc

-- a thing that was an item, or none
pub one_after : (h : Held) (hs : List Held) (o : Option Item) → as_sequence (h ∷ []) ≡ sequence_of (option_to_list o) → as_sequence (h ∷ hs) ≡ after (option_to_list o) (as_sequence hs)
one_after (ItemHeld e) hs (Some i) k = ap (λ x. More x (as_sequence hs)) (same_first e (element_of i) k)
one_after (ItemHeld e) hs None k = absurd (not_end e k)
one_after (RowHeld s) hs (Some i) k = absurd (not_more (element_of i) k)
one_after (RowHeld s) hs None k = refl
one_after (CellsHeld r) hs (Some i) k = absurd (not_more (element_of i) k)
one_after (CellsHeld r) hs None k = refl
one_after (RootHeld d b) hs (Some i) k = absurd (not_more (element_of i) k)
one_after (RootHeld d b) hs None k = refl

first_row : Rows → Sequence
first_row NoRows = End
first_row (MoreRows s r) = s

first_cells : TableGrid → Rows
first_cells NoTableRows = NoRows
first_cells (MoreTableRows r g) = r

same_row : (e f : Sequence) → MoreRows e NoRows ≡ MoreRows f NoRows → e ≡ f
unfolding first_row
same_row e f h = ap first_row h

same_cells : (e f : Rows) → MoreTableRows e NoTableRows ≡ MoreTableRows f NoTableRows → e ≡ f
unfolding first_cells
same_cells e f h = ap first_cells h

not_no_rows : (e : Sequence) → MoreRows e NoRows ≡ NoRows → ⊥
not_no_rows e h = cc

not_no_cells : (e : Rows) → MoreTableRows e NoTableRows ≡ NoTableRows → ⊥
not_no_cells e h = cc

pub row_after : (h : Held) (hs : List Held) (o : Option Sequence) → as_rows (h ∷ []) ≡ rows_of (option_to_list o) → as_rows (h ∷ hs) ≡ rows_after (option_to_list o) (as_rows hs)
row_after (RowHeld e) hs (Some i) k = ap (λ x. MoreRows x (as_rows hs)) (same_row e i k)
row_after (RowHeld e) hs None k = absurd (not_no_rows e k)
row_after (ItemHeld s) hs (Some i) k = absurd (not_no_rows i (sym k))
row_after (ItemHeld s) hs None k = refl
row_after (CellsHeld r) hs (Some i) k = absurd (not_no_rows i (sym k))
row_after (CellsHeld r) hs None k = refl
row_after (RootHeld d b) hs (Some i) k = absurd (not_no_rows i (sym k))
row_after (RootHeld d b) hs None k = refl

pub cells_after : (h : Held) (hs : List Held) (o : Option Rows) → as_grid (h ∷ []) ≡ grid_of (option_to_list o) → as_grid (h ∷ hs) ≡ grid_after (option_to_list o) (as_grid hs)
cells_after (CellsHeld e) hs (Some i) k = ap (λ x. MoreTableRows x (as_grid hs)) (same_cells e i k)
cells_after (CellsHeld e) hs None k = absurd (not_no_cells e k)
cells_after (ItemHeld s) hs (Some i) k = absurd (not_no_cells i (sym k))
cells_after (ItemHeld s) hs None k = refl
cells_after (RowHeld r) hs (Some i) k = absurd (not_no_cells i (sym k))
cells_after (RowHeld r) hs None k = refl
cells_after (RootHeld d b) hs (Some i) k = absurd (not_no_cells i (sym k))
cells_after (RootHeld d b) hs None k = refl

-- one thing more
pub made_step : {A V : Type 0} (aft : List A → V → V) (f : List Held → V) → ((is js : List A) (v : V) → aft (is ++ js) v ≡ aft is (aft js v))
    → (es : List Held) (at end : ℕ) (h : Held) (o : Option A) (is js : List A) (all : V) → at < end → end ≤ length es → slice_get es at ≡ Some h
    → ((hs : List Held) → f (h ∷ hs) ≡ aft (option_to_list o) (f hs)) → js ≡ is ++ option_to_list o
    → aft is (f (held_in es (record { start = at; end = end }))) ≡ all
    → aft js (f (held_in es (record { start = at + 1; end = end }))) ≡ all
made_step aft f more es at end h o is js all l k g one e i =
    let hs = held_in es (record { start = at + 1; end = end }) in
    ap (λ x. aft x (f hs)) e ∙ (more is (option_to_list o) (f hs) ∙ (ap (λ x. aft is x) (sym (ap f (next_in es at end h l k g) ∙ one hs)) ∙ i))

none_left : (es : List Held) (at end : ℕ) → end ≤ at → held_in es (record { start = at; end = end }) ≡ []
none_left es at end l = drop_of_length-le (take end es) (omega (arith, length-take end es, l))

-- nothing more
pub made_end : {A V : Type 0} (aft : List A → V → V) (f : List Held → V) (view : List A → V) → ((is : List A) → aft is (f []) ≡ view is)
    → (es : List Held) (at end : ℕ) (is : List A) (all : V) → end ≤ at
    → aft is (f (held_in es (record { start = at; end = end }))) ≡ all → view is ≡ all
made_end aft f view same es at end is all l i = sym (same is) ∙ (ap (λ x. aft is (f x)) (sym (none_left es at end l)) ∙ i)

root_first : (h : Held) (hs : List Held) → as_root (h ∷ hs) ≡ as_root (h ∷ [])
root_first (ItemHeld e) hs = refl
root_first (RowHeld s) hs = refl
root_first (CellsHeld r) hs = refl
root_first (RootHeld d b) hs = refl

-- the root at a place
pub root_there : (es : List Held) (n : ℕ) (h : Held) → n < length es → slice_get es n ≡ Some h → root_in es n ≡ as_root (h ∷ [])
root_there es n h l s =
    ap as_root (next_in es n (suc n) h (omega arith) (omega (arith, l)) s) ∙ root_first h (held_in es (record { start = n + 1; end = suc n }))
