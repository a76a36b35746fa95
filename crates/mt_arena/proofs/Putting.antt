-- A list that is put behind others, item by item.
use Rattle.std.proofs.Common.{◌≡◌, ℕ, zero, suc, ◌+◌, ◌<◌, ◌≤◌, List, [], ◌∷◌, ◌++◌, length, map, take, drop, get_or, refl, sym, ap, ◌∙◌, arith, append_assoc, subst, length-append}
use Rattle.std.proofs.lemmas.List.{take-append-drop, take_at, take_all}
use Rattle.std.proofs.Math.Seq.{drop-append_seam}
use Rattle.std.specs.Prelude.{Result, Ok, Err, IfOk}
use Rattle.mt_rules.specs.declared.list.Item.{Item}
use Rattle.mt_rules.specs.Sequence.{Sequence, Rows, sequence_size, element_size, rows_size, grid_size}
use Rattle.mt_rules.specs.View.{sequence_of, element_of}
use Rattle.mt_rules.specs.Rows.{rows_of, grid_of}
use Rattle.mt_arena.specs.declared.thing.Span.{Span}
use Rattle.mt_arena.specs.declared.thing.Cell.{Cell}
use Rattle.mt_arena.specs.Arena.{Held, ItemHeld, RowHeld, CellsHeld, RootHeld, ArenaValue, Extends, held_in, as_sequence, as_rows, as_grid, as_root, root_in, cell_part, cell_end}
use Rattle.mt_arena.specs.Keeping.{AllLists, InnerLists, RowsLists, GridLists}
use Rattle.mt_arena.proofs.Growing.{span_stays, cell_stays}

pub record PutSoFar (old now : ArenaValue) (es : List Held) : Type 0 where
  pub front : Extends old.closed now.closed
  pub top : now.top ≡ es
  pub below : now.below ≡ old.top ∷ old.below

pub extends_same : (es : List Held) → Extends es es
extends_same [] = refl
extends_same (e ∷ es) = ap (λ xs. e ∷ xs) (extends_same es)

pub extends_append : (es fs : List Held) → Extends es (es ++ fs)
extends_append es fs = take_at es fs (length es) refl

-- what lies behind
whole : (es fs : List Held) → Extends es fs → es ++ drop (length es) fs ≡ fs
whole es fs h = ap (λ x. x ++ drop (length es) fs) (sym h) ∙ take-append-drop (length es) fs

pub extends_more : (es fs gs : List Held) → Extends es fs → Extends fs gs → Extends es gs
extends_more es fs gs h k =
    subst (λ x. Extends es x) (sym (append_assoc es (drop (length es) fs) (drop (length fs) gs)) ∙ (ap (λ x. x ++ drop (length fs) gs) (whole es fs h) ∙ whole fs gs k))
    (extends_append es (drop (length es) fs ++ drop (length fs) gs))

pub extends_length : (es fs : List Held) → Extends es fs → length es ≤ length fs
extends_length es fs h = omega (arith, ap length (whole es fs h), length-append es (drop (length es) fs))

pub span_later : (es fs : List Held) (s : Span) → Extends es fs → s.end ≤ length es → held_in fs s ≡ held_in es s
span_later es fs s h k = ap (λ x. held_in x s) (sym (whole es fs h)) ∙ span_stays es (drop (length es) fs) s k

pub cell_later : (es fs : List Held) (c : Cell) → Extends es fs → cell_end c ≤ length es → cell_part fs c ≡ cell_part es c
cell_later es fs c h k = ap (λ x. cell_part x c) (sym (whole es fs h)) ∙ cell_stays es (drop (length es) fs) c k

abbrev pub items_held : List Item → List Held
items_held is = map (λ i. ItemHeld (element_of i)) is

pub items_sequence : (is : List Item) → as_sequence (items_held is) ≡ sequence_of is
items_sequence [] = refl
items_sequence (i ∷ is) = rw (items_sequence is) refl

abbrev pub rows_held : List Sequence → List Held
rows_held ss = map (λ s. RowHeld s) ss

pub rows_as_rows : (ss : List Sequence) → as_rows (rows_held ss) ≡ rows_of ss
rows_as_rows [] = refl
rows_as_rows (s ∷ ss) = rw (rows_as_rows ss) refl

abbrev pub cells_held : List Rows → List Held
cells_held rs = map (λ r. CellsHeld r) rs

pub cells_as_grid : (rs : List Rows) → as_grid (cells_held rs) ≡ grid_of rs
cells_as_grid [] = refl
cells_as_grid (r ∷ rs) = rw (cells_as_grid rs) refl

some_size : (is : List Item) → 1 ≤ sequence_size (sequence_of is)
some_size [] = omega arith
some_size (i ∷ is) = omega (arith, some_size is)

pub item_smaller : (is : List Item) (n : ℕ) (d : Item) → n < length is → element_size (element_of (get_or is n d)) + 1 ≤ sequence_size (sequence_of is)
item_smaller [] n d h = absurd (omega (arith, h))
item_smaller (i ∷ is) zero d h = omega (arith, some_size is)
item_smaller (i ∷ is) (suc n) d h = omega (arith, item_smaller is n d (omega (arith, h)))

pub row_smaller : (ss : List Sequence) (n : ℕ) (d : Sequence) → n < length ss → sequence_size (get_or ss n d) + 1 ≤ rows_size (rows_of ss)
row_smaller [] n d h = absurd (omega (arith, h))
row_smaller (s ∷ ss) zero d h = omega arith
row_smaller (s ∷ ss) (suc n) d h = omega (arith, row_smaller ss n d (omega (arith, h)))

pub cells_smaller : (rs : List Rows) (n : ℕ) (d : Rows) → n < length rs → rows_size (get_or rs n d) + 1 ≤ grid_size (grid_of rs)
cells_smaller [] n d h = absurd (omega (arith, h))
cells_smaller (r ∷ rs) zero d h = omega arith
cells_smaller (r ∷ rs) (suc n) d h = omega (arith, cells_smaller rs n d (omega (arith, h)))

-- what is closed, where all of it was put
pub closed_items : {A V : Type 0} (f : List Held → V) (g : A → Held) (view : List A → V) → ((is : List A) → f (map g is) ≡ view is)
    → (hs : List Held) (is : List A) (n : ℕ) (s : V) → hs ≡ map g (take n is) → length is ≤ n → view is ≡ s → f hs ≡ s
closed_items f g view same hs is n s e h k = ap f e ∙ (ap (λ x. f (map g x)) (take_all n is h) ∙ (same is ∙ k))

pub span_same : {E V : Type 0} (r : Result Span E) (f : List Held → V) (hs es : List Held) (b : V) → f es ≡ b → IfOk r (λ s. held_in hs s ≡ es) → IfOk r (λ s. f (held_in hs s) ≡ b)
span_same (Ok s) f hs es b e h = ap f h ∙ e
span_same (Err x) f hs es b e h = tt

-- a root that was put last
pub root_last : (es : List Held) (h : Held) (n : ℕ) → n ≡ length es → root_in (es ++ h ∷ []) n ≡ as_root (h ∷ [])
root_last es h n e =
    rw e (ap (λ x. as_root (drop (length es) x)) (take_all (suc (length es)) (es ++ h ∷ []) (omega (arith, length-append es (h ∷ [])))) ∙ ap as_root (drop-append_seam es (h ∷ [])))

pub inner_lists : (hs : List Held) → AllLists hs → InnerLists (as_sequence hs)
inner_lists [] h = tt
inner_lists (ItemHeld e ∷ hs) h = (h.0, inner_lists hs h.1)
inner_lists (RowHeld s ∷ hs) h = inner_lists hs h.1
inner_lists (CellsHeld r ∷ hs) h = inner_lists hs h.1
inner_lists (RootHeld d b ∷ hs) h = inner_lists hs h.1

pub rows_lists : (hs : List Held) → AllLists hs → RowsLists (as_rows hs)
rows_lists [] h = tt
rows_lists (ItemHeld e ∷ hs) h = rows_lists hs h.1
rows_lists (RowHeld s ∷ hs) h = (h.0, rows_lists hs h.1)
rows_lists (CellsHeld r ∷ hs) h = rows_lists hs h.1
rows_lists (RootHeld d b ∷ hs) h = rows_lists hs h.1

pub grid_lists : (hs : List Held) → AllLists hs → GridLists (as_grid hs)
grid_lists [] h = tt
grid_lists (ItemHeld e ∷ hs) h = grid_lists hs h.1
grid_lists (RowHeld s ∷ hs) h = grid_lists hs h.1
grid_lists (CellsHeld r ∷ hs) h = (h.0, grid_lists hs h.1)
grid_lists (RootHeld d b ∷ hs) h = grid_lists hs h.1
