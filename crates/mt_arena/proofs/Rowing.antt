-- The next row of a span, and the next row of a table, where other things are left out.
use Rattle.std.proofs.Common.{◌≡◌, ℕ, ◌+◌, ◌<◌, ◌≤◌, List, ◌∷◌, length, take, slice_get, Some, ap, refl, ◌∙◌, arith}
use Rattle.std.proofs.lemmas.List.{drop_all, length-take}
use Rattle.mt_rules.specs.Sequence.{Element, NoRows, MoreRows, NoTableRows, MoreTableRows}
use Rattle.mt_arena.specs.declared.thing.RootParts.{RootParts}
use Rattle.mt_arena.specs.declared.thing.Span.{Span}
use Rattle.mt_arena.specs.declared.thing.Thing.{Thing}
use Rattle.mt_arena.specs.declared.thing.Thing.TheVariants as thing
use Rattle.mt_arena.specs.Arena.{Held, ItemHeld, as_grid, as_rows, grid_in, held_in, rows_in, sequence_in, value_in}
use Rattle.mt_arena.proofs.Growing.{next_in}

-- what a thing of an arena is: an item, a row, a row of a table or a root
pub data ThingKind (es : List Held) (t : Thing) : Type 0 where
  AnItem : (element : Element) → value_in es t ≡ ItemHeld element → ThingKind es t
  ARow : (list : Span) → t ≡ thing.Row list → ThingKind es t
  SomeCells : (cells : Span) → t ≡ thing.Cells cells → ThingKind es t
  ARoot : (parts : RootParts) → t ≡ thing.Root parts → ThingKind es t

pub thing_kind : (es : List Held) (t : Thing) → ThingKind es t
thing_kind es (thing.Row list) = ARow list refl
thing_kind es (thing.Cells cells) = SomeCells cells refl
thing_kind es (thing.Root parts) = ARoot parts refl
thing_kind es _ = AnItem _ refl

not_row : (es : List Held) (t : Thing) (hs : List Held) → ((list : Span) → t ≡ thing.Row list → ⊥) → ThingKind es t → as_rows (value_in es t ∷ hs) ≡ as_rows hs
not_row es t hs n (AnItem e k) = ap (λ h. as_rows (h ∷ hs)) k
not_row es t hs n (ARow s k) = absurd (n s k)
not_row es t hs n (SomeCells s k) = ap (λ x. as_rows (value_in es x ∷ hs)) k
not_row es t hs n (ARoot r k) = ap (λ x. as_rows (value_in es x ∷ hs)) k

not_cells : (es : List Held) (t : Thing) (hs : List Held) → ((cells : Span) → t ≡ thing.Cells cells → ⊥) → ThingKind es t → as_grid (value_in es t ∷ hs) ≡ as_grid hs
not_cells es t hs n (AnItem e k) = ap (λ h. as_grid (h ∷ hs)) k
not_cells es t hs n (ARow s k) = ap (λ x. as_grid (value_in es x ∷ hs)) k
not_cells es t hs n (SomeCells s k) = absurd (n s k)
not_cells es t hs n (ARoot r k) = ap (λ x. as_grid (value_in es x ∷ hs)) k

-- ---- the thing at hand of a range, and the range behind it

pub row_first : (es : List Held) (at end : ℕ) (t : Thing) (list : Span) → at < end → end ≤ length es → slice_get es at ≡ Some (value_in es t) → t ≡ thing.Row list → rows_in es (record { start = at; end = end }) ≡ MoreRows (sequence_in es list) (rows_in es (record { start = at + 1; end = end }))
row_first es at end t list l k s e = ap as_rows (next_in es at end (value_in es t) l k s) ∙ ap (λ x. as_rows (value_in es x ∷ held_in es (record { start = at + 1; end = end }))) e

pub row_later : (es : List Held) (at end : ℕ) (t : Thing) → at < end → end ≤ length es → slice_get es at ≡ Some (value_in es t) → ((list : Span) → t ≡ thing.Row list → ⊥) → rows_in es (record { start = at; end = end }) ≡ rows_in es (record { start = at + 1; end = end })
row_later es at end t l k s n = ap as_rows (next_in es at end (value_in es t) l k s) ∙ not_row es t _ n (thing_kind es t)

pub no_row_left : (es : List Held) (at end : ℕ) → end ≤ at → rows_in es (record { start = at; end = end }) ≡ NoRows
no_row_left es at end l = ap as_rows (drop_all at (take end es) (omega (arith, l, length-take end es)))

pub cells_first : (es : List Held) (at end : ℕ) (t : Thing) (cells : Span) → at < end → end ≤ length es → slice_get es at ≡ Some (value_in es t) → t ≡ thing.Cells cells → grid_in es (record { start = at; end = end }) ≡ MoreTableRows (rows_in es cells) (grid_in es (record { start = at + 1; end = end }))
cells_first es at end t cells l k s e = ap as_grid (next_in es at end (value_in es t) l k s) ∙ ap (λ x. as_grid (value_in es x ∷ held_in es (record { start = at + 1; end = end }))) e

pub cells_later : (es : List Held) (at end : ℕ) (t : Thing) → at < end → end ≤ length es → slice_get es at ≡ Some (value_in es t) → ((cells : Span) → t ≡ thing.Cells cells → ⊥) → grid_in es (record { start = at; end = end }) ≡ grid_in es (record { start = at + 1; end = end })
cells_later es at end t l k s n = ap as_grid (next_in es at end (value_in es t) l k s) ∙ not_cells es t _ n (thing_kind es t)

pub no_cells_left : (es : List Held) (at end : ℕ) → end ≤ at → grid_in es (record { start = at; end = end }) ≡ NoTableRows
no_cells_left es at end l = ap as_grid (drop_all at (take end es) (omega (arith, l, length-take end es)))
