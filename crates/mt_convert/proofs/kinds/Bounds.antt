-- What the parts of a modest list keep.
use Rattle.std.proofs.Common.{◌≡◌, ◌≤◌, ℕ, suc, List, [], ◌∷◌, length, take, drop, arith, refl, sym, subst, Option, ℤ}
use Rattle.mt_convert.proofs.Common.{Kind, Limits, Look, Delim, Sequence, Part, Rows, End, AtomElement, FractionElement, EmptyPart, ListPart, RowsPart, TablePart, RootPart, MoreRows, TableGrid, MoreTableRows, IsModestList, ThicknessAmount, Cell, Noad, Span, Held, RootHeld, as_root, cell_end, cell_part, root_in, sequence_in, KeptList, PartLists}
use Rattle.mt_arena.specs.declared.thing.Cell.TheVariants.{List as OfList}
use Rattle.mt_arena.specs.declared.thing.FractionNoad.{FractionNoad}
use Rattle.mt_arena.specs.declared.thing.RootParts.{RootParts}
use Rattle.mt_convert.specs.inner.Spans.{ModestAtom, ModestCell, ModestFraction, ModestSpan}
use Rattle.mt_convert.specs.inner.Modest.{IsModestElement, IsModestGrid, IsModestPart, IsModestRows}

-- ---- modest parts

list_of_part : (l : Sequence) → IsModestPart (ListPart l) → IsModestList l
list_of_part l g = record { nesting = omega (arith, g.nesting); items = g.items; amounts = g.amounts }

pub rows_of_part : (rows : Rows) → IsModestPart (RowsPart rows) → IsModestRows rows
rows_of_part rows g = record { nesting = g.nesting; items = g.items; amounts = g.amounts }

pub grid_of_part : (look : Look) (grid : TableGrid) → IsModestPart (TablePart look grid) → IsModestGrid grid
grid_of_part look grid g = record { nesting = g.nesting; items = g.items; amounts = g.amounts }

degree_of_part : (degree : Sequence) (body : Part) → IsModestPart (RootPart degree body) → IsModestPart (ListPart degree)
degree_of_part degree body g = record { nesting = omega (arith, g.nesting); items = omega (arith, g.items); amounts = g.amounts.0 }

body_of_part : (degree : Sequence) (body : Part) → IsModestPart (RootPart degree body) → IsModestPart body
body_of_part degree body g = record { nesting = omega (arith, g.nesting); items = omega (arith, g.items); amounts = g.amounts.1 }

modest_nucleus : (kind : Kind) (limits : Limits) (nucleus sup sub : Part) → IsModestElement (AtomElement kind limits nucleus sup sub) → IsModestPart nucleus
modest_nucleus kind limits nucleus sup sub h = record { nesting = omega (arith, h.nesting); items = omega (arith, h.items); amounts = h.amounts.0 }

modest_sup : (kind : Kind) (limits : Limits) (nucleus sup sub : Part) → IsModestElement (AtomElement kind limits nucleus sup sub) → IsModestPart sup
modest_sup kind limits nucleus sup sub h = record { nesting = omega (arith, h.nesting); items = omega (arith, h.items); amounts = h.amounts.1 }

modest_sub : (kind : Kind) (limits : Limits) (nucleus sup sub : Part) → IsModestElement (AtomElement kind limits nucleus sup sub) → IsModestPart sub
modest_sub kind limits nucleus sup sub h = record { nesting = omega (arith, h.nesting); items = omega (arith, h.items); amounts = h.amounts.2 }

pub thickness_of_fraction : (thickness : Option ℤ) (left right : Delim) (num den : Sequence) → IsModestElement (FractionElement thickness left right num den) → ThicknessAmount thickness
thickness_of_fraction thickness left right num den h = h.amounts.0

num_of_fraction : (thickness : Option ℤ) (left right : Delim) (num den : Sequence) → IsModestElement (FractionElement thickness left right num den) → IsModestList num
num_of_fraction thickness left right num den h = record { nesting = omega (arith, h.nesting); items = omega (arith, h.items); amounts = h.amounts.1 }

den_of_fraction : (thickness : Option ℤ) (left right : Delim) (num den : Sequence) → IsModestElement (FractionElement thickness left right num den) → IsModestList den
den_of_fraction thickness left right num den h = record { nesting = omega (arith, h.nesting); items = omega (arith, h.items); amounts = h.amounts.2 }

pub first_row : (s : Sequence) (rows : Rows) → IsModestRows (MoreRows s rows) → IsModestList s
first_row s rows h = record { nesting = omega (arith, h.nesting); items = omega (arith, h.items); amounts = h.amounts.0 }

pub other_rows : (s : Sequence) (rows : Rows) → IsModestRows (MoreRows s rows) → IsModestRows rows
other_rows s rows h = record { nesting = omega (arith, h.nesting); items = omega (arith, h.items); amounts = h.amounts.1 }

pub first_cells : (cells : Rows) (rows : TableGrid) → IsModestGrid (MoreTableRows cells rows) → IsModestRows cells
first_cells cells rows h = record { nesting = omega (arith, h.nesting); items = omega (arith, h.items); amounts = h.amounts.0 }

pub other_cells : (cells : Rows) (rows : TableGrid) → IsModestGrid (MoreTableRows cells rows) → IsModestGrid rows
other_cells cells rows h = record { nesting = omega (arith, h.nesting); items = omega (arith, h.items); amounts = h.amounts.1 }

-- ---- in an arena

-- a place of a root is one, also where no root is there
pub record IsRoot (p : Part) : Type 0 where
  pub degree : Sequence
  pub body : Part
  pub is : p ≡ RootPart degree body

root_among : (hs : List Held) → IsRoot (as_root hs)
root_among [] = record { degree = End; body = EmptyPart; is = refl }
root_among (RootHeld d b ∷ hs) = record { degree = d; body = b; is = refl }
root_among (_ ∷ hs) = record { degree = End; body = EmptyPart; is = refl }

pub a_root : (es : List Held) (at : ℕ) → IsRoot (root_in es at)
a_root es at = root_among (drop at (take (suc at) es))

pub nucleus_cell : (es : List Held) (a : Noad) → ModestAtom es a → ModestCell es a.nucleus
nucleus_cell es a h = record { within = omega (arith, h.within); modest = modest_nucleus a.kind a.limits _ _ _ h.modest; kept = h.kept.0 }

pub sup_cell : (es : List Held) (a : Noad) → ModestAtom es a → ModestCell es a.sup
sup_cell es a h = record { within = omega (arith, h.within); modest = modest_sup a.kind a.limits _ _ _ h.modest; kept = h.kept.1 }

pub sub_cell : (es : List Held) (a : Noad) → ModestAtom es a → ModestCell es a.sub
sub_cell es a h = record { within = omega (arith, h.within); modest = modest_sub a.kind a.limits _ _ _ h.modest; kept = h.kept.2 }

pub num_span : (es : List Held) (f : FractionNoad) → ModestFraction es f → ModestSpan es f.num
num_span es f h = record { within = omega (arith, h.within); modest = num_of_fraction f.thickness f.left f.right _ _ h.modest; kept = h.kept.0 }

pub den_span : (es : List Held) (f : FractionNoad) → ModestFraction es f → ModestSpan es f.den
den_span es f h = record { within = omega (arith, h.within); modest = den_of_fraction f.thickness f.left f.right _ _ h.modest; kept = h.kept.1 }

pub list_span : (es : List Held) (field : Cell) (list : Span) → field ≡ OfList list → ModestCell es field → ModestSpan es list
list_span es field list e h =
    let g = subst (ModestCell es) e h in
    record { within = g.within; modest = list_of_part (sequence_in es list) g.modest; kept = g.kept }

pub degree_cell : (es : List Held) (field : Cell) (r : RootParts) → ModestCell es field → cell_part es field ≡ RootPart (sequence_in es r.degree) (cell_part es r.body) → r.degree.end ≤ length es → ModestCell es (OfList r.degree)
degree_cell es field r h e w = record { within = w; modest = degree_of_part _ _ (subst IsModestPart e h.modest); kept = (subst PartLists e h.kept).0 }

pub body_cell : (es : List Held) (field : Cell) (r : RootParts) → ModestCell es field → cell_part es field ≡ RootPart (sequence_in es r.degree) (cell_part es r.body) → cell_end r.body ≤ length es → ModestCell es r.body
body_cell es field r h e w = record { within = w; modest = body_of_part _ _ (subst IsModestPart e h.modest); kept = (subst PartLists e h.kept).1 }

-- a list that was put in an arena
pub put_span : (es : List Held) (span : Span) (list : Sequence) → sequence_in es span ≡ list → span.end ≤ length es → IsModestList list → KeptList list → ModestSpan es span
put_span es span list e w m k = record { within = w; modest = subst IsModestList (sym e) m; kept = subst KeptList (sym e) k }
