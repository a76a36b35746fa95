-- Items of the flat list, set.
use Rattle.std.proofs.Common.{◌≡◌, ℕ, ◌-◌, ◌≤ℤ◌, ℤ, pos, List, [], length, take, ap, sym, ◌∙◌, subst, refl, arith, length-append, false, Ok, Err, Result, IfOk}
use Rattle.mt_convert.proofs.Common.{ints, max_dimen, SetValue, Class, Delim, Style, Thing, Noad, Held, Inner, no_glue, kind_class, forward_of, Setting, ◌>>=◌, PieceValue, row_height, row_depth, Glue, Current, SetFault, SetFails, set_item, HalfValue, HalfAtom, PlacedItem}
use Rattle.std.proofs.Math.Seq.{take-length}
use Rattle.mt_arena.specs.declared.thing.FractionNoad.{FractionNoad}
use Rattle.mt_arena.specs.declared.thing.ShortGlue.{ShortGlue}
use Rattle.mt_convert.specs.declared.flat.passed.Joined.{Joined}
use Rattle.mt_pieces.specs.declared.items.PlacedItem.TheVariants as placed
use Rattle.mt_convert.specs.inner.LoneAtoms.{is_set_atom}
use Rattle.mt_convert.specs.inner.OnPieces.{AtomOn, HalfOn, SetsHalfOn, SetsPlaced}
use Rattle.mt_convert.specs.inner.Placed.{PlacedFits, placed_value}
use Rattle.mt_convert.specs.inner.Fields.{atom_row_of, fraction_row_of}
use Rattle.mt_arena.specs.declared.thing.Thing.TheVariants as thing
use Rattle.mt_convert.specs.inner.Spans.{passed_in}
use Rattle.mt_convert.specs.inner.Turns.{PassedElement, PassedSpace, flat_item, role_value}
use Rattle.mt_convert.proofs.Appending.{fails_then}
use Rattle.mt_convert.proofs.Behind.{nil_right}

abbrev as_half : Class → List PieceValue → Setting HalfValue
as_half class row = Ok (HalfAtom class row)

pub atom_item_fails : (fault : SetFault) (fonts : SetValue) (current : Current) (p : PassedElement) (es : List Held) (a : Noad) (j : Joined) → p ≡ passed_in es (thing.Atom a) j → SetFails fault (atom_row_of fonts es current.style (role_value j.role) a) → SetFails fault (set_item fonts current (flat_item fonts p))
atom_item_fails fault fonts current p es a j e h =
    subst (λ q. SetFails fault (set_item fonts current (flat_item fonts q))) (sym e)
    (fails_then fault (atom_row_of fonts es current.style (role_value j.role) a) (as_half (forward_of current.last (kind_class a.kind))) h)

pub atom_item_made : (fonts : SetValue) (current : Current) (p : PassedElement) (es : List Held) (a : Noad) (j : Joined) (row : List PieceValue) (class : Class) → p ≡ passed_in es (thing.Atom a) j → class ≡ forward_of current.last (kind_class a.kind) → atom_row_of fonts es current.style (role_value j.role) a ≡ Ok row → set_item fonts current (flat_item fonts p) ≡ Ok (HalfAtom class row)
atom_item_made fonts current p es a j row class e g h =
    ap (λ q. set_item fonts current (flat_item fonts q)) e
    ∙ (ap (λ s. s >>= as_half (forward_of current.last (kind_class a.kind))) h ∙ ap (λ k. as_half k row) (sym g))

pub fraction_item_fails : (fault : SetFault) (fonts : SetValue) (current : Current) (p : PassedElement) (es : List Held) (f : FractionNoad) (j : Joined) → p ≡ passed_in es (thing.Fraction f) j → SetFails fault (fraction_row_of fonts es current.style f) → SetFails fault (set_item fonts current (flat_item fonts p))
fraction_item_fails fault fonts current p es f j e h =
    subst (λ q. SetFails fault (set_item fonts current (flat_item fonts q))) (sym e)
    (fails_then fault (fraction_row_of fonts es current.style f) (as_half Inner) h)

pub fraction_item_made : (fonts : SetValue) (current : Current) (p : PassedElement) (es : List Held) (f : FractionNoad) (j : Joined) (row : List PieceValue) → p ≡ passed_in es (thing.Fraction f) j → fraction_row_of fonts es current.style f ≡ Ok row → set_item fonts current (flat_item fonts p) ≡ Ok (HalfAtom Inner row)
fraction_item_made fonts current p es f j row e h = ap (λ q. set_item fonts current (flat_item fonts q)) e ∙ ap (λ s. s >>= as_half Inner) h

-- ---- on the pieces

-- an atom or a fraction whose row was set
pub atom_placed : (class : Class) (first : ℕ) (half : PlacedItem) (old new : List PieceValue) (s : Setting (List PieceValue)) (setting : Setting HalfValue) → first ≡ length old → half ≡ placed.Set class (length new - first) → AtomOn old new s → ((row : List PieceValue) → s ≡ Ok row → setting ≡ Ok (HalfAtom class row)) → HalfOn half old new setting
atom_placed class first half old new s setting f e a k =
    let n : length new - first ≡ length a.row = omega (arith, f, ap length a.stays, length-append old a.row) in
    let all : take (length a.row) a.row ≡ a.row = take-length a.row in
    subst (λ h. HalfOn h old new setting) (sym (e ∙ ap (λ m. placed.Set class m) n)) (record {
      row = a.row;
      is = k a.row a.is ∙ ap (λ r. Ok (HalfAtom class r)) (sym all);
      stays = a.stays;
      count = refl;
      few = a.few;
      fits = tt;
      height = subst (λ r. row_height r ≤ℤ pos max_dimen) (sym all) a.height;
      depth = subst (λ r. row_depth r ≤ℤ pos max_dimen) (sym all) a.depth;
    })

-- an item that has no pieces
pub alone : (half : PlacedItem) (old : List PieceValue) (setting : Setting HalfValue) → is_set_atom half ≡ false → PlacedFits half → setting ≡ Ok (placed_value half []) → HalfOn half old old setting
alone (placed.Set class count) old setting n f e = absurd (cc)
alone _ old setting n f e = record { row = []; is = e; stays = nil_right old; count = refl; few = omega arith; fits = f; height = omega (arith, ints); depth = omega (arith, ints) }

pub space_placed : (r : Result PlacedItem SetFault) (old : List PieceValue) (setting : Setting HalfValue) (glue : Glue) → SetsPlaced r setting → IfOk r PlacedFits → IfOk r (λ h. h ≡ placed.Space glue) → SetsHalfOn r old old setting
space_placed (Ok h) old setting glue e f g = alone h old setting (ap is_set_atom g) f e
space_placed (Err fault) old setting glue e f g = e

pub kern_placed : (r : Result PlacedItem SetFault) (old : List PieceValue) (setting : Setting HalfValue) (amount : ℤ) → SetsPlaced r setting → IfOk r PlacedFits → IfOk r (λ h. h ≡ placed.Kern amount) → SetsHalfOn r old old setting
kern_placed (Ok h) old setting amount e f g = alone h old setting (ap is_set_atom g) f e
kern_placed (Err fault) old setting amount e f g = e

-- an item that takes up no space, as what does not pass
pub none_of_these : (es : List Held) (t : Thing) (j : Joined) → ((a : Noad) → t ≡ thing.Atom a → ⊥) → ((f : FractionNoad) → t ≡ thing.Fraction f → ⊥) → ((d : Delim) → t ≡ thing.Left d → ⊥) → ((d : Delim) → t ≡ thing.Middle d → ⊥) → ((d : Delim) → t ≡ thing.Right d → ⊥) → ((s : Style) → t ≡ thing.Style s → ⊥)
    → ((g : ShortGlue) → t ≡ thing.MuSpace g → ⊥) → ((g : ShortGlue) → t ≡ thing.Space g → ⊥) → ((k : ℤ) → t ≡ thing.MuKern k → ⊥) → ((k : ℤ) → t ≡ thing.Kern k → ⊥) → passed_in es t j ≡ PassedSpace no_glue
none_of_these es (thing.Atom x) j a f l m r s u p k w = absurd (a x refl)
none_of_these es (thing.Fraction x) j a f l m r s u p k w = absurd (f x refl)
none_of_these es (thing.Left x) j a f l m r s u p k w = absurd (l x refl)
none_of_these es (thing.Middle x) j a f l m r s u p k w = absurd (m x refl)
none_of_these es (thing.Right x) j a f l m r s u p k w = absurd (r x refl)
none_of_these es (thing.Style x) j a f l m r s u p k w = absurd (s x refl)
none_of_these es (thing.MuSpace x) j a f l m r s u p k w = absurd (u x refl)
none_of_these es (thing.Space x) j a f l m r s u p k w = absurd (p x refl)
none_of_these es (thing.MuKern x) j a f l m r s u p k w = absurd (k x refl)
none_of_these es (thing.Kern x) j a f l m r s u p k w = absurd (w x refl)
none_of_these es _ j a f l m r s u p k w = refl
