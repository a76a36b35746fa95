-- Rows behind the pieces that were there: of a box alone, with scripts, and of a root.
use Rattle.std.proofs.Common.{◌≡◌, ℕ, ℤ, pos, ◌≤◌, ◌+◌, List, [], ◌∷◌, ◌++◌, length, length-append, drop, take, refl, ap, sym, ◌∙◌, subst, arith, lit≤, Option, Some, None, Result, Ok, Err}
use Rattle.mt_convert.proofs.Common.{ints, clamps, drop_all, drop_at, take_at, SetValue, ExtentsInRange, first_out, Layout, PieceValue, PieceBox, pack, Style, Setting, ◌>>=◌, ◌>>◌, pass_unless, make_box, make_row, Nucleus, widened_script, extents_in_range, first_out-none, SetFault, RowOn, SetsRowOn}
use Rattle.std.specs.Prelude.{⊤}
use Rattle.mt_convert.proofs.Appending.{nil_right}
use Rattle.mt_convert.proofs.kinds.Chains.{first_made}
use Rattle.mt_convert.specs.inner.AtomSteps.{lone_box, row_beside, row_of_box, row_of_root}
use Rattle.mt_convert.specs.inner.OnPieces.{AtomOn, BoxOn, SetsAtomOn}
use Rattle.mt_rules.specs.Scripts.{row_with_scripts}
use Rattle.mt_rules.specs.Roots.{root_row}

-- ---- the pieces behind others

pub few_behind : (n first : ℕ) (now old row : List PieceValue) → length old ≡ first → now ≡ old ++ row → length row ≤ n → length (drop first now) ≤ n
few_behind n first now old row at e few = subst (λ (z : List PieceValue). length z ≤ n) (sym (ap (drop first) e ∙ drop_at old row first at)) few

-- the last piece taken off
pub removed : (first : ℕ) (old now new : List PieceValue) (box : Layout) → first ≡ length old → now ≡ old ++ PieceBox (pos 0) box ∷ [] → new ≡ take first now ++ drop (first + 1) now → new ≡ old
removed first old now new box at stays e =
    let front : take first now ≡ old = ap (take first) stays ∙ take_at old (PieceBox (pos 0) box ∷ []) first (sym at) in
    let none : drop (first + 1) now ≡ [] = drop_all (first + 1) now (omega (arith, at, ap length stays, length-append old (PieceBox (pos 0) box ∷ []))) in
    e ∙ (ap (λ z. z ++ drop (first + 1) now) front ∙ (ap (λ z. old ++ z) none ∙ nil_right old))

-- ---- a box alone

lone_range : (l : Layout) → ExtentsInRange l.extents → ExtentsInRange (pack (PieceBox (pos 0) l ∷ [])).extents
lone_range l h = record {
  width = record { low = omega (arith, ints, h.width.low); high = omega (arith, ints, h.width.high) };
  height = record { low = omega (arith, ints, clamps, h.height.low, h.height.high); high = omega (arith, ints, clamps, h.height.low, h.height.high) };
  depth = record { low = omega (arith, ints, clamps, h.depth.low, h.depth.high); high = omega (arith, ints, clamps, h.depth.low, h.depth.high) };
}

pub lone_row_is : (l : Layout) → ExtentsInRange l.extents → row_of_box l ≡ Ok (PieceBox (pos 0) l ∷ [])
lone_row_is l h = ap (λ (o : Option ℤ). pass_unless o >> Ok (PieceBox (pos 0) l ∷ [])) (first_out-none (pack (PieceBox (pos 0) l ∷ [])).extents (lone_range l h))

pub lone_atom : (old now : List PieceValue) (l : Layout) → ExtentsInRange l.extents → now ≡ old ++ PieceBox (pos 0) l ∷ [] → AtomOn old now (row_of_box l)
lone_atom old now l h stays =
    let r = lone_range l h in
    record { row = PieceBox (pos 0) l ∷ []; is = lone_row_is l h; stays = stays; few = lit≤ tt; height = r.height.high; depth = r.depth.high }

pub box_as_atom : (old now : List PieceValue) (setting : Setting Layout) (b : BoxOn old now setting) → ExtentsInRange b.box.extents → AtomOn old now (lone_box setting)
box_as_atom old now setting b h =
    let r = lone_range b.box h in
    record { row = PieceBox (pos 0) b.box ∷ []; is = ap lone_box b.is; stays = b.stays; few = lit≤ tt; height = r.height.high; depth = r.depth.high }

pub between_atom : (old now : List PieceValue) (setting : Setting Layout) (b : BoxOn old now setting) → ExtentsInRange b.box.extents → AtomOn old now (setting >>= row_of_box)
between_atom old now setting b h = first_made (AtomOn old now) setting b.box row_of_box b.is (lone_atom old now b.box h b.stays)

-- ---- rows with scripts

pub record IsTested (setting : Setting (List PieceValue)) (row : List PieceValue) : Type 0 where
  pub is : setting ≡ Ok row
  pub range : ExtentsInRange (pack row).extents

test_passed : (o : Option ℤ) (row made : List PieceValue) → (pass_unless o >> Ok row) ≡ Ok made → (o ≡ None) × (row ≡ made)
test_passed None row made h = (refl, let z : row ≡ made = cc in z)
test_passed (Some v) row made h = absurd (let z : ⊥ = cc in z)

-- a row that was tested is in range
pub row_tested : (setting : Setting (List PieceValue)) (made : List PieceValue) → (setting >>= make_row) ≡ Ok made → IsTested setting made
row_tested (Ok row) made h =
    let p = test_passed (first_out (pack row).extents) row made h in
    record {
      is = ap (λ (z : List PieceValue). (let r : Setting (List PieceValue) = Ok z in r)) p.1;
      range = subst (λ (z : List PieceValue). ExtentsInRange (pack z).extents) p.1 (extents_in_range (pack row).extents p.0);
    }
row_tested (Err f) made h = absurd (let z : ⊥ = cc in z)

one_more : (s : Setting Layout) (nucleus made : List PieceValue) (raise : ℤ) → (s >>= (λ l. Ok (nucleus ++ PieceBox raise l ∷ []))) ≡ Ok made → length made ≤ length nucleus + 1
one_more (Ok l) nucleus made raise h =
    let e : nucleus ++ PieceBox raise l ∷ [] ≡ made = cc in
    omega (arith, ap length e, length-append nucleus (PieceBox raise l ∷ []))
one_more (Err f) nucleus made raise h = absurd (let z : ⊥ = cc in z)

after_both : (s t : Setting Layout) (both : Layout → Layout → Setting Layout) (nucleus made : List PieceValue) (raise : ℤ) → (s >>= (λ u. t >>= (λ v. both u v >>= (λ l. Ok (nucleus ++ PieceBox raise l ∷ []))))) ≡ Ok made → length made ≤ length nucleus + 1
after_both (Ok u) (Ok v) both nucleus made raise h = one_more (both u v) nucleus made raise h
after_both (Ok u) (Err f) both nucleus made raise h = absurd (let z : ⊥ = cc in z)
after_both (Err f) t both nucleus made raise h = absurd (let z : ⊥ = cc in z)

-- scripts are at most one piece more
pub scripts_few : (fonts : SetValue) (style : Style) (nucleus : List PieceValue) (delta : ℤ) (above below : Option Layout) (made : List PieceValue) → row_with_scripts fonts style nucleus delta above below ≡ Ok made → length made ≤ length nucleus + 1
unfolding row_with_scripts
scripts_few fonts style nucleus delta None None made h = let e : nucleus ≡ made = cc in omega (arith, ap length e)
scripts_few fonts style nucleus delta (Some sup) None made h = one_more (make_box (widened_script sup)) nucleus made _ h
scripts_few fonts style nucleus delta None (Some sub) made h = one_more (make_box (widened_script sub)) nucleus made _ h
scripts_few fonts style nucleus delta (Some sup) (Some sub) made h = after_both (make_box (widened_script sup)) (make_box (widened_script sub)) _ nucleus made _ h

pub beside_atom : {U : Type 0} (r : Result U SetFault) (old new : List PieceValue) (fonts : SetValue) (style : Style) (nucleus : List PieceValue) (delta : ℤ) (above below : Option Layout) → length nucleus ≤ 2
    → SetsRowOn r old new (row_beside fonts style (record { row = nucleus; delta = delta }) above below) → SetsAtomOn r old new (row_beside fonts style (record { row = nucleus; delta = delta }) above below)
beside_atom (Ok u) old new fonts style nucleus delta above below few h =
    let t = row_tested (row_with_scripts fonts style nucleus delta above below) h.row h.is in
    record { row = h.row; is = h.is; stays = h.stays; few = omega (arith, few, scripts_few fonts style nucleus delta above below h.row t.is); height = t.range.height.high; depth = t.range.depth.high }
beside_atom (Err f) old new fonts style nucleus delta above below few h = h

-- a row without scripts is the nucleus's, tested
pub beside_nothing : (fonts : SetValue) (style : Style) (nucleus : Nucleus) → make_row nucleus.row ≡ row_beside fonts style nucleus None None
unfolding row_with_scripts
beside_nothing fonts style nucleus = refl

-- ---- a root

made_of : (a b : Setting ⊤) (made row : List PieceValue) → (a >> (b >> Ok made)) ≡ Ok row → length row ≡ length made
made_of (Ok u) (Ok v) made row h = ap length (sym (let z : made ≡ row = cc in z))
made_of (Ok u) (Err f) made row h = absurd (let z : ⊥ = cc in z)
made_of (Err f) b made row h = absurd (let z : ⊥ = cc in z)

pub root_few : (fonts : SetValue) (style : Style) (degree radical : Layout) (row : List PieceValue) → root_row fonts style degree radical ≡ Ok row → length row ≡ 4
unfolding root_row
root_few fonts style degree radical row h = made_of _ _ _ row h

pub root_atom : {U : Type 0} (r : Result U SetFault) (old now : List PieceValue) (fonts : SetValue) (style : Style) (degree radical : Layout) (k : RowOn old now (root_row fonts style degree radical)) → SetsAtomOn r old now (make_row k.row) → SetsAtomOn r old now (row_of_root fonts style degree radical)
root_atom r old now fonts style degree radical k h = first_made (λ s. SetsAtomOn r old now s) (root_row fonts style degree radical) k.row make_row k.is h
