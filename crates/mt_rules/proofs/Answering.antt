-- What setting answers, step by step, and what a call answers whose last step packed a box.
use Rattle.std.proofs.Common.{◌≡◌, ℤ, pos, negsuc, refl, ap, sym, ◌∙◌, subst, Option, Some, None, Bool, true, false, if◌then◌else◌, arith, ◌≤◌, ◌<◌}
use Rattle.std.proofs.lemmas.Int.{ints}
use Rattle.std.proofs.lemmas.Bool.Decides.{nat_tests}
use Rattle.std.specs.Prelude.{Result, Ok, Err}
use Rattle.std.specs.Ordering.{int_eq}
use Rattle.mt_scaled.specs.Number.{Within, is_in_range, max_dimen}
use Rattle.mt_box.specs.declared.error.PackError.{PackError}
use Rattle.mt_box.specs.declared.error.PackError.TheVariants.{Overflow as PackOverflow, OutOfMemory as NoPackMemory}
use Rattle.mt_box.specs.declared.extents.Extents.{Extents}
use Rattle.mt_box.specs.Layout.{BoxValue, Layout, layout_of}
use Rattle.mt_box.specs.Extents.{ExtentsInRange, first_out}
use Rattle.mt_box.specs.Packs.{Packs}
use Rattle.mt_box.specs.Boxes.{rebox}
use Rattle.mt_box.proofs.Equalities.{extents_eq, layout_eq}
use Rattle.mt_rules.specs.declared.part_error.PartError.{PartError}
use Rattle.mt_rules.specs.Setting.{Setting, SettingFault, Overflow, ◌>>=◌, ◌>>◌, pass_unless, test_rule, make_box}
use Rattle.mt_rules.specs.Calls.{BoxAnswers, PartAnswers}
use Rattle.mt_box.specs.marks.Recentred.{recentred_extents}

-- a step that answers leads on
pub then_ok : {A B : Type 0} (step : Setting A) (a : A) (next : A → Setting B) → step ≡ Ok a → (step >>= next) ≡ next a
then_ok step a next e = ap (λ s. s >>= next) e

-- the first fault is the answer
pub then_err : {A B : Type 0} (step : Setting A) (fault : SettingFault) (next : A → Setting B) → step ≡ Err fault → (step >>= next) ≡ Err fault
then_err step fault next e = ap (λ s. s >>= next) e

-- a box in range is made, and else its first extent out of range is the fault
pub make_box-ok : (l : Layout) → first_out l.extents ≡ None → make_box l ≡ Ok l
make_box-ok l e = ap (λ o. pass_unless o >> Ok l) e

pub make_box-err : (l : Layout) (value : ℤ) → first_out l.extents ≡ Some value → make_box l ≡ Err (Overflow value)
make_box-err l value e = ap (λ o. pass_unless o >> Ok l) e

-- what a packer answers for a layout
pub box_answers : (l : Layout) (r : Result BoxValue PackError) → Packs l r → BoxAnswers r (make_box l)
box_answers l (Ok b) h = make_box-ok l h.1 ∙ ap (λ m. Ok m) (sym h.0)
box_answers l (Err (PackOverflow value)) h = make_box-err l value h
box_answers l (Err NoPackMemory) h = tt

-- a test of the same rule that passed is left out, and the box is the same layout
pub after_rule : (w w' t t' : ℤ) (l l' : Layout) (r : Result BoxValue PartError) → w ≡ w' → t ≡ t' → l ≡ l' → test_rule w t ≡ Ok tt → PartAnswers r (make_box l) → PartAnswers r (test_rule w' t' >> make_box l')
after_rule w w' t t' l l' r e f g h k =
    let passes : test_rule w' t' ≡ Ok tt = sym (ap (λ z. test_rule z t) e ∙ ap (λ z. test_rule w' z) f) ∙ h in
    let same : (test_rule w' t' >> make_box l') ≡ make_box l' = ap (λ a. a >> make_box l') passes in
    subst (λ a. PartAnswers r a) (sym same) (subst (λ m. PartAnswers r (make_box m)) g k)

-- reboxing a layout reboxes its extents
pub rebox-extents : (l : Layout) (width : ℤ) → (rebox l width).extents ≡ recentred_extents l.extents width
rebox-extents l width = by_width (int_eq l.extents.width width) refl
  where
    by_width : (same : Bool) → int_eq l.extents.width width ≡ same → (rebox l width).extents ≡ recentred_extents l.extents width
    by_width true e = rw e refl
    by_width false e = rw e refl

-- ---- extents in range

pub in_range : (x : ℤ) → is_in_range x ≡ true → Within max_dimen x
in_range (pos n) is =
    let few : n ≤ max_dimen = grind (arith, nat_tests) in
    record { low = omega (arith, ints); high = omega (arith, ints) }
in_range (negsuc n) is =
    let few : n < max_dimen = grind (arith, nat_tests) in
    record { low = omega (arith, ints); high = omega (arith, ints) }

is_in_range-true : (x : ℤ) → Within max_dimen x → is_in_range x ≡ true
is_in_range-true (pos n) h = let few : n ≤ max_dimen = omega (arith, ints, h.high) in grind (arith, nat_tests)
is_in_range-true (negsuc n) h = let few : n < max_dimen = omega (arith, ints, h.low) in grind (arith, nat_tests)

all_in : (a b c : Bool) (x y z : ℤ) → (if a then (if b then (if c then None else Some z) else Some y) else Some x) ≡ None → (a ≡ true) × (b ≡ true) × (c ≡ true)
all_in true true true x y z is = (refl, refl, refl)
all_in true true false x y z is = absurd (cc)
all_in true false c x y z is = absurd (cc)
all_in false b c x y z is = absurd (cc)

-- no extent is out of range
pub extents_in_range : (e : Extents) → first_out e ≡ None → ExtentsInRange e
extents_in_range e is =
    let each = all_in (is_in_range e.width) (is_in_range e.height) (is_in_range e.depth) e.width e.height e.depth is in
    record { width = in_range e.width each.0; height = in_range e.height each.1; depth = in_range e.depth each.2 }

none_is : (o : Option ℤ) → ((x : ℤ) → o ≡ Some x → ⊥) → o ≡ None
none_is None h = refl
none_is (Some x) h = absurd (h x refl)

-- a call that looked for the first extent out of range found none
pub none_out : (e : Extents) (o : Option ℤ) → o ≡ first_out e → ((x : ℤ) → o ≡ Some x → ⊥) → ExtentsInRange e
none_out e o is h = extents_in_range e (sym is ∙ none_is o h)

-- extents in range pass
pub first_out-none : (e : Extents) → ExtentsInRange e → first_out e ≡ None
first_out-none e h = rw (is_in_range-true e.width h.width, is_in_range-true e.height h.height, is_in_range-true e.depth h.depth) refl

-- extents that differ in a width in range alone have the same first one out of range
pub first_out-width : (e f : Extents) → Within max_dimen e.width → Within max_dimen f.width → e.height ≡ f.height → e.depth ≡ f.depth → first_out e ≡ first_out f
first_out-width e f h k p q = rw (is_in_range-true e.width h, is_in_range-true f.width k, p, q) refl

-- ---- a box of another width than was packed

-- two layouts that differ in their widths alone
pub record AlikeButWidth (l m : Layout) : Type 0 where
  pub height : l.extents.height ≡ m.extents.height
  pub depth : l.extents.depth ≡ m.extents.depth
  pub places : l.places ≡ m.places

with_width_of : (l m : Layout) (b : BoxValue) → layout_of b ≡ l → AlikeButWidth l m → m ≡ record { extents = record { width = m.extents.width; height = b.extents.height; depth = b.extents.depth }; places = b.places }
with_width_of l m b e alike =
    layout_eq
    (extents_eq refl (sym (ap (λ (x : Layout). x.extents.height) e ∙ alike.height)) (sym (ap (λ (x : Layout). x.extents.depth) e ∙ alike.depth)))
    (sym (ap (λ (x : Layout). x.places) e ∙ alike.places))

-- where l was packed, the box of m is made, with the width of m
pub width_answers-ok : (l m : Layout) (b : BoxValue) → Packs l (Ok b) → Within max_dimen l.extents.width → Within max_dimen m.extents.width → AlikeButWidth l m → make_box m ≡ Ok (record { extents = record { width = m.extents.width; height = b.extents.height; depth = b.extents.depth }; places = b.places })
width_answers-ok l m b h w v alike =
    make_box-ok m (sym (first_out-width l.extents m.extents w v alike.height alike.depth) ∙ h.1) ∙ ap (λ (x : Layout). Ok x) (with_width_of l m b h.0 alike)

-- where l was not, its first extent out of range is that of m
pub width_answers-err : (l m : Layout) (e : PackError) → Packs l (Err e) → Within max_dimen l.extents.width → Within max_dimen m.extents.width → AlikeButWidth l m → BoxAnswers (Err e) (make_box m)
width_answers-err l m (PackOverflow value) h w v alike = make_box-err m value (sym (first_out-width l.extents m.extents w v alike.height alike.depth) ∙ h)
width_answers-err l m NoPackMemory h w v alike = tt
