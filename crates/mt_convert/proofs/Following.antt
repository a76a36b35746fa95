-- Each atom can be after the atom before it, while a list is set item by item (`FollowSoFar`).
use Rattle.std.proofs.Common.{◌≡◌, List, [], ◌∷◌, ◌++◌, ap, sym, ◌∙◌, refl, subst, Option, Some, None, ℤ, Ok}
use Rattle.mt_convert.proofs.Common.{option_or, SetValue, Class, Open, Close, Inner, forward_of, kind_class, Current, set_item, HalfValue, class_to_left, class_to_right}
use Rattle.mt_spacing.proofs.Neighbours.{can_meet}
use Rattle.mt_convert.specs.inner.Settling.{CanFollow, AllCanFollow}
use Rattle.mt_convert.proofs.InOrder.{kern_values}
use Rattle.mt_convert.specs.inner.Turns.{PassedElement, PassedAtom, PassedFraction, PassedLeft, PassedMiddle, PassedRight, flat_item}
use Rattle.mt_convert.proofs.ItemsSet.{Made, half_made, set_as}

-- the class that the last atom of these items counts as, or else that of the atom before them
abbrev pub last_right : List HalfValue → Option Class → Option Class
last_right [] last = last
last_right (h ∷ hs) last = last_right hs (option_or (class_to_right h) last)

pub record FollowSoFar (last : Option Class) (hs : List HalfValue) : Type 0 where
  pub follow : AllCanFollow None hs
  pub last_is : last ≡ last_right hs None

pub follow_start : FollowSoFar None []
follow_start = record { follow = tt; last_is = refl }

follow_append : (hs ks : List HalfValue) (last : Option Class) → AllCanFollow last hs → AllCanFollow (last_right hs last) ks → AllCanFollow last (hs ++ ks)
follow_append [] ks last h k = k
follow_append (h ∷ hs) ks last f k = (f.0, follow_append hs ks (option_or (class_to_right h) last) f.1 k)

last_append : (hs ks : List HalfValue) (last : Option Class) → last_right (hs ++ ks) last ≡ last_right ks (last_right hs last)
last_append [] ks last = refl
last_append (h ∷ hs) ks last = last_append hs ks (option_or (class_to_right h) last)

-- ---- an item that is set

follow_atom : (last : Option Class) (own : Class) → CanFollow last (Some (forward_of last own))
follow_atom None own = tt
follow_atom (Some l) own = can_meet (Some l) l own refl

follow_none : (last : Option Class) → CanFollow last None
follow_none None = tt
follow_none (Some l) = tt

made_follows : (current : Current) (p : PassedElement) (made : Made p) → CanFollow current.last (class_to_left (half_made current p made))
made_follows current (PassedAtom kind limits nucleus sup sub role kern) made = follow_atom current.last (kind_class kind)
made_follows current (PassedFraction thickness left right num den) made = follow_atom current.last Inner
made_follows current (PassedLeft delim) made = follow_atom current.last Open
made_follows current (PassedMiddle delim) made = follow_atom current.last Close
made_follows current (PassedRight delim) made = follow_atom current.last Close
made_follows current _ made = follow_none current.last

-- it can be after the atom before it
pub item_follows : (fonts : SetValue) (current : Current) (p : PassedElement) (h : HalfValue) → set_item fonts current (flat_item fonts p) ≡ Ok h → CanFollow current.last (class_to_left h)
item_follows fonts current p h e =
    let s = set_as fonts current p h e in
    subst (λ x. CanFollow current.last (class_to_left x)) (sym s.is) (made_follows current p s.made)

-- ---- with the kern after it

kern_follows : (last : Option Class) (kern : Option ℤ) → AllCanFollow last (kern_values kern)
kern_follows last None = tt
kern_follows last (Some amount) = (follow_none last, tt)

last_kern : (last : Option Class) (kern : Option ℤ) → last_right (kern_values kern) last ≡ last
last_kern last None = refl
last_kern last (Some amount) = refl

pub follow_step : (last : Option Class) (hs : List HalfValue) (h : HalfValue) (kern : Option ℤ) → FollowSoFar last hs → CanFollow last (class_to_left h) → FollowSoFar (option_or (class_to_right h) last) (hs ++ h ∷ kern_values kern)
follow_step last hs h kern f n =
    let ks = kern_values kern in
    record {
      follow = follow_append hs (h ∷ ks) None f.follow (subst (λ l. AllCanFollow l (h ∷ ks)) f.last_is (n, kern_follows (option_or (class_to_right h) last) kern));
      last_is =
          sym (last_kern (option_or (class_to_right h) last) kern)
          ∙ (ap (λ l. last_right (h ∷ ks) l) f.last_is ∙ sym (last_append hs (h ∷ ks) None));
    }
