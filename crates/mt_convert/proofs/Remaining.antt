-- Boundaries stay at the two ends of a list, and middles between them, while its items are set (`remains_start`, `remains_again`, `remains_pass`, `remains_end`).
use Rattle.std.proofs.Common.{◌≡◌, List, [], ◌∷◌, ◌++◌, ap, sym, refl, subst, Option, Some, None, ℤ, Bool, true, false, Ok}
use Rattle.mt_convert.proofs.Common.{SetValue, Style, Symbol, Delim, Sequence, Element, End, More, AtomElement, LeftElement, MiddleElement, RightElement, StyleElement, ChoiceElement, Current, list_for, set_item, HalfValue, HalfAtom, HalfLeft, HalfMiddle, HalfRight, settled_halves, MayEnd, MustEnd, EndsAfterLeft, BoundariesOutside, ElementLists, append_list}
use Rattle.mt_rules.specs.Facts.{NoBoundary, Inside, EndsWithRight, IsMathList}
use Rattle.mt_convert.specs.inner.Boundaries.{Remains, Begins, GoesOn, IsOver, RestOfList, NoBoundaries, IsOpen}
use Rattle.mt_convert.proofs.InOrder.{kern_values}
use Rattle.mt_convert.specs.inner.Turns.{PassedElement, PassedAtom, PassedLeft, PassedMiddle, PassedRight, PassesOne, RewritesTo, element_of_passed, first_element_as, flat_item, kern_of, turn_of}
use Rattle.mt_convert.proofs.Choosing.{one_of_four}
use Rattle.mt_convert.proofs.ItemsSet.{Made, half_made, set_as}

-- ---- what is left of a list

inside_rest : (s : Sequence) → Inside s → RestOfList false s
inside_rest End h = refl
inside_rest (More (LeftElement delim) s) h = absurd h.0
inside_rest (More (MiddleElement delim) s) h = absurd h.0
inside_rest (More (RightElement delim) s) h = absurd h.0
inside_rest (More (ChoiceElement display text script small) s) h = (h.0.0, h.0.1, h.0.2, h.0.3, inside_rest s h.1)
inside_rest (More _ s) h = inside_rest s h.1

ends_rest : (s : Sequence) → EndsWithRight s → RestOfList true s
ends_rest End h = absurd h
ends_rest (More (LeftElement delim) s) h = absurd h.0
ends_rest (More (MiddleElement delim) s) h = (refl, ends_rest s h)
ends_rest (More (RightElement delim) End) h = (refl, refl)
ends_rest (More (RightElement delim) (More e s)) h = absurd h.0
ends_rest (More (ChoiceElement display text script small) s) h = (h.0.0, h.0.1, h.0.2, h.0.3, ends_rest s h.1)
ends_rest (More _ s) h = ends_rest s h.1

pub remains_start : (s : Sequence) → IsMathList s → Remains [] s
remains_start End h = GoesOn false tt refl
remains_start (More (LeftElement delim) s) h = Begins delim s refl refl (ends_rest s h)
remains_start list h = GoesOn false tt (inside_rest list h)

-- ---- what a turn leaves

-- a list without boundaries and middles before the rest
inside_append : (enclosed : Bool) (x s : Sequence) → Inside x → RestOfList enclosed s → RestOfList enclosed (append_list x s)
inside_append enclosed End s h k = k
inside_append enclosed (More (LeftElement delim) x) s h k = absurd h.0
inside_append enclosed (More (MiddleElement delim) x) s h k = absurd h.0
inside_append enclosed (More (RightElement delim) x) s h k = absurd h.0
inside_append enclosed (More (ChoiceElement display text script small) x) s h k = (h.0.0, h.0.1, h.0.2, h.0.3, inside_append enclosed x s h.1 k)
inside_append enclosed (More _ x) s h k = inside_append enclosed x s h.1 k

no_boundary_inside : (x : Sequence) → IsMathList x → NoBoundary x → Inside x
no_boundary_inside (More (LeftElement delim) s) h n = absurd n
no_boundary_inside (More (MiddleElement delim) s) h n = absurd n
no_boundary_inside (More (RightElement delim) s) h n = absurd n
no_boundary_inside _ h n = h

no_boundary_chosen : (enclosed : Bool) (style : Style) (a b c d s : Sequence) → RestOfList enclosed (More (ChoiceElement a b c d) s) → NoBoundary (list_for style a b c d)
no_boundary_chosen enclosed style a b c d s h = one_of_four NoBoundary style a b c d h.0 h.1 h.2 h.3

pub choice_rest : (enclosed : Bool) (style : Style) (a b c d taken s new : Sequence) → taken ≡ list_for style a b c d → IsMathList taken → new ≡ More (StyleElement style) (append_list taken s) → RestOfList enclosed (More (ChoiceElement a b c d) s) → RestOfList enclosed new
choice_rest enclosed style a b c d taken s new e h f k =
    subst (RestOfList enclosed) (sym f) (inside_append enclosed taken s (no_boundary_inside taken h (subst NoBoundary (sym e) (no_boundary_chosen enclosed style a b c d s k))) k.4)

-- the list of a choice in an arena
pub chosen_list : (style : Style) (a b c d : Sequence) → ElementLists (ChoiceElement a b c d) → IsMathList (list_for style a b c d)
chosen_list style a b c d h = one_of_four IsMathList style a b c d h.0.0 h.1.0 h.2.0 h.3.0

-- joining leaves boundaries and middles where they are
pub joined_rest : (enclosed : Bool) (symbol : Symbol) (s : Sequence) → RestOfList enclosed s → RestOfList enclosed (first_element_as symbol s)
joined_rest enclosed symbol (More (AtomElement kind limits nucleus sup sub) s) h = h
joined_rest enclosed symbol _ h = h

-- ---- items so far

ends_after_middle : (hs : List HalfValue) (delim : Delim) → NoBoundaries true hs → MustEnd (hs ++ HalfRight delim ∷ [])
ends_after_middle [] delim h = refl
ends_after_middle (HalfLeft d ∷ hs) delim h = absurd h
ends_after_middle (HalfMiddle d ∷ hs) delim h = ends_after_middle hs delim h.1
ends_after_middle (HalfRight d ∷ hs) delim h = absurd h
ends_after_middle (_ ∷ hs) delim h = ends_after_middle hs delim h

ends_after_left : (hs : List HalfValue) (delim : Delim) → NoBoundaries true hs → EndsAfterLeft (hs ++ HalfRight delim ∷ [])
ends_after_left [] delim h = refl
ends_after_left (HalfLeft d ∷ hs) delim h = absurd h
ends_after_left (HalfMiddle d ∷ hs) delim h = ends_after_middle hs delim h.1
ends_after_left (HalfRight d ∷ hs) delim h = absurd h
ends_after_left (_ ∷ hs) delim h = ends_after_left hs delim h

right_after : (hs : List HalfValue) (delim : Delim) → IsOpen true hs → BoundariesOutside (hs ++ HalfRight delim ∷ [])
right_after [] delim h = absurd h
right_after (HalfLeft d ∷ hs) delim h = ends_after_left hs delim h
right_after (_ ∷ hs) delim h = absurd h

no_boundaries_append : (enclosed : Bool) (hs ks : List HalfValue) → NoBoundaries enclosed hs → NoBoundaries enclosed ks → NoBoundaries enclosed (hs ++ ks)
no_boundaries_append enclosed [] ks h k = k
no_boundaries_append enclosed (HalfLeft d ∷ hs) ks h k = absurd h
no_boundaries_append enclosed (HalfMiddle d ∷ hs) ks h k = (h.0, no_boundaries_append enclosed hs ks h.1 k)
no_boundaries_append enclosed (HalfRight d ∷ hs) ks h k = absurd h
no_boundaries_append enclosed (_ ∷ hs) ks h k = no_boundaries_append enclosed hs ks h k

open_append : (enclosed : Bool) (hs ks : List HalfValue) → IsOpen enclosed hs → NoBoundaries enclosed ks → IsOpen enclosed (hs ++ ks)
open_append false hs ks h k = no_boundaries_append false hs ks h k
open_append true [] ks h k = absurd h
open_append true (HalfLeft d ∷ hs) ks h k = no_boundaries_append true hs ks h k
open_append true (_ ∷ hs) ks h k = absurd h

not_enclosed : {A : Type 0} → false ≡ true → A
not_enclosed e = absurd (cc)

no_boundaries_end : (hs : List HalfValue) → NoBoundaries false hs → MayEnd hs
no_boundaries_end [] h = h
no_boundaries_end (HalfLeft d ∷ hs) h = absurd h
no_boundaries_end (HalfMiddle d ∷ hs) h = not_enclosed h.0
no_boundaries_end (HalfRight d ∷ hs) h = absurd h
no_boundaries_end (_ ∷ hs) h = no_boundaries_end hs h

none_outside : (hs : List HalfValue) → NoBoundaries false hs → BoundariesOutside hs
none_outside [] h = h
none_outside (HalfLeft d ∷ hs) h = absurd h
none_outside (HalfMiddle d ∷ hs) h = not_enclosed h.0
none_outside (HalfRight d ∷ hs) h = absurd h
none_outside (_ ∷ hs) h = no_boundaries_end hs h

more_end : (e : Element) (s : Sequence) → More e s ≡ End → ⊥
more_end e s h = cc

pub remains_end : (hs : List HalfValue) → Remains hs End → BoundariesOutside hs
remains_end hs (Begins delim rest e f r) = absurd (more_end (LeftElement delim) rest (sym f))
remains_end hs (GoesOn true o r) = not_enclosed (sym r)
remains_end hs (GoesOn false o r) = none_outside hs o
remains_end hs (IsOver b e) = b

end_settled : (hs : List HalfValue) → MayEnd hs → MayEnd (settled_halves hs)
end_settled [] h = h
end_settled (HalfLeft d ∷ hs) h = absurd h
end_settled (HalfMiddle d ∷ hs) h = absurd h
end_settled (HalfRight d ∷ hs) h = ap settled_halves h
end_settled (_ ∷ hs) h = end_settled hs h

must_end_settled : (hs : List HalfValue) → MustEnd hs → MustEnd (settled_halves hs)
must_end_settled [] h = absurd h
must_end_settled (HalfLeft d ∷ hs) h = absurd h
must_end_settled (HalfRight d ∷ hs) h = ap settled_halves h
must_end_settled (_ ∷ hs) h = must_end_settled hs h

after_left_settled : (hs : List HalfValue) → EndsAfterLeft hs → EndsAfterLeft (settled_halves hs)
after_left_settled [] h = h
after_left_settled (HalfLeft d ∷ hs) h = absurd h
after_left_settled (HalfMiddle d ∷ hs) h = must_end_settled hs h
after_left_settled (HalfRight d ∷ hs) h = ap settled_halves h
after_left_settled (_ ∷ hs) h = after_left_settled hs h

pub boundaries_settled : (hs : List HalfValue) → BoundariesOutside hs → BoundariesOutside (settled_halves hs)
boundaries_settled [] h = h
boundaries_settled (HalfLeft d ∷ hs) h = after_left_settled hs h
boundaries_settled (HalfMiddle d ∷ hs) h = absurd h
boundaries_settled (HalfRight d ∷ hs) h = ap settled_halves h
boundaries_settled (_ ∷ hs) h = end_settled hs h

-- ---- the front was rewritten

same_front : (f g : Element) (s t : Sequence) → More f s ≡ More g t → (f ≡ g) × (s ≡ t)
same_front f g s t e = (cc, cc)

left_passes : (fonts : SetValue) (current : Current) (delim : Delim) (s s' : Sequence) → RewritesTo s' ≡ turn_of fonts current (LeftElement delim) s → ⊥
left_passes fonts current delim s s' u = cc

pub remains_again : (fonts : SetValue) (current : Current) (hs : List HalfValue) (f : Element) (s s' : Sequence) → Remains hs (More f s) → RewritesTo s' ≡ turn_of fonts current f s → ((enclosed : Bool) → RestOfList enclosed (More f s) → RestOfList enclosed s') → Remains hs s'
remains_again fonts current hs f s s' (Begins delim rest e x r) u g =
    absurd (left_passes fonts current delim s s' (subst (λ v. RewritesTo s' ≡ turn_of fonts current v s) (same_front f (LeftElement delim) s rest x).0 u))
remains_again fonts current hs f s s' (GoesOn enclosed o r) u g = GoesOn enclosed o (g enclosed r)
remains_again fonts current hs f s s' (IsOver b e) u g = absurd (more_end f s e)

-- ---- an item has passed

one_is : (p q : PassedElement) (s t : Sequence) → PassesOne p s ≡ PassesOne q t → (p ≡ q) × (s ≡ t)
one_is p q s t u = (cc, cc)

-- what leaves a kern after it is an atom
kern_after : (enclosed : Bool) (h : HalfValue) (kern : Option ℤ) → NoBoundaries enclosed (h ∷ []) → NoBoundaries enclosed ((h ∷ kern_values kern))
kern_after enclosed (HalfAtom class row) None n = n
kern_after enclosed (HalfLeft delim) (Some amount) n = absurd n
kern_after enclosed (HalfMiddle delim) (Some amount) n = (n.0, tt)
kern_after enclosed (HalfRight delim) (Some amount) n = absurd n
kern_after enclosed _ None n = n
kern_after enclosed _ (Some amount) n = tt

remains_inside : (enclosed : Bool) (hs : List HalfValue) (h : HalfValue) (kern : Option ℤ) (s : Sequence) → IsOpen enclosed hs → RestOfList enclosed s → NoBoundaries enclosed (h ∷ []) → Remains (hs ++ (h ∷ kern_values kern)) s
remains_inside enclosed hs h kern s o l n = GoesOn enclosed (open_append enclosed hs ((h ∷ kern_values kern)) o (kern_after enclosed h kern n)) l

rest_pass : (current : Current) (enclosed : Bool) (hs : List HalfValue) (p : PassedElement) (s' : Sequence) (made : Made p) → IsOpen enclosed hs → RestOfList enclosed (More (element_of_passed p) s') → Remains (hs ++ (half_made current p made ∷ kern_values (kern_of p))) s'
rest_pass current enclosed hs (PassedAtom kind limits nucleus sup sub role kern) s' made o r = remains_inside enclosed hs _ kern s' o r tt
rest_pass current enclosed hs (PassedLeft delim) s' made o r = absurd r
rest_pass current enclosed hs (PassedMiddle delim) s' made o r = remains_inside enclosed hs (HalfMiddle delim) None s' o r.1 (r.0, tt)
rest_pass current enclosed hs (PassedRight delim) s' made o r = IsOver (right_after hs delim (subst (λ b. IsOpen b hs) r.0 o)) r.1
rest_pass current enclosed hs _ s' made o r = remains_inside enclosed hs _ None s' o r tt

-- the left boundary
left_pass : (current : Current) (hs : List HalfValue) (delim : Delim) (s : Sequence) (p : PassedElement) (s' : Sequence) (made : Made p) → p ≡ PassedLeft delim → s' ≡ s → hs ≡ [] → RestOfList true s → Remains (hs ++ (half_made current p made ∷ kern_values (kern_of p))) s'
left_pass current hs delim s (PassedLeft d) s' made x y e l =
    subst (λ ks. Remains (ks ++ HalfLeft d ∷ []) s') (sym e) (GoesOn true tt (subst (RestOfList true) (sym y) l))
left_pass current hs delim s _ s' made x y e l = absurd (cc)

made_pass : (fonts : SetValue) (current : Current) (hs : List HalfValue) (f : Element) (s : Sequence) (p : PassedElement) (s' : Sequence) (made : Made p) → Remains hs (More f s) → PassesOne p s' ≡ turn_of fonts current f s → ((enclosed : Bool) → RestOfList enclosed (More f s) → RestOfList enclosed (More (element_of_passed p) s')) → Remains (hs ++ (half_made current p made ∷ kern_values (kern_of p))) s'
made_pass fonts current hs f s p s' made (Begins delim rest e x r) u g =
    let q = same_front f (LeftElement delim) s rest x in
    let n = one_is p (PassedLeft delim) s' s (subst (λ v. PassesOne p s' ≡ turn_of fonts current v s) q.0 u) in
    left_pass current hs delim s p s' made n.0 n.1 e (subst (RestOfList true) (sym q.1) r)
made_pass fonts current hs f s p s' made (GoesOn enclosed o r) u g = rest_pass current enclosed hs p s' made o (g enclosed r)
made_pass fonts current hs f s p s' made (IsOver b x) u g = absurd (more_end f s x)

pub remains_pass : (fonts : SetValue) (current : Current) (hs : List HalfValue) (f : Element) (s : Sequence) (p : PassedElement) (s' : Sequence) (h : HalfValue) → Remains hs (More f s) → PassesOne p s' ≡ turn_of fonts current f s → ((enclosed : Bool) → RestOfList enclosed (More f s) → RestOfList enclosed (More (element_of_passed p) s')) → set_item fonts current (flat_item fonts p) ≡ Ok h → Remains (hs ++ (h ∷ kern_values (kern_of p))) s'
remains_pass fonts current hs f s p s' h r u g w =
    let m = set_as fonts current p h w in
    subst (λ x. Remains (hs ++ (x ∷ kern_values (kern_of p))) s') (sym m.is) (made_pass fonts current hs f s p s' m.made r u g)
