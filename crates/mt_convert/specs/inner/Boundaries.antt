-- Where boundaries and middles are in what is left of a list (`Remains`), beside the items that are set so far.
use Rattle.std.specs.Prelude.{◌≡◌, ⊤, Bool, true, false, List, [], ◌∷◌, Option, Some, None}
use Rattle.mt_rules.specs.declared.symbol.Delim.{Delim}
use Rattle.mt_rules.specs.Facts.{NoBoundary}
use Rattle.mt_rules.specs.Sequence.{Sequence, End, More, LeftElement, MiddleElement, RightElement, ChoiceElement}
use Rattle.mt_convert.specs.Halves.{HalfValue, HalfLeft, HalfMiddle, HalfRight}
use Rattle.mt_convert.specs.Halfway.{BoundariesOutside}
use Rattle.mt_convert.specs.inner.Turns.{PassedElement, element_of_passed}

-- After a left boundary (`enclosed`) middles and a right boundary, which is last; without one neither. A left one
-- nowhere, and none of these in the lists of a choice.
abbrev pub RestOfList : Bool → Sequence → Type 0
RestOfList enclosed End = enclosed ≡ false
RestOfList enclosed (More (LeftElement delim) s) = ⊥
RestOfList enclosed (More (MiddleElement delim) s) = (enclosed ≡ true) × RestOfList enclosed s
RestOfList enclosed (More (RightElement delim) s) = (enclosed ≡ true) × (s ≡ End)
RestOfList enclosed (More (ChoiceElement display text script small) s) =
    NoBoundary display × NoBoundary text × NoBoundary script × NoBoundary small × RestOfList enclosed s
RestOfList enclosed (More _ s) = RestOfList enclosed s

-- what a turn leaves
abbrev pub LeavesBy : {P : Type 0} → (P → PassedElement) → Bool → Option P → Sequence → Type 0
LeavesBy meaning enclosed None rest = RestOfList enclosed rest
LeavesBy meaning enclosed (Some p) rest = RestOfList enclosed (More (element_of_passed (meaning p)) rest)

-- no boundary, and middles only after a left one
abbrev pub NoBoundaries : Bool → List HalfValue → Type 0
NoBoundaries enclosed [] = ⊤
NoBoundaries enclosed (HalfLeft delim ∷ hs) = ⊥
NoBoundaries enclosed (HalfMiddle delim ∷ hs) = (enclosed ≡ true) × NoBoundaries enclosed hs
NoBoundaries enclosed (HalfRight delim ∷ hs) = ⊥
NoBoundaries enclosed (h ∷ hs) = NoBoundaries enclosed hs

-- no right boundary so far, and a left one first or none
abbrev pub IsOpen : Bool → List HalfValue → Type 0
IsOpen true (HalfLeft delim ∷ hs) = NoBoundaries true hs
IsOpen true hs = ⊥
IsOpen false hs = NoBoundaries false hs

-- items so far, and what is left: the left boundary is next, or the list goes on, or it is at its end
pub data Remains (hs : List HalfValue) (s : Sequence) : Type 0 where
  Begins : (delim : Delim) (rest : Sequence) → hs ≡ [] → s ≡ More (LeftElement delim) rest → RestOfList true rest
      → Remains hs s
  GoesOn : (enclosed : Bool) → IsOpen enclosed hs → RestOfList enclosed s → Remains hs s
  IsOver : BoundariesOutside hs → s ≡ End → Remains hs s
