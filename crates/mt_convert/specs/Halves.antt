-- The items of a list between the two passes (`Halves`): each set, with its final class (The TeXbook, Appendix G, rules
-- 5, 6 and 19).
use Rattle.std.specs.Prelude.{ℤ, pos, List, [], ◌∷◌, Option, Some, None}
use Rattle.std.specs.Int.{int_max}
use Rattle.std.specs.Option.{option_or}
use Rattle.mt_box.specs.Rows.{PieceValue, row_height, row_depth}
use Rattle.mt_rules.specs.declared.class.Class.{Class}
use Rattle.mt_rules.specs.declared.class.Class.TheVariants.{Open, Close}
use Rattle.mt_rules.specs.declared.style.Style.{Style}
use Rattle.mt_rules.specs.declared.symbol.Delim.{Delim}
use Rattle.mt_rules.specs.declared.symbol.Glue.{Glue}
use Rattle.mt_rules.specs.Classes.{settled_of}

pub data HalfValue : Type 0 where
  -- an atom or a fraction
  HalfAtom : (class : Class) (row : List PieceValue) → HalfValue
  HalfLeft : (delim : Delim) → HalfValue
  HalfMiddle : (delim : Delim) → HalfValue
  HalfRight : (delim : Delim) → HalfValue
  HalfStyle : (style : Style) → HalfValue
  HalfKern : (amount : ℤ) → HalfValue
  HalfSpace : (glue : Glue) → HalfValue

-- The class that an item counts as for the atom at its left, and for the one at its right, where it is spaced as an
-- atom. A middle is a right boundary to its left, and a left one to its right.
abbrev pub class_to_left : HalfValue → Option Class
class_to_left (HalfAtom class row) = Some class
class_to_left (HalfLeft delim) = Some Open
class_to_left (HalfMiddle delim) = Some Close
class_to_left (HalfRight delim) = Some Close
class_to_left (HalfStyle style) = None
class_to_left (HalfKern amount) = None
class_to_left (HalfSpace glue) = None

abbrev pub class_to_right : HalfValue → Option Class
class_to_right (HalfAtom class row) = Some class
class_to_right (HalfLeft delim) = Some Open
class_to_right (HalfMiddle delim) = Some Open
class_to_right (HalfRight delim) = Some Close
class_to_right (HalfStyle style) = None
class_to_right (HalfKern amount) = None
class_to_right (HalfSpace glue) = None

-- ---- final classes

-- the class that the first atom of these items counts as for what is before them
abbrev pub next_class : List HalfValue → Option Class
next_class [] = None
next_class (half ∷ halves) = option_or (class_to_left half) (next_class halves)

abbrev pub settled_half : HalfValue → Option Class → HalfValue
settled_half (HalfAtom class row) after = HalfAtom (settled_of class after) row
settled_half half after = half

-- each atom by the one after it, where all have the classes that they have got from the left
abbrev pub settled_halves : List HalfValue → List HalfValue
settled_halves [] = []
settled_halves (half ∷ halves) = settled_half half (next_class halves) ∷ settled_halves halves

-- ---- how far the atoms reach

abbrev pub half_height : HalfValue → ℤ
half_height (HalfAtom class row) = row_height row
half_height _ = pos 0

abbrev pub half_depth : HalfValue → ℤ
half_depth (HalfAtom class row) = row_depth row
half_depth _ = pos 0

-- at least 0
abbrev pub greatest_height : List HalfValue → ℤ
greatest_height [] = pos 0
greatest_height (half ∷ halves) = int_max (half_height half) (greatest_height halves)

abbrev pub greatest_depth : List HalfValue → ℤ
greatest_depth [] = pos 0
greatest_depth (half ∷ halves) = int_max (half_depth half) (greatest_depth halves)

-- ---- the list between the passes

pub record Halves : Type 0 where
  pub items : List HalfValue
  -- the greatest height and depth of the atoms, by which boundaries and middles have their size
  pub height : ℤ
  pub depth : ℤ

abbrev pub settle : List HalfValue → Halves
settle halves =
    record { items = settled_halves halves; height = greatest_height halves; depth = greatest_depth halves }
