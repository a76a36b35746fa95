-- The items that the code has between the two passes as those of the definition (`halves_value`), and what such a list
-- keeps (`IsHalfway`).
use Rattle.std.specs.Prelude.{◌≡◌, ◌≤◌, ◌≤ℤ◌, ◌+◌, ◌^◌, ℕ, ℤ, pos, ⊤, List, [], ◌∷◌, length, Option, Some, None, false}
use Rattle.std.specs.Option.{option_or}
use Rattle.mt_scaled.specs.Number.{Within, max_dimen}
use Rattle.mt_box.specs.declared.piece.Piece.{Piece}
use Rattle.mt_box.specs.Rows.{piece_values, AllMeasurable, row_level}
use Rattle.mt_rules.specs.declared.class.Class.{Class}
use Rattle.mt_rules.specs.Spaces.{never_meet}
use Rattle.mt_convert.specs.declared.half.Half.{Half}
use Rattle.mt_convert.specs.declared.half.Half.TheVariants as half
use Rattle.mt_convert.specs.Halves.{HalfValue, HalfAtom, HalfLeft, HalfMiddle, HalfRight, HalfStyle, HalfKern, HalfSpace, Halves, class_to_left, class_to_right}

abbrev pub half_value : Half → HalfValue
half_value (half.Set class row) = HalfAtom class (piece_values row)
half_value (half.Left delim) = HalfLeft delim
half_value (half.Middle delim) = HalfMiddle delim
half_value (half.Right delim) = HalfRight delim
half_value (half.Style style) = HalfStyle style
half_value (half.Kern amount) = HalfKern amount
half_value (half.Space glue) = HalfSpace glue

abbrev pub half_values : List Half → List HalfValue
half_values [] = []
half_values (h ∷ hs) = half_value h ∷ half_values hs

-- what contracts see of a list between the passes
pub record HalfwayValue : Type 0 where
  pub items : List Half
  pub height : ℤ
  pub depth : ℤ

abbrev pub halves_value : HalfwayValue → Halves
halves_value h = record { items = half_values h.items; height = h.height; depth = h.depth }

-- ---- sizes

-- numbers are at most 2^40 in size, and boxes have a level of at most this
pub record RowFits (most : ℕ) (row : List Piece) : Type 0 where
  pub measurable : AllMeasurable row
  pub level : row_level row ≤ most + 1

abbrev pub HalfFits : ℕ → Half → Type 0
HalfFits most (half.Set class row) = RowFits most row
HalfFits most (half.Left delim) = ⊤
HalfFits most (half.Middle delim) = ⊤
HalfFits most (half.Right delim) = ⊤
HalfFits most (half.Style style) = ⊤
HalfFits most (half.Kern amount) = Within (2 ^ 40) amount
HalfFits most (half.Space glue) = Within (2 ^ 40) glue.width × Within (2 ^ 40) glue.shrink

abbrev pub HalvesFit : ℕ → List Half → Type 0
HalvesFit most [] = ⊤
HalvesFit most (h ∷ hs) = HalfFits most h × HalvesFit most hs

-- how many pieces the rows of items have
abbrev pub count_of : Half → ℕ
count_of (half.Set class row) = length row
count_of (half.Left delim) = 0
count_of (half.Middle delim) = 0
count_of (half.Right delim) = 0
count_of (half.Style style) = 0
count_of (half.Kern amount) = 0
count_of (half.Space glue) = 0

abbrev pub total_of : List Half → ℕ
total_of [] = 0
total_of (h ∷ hs) = count_of h + total_of hs

-- ---- neighbours

-- two neighbouring atoms do not have classes that are never side by side
abbrev pub MayMeet : Option Class → Option Class → Type 0
MayMeet None right = ⊤
MayMeet (Some left) None = ⊤
MayMeet (Some left) (Some right) = never_meet left right ≡ false

-- the first class is that of the last atom before
abbrev pub AllMeet : Option Class → List HalfValue → Type 0
AllMeet last [] = ⊤
AllMeet last (h ∷ hs) = MayMeet last (class_to_left h) × AllMeet (option_or (class_to_right h) last) hs

-- ---- boundaries and middles

-- a right boundary is only last, a left one and a middle nowhere
abbrev pub MayEnd : List HalfValue → Type 0
MayEnd [] = ⊤
MayEnd (HalfRight delim ∷ hs) = hs ≡ []
MayEnd (HalfLeft delim ∷ hs) = ⊥
MayEnd (HalfMiddle delim ∷ hs) = ⊥
MayEnd (h ∷ hs) = MayEnd hs

-- after a middle: there is a right boundary, which is last, and a left one nowhere
abbrev pub MustEnd : List HalfValue → Type 0
MustEnd [] = ⊥
MustEnd (HalfRight delim ∷ hs) = hs ≡ []
MustEnd (HalfLeft delim ∷ hs) = ⊥
MustEnd (h ∷ hs) = MustEnd hs

-- after a left boundary: a right one is only last, a left one nowhere, and middles only before a right one
abbrev pub EndsAfterLeft : List HalfValue → Type 0
EndsAfterLeft [] = ⊤
EndsAfterLeft (HalfRight delim ∷ hs) = hs ≡ []
EndsAfterLeft (HalfLeft delim ∷ hs) = ⊥
EndsAfterLeft (HalfMiddle delim ∷ hs) = MustEnd hs
EndsAfterLeft (h ∷ hs) = EndsAfterLeft hs

-- a left boundary is only first, a right one only last, and middles only between these two
abbrev pub BoundariesOutside : List HalfValue → Type 0
BoundariesOutside (HalfLeft delim ∷ hs) = EndsAfterLeft hs
BoundariesOutside hs = MayEnd hs

pub record IsHalfway (h : HalfwayValue) : Type 0 where
  pub boundaries : BoundariesOutside (half_values h.items)
  pub meet : AllMeet None (half_values h.items)
  pub few : length h.items ≤ 2 ^ 19
  pub total : total_of h.items ≤ 2 ^ 20
  pub fit : HalvesFit (2 ^ 16) h.items
  pub height_low : pos 0 ≤ℤ h.height
  pub height_high : h.height ≤ℤ pos max_dimen
  pub depth_low : pos 0 ≤ℤ h.depth
  pub depth_high : h.depth ≤ℤ pos max_dimen
