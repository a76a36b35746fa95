-- Displays and numbers set on a stack of pieces: what is there, and what the code knows of it.
use Rattle.std.specs.Prelude.{◌≡◌, ◌^◌, ℤ, pos, Bool, List, [], ◌∷◌, ◌++◌, Result, Ok, Err, if◌then◌else◌, ⊤}
use Rattle.std.specs.Ordering.{int_eq}
use Rattle.mt_scaled.specs.Number.{Within}
use Rattle.mt_box.specs.declared.error.PackError.{PackError}
use Rattle.mt_box.specs.declared.error.PackError.TheVariants.{Overflow as PackOverflow, OutOfMemory as NoPackMemory}
use Rattle.mt_box.specs.Layout.{Layout}
use Rattle.mt_box.specs.Rows.{PieceValue, PieceBox, PieceKern, begins_with_space_piece, pack, row_shrink, row_width}
use Rattle.mt_rules.specs.Setting.{Setting, Overflow, ◌>>=◌, make_box, pack_row}
use Rattle.mt_display.specs.declared.slot.Slot.{Slot}
use Rattle.mt_display.specs.Displays.{Fit, fit, fitted, one_line}
use Rattle.mt_display.specs.Lines.{LineValue}

-- line and display are in range
pub record IsSmallSize (slot : Slot) : Type 0 where
  pub z : Within (2 ^ 30) slot.z.sp
  pub w : Within (2 ^ 30) slot.w.sp

-- e is the width of the number's box, or 0
abbrev pub e_of_box : ℤ → ℤ → ℤ
e_of_box e width = if int_eq e (pos 0) then pos 0 else width

abbrev pub fit_of_row : ℤ → List PieceValue → ℤ → ℤ → Fit
fit_of_row z row e q = fit z (row_width row) (row_shrink row) e q

-- the slot of this display in a line of this width
pub record IsSlot (line room : ℤ) (row : List PieceValue) (display : Layout) (slot : Slot) : Type 0 where
  pub z : slot.z.sp ≡ line
  pub w : slot.w.sp ≡ display.extents.width
  pub e : slot.e.sp ≡ room
  pub flush : slot.flush ≡ begins_with_space_piece row

-- the box of the row is there behind other pieces
pub record DisplaySet (before row : List PieceValue) (display : Layout) (room line : ℤ) (s : Slot) (now : List PieceValue) : Type 0 where
  pub made : make_box display ≡ Ok display
  pub pieces : now ≡ before ++ PieceBox (pos 0) display ∷ []
  pub slot : IsSlot line room row display s

-- a slot of which this holds, or the fault of setting; memory may run out in place of both
abbrev pub SetsSlot : {A : Type 0} → (Slot → Type 0) → Setting A → Result Slot PackError → Type 0
SetsSlot Is setting (Ok slot) = Is slot
SetsSlot Is setting (Err (PackOverflow value)) = setting ≡ Err (Overflow value)
SetsSlot Is setting (Err NoPackMemory) = ⊤

abbrev pub SetsDisplay : List PieceValue → List PieceValue → Fit → ℤ → Result Slot PackError → List PieceValue → Type 0
SetsDisplay before row f z result now = SetsSlot (λ slot. DisplaySet before row (fitted row f.target) f.e z slot now) (make_box (fitted row f.target)) result

-- the boxes of display and number, the first of which is tested first
abbrev pub both_boxes : Layout → List PieceValue → Setting (Layout × Layout)
both_boxes display number = do
  first ← make_box display
  second ← pack_row number
  Ok (first, second)

-- both boxes are there behind other pieces
pub record BothSet (before row number : List PieceValue) (body : Layout) (room line : ℤ) (s : Slot) (now : List PieceValue) : Type 0 where
  pub made : both_boxes body number ≡ Ok (body, pack number)
  pub pieces : now ≡ before ++ PieceBox (pos 0) body ∷ PieceBox (pos 0) (pack number) ∷ []
  pub slot : IsSlot line room row body s

abbrev pub SetsBoth : List PieceValue → List PieceValue → List PieceValue → Fit → ℤ → Result Slot PackError → List PieceValue → Type 0
SetsBoth before row number f z result now = SetsSlot (λ slot. BothSet before row number (fitted row f.target) f.e z slot now) (both_boxes (fitted row f.target) number) result

-- two boxes in one line, with so much between them
abbrev pub lines_beside : ℤ → ℤ → Layout → Layout → Setting (List LineValue)
lines_beside room shift a b = do
  body ← pack_row (PieceBox (pos 0) a ∷ PieceKern room ∷ PieceBox (pos 0) b ∷ [])
  Ok (one_line shift body)

-- display and number, or number and display
abbrev pub in_order : Bool → PieceValue → PieceValue → List PieceValue
in_order left display number = if left then number ∷ display ∷ [] else display ∷ number ∷ []
