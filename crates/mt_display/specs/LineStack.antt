-- The lines of a page on one stack of pieces (`IsStack`), and what a call answers that puts the lines of a formula there (`PutsLines`).
use Rattle.std.specs.Prelude.{◌≡◌, ◌≤◌, ◌^◌, ℤ, pos, Bool, true, false, List, [], ◌++◌, length, map, Result, Ok, Err, All, ⊤}
use Rattle.mt_scaled.specs.Number.{Within}
use Rattle.mt_box.specs.declared.error.PackError.{PackError}
use Rattle.mt_box.specs.declared.error.PackError.TheVariants.{Overflow as PackOverflow, OutOfMemory as NoPackMemory}
use Rattle.mt_box.specs.Rows.{PieceValue, PieceBox}
use Rattle.mt_rules.specs.Setting.{Setting, Overflow}
use Rattle.mt_display.specs.declared.line_stack.LineStack.{LineStack}
use Rattle.mt_display.specs.declared.line_stack.NumberSide.{NumberSide}
use Rattle.mt_display.specs.declared.line_stack.NumberSide.TheVariants.{Left, Right}
use Rattle.mt_display.specs.Lines.{LineValue}

-- the box of each line is a piece
abbrev pub line_box : LineValue → PieceValue
line_box l = PieceBox (pos 0) l.body

abbrev pub line_boxes : List LineValue → List PieceValue
line_boxes lines = map line_box lines

abbrev pub line_shifts : List LineValue → List ℤ
line_shifts lines = map (λ (l : LineValue). l.shift) lines

-- the stack has these lines, and behind them these pieces
pub record IsStack (lines : List LineValue) (row : List PieceValue) (s : LineStack) : Type 0 where
  pub pieces : s.pieces ≡ line_boxes lines ++ row
  pub shifts : s.shifts.items ≡ line_shifts lines

-- one line more or two, which are those that setting answers, and nothing behind them
pub record MoreLines (lines : List LineValue) (s : LineStack) (setting : Setting (List LineValue)) : Type 0 where
  pub added : List LineValue
  pub is : setting ≡ Ok added
  pub stack : IsStack (lines ++ added) [] s
  pub some : 1 ≤ length added
  pub few : length added ≤ 2
  pub small : All (λ (l : LineValue). Within (2 ^ 40) l.shift) added

-- these lines are put after the others, or the first extent out of range of a box in them is answered; memory may run out in place of
-- both
abbrev pub PutsLines : {U : Type 0} → Result U PackError → List LineValue → LineStack → Setting (List LineValue) → Type 0
PutsLines (Ok u) lines s setting = MoreLines lines s setting
PutsLines (Err (PackOverflow value)) lines s setting = setting ≡ Err (Overflow value)
PutsLines (Err NoPackMemory) lines s setting = ⊤

abbrev pub is_left : NumberSide → Bool
is_left Left = true
is_left Right = false
