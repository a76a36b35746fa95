-- The widths of both sides of equations so far (`side_widths`), and the pieces of one equation (`equation_pieces`).
use Rattle.std.specs.Prelude.{◌^◌, ℤ, pos, List, [], ◌∷◌, Option, Some, None}
use Rattle.std.specs.Int.{int_max}
use Rattle.mt_scaled.specs.Number.{Within, max_dimen}
use Rattle.mt_box.specs.Extents.{ExtentsInRange}
use Rattle.mt_box.specs.Rows.{PieceValue, PieceBox, PieceKern}
use Rattle.mt_rules.specs.DisplayRows.{EquationLayout}
use Rattle.mt_display.specs.declared.equations.SideWidths.{SideWidths}
use Rattle.mt_display.specs.declared.equations.EquationKerns.{EquationKerns}

-- the widths of the columns, of which there are none before the first row
abbrev pub side_widths : Option SideWidths → List ℤ
side_widths None = []
side_widths (Some w) = w.first.sp ∷ w.second.sp ∷ []

-- the widths of the columns of two tables, the one above the other
abbrev pub joined : List ℤ → List ℤ → List ℤ
joined [] ws = ws
joined (v ∷ vs) [] = v ∷ vs
joined (v ∷ vs) (w ∷ ws) = int_max w v ∷ joined vs ws

pub record AreSmallSides (w : SideWidths) : Type 0 where
  pub first : Within max_dimen w.first.sp
  pub second : Within max_dimen w.second.sp

pub record AreInRange (e : EquationLayout) : Type 0 where
  pub first : ExtentsInRange e.first.extents
  pub second : ExtentsInRange e.second.extents
  pub number : ExtentsInRange e.number.extents

pub record AreSmallKerns (k : EquationKerns) : Type 0 where
  pub before : Within (2 ^ 40) k.before.sp
  pub between : Within (2 ^ 40) k.between.sp
  pub after : Within (2 ^ 40) k.after.sp

-- both sides, and the number
abbrev pub equation_pieces : EquationKerns → EquationLayout → List PieceValue
equation_pieces k e =
    PieceKern k.before.sp ∷ PieceBox (pos 0) e.first ∷ PieceBox (pos 0) e.second
    ∷ PieceKern k.between.sp ∷ PieceBox (pos 0) e.number ∷ PieceKern k.after.sp ∷ []
