-- The widths of both sides of equations, a row at a time.
use Rattle.std.proofs.Common.{◌≡◌, ℤ, List, [], ◌∷◌, map, Option, Some, None, refl, arith, sym, ◌∙◌, ap, IfSome}
use Rattle.mt_display.proofs.Common.{ints, clamps, int_max, Layout, equation_sides, equation_layout}
use Rattle.mt_rules.specs.Tables.{column_widths, widened}
use Rattle.mt_display.specs.declared.equations.EquationRow.{EquationRow}
use Rattle.mt_display.specs.declared.equations.SideWidths.{SideWidths}
use Rattle.mt_display.specs.inner.EquationRows.{AreSmallSides, joined, side_widths}

max_assoc : (a v w : ℤ) → int_max w (int_max a v) ≡ int_max (int_max w a) v
max_assoc a v w = omega (arith, ints, clamps)

both : {a b c d : ℤ} {xs : List ℤ} → a ≡ c → b ≡ d → a ∷ b ∷ xs ≡ c ∷ d ∷ xs
both e f = cc

-- a row more above the others, or below those above
joined_more : (widths : Option SideWidths) (a b : Layout) (ws : List ℤ) → joined (joined (side_widths widths) (a.extents.width ∷ b.extents.width ∷ [])) ws ≡ joined (side_widths widths) (widened ws (a ∷ b ∷ []))
joined_more None a b [] = refl
joined_more None a b (w ∷ []) = refl
joined_more None a b (w ∷ x ∷ ws) = refl
joined_more (Some s) a b [] = refl
joined_more (Some s) a b (w ∷ []) = both (max_assoc a.extents.width s.first.sp w) refl
joined_more (Some s) a b (w ∷ x ∷ ws) = both (max_assoc a.extents.width s.first.sp w) (max_assoc b.extents.width s.second.sp x)

abbrev widths_below : List EquationRow → List ℤ
widths_below rows = column_widths (map equation_sides (map equation_layout rows))

-- the rows so far have these widths, and the rest is still to come
pub record Widened (rows rest : List EquationRow) (widths : Option SideWidths) : Type 0 where
  pub whole : joined (side_widths widths) (widths_below rest) ≡ widths_below rows
  pub small : IfSome widths AreSmallSides

pub widened_step : (rows rest rest' : List EquationRow) (r : EquationRow) (widths : Option SideWidths) (w : SideWidths) → Widened rows rest widths → rest ≡ r ∷ rest'
    → side_widths (Some w) ≡ joined (side_widths widths) (r.first.extents.width ∷ r.second.extents.width ∷ []) → AreSmallSides w → Widened rows rest' (Some w)
widened_step rows rest rest' r widths w h e is small = record {
  whole =
      ap (λ ws. joined ws (widths_below rest')) is
      ∙ joined_more widths (equation_layout r).first (equation_layout r).second (widths_below rest')
      ∙ ap (λ rs. joined (side_widths widths) (widths_below rs)) (sym e)
      ∙ h.whole;
  small = small;
}
