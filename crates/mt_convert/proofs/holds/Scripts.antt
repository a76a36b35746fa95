-- Scripts hold where nucleus and scripts do: beside a nucleus, and above and below one.
use Rattle.std.proofs.Common.{ℤ, neg_ℤ, ◌+ℤ◌, List, [], ◌∷◌, ◌++◌, Option, Some, None, IfOk, Ok}
use Rattle.mt_convert.proofs.Common.{int_max, half_of, Size, SetValue, Layout, all_moved, PieceValue, PieceBox, rebox, Style, ◌>>=◌, make_box, layout_or_empty, widened_script, both_scripts, shifts_beside, gap_above, gap_below, limits_layout, rebox_some, LayoutHolds, RowHolds}
use Rattle.mt_convert.proofs.holds.Steps.{step_holds, box_made}
use Rattle.mt_convert.proofs.holds.Boxes.{moved_hold, places_hold_append, row_holds_append, rebox_holds, SomeLayoutHolds, or_empty}
use Rattle.mt_rules.specs.Scripts.{row_with_scripts}
use Rattle.mt_rules.specs.Limits.{limits}

module _ (fonts : SetValue) where
  -- ---- beside the nucleus

  -- a box at the end of the row
  box_last : (row : List PieceValue) (raise : ℤ) (box : Layout) → RowHolds fonts row → LayoutHolds fonts box → RowHolds fonts (row ++ PieceBox raise box ∷ [])
  box_last row raise box h k = row_holds_append fonts row (PieceBox raise box ∷ []) h (k, tt)

  one_script : (row : List PieceValue) (raise : ℤ) (script : Layout) → RowHolds fonts row → LayoutHolds fonts script → IfOk (make_box (widened_script script) >>= (λ wide. Ok (row ++ PieceBox raise wide ∷ []))) (RowHolds fonts)
  one_script row raise script h k =
      step_holds (LayoutHolds fonts) (RowHolds fonts) (make_box (widened_script script)) (λ wide. Ok (row ++ PieceBox raise wide ∷ []))
      (box_made (LayoutHolds fonts) (widened_script script) k) (λ wide w. box_last row raise wide h w)

  both_hold : (delta rise : ℤ) (sup sub : Layout) → LayoutHolds fonts sup → LayoutHolds fonts sub → LayoutHolds fonts (both_scripts delta rise sup sub)
  both_hold delta rise sup sub h k = places_hold_append fonts (all_moved delta rise sup.places) sub.places (moved_hold fonts delta rise sup.places h) k

  two_scripts : (row : List PieceValue) (delta up down : ℤ) (sup sub : Layout) → RowHolds fonts row → LayoutHolds fonts sup → LayoutHolds fonts sub
      → IfOk (make_box (widened_script sup) >>= (λ wide_sup. make_box (widened_script sub) >>= (λ wide_sub. make_box (both_scripts delta (up +ℤ down) wide_sup wide_sub) >>= (λ both. Ok (row ++ PieceBox (neg_ℤ down) both ∷ []))))) (RowHolds fonts)
  two_scripts row delta up down sup sub h a b =
      step_holds (LayoutHolds fonts) (RowHolds fonts) (make_box (widened_script sup))
      (λ wide_sup. make_box (widened_script sub) >>= (λ wide_sub. make_box (both_scripts delta (up +ℤ down) wide_sup wide_sub) >>= (λ both. Ok (row ++ PieceBox (neg_ℤ down) both ∷ []))))
      (box_made (LayoutHolds fonts) (widened_script sup) a)
      (λ wide_sup x. step_holds (LayoutHolds fonts) (RowHolds fonts) (make_box (widened_script sub))
      (λ wide_sub. make_box (both_scripts delta (up +ℤ down) wide_sup wide_sub) >>= (λ both. Ok (row ++ PieceBox (neg_ℤ down) both ∷ [])))
      (box_made (LayoutHolds fonts) (widened_script sub) b)
      (λ wide_sub y. step_holds (LayoutHolds fonts) (RowHolds fonts) (make_box (both_scripts delta (up +ℤ down) wide_sup wide_sub))
      (λ both. Ok (row ++ PieceBox (neg_ℤ down) both ∷ []))
      (box_made (LayoutHolds fonts) (both_scripts delta (up +ℤ down) wide_sup wide_sub) (both_hold delta (up +ℤ down) wide_sup wide_sub x y))
      (λ both z. box_last row (neg_ℤ down) both h z)))

  pub scripts_hold : (style : Style) (row : List PieceValue) (delta : ℤ) (sup sub : Option Layout) → RowHolds fonts row → SomeLayoutHolds fonts sup → SomeLayoutHolds fonts sub → IfOk (row_with_scripts fonts style row delta sup sub) (RowHolds fonts)
  unfolding row_with_scripts
  scripts_hold style row delta None None h a b = h
  scripts_hold style row delta (Some sup) None h a b =
      one_script row (shifts_beside fonts style row (Some sup.extents) None).up sup h a
  scripts_hold style row delta None (Some sub) h a b =
      one_script row (neg_ℤ (shifts_beside fonts style row None (Some sub.extents)).down) sub h b
  scripts_hold style row delta (Some sup) (Some sub) h a b =
      let shifts = shifts_beside fonts style row (Some sup.extents) (Some sub.extents) in
      two_scripts row delta shifts.up shifts.down sup sub h a b

  -- ---- above and below the nucleus

  rebox_some_holds : (o : Option Layout) (width : ℤ) → SomeLayoutHolds fonts o → SomeLayoutHolds fonts (rebox_some o width)
  rebox_some_holds None width h = tt
  rebox_some_holds (Some l) width h = rebox_holds fonts l width h

  three_hold : (size : Size) (delta : ℤ) (sup : Option Layout) (nucleus : Layout) (sub : Option Layout) → SomeLayoutHolds fonts sup → LayoutHolds fonts nucleus → SomeLayoutHolds fonts sub → LayoutHolds fonts (limits_layout fonts size delta sup nucleus sub)
  three_hold size delta sup nucleus sub a h b =
      let above = (layout_or_empty sup).extents in
      let below = (layout_or_empty sub).extents in
      let up = nucleus.extents.height +ℤ gap_above fonts size above +ℤ above.depth in
      let down = nucleus.extents.depth +ℤ gap_below fonts size below +ℤ below.height in
      let top = all_moved (half_of delta) up (layout_or_empty sup).places in
      let bottom = all_moved (neg_ℤ (half_of delta)) (neg_ℤ down) (layout_or_empty sub).places in
      places_hold_append fonts top (nucleus.places ++ bottom)
      (moved_hold fonts (half_of delta) up (layout_or_empty sup).places (or_empty fonts sup a))
      (places_hold_append fonts nucleus.places bottom h
      (moved_hold fonts (neg_ℤ (half_of delta)) (neg_ℤ down) (layout_or_empty sub).places (or_empty fonts sub b)))

  pub limits_hold : (size : Size) (nucleus : Layout) (delta : ℤ) (sup sub : Option Layout) → LayoutHolds fonts nucleus → SomeLayoutHolds fonts sup → SomeLayoutHolds fonts sub → IfOk (limits fonts size nucleus delta sup sub) (LayoutHolds fonts)
  unfolding limits
  limits_hold size nucleus delta sup sub h a b =
      let width = int_max (layout_or_empty sup).extents.width (int_max nucleus.extents.width (layout_or_empty sub).extents.width) in
      box_made (LayoutHolds fonts) (limits_layout fonts size delta (rebox_some sup width) (rebox nucleus width) (rebox_some sub width))
      (three_hold size delta (rebox_some sup width) (rebox nucleus width) (rebox_some sub width)
      (rebox_some_holds sup width a) (rebox_holds fonts nucleus width h) (rebox_some_holds sub width b))
