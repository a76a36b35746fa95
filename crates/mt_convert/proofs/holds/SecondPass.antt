-- The second pass: the row of a list holds where the rows of its items do.
use Rattle.std.proofs.Common.{ℤ, List, [], ◌∷◌, ◌++◌, Option, Some, None, IfOk, Ok}
use Rattle.mt_convert.proofs.Common.{Size, SetValue, Class, Open, Close, Style, Delim, size_of, ◌>>=◌, make_row, delimiter, piece_on_axis, boundary_size, Current, opening, HalfValue, HalfAtom, HalfLeft, HalfMiddle, HalfRight, HalfStyle, Halves, math_unit, spacing_pieces, pieces_between, space_before, current_after_half, boundary_piece, boundary_pieces, half_pieces, all_pieces, row_of_halves, LayoutHolds, PieceHolds, RowHolds}
use Rattle.mt_rules.specs.Spaces.{Spacing, NoSpacing, spacing}
use Rattle.mt_convert.proofs.holds.Steps.{step_holds, row_made}
use Rattle.mt_convert.proofs.holds.Boxes.{row_holds_append}
use Rattle.mt_convert.proofs.holds.Delimiters.{AreSound, delimiter_holds}
use Rattle.mt_convert.proofs.holds.FirstPass.{HalfHolds, HalvesHold}
use Rattle.mt_convert.specs.SecondPass.{second_pass_of}

module _ (fonts : SetValue) where
  spacing_hold : (s : Spacing) (unit : ℤ) → RowHolds fonts (spacing_pieces s unit)
  spacing_hold NoSpacing unit = tt
  spacing_hold _ unit = (tt, tt)

  between_holds : (style : Style) (left : Option Class) (right : Class) → RowHolds fonts (pieces_between fonts style left right)
  between_holds style None right = tt
  between_holds style (Some left) right = spacing_hold (spacing left right style) (math_unit fonts style)

  boundary_holds : (size : Size) (wanted : ℤ) (delim : Delim) → AreSound fonts → IfOk (boundary_piece fonts size wanted delim) (PieceHolds fonts)
  boundary_holds size wanted delim sound =
      step_holds (LayoutHolds fonts) (PieceHolds fonts) (delimiter fonts delim size wanted) (λ box. Ok (piece_on_axis fonts size box))
      (delimiter_holds fonts delim size wanted sound) (λ box k. k)

  boundary_row : (size : Size) (wanted : ℤ) (current : Current) (class : Class) (delim : Delim) → AreSound fonts → IfOk (boundary_pieces fonts size wanted current class delim) (RowHolds fonts)
  boundary_row size wanted current class delim sound =
      step_holds (PieceHolds fonts) (RowHolds fonts) (boundary_piece fonts size wanted delim) (λ piece. Ok (space_before fonts current class ++ piece ∷ []))
      (boundary_holds size wanted delim sound)
      (λ piece k. row_holds_append fonts (space_before fonts current class) (piece ∷ []) (between_holds current.style current.last class) (k, tt))

  half_row : (size : Size) (wanted : ℤ) (current : Current) (half : HalfValue) → AreSound fonts → HalfHolds fonts half → IfOk (half_pieces fonts size wanted current half) (RowHolds fonts)
  half_row size wanted current (HalfAtom class row) sound h = row_holds_append fonts (space_before fonts current class) row (between_holds current.style current.last class) h
  half_row size wanted current (HalfLeft delim) sound h = boundary_row size wanted current Open delim sound
  half_row size wanted current (HalfMiddle delim) sound h = boundary_row size wanted current Close delim sound
  half_row size wanted current (HalfRight delim) sound h = boundary_row size wanted current Close delim sound
  half_row size wanted current (HalfStyle style) sound h = tt
  half_row size wanted current _ sound h = (tt, tt)

  all_hold : (halves : List HalfValue) (size : Size) (wanted : ℤ) (current : Current) → AreSound fonts → HalvesHold fonts halves → IfOk (all_pieces fonts size wanted current halves) (RowHolds fonts)
  all_hold [] size wanted current sound h = tt
  all_hold (half ∷ halves) size wanted current sound h =
      step_holds (RowHolds fonts) (RowHolds fonts) (half_pieces fonts size wanted current half)
      (λ row. all_pieces fonts size wanted (current_after_half current half) halves >>= (λ rest. Ok (row ++ rest)))
      (half_row size wanted current half sound h.0)
      (λ row x. step_holds (RowHolds fonts) (RowHolds fonts) (all_pieces fonts size wanted (current_after_half current half) halves) (λ rest. Ok (row ++ rest))
      (all_hold halves size wanted (current_after_half current half) sound h.1)
      (λ rest y. row_holds_append fonts row rest x y))

  row_of_halves_holds : (size : Size) (wanted : ℤ) (style : Style) (halves : List HalfValue) → AreSound fonts → HalvesHold fonts halves → IfOk (row_of_halves fonts size wanted style halves) (RowHolds fonts)
  row_of_halves_holds size wanted style halves sound h =
      step_holds (RowHolds fonts) (RowHolds fonts) (all_pieces fonts size wanted (opening style) halves) (λ row. make_row row)
      (all_hold halves size wanted (opening style) sound h) (λ row k. row_made (RowHolds fonts) row k)

  pub second_pass_holds : (style : Style) (halves : Halves) → AreSound fonts → HalvesHold fonts halves.items → IfOk (second_pass_of fonts style halves) (RowHolds fonts)
  unfolding second_pass_of
  second_pass_holds style halves sound h =
      row_of_halves_holds (size_of style) (boundary_size fonts (size_of style) halves.height halves.depth) style halves.items sound h
