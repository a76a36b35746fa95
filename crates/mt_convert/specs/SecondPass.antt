-- The second pass (`second_pass_of`): the rows of the items side by side, with the spaces between atoms, the boundaries
-- at the two ends and the middles between them (The TeXbook, Appendix G, rules 19 and 20; chapter 18; tex.web, sections
-- 760 to 767; middles as in e-TeX).
use Rattle.std.specs.Prelude.{ℤ, List, [], ◌∷◌, ◌++◌, Option, Some, None, Ok}
use Rattle.std.specs.Option.{option_or}
use Rattle.mt_family.specs.declared.size.Size.{Size}
use Rattle.mt_family.specs.SetValue.{SetValue}
use Rattle.mt_box.specs.Rows.{PieceValue, PieceKern, PieceSpace}
use Rattle.mt_rules.specs.declared.class.Class.{Class}
use Rattle.mt_rules.specs.declared.class.Class.TheVariants.{Open, Close}
use Rattle.mt_rules.specs.declared.style.Style.{Style}
use Rattle.mt_rules.specs.declared.symbol.Delim.{Delim}
use Rattle.mt_rules.specs.declared.symbol.Glue.{Glue}
use Rattle.mt_rules.specs.Styles.{size_of}
use Rattle.mt_rules.specs.MathUnits.{math_unit}
use Rattle.mt_rules.specs.Spaces.{Spacing, NoSpacing, ThinSpacing, MediumSpacing, ThickSpacing, spacing, spacing_glue}
use Rattle.mt_rules.specs.Setting.{Setting, ◌>>=◌, make_row}
use Rattle.mt_rules.specs.Delimiters.{delimiter, piece_on_axis, boundary_size}
use Rattle.mt_convert.specs.declared.flat.current.Current.{Current}
use Rattle.mt_convert.specs.Current.{opening}
use Rattle.mt_convert.specs.Halves.{HalfValue, HalfAtom, HalfLeft, HalfMiddle, HalfRight, HalfStyle, HalfKern, HalfSpace, Halves, class_to_right}

-- ---- the space before an atom

abbrev pub glue_piece : Glue → PieceValue
glue_piece glue = PieceSpace glue.width glue.shrink

-- where a math unit has this size
abbrev pub spacing_pieces : Spacing → ℤ → List PieceValue
spacing_pieces NoSpacing unit = []
spacing_pieces ThinSpacing unit = glue_piece (spacing_glue ThinSpacing unit) ∷ []
spacing_pieces MediumSpacing unit = glue_piece (spacing_glue MediumSpacing unit) ∷ []
spacing_pieces ThickSpacing unit = glue_piece (spacing_glue ThickSpacing unit) ∷ []

-- none before the first atom
abbrev pub pieces_between : SetValue → Style → Option Class → Class → List PieceValue
pieces_between fonts style None right = []
pieces_between fonts style (Some left) right = spacing_pieces (spacing left right style) (math_unit fonts style)

-- in the style at the atom
abbrev pub space_before : SetValue → Current → Class → List PieceValue
space_before fonts current right = pieces_between fonts current.style current.last right

-- ---- the pieces of an item

-- after a middle the style in which the list begins holds again
abbrev pub style_after_half : Style → Style → HalfValue → Style
style_after_half initial style (HalfStyle next) = next
style_after_half initial style (HalfMiddle delim) = initial
style_after_half initial style _ = style

abbrev pub current_after_half : Current → HalfValue → Current
current_after_half current half = record {
  initial = current.initial;
  style = style_after_half current.initial current.style half;
  last = option_or (class_to_right half) current.last;
}

-- a delimiter of the wanted size at this size, in the middle of the axis
abbrev pub boundary_piece : SetValue → Size → ℤ → Delim → Setting PieceValue
boundary_piece fonts size wanted delim = do
  box ← delimiter fonts delim size wanted
  Ok (piece_on_axis fonts size box)

abbrev pub boundary_pieces : SetValue → Size → ℤ → Current → Class → Delim → Setting (List PieceValue)
boundary_pieces fonts size wanted current class delim = do
  piece ← boundary_piece fonts size wanted delim
  Ok (space_before fonts current class ++ piece ∷ [])

abbrev pub half_pieces : SetValue → Size → ℤ → Current → HalfValue → Setting (List PieceValue)
half_pieces fonts size wanted current (HalfAtom class row) = Ok (space_before fonts current class ++ row)
half_pieces fonts size wanted current (HalfLeft delim) = boundary_pieces fonts size wanted current Open delim
half_pieces fonts size wanted current (HalfMiddle delim) = boundary_pieces fonts size wanted current Close delim
half_pieces fonts size wanted current (HalfRight delim) = boundary_pieces fonts size wanted current Close delim
half_pieces fonts size wanted current (HalfStyle style) = Ok []
half_pieces fonts size wanted current (HalfKern amount) = Ok (PieceKern amount ∷ [])
half_pieces fonts size wanted current (HalfSpace glue) = Ok (glue_piece glue ∷ [])

-- ---- the row

abbrev pub all_pieces : SetValue → Size → ℤ → Current → List HalfValue → Setting (List PieceValue)
all_pieces fonts size wanted current [] = Ok []
all_pieces fonts size wanted current (half ∷ halves) = do
  pieces ← half_pieces fonts size wanted current half
  rest ← all_pieces fonts size wanted (current_after_half current half) halves
  Ok (pieces ++ rest)

-- the finished row is tested last
abbrev pub row_of_halves : SetValue → Size → ℤ → Style → List HalfValue → Setting (List PieceValue)
row_of_halves fonts size wanted style halves = do
  pieces ← all_pieces fonts size wanted (opening style) halves
  make_row pieces

-- Boundaries and middles have one wanted size, at the size of the style in which the list begins. All else is made
-- before, so they are made in the order of the list.
unfoldable pub second_pass_of : SetValue → Style → Halves → Setting (List PieceValue)
second_pass_of fonts style halves =
    let size = size_of style in
    row_of_halves fonts size (boundary_size fonts size halves.height halves.depth) style halves.items
