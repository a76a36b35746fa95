-- Matrices and aligned equations in the toy fonts, worked. The numbers come from a program in another language.
use Rattle.std.proofs.Common.{◌≡◌, refl, Ok, Err, ℕ, ℤ, pos, [], ◌∷◌}
use Rattle.mt_family.specs.Sets.{sy}
use Rattle.mt_family.specs.declared.size.Size.TheVariants.{Text, Script, Scriptscript}
use Rattle.mt_box.specs.declared.extents.Extents.{Extents}
use Rattle.mt_box.specs.declared.place.Place.TheVariants.{Glyph}
use Rattle.mt_box.specs.Layout.{Layout}
use Rattle.mt_rules.specs.Setting.{Overflow}
use Rattle.mt_rules.specs.Tables.{matrix_table, equations_table}
use Rattle.mt_rules.proofs.cases.ToyFonts.{toy}
use Rattle.mt_rules.proofs.cases.Writing.{neg, layout, extents}

-- the parenthesis of the roman font
abbrev strut : Extents
strut = extents (pos 327680) (pos 327680) (pos 0)

-- a cell of one glyph of font 3
abbrev cell : ℕ → ℤ → ℤ → ℤ → Layout
cell code width height depth = layout width height depth (Glyph 3 code (pos 0) (pos 0) ∷ [])

-- a cell of a kern
abbrev empty : ℤ → Layout
empty width = layout width (pos 0) (pos 0) []

-- two columns, a quad apart, and a shorter row
two_rows : matrix_table toy Text strut ((cell 97 (pos 327680) (pos 327680) (pos 0) ∷ cell 98 (pos 327680) (pos 327680) (pos 0) ∷ []) ∷ (cell 99 (pos 327680) (pos 327680) (pos 0) ∷ []) ∷ []) ≡ Ok (layout (pos 1310720) (pos 720896) (pos 393216) (Glyph 3 97 (pos 0) (neg 393216) ∷ Glyph 3 98 (pos 983040) (neg 393216) ∷ Glyph 3 99 (pos 0) (pos 393216) ∷ []))
unfolding sy matrix_table
two_rows = refl

-- no rows: two struts alone, and one gap
no_rows : matrix_table toy Text strut [] ≡ Ok (layout (pos 0) (neg 65536) (neg 393216) [])
unfolding sy matrix_table
no_rows = refl

-- a row without cells has no columns
no_cells : matrix_table toy Text strut ([] ∷ []) ≡ Ok (layout (pos 0) (pos 327680) (pos 0) [])
unfolding sy matrix_table
no_cells = refl

-- three empty columns
empty_cells : matrix_table toy Text strut ((empty (pos 0) ∷ empty (pos 0) ∷ empty (pos 0) ∷ []) ∷ []) ≡ Ok (layout (pos 1310720) (pos 327680) (pos 0) [])
unfolding sy matrix_table
empty_cells = refl

-- columns of other widths, an odd difference rounded up, rows of other lengths
other_widths : matrix_table toy Text strut ((cell 97 (pos 327680) (pos 327680) (pos 0) ∷ cell 98 (pos 655361) (pos 327680) (pos 0) ∷ cell 99 (pos 327680) (pos 327680) (pos 0) ∷ []) ∷ (cell 100 (pos 983040) (pos 327680) (pos 0) ∷ []) ∷ (cell 101 (pos 5) (pos 7) (pos 3) ∷ cell 97 (pos 327680) (pos 327680) (pos 0) ∷ []) ∷ []) ≡ Ok (layout (pos 3276801) (pos 1114112) (pos 786432) (Glyph 3 97 (pos 327680) (neg 786432) ∷ Glyph 3 98 (pos 1638400) (neg 786432) ∷ Glyph 3 99 (pos 2949121) (neg 786432) ∷ Glyph 3 100 (pos 0) (pos 0) ∷ Glyph 3 101 (pos 491518) (pos 786432) ∷ Glyph 3 97 (pos 1802241) (pos 786432) ∷ []))
unfolding sy matrix_table
other_widths = refl

-- a first column of negative width counts 0, and its cells are in the middle of it
negative_first : matrix_table toy Text strut ((empty (neg 589824) ∷ cell 98 (pos 327680) (pos 327680) (pos 0) ∷ []) ∷ (cell 99 (neg 458752) (pos 327680) (pos 0) ∷ cell 100 (pos 327680) (pos 327680) (pos 0) ∷ []) ∷ []) ≡ Ok (layout (pos 983040) (pos 720896) (pos 393216) (Glyph 3 98 (pos 655360) (neg 393216) ∷ Glyph 3 99 (pos 229376) (pos 393216) ∷ Glyph 3 100 (pos 655360) (pos 393216) ∷ []))
unfolding sy matrix_table
negative_first = refl

-- another one stays negative
negative_second : matrix_table toy Text strut ((cell 97 (pos 327680) (pos 327680) (pos 0) ∷ empty (neg 327680) ∷ []) ∷ (cell 98 (pos 327680) (pos 327680) (pos 0) ∷ cell 97 (neg 655360) (pos 327680) (pos 0) ∷ []) ∷ []) ≡ Ok (layout (pos 655360) (pos 720896) (pos 393216) (Glyph 3 97 (pos 0) (neg 393216) ∷ Glyph 3 98 (pos 0) (pos 393216) ∷ Glyph 3 97 (pos 1146880) (pos 393216) ∷ []))
unfolding sy matrix_table
negative_second = refl

-- a table is at least 0 wide, its rows are not
narrow_table : matrix_table toy Text strut ((cell 97 (pos 327680) (pos 327680) (pos 0) ∷ empty (neg 1966080) ∷ []) ∷ []) ≡ Ok (layout (pos 0) (pos 327680) (pos 0) (Glyph 3 97 (pos 0) (pos 0) ∷ []))
unfolding sy matrix_table
narrow_table = refl

-- where the gap would be negative it is 1pt; where it is 0 it stays
tall_rows : matrix_table toy Script strut ((cell 97 (pos 327680) (pos 500000) (pos 300001) ∷ []) ∷ (cell 98 (pos 327680) (pos 486431) (pos 7) ∷ cell 97 (pos 327680) (pos 327680) (pos 0) ∷ []) ∷ (cell 99 (pos 327680) (pos 327680) (pos 0) ∷ cell 99 (pos 327680) (pos 327680) (pos 458753) ∷ []) ∷ (cell 100 (pos 327680) (pos 327680) (pos 0) ∷ []) ∷ (cell 101 (pos 327680) (pos 786432) (pos 0) ∷ []) ∷ []) ≡ Ok (layout (pos 1310720) (pos 1884161) (pos 1654784) (Glyph 3 97 (pos 0) (neg 1556481) ∷ Glyph 3 98 (pos 0) (neg 770049) ∷ Glyph 3 97 (pos 983040) (neg 770049) ∷ Glyph 3 99 (pos 0) (pos 16383) ∷ Glyph 3 99 (pos 983040) (pos 16383) ∷ Glyph 3 100 (pos 0) (pos 868352) ∷ Glyph 3 101 (pos 0) (pos 1654784) ∷ []))
unfolding sy matrix_table
tall_rows = refl

-- a row of negative height and depth counts 0
low_row : matrix_table toy Scriptscript strut ((cell 97 (pos 327680) (neg 5) (neg 7) ∷ []) ∷ (cell 98 (pos 327680) (pos 327680) (pos 0) ∷ []) ∷ []) ≡ Ok (layout (pos 327680) (pos 638976) (pos 475136) (Glyph 3 97 (pos 0) (neg 311296) ∷ Glyph 3 98 (pos 0) (pos 475136) ∷ []))
unfolding sy matrix_table
low_row = refl

-- a row that is too wide
wide_row : matrix_table toy Text strut ((cell 97 (pos 327680) (pos 327680) (pos 0) ∷ cell 98 (pos 1073741823) (pos 0) (pos 0) ∷ []) ∷ []) ≡ Err (Overflow (pos 1074724863))
unfolding sy matrix_table
wide_row = refl

-- the gaps alone make it too wide
wide_by_em : matrix_table toy Text strut ((cell 97 (pos 1073741823) (pos 0) (pos 0) ∷ []) ∷ (empty (pos 0) ∷ empty (pos 0) ∷ []) ∷ []) ≡ Err (Overflow (pos 1074397183))
unfolding sy matrix_table
wide_by_em = refl

-- columns that are too wide together, and one that goes back: no fault
far_and_back : matrix_table toy Text strut ((cell 97 (pos 1073741823) (pos 0) (pos 0) ∷ cell 98 (pos 1073741823) (pos 0) (pos 0) ∷ empty (neg 1073741823) ∷ empty (neg 1073741823) ∷ []) ∷ (cell 99 (pos 327680) (pos 327680) (pos 0) ∷ []) ∷ []) ≡ Ok (layout (pos 1966080) (pos 720896) (pos 393216) (Glyph 3 97 (pos 0) (neg 393216) ∷ Glyph 3 98 (pos 1074397183) (neg 393216) ∷ Glyph 3 99 (pos 536707072) (pos 393216) ∷ []))
unfolding sy matrix_table
far_and_back = refl

-- rows that are too high together
high_table : matrix_table toy Text strut ((cell 97 (pos 5) (pos 1073741823) (pos 1073741823) ∷ []) ∷ (cell 98 (pos 327680) (pos 327680) (pos 0) ∷ []) ∷ []) ≡ Err (Overflow (pos 1073905663))
unfolding sy matrix_table
high_table = refl

-- sides of equations
sides : equations_table toy Text ((cell 97 (pos 327680) (pos 327680) (pos 0) ∷ cell 61 (pos 655360) (pos 327680) (pos 0) ∷ []) ∷ (cell 99 (pos 655361) (pos 327680) (pos 0) ∷ cell 100 (pos 327680) (pos 327680) (pos 0) ∷ []) ∷ []) ≡ Ok (layout (pos 1310721) (pos 1048576) (pos 720896) (Glyph 3 97 (pos 327681) (neg 491520) ∷ Glyph 3 61 (pos 655361) (neg 491520) ∷ Glyph 3 99 (pos 0) (pos 491520) ∷ Glyph 3 100 (pos 655361) (pos 491520) ∷ []))
unfolding sy equations_table
sides = refl

-- rows without a right side, without a left one, and without both
one_side : equations_table toy Text ((cell 97 (pos 327680) (pos 327680) (pos 0) ∷ []) ∷ (empty (pos 0) ∷ cell 98 (pos 327680) (pos 327680) (pos 0) ∷ []) ∷ [] ∷ []) ≡ Ok (layout (pos 655360) (pos 1540096) (pos 1212416) (Glyph 3 97 (pos 0) (neg 983040) ∷ Glyph 3 98 (pos 327680) (pos 0) ∷ []))
unfolding sy equations_table
one_side = refl

-- no second column
left_alone : equations_table toy Script ((cell 97 (pos 327680) (pos 327680) (pos 0) ∷ []) ∷ (cell 98 (pos 5) (pos 7) (pos 3) ∷ []) ∷ []) ≡ Ok (layout (pos 327680) (pos 999424) (pos 770048) (Glyph 3 97 (pos 0) (neg 442368) ∷ Glyph 3 98 (pos 327675) (pos 540672) ∷ []))
unfolding sy equations_table
left_alone = refl

-- no rows
no_equations : equations_table toy Text [] ≡ Ok (layout (pos 0) (pos 163840) (neg 163840) [])
unfolding sy equations_table
no_equations = refl

-- columns of negative width stay so
negative_sides : equations_table toy Text ((empty (neg 589824) ∷ cell 97 (pos 327680) (pos 327680) (pos 0) ∷ []) ∷ (cell 98 (neg 786432) (pos 327680) (pos 0) ∷ empty (neg 327680) ∷ []) ∷ []) ≡ Ok (layout (pos 0) (pos 1048576) (pos 720896) (Glyph 3 97 (neg 589824) (neg 491520) ∷ Glyph 3 98 (pos 196608) (pos 491520) ∷ []))
unfolding sy equations_table
negative_sides = refl

-- a gap of 3pt stays, of 1sp less it is 4pt
open_gap_3pt : equations_table toy Text ((cell 97 (pos 327680) (pos 557056) (pos 229376) ∷ []) ∷ (cell 98 (pos 327680) (pos 557056) (pos 229376) ∷ []) ∷ (cell 99 (pos 327680) (pos 557057) (pos 5) ∷ []) ∷ (cell 100 (pos 327680) (pos 557056) (pos 229377) ∷ []) ∷ (cell 101 (pos 327680) (pos 557056) (pos 0) ∷ []) ∷ []) ≡ Ok (layout (pos 327680) (pos 2588673) (pos 2260993) (Glyph 3 97 (pos 0) (neg 2031617) ∷ Glyph 3 98 (pos 0) (neg 1048577) ∷ Glyph 3 99 (pos 0) (pos 0) ∷ Glyph 3 100 (pos 0) (pos 983040) ∷ Glyph 3 101 (pos 0) (pos 2031617) ∷ []))
unfolding sy equations_table
open_gap_3pt = refl

-- a gap between 0 and 3pt is 4pt, and a negative one too
open_gap_between : equations_table toy Text ((cell 97 (pos 327680) (pos 557056) (pos 327680) ∷ []) ∷ (cell 98 (pos 327680) (pos 327680) (pos 0) ∷ []) ∷ (cell 98 (pos 327680) (pos 900000) (pos 400000) ∷ cell 97 (pos 327680) (pos 327680) (pos 0) ∷ []) ∷ (cell 99 (pos 327680) (pos 327680) (pos 0) ∷ []) ∷ []) ≡ Ok (layout (pos 655360) (pos 2435856) (pos 2108176) (Glyph 3 97 (pos 0) (neg 1878800) ∷ Glyph 3 98 (pos 0) (neg 731920) ∷ Glyph 3 98 (pos 0) (pos 659600) ∷ Glyph 3 97 (pos 327680) (pos 659600) ∷ Glyph 3 99 (pos 0) (pos 1878800) ∷ []))
unfolding sy equations_table
open_gap_between = refl

-- two columns that are too wide together
wide_sides : equations_table toy Text ((cell 97 (pos 1073741823) (pos 0) (pos 0) ∷ cell 98 (pos 1) (pos 0) (pos 0) ∷ []) ∷ (cell 99 (pos 327680) (pos 327680) (pos 0) ∷ []) ∷ []) ≡ Err (Overflow (pos 1073741824))
unfolding sy equations_table
wide_sides = refl

-- rows that are too high together
high_equations : equations_table toy Text ((cell 97 (pos 5) (pos 1073741823) (pos 1073741823) ∷ []) ∷ (cell 98 (pos 327680) (pos 327680) (pos 0) ∷ []) ∷ []) ≡ Err (Overflow (pos 1074429951))
unfolding sy equations_table
high_equations = refl
