-- Tables, worked: each is behind an empty atom, between spaces of 3mu.
use Rattle.std.proofs.Common.{◌≡◌, refl, ℕ, Ok, Err, pos, List, [], ◌∷◌}
use Rattle.mt_convert.proofs.Common.{Text, Glyph, D, T, S, Ord, Plain, Vcenter, Look, Matrix, Equations, Glue, Sequence, Element, Rows, TableGrid, MuSpaceElement, KernElement, EmptyPart, TablePart, NoRows, MoreRows, NoTableRows, MoreTableRows, MissingFamily, Overflow, list_row, toy, neg}
use Rattle.mt_convert.proofs.cases.Writing.{list, atom, plain, letter, plus, equals, group, from_top, evaluated}

abbrev letters : List ℕ → List Element
letters [] = []
letters (c ∷ cs) = letter c ∷ letters cs

abbrev cells : List (List Element) → Rows
cells [] = NoRows
cells (c ∷ cs) = MoreRows (list c) (cells cs)

abbrev grid : List (List (List Element)) → TableGrid
grid [] = NoTableRows
grid (r ∷ rs) = MoreTableRows (cells r) (grid rs)

-- 3mu
abbrev thin : Glue
thin = record { width = pos 196608; shrink = pos 0 }

abbrev nothing : Element
nothing = atom (Plain Ord) EmptyPart EmptyPart EmptyPart

-- an equals sign and a letter behind an empty atom
abbrev right_side : ℕ → List Element
right_side code = group (nothing ∷ equals ∷ letter code ∷ []) ∷ []

abbrev table : Look → List (List (List Element)) → Sequence
table look rows = list (nothing ∷ MuSpaceElement thin ∷ atom Vcenter (TablePart look (grid rows)) EmptyPart EmptyPart ∷ MuSpaceElement thin ∷ [])

-- two columns, a quad apart, the second row of one cell
a_short_row : from_top (list_row toy T (table Matrix ((letters (97 ∷ []) ∷ letters (98 ∷ []) ∷ []) ∷ (letters (99 ∷ []) ∷ []) ∷ []))) ≡ Ok (Glyph 3 97 (pos 109224) (pos 327680) ∷ Glyph 3 98 (pos 1092264) (pos 327680) ∷ Glyph 3 99 (pos 109224) (pos 1114112) ∷ [])
unfolding evaluated
a_short_row = refl

-- a column that is an odd number of scaled points wider than a cell: the half is rounded up
odd_difference : from_top (list_row toy T (table Matrix (((letter 97 ∷ letter 98 ∷ KernElement (pos 1) ∷ []) ∷ letters (99 ∷ []) ∷ []) ∷ (letters (100 ∷ []) ∷ []) ∷ []))) ≡ Ok (Glyph 3 97 (pos 109224) (pos 327680) ∷ Glyph 3 98 (pos 436904) (pos 327680) ∷ Glyph 3 99 (pos 1419945) (pos 327680) ∷ Glyph 3 100 (pos 273065) (pos 1114112) ∷ [])
unfolding evaluated
odd_difference = refl

-- the first column, which has the struts, is at least 0 wide
no_first_width : from_top (list_row toy T (table Matrix (((KernElement (neg 786432) ∷ letter 97 ∷ []) ∷ []) ∷ []))) ≡ Ok (Glyph 3 97 (neg 447832) (pos 327680) ∷ [])
unfolding evaluated
no_first_width = refl

-- another one may have a negative width
negative_column : from_top (list_row toy T (table Matrix ((letters (97 ∷ []) ∷ (KernElement (neg 327680) ∷ []) ∷ []) ∷ (letters (98 ∷ []) ∷ (KernElement (neg 458752) ∷ letter 97 ∷ KernElement (neg 524288) ∷ []) ∷ []) ∷ []))) ≡ Ok (Glyph 3 97 (pos 109224) (pos 327680) ∷ Glyph 3 98 (pos 109224) (pos 1114112) ∷ Glyph 3 97 (pos 797352) (pos 1114112) ∷ [])
unfolding evaluated
negative_column = refl

-- cells are in text style also in a script; the axis is that of the script's size
in_script_style : from_top (list_row toy S (table Matrix (((letter 97 ∷ plus ∷ letter 98 ∷ []) ∷ letters (99 ∷ []) ∷ []) ∷ []))) ≡ Ok (Glyph 3 97 (pos 76458) (pos 327680) ∷ Glyph 0 43 (pos 549770) (pos 327680) ∷ Glyph 3 98 (pos 1023082) (pos 327680) ∷ Glyph 3 99 (pos 2006122) (pos 327680) ∷ [])
unfolding evaluated
in_script_style = refl

-- two equations, with their right sides behind an empty atom
two_equations : from_top (list_row toy D (table Equations ((letters (97 ∷ []) ∷ (right_side 98) ∷ []) ∷ (letters (99 ∷ []) ∷ (right_side 100) ∷ []) ∷ []))) ≡ Ok (Glyph 3 97 (pos 109224) (pos 557056) ∷ Glyph 0 61 (pos 618944) (pos 557056) ∷ Glyph 3 98 (pos 1128664) (pos 557056) ∷ Glyph 3 99 (pos 109224) (pos 1540096) ∷ Glyph 0 61 (pos 618944) (pos 1540096) ∷ Glyph 3 100 (pos 1128664) (pos 1540096) ∷ [])
unfolding evaluated
two_equations = refl

-- left sides end where right sides begin, also where a row has one side alone
lone_sides : from_top (list_row toy T (table Equations ((letters (97 ∷ []) ∷ []) ∷ (letters (98 ∷ 98 ∷ []) ∷ (right_side 99) ∷ []) ∷ ([] ∷ letters (100 ∷ []) ∷ []) ∷ []))) ≡ Ok (Glyph 3 97 (pos 436904) (pos 557056) ∷ Glyph 3 98 (pos 109224) (pos 1540096) ∷ Glyph 3 98 (pos 436904) (pos 1540096) ∷ Glyph 0 61 (pos 946624) (pos 1540096) ∷ Glyph 3 99 (pos 1456344) (pos 1540096) ∷ Glyph 3 100 (pos 764584) (pos 2523136) ∷ [])
unfolding evaluated
lone_sides = refl

-- a first column of negative width stays so
negative_sides : from_top (list_row toy T (table Equations (((KernElement (neg 589824) ∷ []) ∷ letters (97 ∷ []) ∷ []) ∷ ((KernElement (neg 786432) ∷ []) ∷ letters (98 ∷ []) ∷ []) ∷ []))) ≡ Ok (Glyph 3 97 (neg 480600) (pos 557056) ∷ Glyph 3 98 (neg 480600) (pos 1540096) ∷ [])
unfolding evaluated
negative_sides = refl

-- a third cell of a row is not set
third_cell : from_top (list_row toy T (table Equations ((letters (97 ∷ []) ∷ letters (98 ∷ []) ∷ (plain Ord 9 99 ∷ []) ∷ []) ∷ []))) ≡ Ok (Glyph 3 97 (pos 109224) (pos 557056) ∷ Glyph 3 98 (pos 436904) (pos 557056) ∷ [])
unfolding evaluated
third_cell = refl

-- cells come in order, before the rows of the table
cells_in_order : from_top (list_row toy T (table Matrix ((letters (97 ∷ []) ∷ []) ∷ ((plain Ord 9 98 ∷ []) ∷ (KernElement (pos 1073676288) ∷ letter 97 ∷ []) ∷ []) ∷ []))) ≡ Err (MissingFamily 9 Text)
unfolding evaluated
cells_in_order = refl

-- each cell is packed before the next one is set
wide_cell : from_top (list_row toy T (table Matrix (((KernElement (pos 1073676288) ∷ letter 97 ∷ []) ∷ (plain Ord 9 98 ∷ []) ∷ []) ∷ []))) ≡ Err (Overflow (pos 1074003968))
unfolding evaluated
wide_cell = refl

-- a row that is too wide with its gap
wide_matrix : from_top (list_row toy T (table Matrix (((KernElement (pos 1073676288) ∷ []) ∷ letters (97 ∷ []) ∷ []) ∷ []))) ≡ Err (Overflow (pos 1074659328))
unfolding evaluated
wide_matrix = refl

-- two columns that are too wide together
wide_equations : from_top (list_row toy T (table Equations (((KernElement (pos 1073676288) ∷ []) ∷ (KernElement (pos 65536) ∷ []) ∷ []) ∷ (letters (97 ∷ []) ∷ letters (98 ∷ []) ∷ []) ∷ []))) ≡ Err (Overflow (pos 1074003968))
unfolding evaluated
wide_equations = refl
