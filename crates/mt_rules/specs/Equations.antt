-- The equations of a display (plain TeX's \eqalignno; The TeXbook, chapter 19), and the lines of one: the cells of its rows.
use Rattle.std.specs.Prelude.{List, [], ◌∷◌}
use Rattle.mt_rules.specs.declared.document.Equation.{Equation}
use Rattle.mt_rules.specs.Sequence.{Sequence, Rows, TableGrid, End, NoRows, MoreRows, NoTableRows, MoreTableRows}

-- the cells of a row, which is never without one; an absent one is an empty list
abbrev pub equation_of : Rows → Equation
equation_of (MoreRows a (MoreRows b (MoreRows c rest))) = record { first = a; second = b; number = c }
equation_of (MoreRows a (MoreRows b NoRows)) = record { first = a; second = b; number = End }
equation_of (MoreRows a NoRows) = record { first = a; second = End; number = End }
equation_of NoRows = record { first = End; second = End; number = End }

abbrev pub equations_of : TableGrid → List Equation
equations_of NoTableRows = []
equations_of (MoreTableRows cells rows) = equation_of cells ∷ equations_of rows

-- a row has a cell, so it is never without one
abbrev pub first_cell : Rows → Sequence
first_cell NoRows = End
first_cell (MoreRows cell rest) = cell

-- the cells of a row but the first one
abbrev pub other_cells : Rows → Rows
other_cells NoRows = NoRows
other_cells (MoreRows cell rest) = rest
