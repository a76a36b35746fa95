-- The three lists of an equation, one after another (`equation_read`), and equations as values of their own, as far as they are made.
use Rattle.std.proofs.Common.{◌≡◌, List, [], ◌∷◌, ◌++◌, refl, sym, ap, ◌∙◌, append_assoc, append-nil}
use Rattle.mt_rules.specs.declared.document.Equation.{Equation}
use Rattle.mt_rules.specs.Equations.{equation_of, equations_of, first_cell, other_cells}
use Rattle.mt_rules.specs.Sequence.{Sequence, Rows, NoRows, MoreRows, TableGrid, NoTableRows, MoreTableRows}
use Rattle.mt_arena.specs.declared.thing.Span.{Span}
use Rattle.mt_arena.specs.Arena.{Held, rows_in, sequence_in}
use Rattle.mt_arena.specs.declared.equations.EquationSpans.{EquationSpans}
use Rattle.mt_arena.specs.Formulas.{equation_in}

abbrev three : Sequence → Sequence → Sequence → Equation
three a b c = record { first = a; second = b; number = c }

three_cells : (rows : Rows) → equation_of rows ≡ three (first_cell rows) (first_cell (other_cells rows)) (first_cell (other_cells (other_cells rows)))
three_cells NoRows = refl
three_cells (MoreRows a NoRows) = refl
three_cells (MoreRows a (MoreRows b NoRows)) = refl
three_cells (MoreRows a (MoreRows b (MoreRows c rest))) = refl

pub equation_read : (es : List Held) (cells left last : Span) (e : EquationSpans) → sequence_in es e.first ≡ first_cell (rows_in es cells) → rows_in es left ≡ other_cells (rows_in es cells)
    → sequence_in es e.second ≡ first_cell (rows_in es left) → rows_in es last ≡ other_cells (rows_in es left) → sequence_in es e.number ≡ first_cell (rows_in es last) → equation_in es e ≡ equation_of (rows_in es cells)
equation_read es cells left last e f n s m t =
    let rows = rows_in es cells in
    ap (λ x. three x (sequence_in es e.second) (sequence_in es e.number)) f ∙ ap (λ x. three (first_cell rows) x (sequence_in es e.number)) (s ∙ ap first_cell n)
    ∙ ap (λ x. three (first_cell rows) (first_cell (other_cells rows)) x) (t ∙ ap first_cell (m ∙ ap other_cells n)) ∙ sym (three_cells rows)

-- ---- equations

-- one more
pub equations_made : (equations more all : List Equation) (equation : Equation) (row : Rows) (rest next : TableGrid) → more ≡ equations ++ equation ∷ [] → equation ≡ equation_of row → rest ≡ MoreTableRows row next
    → equations ++ equations_of rest ≡ all → more ++ equations_of next ≡ all
equations_made equations more all equation row rest next e s n i =
    ap (λ es. es ++ equations_of next) e ∙ append_assoc equations (equation ∷ []) (equations_of next)
    ∙ ap (λ x. equations ++ x ∷ equations_of next) s ∙ ap (λ g. equations ++ equations_of g) (sym n) ∙ i

-- no more
pub equations_whole : (equations all : List Equation) (rest : TableGrid) → rest ≡ NoTableRows → equations ++ equations_of rest ≡ all → equations ≡ all
equations_whole equations all rest n i = sym (append-nil equations) ∙ ap (λ g. equations ++ equations_of g) (sym n) ∙ i
