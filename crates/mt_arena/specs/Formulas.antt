-- A formula in an arena (`formula_in`), and an equation of one (`equation_in`).
use Rattle.std.specs.Prelude.{ℕ, max, List, Option, Some, None, ⊤}
use Rattle.mt_rules.specs.declared.document.Body.{Body}
use Rattle.mt_rules.specs.declared.document.Body.TheVariants as body
use Rattle.mt_rules.specs.declared.document.Equation.{Equation}
use Rattle.mt_rules.specs.declared.document.Tag.{Tag}
use Rattle.mt_rules.specs.Equations.{equations_of}
use Rattle.mt_arena.specs.declared.equations.EquationSpans.{EquationSpans}
use Rattle.mt_arena.specs.declared.formulas.SpanBody.{SpanBody}
use Rattle.mt_arena.specs.declared.formulas.SpanBody.TheVariants as span
use Rattle.mt_arena.specs.declared.formulas.SpanFormula.{SpanFormula}
use Rattle.mt_arena.specs.declared.formulas.SpanTag.{SpanTag}
use Rattle.mt_arena.specs.Arena.{Held, grid_in, rows_in, sequence_in}
use Rattle.mt_arena.specs.Keeping.{GridLists, KeptList, RowsLists}

-- the body whose lists are the spans of this one
abbrev pub body_in : List Held → SpanBody → Body
body_in es (span.List list) = body.List (sequence_in es list)
body_in es (span.Lines rows) = body.Lines (rows_in es rows)
body_in es (span.Equations left rows) = body.Equations left (equations_of (grid_in es rows))

-- the number whose list is the span of this one
abbrev pub tag_in : List Held → Option SpanTag → Option Tag
tag_in es None = None
tag_in es (Some tag) = Some (record { body = sequence_in es tag.body; left = tag.left })

-- the body and the number
abbrev pub formula_in : List Held → SpanFormula → Body × Option Tag
formula_in es formula = (body_in es formula.body, tag_in es formula.tag)

-- where the last of its spans ends
abbrev pub body_end : SpanBody → ℕ
body_end (span.List list) = list.end
body_end (span.Lines rows) = rows.end
body_end (span.Equations left rows) = rows.end

abbrev pub tag_end : Option SpanTag → ℕ
tag_end None = 0
tag_end (Some tag) = tag.body.end

abbrev pub formula_end : SpanFormula → ℕ
formula_end formula = max (body_end formula.body) (tag_end formula.tag)

-- its lists, and all lists in these, keep what math lists keep
abbrev pub BodyLists : List Held → SpanBody → Type 0
BodyLists es (span.List list) = KeptList (sequence_in es list)
BodyLists es (span.Lines rows) = RowsLists (rows_in es rows)
BodyLists es (span.Equations left rows) = GridLists (grid_in es rows)

abbrev pub TagLists : List Held → Option SpanTag → Type 0
TagLists es None = ⊤
TagLists es (Some tag) = KeptList (sequence_in es tag.body)

abbrev pub FormulaLists : List Held → SpanFormula → Type 0
FormulaLists es formula = BodyLists es formula.body × TagLists es formula.tag

-- ---- an equation

abbrev pub equation_in : List Held → EquationSpans → Equation
equation_in es e = record { first = sequence_in es e.first; second = sequence_in es e.second; number = sequence_in es e.number }

-- where the last of them ends
abbrev pub equation_end : EquationSpans → ℕ
equation_end e = max e.first.end (max e.second.end e.number.end)

abbrev pub EquationLists : List Held → EquationSpans → Type 0
EquationLists es e = KeptList (sequence_in es e.first) × KeptList (sequence_in es e.second) × KeptList (sequence_in es e.number)
