-- Formulas whose lists are in an arena (`page_formula`), and what the reading of one more answers (`AddsFormula`).
use Rattle.std.specs.Prelude.{◌≡◌, ◌≤◌, ℕ, Bool, List, [], ◌∷◌, ◌++◌, length, Result, Ok, Err}
use Rattle.mt_rules.specs.declared.document.Formula.{Formula}
use Rattle.mt_arena.specs.Arena.{Held}
use Rattle.mt_formula.specs.Answers.{IsFault}
use Rattle.mt_formula.specs.Formulas.{Reading, Reads}
use Rattle.mt_formula.specs.Rules.{FormulaParts}
use Rattle.mt_scan.specs.declared.fault.ReadError.{ReadError}
use Rattle.mt_arena.specs.Formulas.{FormulaLists, body_in, formula_end, tag_in}
use Rattle.mt_reader.specs.declared.arena_page.PageFormula.{PageFormula}

-- the formula whose lists are among these
abbrev pub page_formula : List Held → PageFormula → Formula
page_formula es f = record { number = f.number; display = f.display; body = body_in es f.spans.body; tag = tag_in es f.spans.tag }

-- its lists are there, and keep what math lists keep
pub record KeptFormula (es : List Held) (f : PageFormula) : Type 0 where
  pub within : formula_end f.spans ≤ length es
  pub lists : FormulaLists es f.spans

-- the formula of these parts
abbrev pub numbered : ℕ → Bool → FormulaParts → Formula
numbered n display parts = record { number = n; display = display; body = parts.0; tag = parts.1 }

-- what is read is one formula more, or a fault; memory may have run out
abbrev pub AddsFormula : {U : Type 0} → Result U ReadError → List Formula → List Formula → ℕ → Bool → Reading → Type 0
AddsFormula (Ok u) old new n display read =
    (parts : FormulaParts) × (read ≡ Reads parts.0 parts.1) × (new ≡ old ++ numbered n display parts ∷ [])
AddsFormula (Err error) old new n display read = IsFault error read
