-- Tokens are a formula or there is a fault in them (`formula_or_fault`), and not both (`not_both`).
use Rattle.std.proofs.Common.{◌≡◌, ℕ, ◌+◌, ◌-◌, Bool, List, length, Option, refl, sym, inl, inr, arith}
use Rattle.std.specs.Prelude.{◌⊎◌}
use Rattle.mt_token.specs.declared.token.Token.{Token}
use Rattle.mt_scaled.specs.declared.unit.Units.{Units}
use Rattle.mt_rules.specs.declared.document.Body.{Body}
use Rattle.mt_rules.specs.declared.document.Tag.{Tag}
use Rattle.mt_plain.specs.CodeTables.{CodeTables}
use Rattle.mt_scan.specs.declared.fault.ReadCause.{ReadCause}
use Rattle.mt_scan.specs.Parts.{Read, Got, Fault, NoTurn, IsAnswered}
use Rattle.mt_formula.specs.Answers.{IsFormula, IsFaultWithin}
use Rattle.mt_formula.specs.Rules.{FormulaParts, item_run, formula}
use Rattle.mt_formula.specs.Formulas.{Reading, Reads, ReadFault, reading_of, reading}
use Rattle.mt_formula.specs.turns.Settling.{formula_answered}

either_of : (count : ℕ) (r : Read FormulaParts) (a : IsAnswered r) → IsFormula (reading_of count r a) ⊎ IsFaultWithin count (reading_of count r a)
either_of count (Got f rest) a = inl (f, refl)
either_of count (Fault cause left) a = inr ((cause, count - left), refl, omega arith)
either_of count NoTurn a = elim a [ ]

pub formula_or_fault : (tables : CodeTables) (units : Units) (display : Bool) (tokens : List Token)
    → IsFormula (reading tables units display tokens) ⊎ IsFaultWithin (length tokens) (reading tables units display tokens)
formula_or_fault tables units display tokens =
    either_of (length tokens) (formula tables units (item_run tables units (length tokens + 1)) display tokens) (formula_answered tables units display tokens)

differ : (body : Body) (tag : Option Tag) (cause : ReadCause) (place : ℕ) → Reads body tag ≡ ReadFault cause place → ⊥
differ body tag cause place e = cc

both_of : (count : ℕ) (read : Reading) → IsFormula read → IsFaultWithin count read → ⊥
both_of count (Reads body tag) f g = differ body tag g.0.0 g.0.1 g.1
both_of count (ReadFault cause place) f g = differ f.0.0 f.0.1 cause place (sym f.1)

pub not_both : (tables : CodeTables) (units : Units) (display : Bool) (tokens : List Token)
    → IsFormula (reading tables units display tokens) → IsFaultWithin (length tokens) (reading tables units display tokens) → ⊥
not_both tables units display tokens = both_of (length tokens) (reading tables units display tokens)
