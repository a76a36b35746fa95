use Rattle.mt_formula.proofs.Deciding.{formula_or_fault}
use Rattle.mt_formula.proofs.laws.tokens_are_a_formula_or_at_fault.Goals as goal

pub returns-clause-either : goal.returns-clause-either
returns-clause-either c = λ tables units display tokens. formula_or_fault tables units display tokens
