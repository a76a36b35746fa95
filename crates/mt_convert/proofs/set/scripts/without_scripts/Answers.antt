use Rattle.std.proofs.Common.{subst}
use Rattle.mt_convert.specs.inner.OnPieces.{SetsAtomOn}
use Rattle.mt_convert.proofs.RowsOn.{beside_nothing}
use Rattle.mt_convert.proofs.set.scripts.without_scripts.Goals as goal

pub returns : goal.returns
returns c =
    record { is = λ before row at e fonts style delta. subst (λ s. SetsAtomOn c.test_row.result before c.args.pieces.now s) (beside_nothing fonts style (record { row = row; delta = delta })) (c.test_row.ensures.is before row at e) }
