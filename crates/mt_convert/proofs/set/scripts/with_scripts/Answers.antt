use Rattle.mt_convert.specs.inner.AtomSteps.{row_beside}
use Rattle.mt_convert.proofs.RowsOn.{beside_atom}
use Rattle.mt_convert.proofs.set.scripts.with_scripts.Goals as goal

pub returns : goal.returns
returns c = record {
  is = λ before row above below there at few e.
      beside_atom c.row_packed.result before c.scripts.new.self c.args.fonts.now c.args.style row c.args.delta.sp above below few
      (c.row_packed.ensures.row before c.scripts.new.self (row_beside c.args.fonts.now c.args.style (record { row = row; delta = c.args.delta.sp }) above below) (c.scripts.ensures before row above below there at e));
}
