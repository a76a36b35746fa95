use Rattle.std.proofs.Common.{pos}
use Rattle.mt_convert.proofs.Common.{limits}
use Rattle.mt_convert.proofs.RowsOn.{between_atom}
use Rattle.mt_convert.proofs.set.scripts.with_limits.Goals as goal

pub returns : goal.returns
returns c = record {
  is = λ rest n above below there e.
      let b = c.in_ok-row_packed.ensures.boxed rest c.limits.new.self (limits c.args.fonts.now c.args.size n c.args.delta.sp above below) (c.limits.ensures rest n above below there e) in
      between_atom rest c.limits.new.self (limits c.args.fonts.now c.args.size n c.args.delta.sp above below) b (c.look_at_last.ensures rest (pos 0) b.box b.stays);
}
