use Rattle.std.proofs.Common.{sym, arith}
use Rattle.mt_parts.proofs.Lining.{last_gap}
use Rattle.mt_parts.proofs.centred.gap_below.Goals as goal

pub returns-else-i-rows-clause-is : goal.returns-else-i-rows-clause-is
returns-else-i-rows-clause-is c = sym (last_gap c.args.rows.now c.args.i (omega arith))
