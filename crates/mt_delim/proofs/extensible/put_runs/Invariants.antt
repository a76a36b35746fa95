use Rattle.std.proofs.Common.{drop}
use Rattle.mt_delim.proofs.PutGlyphs.{RunsPut}
use Rattle.mt_delim.proofs.extensible.put_runs.Given as goal

abbrev pub invariant-loop-run : goal.invariant-loop-run
invariant-loop-run l = RunsPut l.number l.font l.runs l.run-index (drop l.run-index l.runs) l.fn.height.sp l.depth.sp l.fn.marks l.marks
