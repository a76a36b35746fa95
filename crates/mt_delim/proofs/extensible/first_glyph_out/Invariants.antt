use Rattle.std.proofs.Common.{drop}
use Rattle.mt_delim.proofs.Runs.{Testing}
use Rattle.mt_delim.proofs.extensible.first_glyph_out.Given as goal

abbrev pub invariant-loop-run : goal.invariant-loop-run
invariant-loop-run l = Testing l.font l.runs (drop l.run-index l.runs)
