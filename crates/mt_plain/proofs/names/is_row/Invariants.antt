use Rattle.std.proofs.Common.{◌≡◌, length}
use Rattle.mt_plain.proofs.Comparing.{row_eq}
use Rattle.mt_plain.proofs.names.is_row.Given as goal

abbrev pub invariant-loop-bytes : goal.invariant-loop-bytes
invariant-loop-bytes l = row_eq l.row.0 l.name ≡ row_eq l.bytes l.left

abbrev pub decreases-loop-bytes : goal.decreases-loop-bytes
decreases-loop-bytes l = length l.bytes
