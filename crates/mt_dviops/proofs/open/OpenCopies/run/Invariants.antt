use Rattle.std.proofs.Common.{◌≤◌, length}
use Rattle.mt_dviops.specs.inner.Copying.{IsCopying, kept_with}
use Rattle.mt_dviops.specs.inner.Inside.{bytes_between}
use Rattle.mt_dviops.proofs.open.OpenCopies.run.Given as goal

abbrev pub invariant-loop-kind : goal.invariant-loop-kind
invariant-loop-kind l =
    (l.from ≤ l.file.at) × (length l.file.rest.now ≤ length l.fn.file.rest.now)
    × IsCopying l.fn.fonts l.fn.bytes l.file (kept_with l.self (bytes_between l.from l.file.at l.fn.bytes))

abbrev pub decreases-loop-kind : goal.decreases-loop-kind
decreases-loop-kind l = length l.file.rest.now
