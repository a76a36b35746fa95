use Rattle.std.proofs.Common.{length}
use Rattle.mt_dviops.specs.inner.Copying.{IsCopying, kept_of}
use Rattle.mt_dviops.proofs.copy.copy_file.Given as goal

abbrev pub invariant-loop-copied : goal.invariant-loop-copied
invariant-loop-copied l = IsCopying l.fn.fonts l.fn.bytes l.file (kept_of l.copied)

abbrev pub decreases-loop-copied : goal.decreases-loop-copied
decreases-loop-copied l = length l.file.rest.now
