use Rattle.std.proofs.Common.{length}
use Rattle.mt_dviread.specs.inner.Kept.{IsKeeping}
use Rattle.mt_dviread.proofs.read.read_dvi.Given as goal

abbrev pub invariant-loop-places : goal.invariant-loop-places
invariant-loop-places l = IsKeeping l.fn.fonts l.fn.bytes l.file l.places.pages.items l.places.page.items

abbrev pub decreases-loop-places : goal.decreases-loop-places
decreases-loop-places l = length l.file.rest.now
