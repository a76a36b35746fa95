use Rattle.std.proofs.Common.{length}
use Rattle.mt_dviops.specs.inner.Shown.{pointer_of}
use Rattle.mt_dviops.proofs.PageWriting.{PagesLeft}
use Rattle.mt_dviops.proofs.write.write_pages.Given as goal

abbrev pub invariant-loop-rest : goal.invariant-loop-rest
invariant-loop-rest l = PagesLeft l.fn.out.items l.fn.pages l.out.items (pointer_of l.last) l.rest

abbrev pub decreases-loop-rest : goal.decreases-loop-rest
decreases-loop-rest l = length l.rest
