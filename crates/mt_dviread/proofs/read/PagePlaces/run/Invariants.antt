use Rattle.std.proofs.Common.{ℕ, ◌≤◌, List, length}
use Rattle.mt_dviread.specs.Sees.{IsWithin}
use Rattle.mt_dviread.specs.inner.Kept.{IsKeeping}
use Rattle.mt_dviread.proofs.read.PagePlaces.run.Given as goal

abbrev pub invariant-loop-kind : goal.invariant-loop-kind
invariant-loop-kind l =
    IsWithin l.file
    × (length l.file.rest.now ≤ length l.fn.file.rest.now)
    × ((bytes : List ℕ) → IsKeeping l.fn.fonts bytes l.fn.file l.fn.self.pages.items l.fn.self.page.items → IsKeeping l.fn.fonts bytes l.file l.self.pages.items l.self.page.items)

abbrev pub decreases-loop-kind : goal.decreases-loop-kind
decreases-loop-kind l = length l.file.rest.now
