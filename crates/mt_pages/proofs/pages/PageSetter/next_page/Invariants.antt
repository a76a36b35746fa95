use Rattle.std.proofs.Common.{ℕ, List, ◌≤◌}
use Rattle.mt_pages.proofs.Common.{Place, CanGoOn, left_to_read}
use Rattle.mt_pages.specs.inner.SetPages.{ArePagesOf}
use Rattle.mt_pages.proofs.pages.PageSetter.next_page.Given as goal

abbrev pub invariant-loop-page : goal.invariant-loop-page
invariant-loop-page l = record {
  is : (source : List ℕ) → (pages : List (List Place)) → ArePagesOf l.fonts l.width source pages l.fn.self → ArePagesOf l.fonts l.width source pages l.self;
  more : CanGoOn l.self.reader;
  falls : left_to_read l.self.reader ≤ left_to_read l.fn.self.reader;
}

abbrev pub decreases-loop-page : goal.decreases-loop-page
decreases-loop-page l = left_to_read l.self.reader
