use Rattle.std.proofs.Common.{◌≡◌, [], List, None, ℕ}
use Rattle.mt_pages.proofs.Common.{CanGoOn, left_to_read}
use Rattle.mt_pages.proofs.SetLemmas.{AddedSoFar}
use Rattle.mt_pages.specs.inner.SetPages.{ArePagesOf}
use Rattle.mt_pages.proofs.page_sink.add_all.Given as goal

abbrev pub invariant-loop-page : goal.invariant-loop-page
invariant-loop-page g l = record {
  so_far : (source : List ℕ) → ArePagesOf l.fonts l.width source [] l.fn.setter → AddedSoFar l.fonts l.width source (g.S.PageSink.HasPages l.fonts) l.setter l.sink;
  more : CanGoOn l.setter.reader;
  none : l.notes.formula ≡ None;
  units : l.notes.units ≡ l.fn.notes.units;
}

abbrev pub decreases-loop-page : goal.decreases-loop-page
decreases-loop-page g l = left_to_read l.setter.reader
