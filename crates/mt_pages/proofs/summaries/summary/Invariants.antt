use Rattle.std.proofs.Common.{◌≤◌, ◌*◌, ◌^◌, take}
use Rattle.mt_pages.specs.inner.Texts.{AreCountsOf}
use Rattle.mt_pages.proofs.summaries.summary.Given as goal

abbrev pub invariant-loop-page : goal.invariant-loop-page
invariant-loop-page l = record {
  counted : AreCountsOf (take l.page-index l.pages) l.counts;
  glyphs : l.counts.glyphs ≤ l.page-index * 2 ^ 64;
  rules : l.counts.rules ≤ l.page-index * 2 ^ 64;
}
