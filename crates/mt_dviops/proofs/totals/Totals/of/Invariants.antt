use Rattle.std.proofs.Common.{◌≡◌, ◌*◌, ◌≤◌, List, take}
use Rattle.mt_family.specs.SetValue.{SetValue}
use Rattle.mt_dviops.specs.Source.{SourcePage}
use Rattle.mt_dviops.specs.inner.Shown.{AreShown, IsTotal, all_told, pages_length}
use Rattle.mt_dviops.proofs.totals.Totals.of.Given as goal

abbrev pub invariant-loop-page : goal.invariant-loop-page
invariant-loop-page l = record {
  is : (fonts : SetValue) (shown : List SourcePage) → AreShown fonts l.pages shown → IsTotal fonts l.totals (take l.page-index shown);
  long : l.totals.bytes ≡ pages_length (all_told (take l.page-index l.pages));
  bytes : l.totals.bytes ≤ 8589934592 * l.page-index;
  places : l.totals.places ≤ 4294967296 * l.page-index;
}
