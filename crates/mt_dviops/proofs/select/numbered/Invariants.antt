use Rattle.std.proofs.Common.{take}
use Rattle.std.specs.Prelude.{map}
use Rattle.mt_family.specs.SetValue.{SetValue}
use Rattle.mt_dviops.specs.Source.{SourceFile}
use Rattle.mt_dviops.specs.inner.Copies.{Holds}
use Rattle.mt_dviops.specs.inner.Chosen.{page_or_empty}
use Rattle.mt_dviops.specs.inner.Shown.{AreShown}
use Rattle.mt_dviops.proofs.select.numbered.Given as goal

abbrev pub invariant-loop-number : goal.invariant-loop-number
invariant-loop-number l = (fonts : SetValue) → (file : SourceFile) → Holds fonts l.source file → AreShown fonts l.chosen.items (map (page_or_empty file.pages) (take l.number-index l.numbers))
