use Rattle.std.proofs.Common.{List, take}
use Rattle.mt_family.specs.SetValue.{SetValue}
use Rattle.mt_dviops.specs.Source.{SourceFile}
use Rattle.mt_dviops.specs.Copied.{all_pages}
use Rattle.mt_dviops.specs.inner.Chosen.{AllHold}
use Rattle.mt_dviops.specs.inner.Shown.{AreShown}
use Rattle.mt_dviops.proofs.append.pages_of.Given as goal

abbrev pub invariant-loop-source : goal.invariant-loop-source
invariant-loop-source l = (fonts : SetValue) → (files : List SourceFile) → AllHold fonts l.sources files → AreShown fonts l.chosen.items (all_pages (take l.source-index files))
