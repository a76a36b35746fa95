use Rattle.std.proofs.Common.{List, ◌++◌, take}
use Rattle.mt_family.specs.SetValue.{SetValue}
use Rattle.mt_dviops.specs.Source.{SourceFile, SourcePage}
use Rattle.mt_dviops.specs.inner.Copies.{Holds}
use Rattle.mt_dviops.specs.inner.Shown.{AreShown}
use Rattle.mt_dviops.proofs.append.push_pages.Given as goal

abbrev pub invariant-loop-k : goal.invariant-loop-k
invariant-loop-k l = (fonts : SetValue) → (file : SourceFile) → (pages : List SourcePage) → Holds fonts l.source file → AreShown fonts l.fn.chosen.items pages → AreShown fonts l.chosen.items (pages ++ take l.k file.pages)
