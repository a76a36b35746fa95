use Rattle.std.proofs.Common.{take}
use Rattle.mt_dvi.specs.FileOf.{IsFileOf}
use Rattle.mt_dvi.proofs.write.write_dvi.Given as goal

abbrev pub invariant-loop-page : goal.invariant-loop-page
invariant-loop-page l = IsFileOf l.fn.fonts (take l.page-index l.pages) l.file
