use Rattle.std.proofs.Common.{take}
use Rattle.std.specs.Prelude.{All}
use Rattle.mt_dvi.specs.Writable.{IsWritable}
use Rattle.mt_setting_tests.proofs.dvi.page_is_writable.Given as goal

abbrev pub invariant-loop-place : goal.invariant-loop-place
invariant-loop-place l = All (IsWritable l.fonts) (take l.place-index l.page)
