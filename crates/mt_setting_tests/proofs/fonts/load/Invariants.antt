use Rattle.std.proofs.Common.{take}
use Rattle.mt_family.specs.SetValue.{AreLoaded}
use Rattle.mt_setting_tests.proofs.fonts.load.Given as goal

abbrev pub invariant-loop-line : goal.invariant-loop-line
invariant-loop-line g l = AreLoaded (take l.line-index l.lines) l.fonts.items
