use Rattle.mt_setting_tests.proofs.Lists.{Pushed}
use Rattle.mt_setting_tests.proofs.convert.push_atoms.Given as goal

abbrev pub invariant-loop : goal.invariant-loop
invariant-loop l = Pushed l.fn.items.items l.items.items l.counter
