use Rattle.std.proofs.Common.{◌≡◌, ◌++◌, ◌-◌}
use Rattle.mt_samples.specs.Generator.{formulas_after}
use Rattle.mt_samples.proofs.generator.generate.Given as goal

abbrev pub invariant-loop-before : goal.invariant-loop-before
invariant-loop-before l = formulas_after 0 l.fn.seed l.count ≡ l.out.items ++ formulas_after l.before l.generator.state (l.count - l.before)
