use Rattle.std.proofs.Common.{◌≡◌, ◌++◌, drop}
use Rattle.mt_samples.specs.Generator.{with_letters, state_after_all}
use Rattle.mt_samples.proofs.generator.Generator.fill.Given as goal

abbrev pub invariant-loop-c : goal.invariant-loop-c
invariant-loop-c l = record {
  state : state_after_all l.template l.fn.self.state ≡ state_after_all (drop l.c-index l.template) l.self.state;
  text : l.fn.out.items ++ with_letters l.template l.fn.self.state ≡ l.out.items ++ with_letters (drop l.c-index l.template) l.self.state;
}
