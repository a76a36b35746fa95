use Rattle.std.proofs.Common.{◌≡◌, ◌≤◌, ◌*◌, ℕ, List, length, subst, sym, ◌∙◌}
use Rattle.mt_samples.specs.Generator.{generated}
use Rattle.mt_samples.proofs.Sources.{formulas_end, formulas_next, source_short}
use Rattle.mt_samples.proofs.generator.generate.Goals as goal

pub loop-before-preserved : goal.loop-before-preserved
loop-before-preserved c =
    formulas_next _ _ _ _ _ _ _ _ c.loop-before-test.true c.loop-before.invariant c.in_ok-write_formula.ensures.writes c.in_ok-write_formula.ensures.state c.in_ok-end_line.ensures

pub returns : goal.returns
returns c =
    let is : generated c.args.seed c.args.count ≡ c.from_vec.result = formulas_end _ _ _ _ _ c.loop-before-test.false c.loop-before.invariant ∙ sym c.from_vec.ensures in
    record { is = sym is; short = subst (λ (bytes : List ℕ). length bytes ≤ 47 * c.args.count) is (source_short c.args.seed c.args.count) }
