use Rattle.std.proofs.Common.{arith, sym, ◌∙◌}
use Rattle.mt_parts.proofs.Widest.{walked-step}
use Rattle.mt_parts.proofs.accents.widest_code.Goals as goal

pub loop-turn-preserved : goal.loop-turn-preserved
loop-turn-preserved c =
    walked-step c.args.font.now c.args.width.sp c.args.start c.loop-turn._turn c.loop-turn.code c.in-Some.larger
    (omega arith) c.in-Some.ensures.is (sym c.is_within.ensures ∙ c.if-not-is_within.false) c.loop-turn.invariant
