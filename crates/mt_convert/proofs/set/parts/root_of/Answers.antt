use Rattle.std.proofs.Common.{ap, arith, ◌∙◌}
use Rattle.mt_convert.proofs.Common.{cell_end, cell_part, value_in}
use Rattle.mt_arena.proofs.Making.{root_there}
use Rattle.mt_convert.proofs.set.parts.root_of.Goals as goal

pub returns-in-Root-clause-is : goal.returns-in-Root-clause-is
returns-in-Root-clause-is c = λ h.
    let es = c.args.arena.now.closed in
    ap (cell_part es) c.in-Root.is
    ∙ (root_there es c.in-Root.at (value_in es c.thing.result.now) (omega (arith, ap cell_end c.in-Root.is, c.requires.within)) c.thing.ensures.is ∙ c.parts_of.ensures.is es)
