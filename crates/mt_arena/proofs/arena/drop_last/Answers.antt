use Rattle.mt_arena.proofs.Opening.{starts_popped}
use Rattle.mt_arena.proofs.arena.drop_last.Goals as goal

pub returns : goal.returns
returns c = starts_popped c.pop.result _ _ _ _ c.pop.ensures.items c.pop.new.self.ok.0 c.pop.ensures.cases
