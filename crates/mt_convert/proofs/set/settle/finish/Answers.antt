use Rattle.std.proofs.Common.{◌∙◌}
use Rattle.mt_convert.proofs.Settling.{finishes}
use Rattle.mt_convert.proofs.set.settle.finish.Goals as goal

pub returns : goal.returns
returns c = λ row k. finishes c.args.items.items _ row k (c.from_vec.ensures ∙ c.settle_all.ensures)
