use Rattle.mt_macro.proofs.Named.{kept_none}
use Rattle.mt_macro.proofs.table.Macros.empty.Goals as goal

pub invariant_of-result : goal.invariant_of-result
invariant_of-result c = kept_none _ _ c.new.ensures.items
