use Rattle.mt_tables.proofs.Roled.{roles_none}
use Rattle.mt_tables.proofs.Found.{macros_none, own_none_of}
use Rattle.mt_tables.proofs.tables.Tables.new.Goals as goal

pub invariant_of-result : goal.invariant_of-result
invariant_of-result c =
    (roles_none _ _ c.new.ensures.items, macros_none _ _ _ c.empty.ensures c.empty-2.ensures.kept c.empty-2.ensures.order, own_none_of _ _ _ c.empty-2.ensures.order)
