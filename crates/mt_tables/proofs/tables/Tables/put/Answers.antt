use Rattle.std.proofs.Common.{sym, ap, ◌∙◌}
use Rattle.mt_macro.specs.Table.{own_count}
use Rattle.mt_tables.specs.inner.KeptMacros.{macro_of_kept}
use Rattle.mt_tables.proofs.Counting.{counted_held}
use Rattle.mt_tables.proofs.tables.Tables.put.Goals as goal

pub invariant_of-self-2 : goal.invariant_of-self-2
invariant_of-self-2 c = (
  c.self.invariant.0,
  c.in_ok-put.ensures.macros,
  counted_held _ _ _ _ _ _ (macro_of_kept c.self.inside.names c.args.meaning) c.is_own-was_own.result _ _ c.self.invariant.1 c.self.view_is c.self.invariant.2 c.is_own-was_own.ensures c.requires.stays c.own_names_after-self-inside.ensures
      ∙ ap own_count (sym c.in_ok-put.ensures.ok),
)
