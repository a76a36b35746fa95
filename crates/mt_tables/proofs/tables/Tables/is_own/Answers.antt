use Rattle.std.proofs.Common.{sym, ap, ◌∙◌}
use Rattle.mt_tables.specs.inner.KeptMacros.{kept_at}
use Rattle.mt_tables.proofs.Found.{own_kept, own_none}
use Rattle.mt_tables.proofs.tables.Tables.is_own.Goals as goal

pub returns-in-Some : goal.returns-in-Some
returns-in-Some c = own_kept _ _ _ _ _ _ _ c.self.invariant.1 c.self.view_is c.requires (ap (λ ks. kept_at ks c.args.number) (sym c.as_slice.ensures.value) ∙ sym c.in-Some.ensures)

pub returns-in-None : goal.returns-in-None
returns-in-None c = own_none _ _ _ _ _ _ c.self.invariant.1 c.self.view_is c.requires (ap (λ ks. kept_at ks c.args.number) (sym c.as_slice.ensures.value) ∙ sym c.in-None.ensures)
