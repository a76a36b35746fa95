use Rattle.std.proofs.Common.{sym, ap, ◌∙◌}
use Rattle.mt_tables.specs.inner.KeptMacros.{kept_at}
use Rattle.mt_tables.proofs.Found.{found_is, none_is}
use Rattle.mt_tables.proofs.tables.Tables.macro_numbered.Goals as goal

pub returns-in-Some : goal.returns-in-Some
returns-in-Some c = found_is _ _ _ _ _ _ _ c.self.invariant.1 c.self.view_is (ap (λ ks. kept_at ks c.args.number) (sym c.as_slice.ensures.value) ∙ sym c.in-Some.ensures)

pub returns-in-None : goal.returns-in-None
returns-in-None c = none_is _ _ _ _ _ _ c.self.invariant.1 c.self.view_is (ap (λ ks. kept_at ks c.args.number) (sym c.as_slice.ensures.value) ∙ sym c.in-None.ensures)
