use Rattle.std.proofs.Common.{sym, ◌∙◌}
use Rattle.mt_dviops.specs.inner.Shown.{has_selected}
use Rattle.mt_dviops.proofs.DefinedBytes.{defined_alone, none_defined}
use Rattle.mt_dviops.proofs.write.define_selected.Goals as goal

pub returns-clause-is : goal.returns-clause-is
returns-clause-is c = defined_alone c.args.fonts.now (has_selected c.args.selected) c.args.n _ _ (sym c.contains.ensures ∙ c.if-not-contains.false) c.in_ok-define.ensures.is

pub returns-then-not-contains-clause-is : goal.returns-then-not-contains-clause-is
returns-then-not-contains-clause-is c = none_defined c.args.fonts.now (has_selected c.args.selected) c.args.n _ (sym c.contains.ensures ∙ c.if-not-contains.true)
