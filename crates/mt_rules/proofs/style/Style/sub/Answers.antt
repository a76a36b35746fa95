use Rattle.std.proofs.Common.{◌∙◌, ap}
use Rattle.mt_rules.specs.Styles.{cramped_of}
use Rattle.mt_rules.proofs.Styles.{cramped_sup}
use Rattle.mt_rules.proofs.style.Style.sub.Goals as goal

pub returns : goal.returns
returns c = c.cramped.ensures ∙ (ap cramped_of c.sup.ensures ∙ cramped_sup c.args.self)
