use Rattle.std.proofs.Common.{◌∙◌, ap}
use Rattle.mt_rules.specs.Styles.{cramped_of}
use Rattle.mt_rules.proofs.Styles.{cramped_num}
use Rattle.mt_rules.proofs.style.Style.den.Goals as goal

pub returns : goal.returns
returns c = c.cramped.ensures ∙ (ap cramped_of c.num.ensures ∙ cramped_num c.args.self)
