use Rattle.std.proofs.Common.{◌∙◌, ap, slice_get}
use Rattle.mt_rules.specs.Sequence.{cells_at}
use Rattle.mt_rules.proofs.Lists.{cells_at_of}
use Rattle.mt_rules.proofs.list.TableRows.get.Goals as goal

pub returns : goal.returns
returns c =
    c.item_at.ensures ∙ (ap (λ rows. slice_get rows c.args.i) c.deref.ensures.value
    ∙ (cells_at_of c.self.inside.rows.items c.args.i ∙ ap (λ rows. cells_at rows c.args.i) c.self.view_is))
