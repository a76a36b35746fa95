use Rattle.std.proofs.Common.{◌∙◌, ap, slice_get}
use Rattle.std.specs.Option.{option_map}
use Rattle.mt_rules.specs.Sequence.{element_at}
use Rattle.mt_rules.specs.View.{element_of}
use Rattle.mt_rules.proofs.Lists.{element_at_of}
use Rattle.mt_rules.proofs.list.MathList.get.Goals as goal

pub returns : goal.returns
returns c =
    ap (λ item. option_map element_of item) (c.item_at.ensures ∙ ap (λ items. slice_get items c.args.i) c.deref.ensures.value)
    ∙ (element_at_of c.self.inside.items.items c.args.i ∙ ap (λ list. element_at list c.args.i) c.self.view_is)
