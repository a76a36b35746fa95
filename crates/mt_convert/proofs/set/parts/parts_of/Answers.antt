use Rattle.std.proofs.Common.{[], ◌∷◌, ap, sym, ◌∙◌}
use Rattle.mt_convert.proofs.Common.{End, RootPart, as_root, cell_part, value_in}
use Rattle.mt_convert.proofs.ThingKinds.{no_root}
use Rattle.mt_convert.proofs.set.parts.parts_of.Goals as goal

pub returns-in-Root-clause-is : goal.returns-in-Root-clause-is
returns-in-Root-clause-is c = λ es. ap (λ t. as_root (value_in es t ∷ [])) c.in-Root.is

pub returns-in_default-clause-is : goal.returns-in_default-clause-is
returns-in_default-clause-is c = λ es.
    no_root es c.args.thing.now c.in_default.not-Root
    ∙ (ap (RootPart End) (sym (c.root_of_nothing.ensures.body es)) ∙ ap (λ s. RootPart s (cell_part es c.root_of_nothing.result.body)) (sym (c.root_of_nothing.ensures.degree es)))
