use Rattle.std.proofs.Common.{◌∙◌, ap, subst, ◌==◌, ◌↔◌, IsTrue, ◌≡◌}
use Rattle.mt_rules.specs.Sequence.{End}
use Rattle.mt_rules.proofs.Lists.{sequence_empty}
use Rattle.mt_rules.proofs.list.MathList.is_empty.Goals as goal

pub returns : goal.returns
returns c = subst (λ list. IsTrue c.is_empty.result ↔ (list ≡ End)) c.self.view_is
    (sequence_empty c.self.inside.items.items c.is_empty.result (c.is_empty.ensures ∙ ap (λ n. n == 0) c.self.inside.items.ok.0))
