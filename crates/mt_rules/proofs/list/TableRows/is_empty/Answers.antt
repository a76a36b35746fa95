use Rattle.std.proofs.Common.{◌∙◌, ap, subst, ◌==◌, ◌↔◌, IsTrue, ◌≡◌}
use Rattle.mt_rules.specs.Sequence.{NoTableRows}
use Rattle.mt_rules.proofs.Lists.{grid_empty}
use Rattle.mt_rules.proofs.list.TableRows.is_empty.Goals as goal

pub returns : goal.returns
returns c = subst (λ rows. IsTrue c.is_empty.result ↔ (rows ≡ NoTableRows)) c.self.view_is
    (grid_empty c.self.inside.rows.items c.is_empty.result (c.is_empty.ensures ∙ ap (λ n. n == 0) c.self.inside.rows.ok.0))
