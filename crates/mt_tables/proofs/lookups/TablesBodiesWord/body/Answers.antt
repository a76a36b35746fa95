use Rattle.std.proofs.Common.{ap, ◌∙◌}
use Rattle.mt_tables.specs.inner.KeptMacros.{kept_at, body_items}
use Rattle.mt_tables.proofs.Found.{body_is, body_short}
use Rattle.mt_tables.proofs.lookups.TablesBodiesWord.body.Goals as goal

pub returns-clause-is : goal.returns-clause-is
returns-clause-is c = body_is _ _ _ _ _ _ _ c.self.invariant.1 c.self.view_is (c.body_items.ensures ∙ ap (λ ks. body_items (kept_at ks c.args.number)) c.as_slice.ensures.value)

pub returns-clause-short : goal.returns-clause-short
returns-clause-short c = body_short _ _ _ _ _ c.self.invariant.1 (c.body_items.ensures ∙ ap (λ ks. body_items (kept_at ks c.args.number)) c.as_slice.ensures.value)
