use Rattle.std.proofs.Common.{◌∙◌}
use Rattle.mt_macro.specs.Origins.{put_as}
use Rattle.mt_macro.proofs.SameKinds.{macro_put}
use Rattle.mt_macro.proofs.Plains.{pushing_start, pushing_more}
use Rattle.mt_macro.proofs.passing.push_plain.Goals as goal

pub loop-rest-init : goal.loop-rest-init
loop-rest-init g c = pushing_start _ _ _

pub loop-rest-preserved : goal.loop-rest-preserved
loop-rest-preserved g c =
    pushing_more (put_as (g.B.Lexicon.token c.args.tables.now) (g.B.Bodies.placed c.args.tables.now) c.args.origin.now) _ _ _ c.loop-rest.rest.now c.item-item.result _ _ _ c.loop-rest.invariant c.in-len1-up.len_at_least c.item-item.is
    ((macro_put (g.B.Lexicon.token c.args.tables.now) (g.B.Bodies.placed c.args.tables.now) c.args.origin.now (g.met.B.Bodies.kept c.args.tables.now) (g.B.Bodies.macros c.args.tables.now) c.item-item.result) ∙ c.in_default-macro_at.ensures) c.in_ok-push_again.ensures
