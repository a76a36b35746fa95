use Rattle.std.proofs.Common.{sym, subst}
use Rattle.mt_rules.specs.View.{atom_element}
use Rattle.mt_setting_tests.proofs.Lists.{IsSingle, letter_is_single, pushed_more}
use Rattle.mt_setting_tests.proofs.convert.push_atoms.Goals as goal

pub loop-preserved : goal.loop-preserved
loop-preserved c = pushed_more _ _ _ _ _ (subst (λ a. IsSingle (atom_element a)) (sym c.in_ok-new.ensures.ok) (letter_is_single c.args.class c.args.symbol)) c.loop.invariant c.in_ok-push.ensures.items
