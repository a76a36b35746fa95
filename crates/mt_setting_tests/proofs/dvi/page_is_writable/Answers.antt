use Rattle.std.proofs.Common.{subst, rules}
use Rattle.std.specs.Prelude.{All}
use Rattle.std.proofs.lemmas.List.{take_all}
use Rattle.std.proofs.lemmas.List.Elements.{All-more}
use Rattle.mt_dvi.specs.Writable.{IsWritable}
use Rattle.mt_setting_tests.proofs.dvi.page_is_writable.Goals as goal

pub loop-place-preserved : goal.loop-place-preserved
loop-place-preserved c = All-more (IsWritable c.args.fonts.now) c.args.page.now c.loop-place.place-index _ c.loop-place-test.true c.loop-place.invariant (c.is_writable.ensures (search rules))

pub returns : goal.returns
returns c = λ yes. subst (All (IsWritable c.args.fonts.now)) (take_all c.loop-place.place-index c.args.page.now c.loop-place-test.false) c.loop-place.invariant
