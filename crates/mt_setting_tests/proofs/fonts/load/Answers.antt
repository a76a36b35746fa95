use Rattle.std.proofs.Common.{◌≡◌, rules, get_or}
use Rattle.std.proofs.lemmas.List.{take_more}
use Rattle.mt_family.proofs.SetLemmas.{loaded_more}
use Rattle.mt_setting_tests.proofs.fonts.load.Goals as goal

pub loop-line-preserved : goal.loop-line-preserved
loop-line-preserved g c =
    let item : get_or c.args.lines.now c.loop-line.line-index c.line-item.result ≡ c.line-item.result = search rules in
    rw (take_more c.args.lines.now c.loop-line.line-index c.line-item.result (search rules), item, c.in_ok-push.ensures.items)
    (loaded_more _ _ c.line-item.result c.expect-font.result c.loop-line.invariant (search rules) (search rules))
