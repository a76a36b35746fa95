use Rattle.std.proofs.Math.Facts.{to_z-of_z}
use Rattle.mt_dvi.proofs.PlaceLemmas.{rule_written}
use Rattle.mt_dvi.proofs.page.write_rule.Goals as goal

pub returns-clause-leads : goal.returns-clause-leads
returns-clause-leads c =
    let emits = rw (to_z-of_z c.ranges.height, to_z-of_z c.ranges.width) at c.rule.ensures.emits in
    λ numbers reached few stands. rule_written c.args.fonts.now _ _ numbers reached c.args.cursor.now c.args.height c.args.width c.args.put c.requires.can emits few stands
