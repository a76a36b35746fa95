use Rattle.std.proofs.Common.{◌≤◌, ◌+◌, ◌^◌, arith, drop}
use Rattle.std.proofs.lemmas.List.Elements.{All-drop}
use Rattle.mt_box.specs.Layout.{BoxValue}
use Rattle.mt_parts.proofs.LineBoxes.{boxes_level-low, boxes_level-small}
use Rattle.mt_parts.proofs.centred.level_over.Goals as goal

pub returns-clause-low : goal.returns-clause-low
returns-clause-low c = omega (arith, c.loop-i.invariant.level, boxes_level-low (drop c.loop-i.i c.args.rows.now))

pub returns-clause-small : goal.returns-clause-small
returns-clause-small c = omega (arith, c.loop-i.invariant.level, boxes_level-small (drop c.loop-i.i c.args.rows.now) (All-drop (λ (b : BoxValue). b.level + 4 ≤ 2 ^ 20) c.loop-i.i c.args.rows.now c.requires))
