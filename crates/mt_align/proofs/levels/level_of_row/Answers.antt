use Rattle.std.proofs.Common.{arith, drop, sym, subst, All}
use Rattle.std.proofs.lemmas.List.Elements.{All-drop}
use Rattle.mt_align.proofs.BoxLevels.{Low, boxes_level-small}
use Rattle.mt_align.proofs.levels.level_of_row.Goals as goal

pub returns-clause-small : goal.returns-clause-small
returns-clause-small c =
    let cells = c.as_slice-cells.result.now in
    omega (arith, c.loop-i.invariant.level, boxes_level-small (drop c.loop-i.i cells) (All-drop Low c.loop-i.i cells (subst (All Low) (sym c.as_slice-cells.ensures) c.requires.levels)))
