use Rattle.std.proofs.Common.{arith, drop, sym, subst, All}
use Rattle.std.proofs.lemmas.List.Elements.{All-drop}
use Rattle.mt_align.proofs.BoxLevels.{Low, table_level-low, table_level-small}
use Rattle.mt_align.proofs.levels.level_of_table.Goals as goal

pub returns-clause-low : goal.returns-clause-low
returns-clause-low c = omega (arith, c.loop-i.invariant.level, table_level-low (drop c.loop-i.i c.as_slice-rows.result.now))

pub returns-clause-small : goal.returns-clause-small
returns-clause-small c =
    let rows = c.as_slice-rows.result.now in
    omega (arith, c.loop-i.invariant.level, table_level-small (drop c.loop-i.i rows) (All-drop (All Low) c.loop-i.i rows (subst (All (All Low)) (sym c.as_slice-rows.ensures) c.requires.levels)))
