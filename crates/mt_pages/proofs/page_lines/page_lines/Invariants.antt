use Rattle.std.proofs.Common.{drop, map, take, All}
use Rattle.mt_reader.specs.ArenaPages.{page_formula}
use Rattle.mt_pages.proofs.Common.{HasModestLists}
use Rattle.mt_pages.proofs.LineLemmas.{LinedSoFar}
use Rattle.mt_pages.proofs.page_lines.page_lines.Given as goal

abbrev pub invariant-loop-formula : goal.invariant-loop-formula
invariant-loop-formula l = record {
  so_far : LinedSoFar l.fonts l.width l.page (map (page_formula l.arena.closed) (drop l.formula-index l.formulas)) (map (page_formula l.arena.closed) (take l.formula-index l.formulas)) l.lines;
  modest : All HasModestLists (map (page_formula l.arena.closed) (drop l.formula-index l.formulas));
}
