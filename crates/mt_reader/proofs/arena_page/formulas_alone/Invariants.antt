use Rattle.std.proofs.Common.{◌≡◌, ◌++◌, drop, map}
use Rattle.mt_reader.specs.ArenaPages.{page_formula}
use Rattle.mt_reader.proofs.arena_page.formulas_alone.Given as goal

abbrev pub invariant-loop-formula : goal.invariant-loop-formula
invariant-loop-formula l = l.page.items ++ map (page_formula l.arena.closed) (drop l.formula-index l.formulas) ≡ map (page_formula l.arena.closed) l.formulas
