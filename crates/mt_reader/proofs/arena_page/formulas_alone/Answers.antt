use Rattle.std.proofs.Common.{arith}
use Rattle.std.proofs.lemmas.List.Elements.{All-get_or}
use Rattle.std.proofs.lemmas.List.{drop_all, drop_more}
use Rattle.mt_reader.specs.ArenaPages.{KeptFormula, page_formula}
use Rattle.mt_reader.proofs.PagesLater.{page_made, page_whole}
use Rattle.mt_reader.proofs.arena_page.formulas_alone.Goals as goal

pub formula_alone-requires : goal.formula_alone-requires
formula_alone-requires c = All-get_or (KeptFormula c.args.arena.now.closed) _ _ _ c.loop-formula-test.true c.requires

pub loop-formula-preserved : goal.loop-formula-preserved
loop-formula-preserved c =
    page_made (page_formula c.args.arena.now.closed) c.args.formulas.now _ _ _ _ _ _ c.loop-formula.invariant (drop_more _ _ _ c.loop-formula-test.true) c.in_ok-push.ensures.items c.in_ok-formula_alone.ensures

pub returns : goal.returns
returns c = page_whole (page_formula c.args.arena.now.closed) c.args.formulas.now _ _ c.loop-formula.invariant (drop_all c.loop-formula.formula-index c.args.formulas.now (omega (arith, c.loop-formula-test.false)))
