use Rattle.std.proofs.Common.{◌++◌, ◌∷◌, [], ◌∙◌, List, ap}
use Rattle.mt_rules.specs.declared.document.Formula.{Formula}
use Rattle.mt_arena.specs.Formulas.{formula_in}
use Rattle.mt_reader.specs.declared.arena_page.PageFormula.{PageFormula}
use Rattle.mt_reader.specs.ArenaPages.{page_formula}
use Rattle.mt_reader.proofs.PagesLater.{page_pushed}
use Rattle.mt_reader.proofs.arena_page.ArenaPage.read.Goals as goal

pub returns-in_ok-push_formula-in-Ok : goal.returns-in_ok-push_formula-in-Ok
returns-in_ok-push_formula-in-Ok g c =
    let es = c.read_spans.new.arena.closed in
    let f : PageFormula = record { number = c.args.number; display = c.args.display; spans = c.in-Ok.spans } in (
      formula_in es c.in-Ok.spans,
      c.in-Ok.ensures.is,
      page_pushed c.self.inside.arena.closed es c.self.inside.formulas.items c.push_formula.new.formulas.items f c.in-Ok.ensures.front c.self.invariant c.in_ok-push_formula-in-Ok.ensures.is
          ∙ ap (λ (fs : List Formula). fs ++ page_formula es f ∷ []) c.self.view_is,
    )
