use Rattle.std.proofs.Common.{◌∙◌, ap, sym}
use Rattle.std.proofs.lemmas.Result.{err_from_is_err_and}
use Rattle.mt_tables.specs.Held.{Held}
use Rattle.mt_reader.specs.Views.{pages_view}
use Rattle.mt_reader.proofs.SourceLoop.{goes_paged, page_turned, pass_first, read_paged}
use Rattle.mt_reader.proofs.page_reader.PageReader.turn.Goals as goal

pub returns-then-ends_page-clause-is : goal.returns-then-ends_page-clause-is
returns-then-ends_page-clause-is c =
    let old = pages_view c.args.self.now in
    let pass = pass_first old old c.args.role c.requires.first in
    λ tokens read i.
    page_turned c.args.units tokens read _ c.take_page.result
    (read_paged old _ c.args.role c.requires.first (ap (λ (h : Held). h.names) c.take_page.ensures.tables) _ pass.0 c.pass_first.ensures c.args.units tokens read c.take_page.result pass.1
    (sym c.ends_page.ensures ∙ c.if-ends_page.true) (c.take_page.ensures.is (λ (h : Held). h.codes) (λ (h : Held). h.macros)) i)

pub returns-then-ends_page-clause-more : goal.returns-then-ends_page-clause-more
returns-then-ends_page-clause-more c =
    let old = pages_view c.args.self.now in
    let pass = pass_first old old c.args.role c.requires.first in
    goes_paged old _ c.args.role c.requires.first (ap (λ (h : Held). h.names) c.take_page.ensures.tables) _ pass.0 c.pass_first.ensures c.take_page.result c.requires.more (c.take_page.ensures.is (λ (h : Held). h.codes) (λ (h : Held). h.macros))

pub returns-in_err-word_turn-clause-is : goal.returns-in_err-word_turn-clause-is
returns-in_err-word_turn-clause-is c =
    λ tokens read i.
    let p = err_from_is_err_and c.from_residual.result c.from_residual.ensures.1 in
    rw (p.1, p.2) (c.in_err-word_turn.ensures.is tokens read i)
