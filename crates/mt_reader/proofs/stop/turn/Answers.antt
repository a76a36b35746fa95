use Rattle.std.proofs.Common.{◌∙◌, sym}
use Rattle.mt_reader.specs.Views.{token_view}
use Rattle.mt_reader.specs.declared.token_tables.TokenTables.{TokenTables}
use Rattle.mt_reader.proofs.Stopping.{page_goes, page_spends}
use Rattle.mt_reader.proofs.stop.turn.Goals as goal

pub returns-then-ends_page-clause-is : goal.returns-then-ends_page-clause-is
returns-then-ends_page-clause-is c =
    page_goes c.args.units (token_view c.args.state.now) (token_view c.take_page.new.self) c.args.role c.take_page.result c.args.after.now
    (sym c.ends_page.ensures ∙ c.if-ends_page.true) (c.take_page.ensures.is (λ (t : TokenTables). t.codes) (λ (t : TokenTables). t.macros))

pub returns-then-ends_page-clause-spends : goal.returns-then-ends_page-clause-spends
returns-then-ends_page-clause-spends c =
    page_spends (token_view c.args.state.now) (token_view c.take_page.new.self) c.take_page.result c.args.after.now c.requires.total
    (c.take_page.ensures.is (λ (t : TokenTables). t.codes) (λ (t : TokenTables). t.macros))
