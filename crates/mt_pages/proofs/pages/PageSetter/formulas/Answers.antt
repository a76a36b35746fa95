use Rattle.std.proofs.Common.{refl}
use Rattle.mt_token.specs.Tokens.{source_tokens}
use Rattle.mt_reader.specs.Sources.{source_document}
use Rattle.mt_pages.proofs.Common.{units_of, pages_view}
use Rattle.mt_pages.proofs.SetLemmas.{formulas_ok, refused_read}
use Rattle.mt_pages.proofs.pages.PageSetter.formulas.Goals as goal

pub returns-in-Ok-clause-is : goal.returns-in-Ok-clause-is
returns-in-Ok-clause-is c = λ source read r. formulas_ok c.args.fonts.now c.units.result source read c.args.self.now (record { reader = c.next_page.new.self; room = c.args.self.now.room; held = c.args.self.now.held; lines = c.args.self.now.lines }) c.next_page.new.self c.in-Ok.page c.units.ensures.is refl c.in-Ok.ensures.is c.in-Ok.ensures.fault r

pub returns-in-Err-clause-is : goal.returns-in-Err-clause-is
returns-in-Err-clause-is c =
    λ source read r. c.document_refusal.ensures.is (source_document (units_of c.args.fonts.now) source)
    (refused_read (units_of c.args.fonts.now) (source_tokens source) read (pages_view c.args.self.now.reader) (pages_view c.next_page.new.self) c.in-Err.error (rw c.units.ensures.is at c.in-Err.ensures.is) c.in-Err.ensures.fault r)
