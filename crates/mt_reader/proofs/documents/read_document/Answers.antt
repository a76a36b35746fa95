use Rattle.std.proofs.Common.{length, ◌≤◌}
use Rattle.mt_token.specs.Tokens.{source_tokens}
use Rattle.mt_plain.specs.CodeTables.{plain_codes}
use Rattle.mt_reader.specs.Limits.{max_document_pages}
use Rattle.mt_reader.specs.Sources.{plain_words}
use Rattle.mt_reader.specs.Tags.{HaveTagsPlaced}
use Rattle.mt_reader.specs.Weights.{HaveFewItems, IsModestDocument}
use Rattle.mt_reader.proofs.DocumentFormulas.{formulas_few, formulas_modest, formulas_tagged}
use Rattle.mt_reader.proofs.Pages.{pages_few}
use Rattle.mt_reader.proofs.SourceDocuments.{by_tokens}
use Rattle.mt_reader.proofs.documents.read_document.Goals as goal

pub returns-clause-items : goal.returns-clause-items
returns-clause-items c =
    by_tokens HaveFewItems c.args.units (source_tokens c.args.bytes.now) c.document_of.result
    (λ tokens is. formulas_few c.args.units plain_codes plain_words tokens c.document_of.result is) c.document_of.ensures.is

pub returns-clause-pages : goal.returns-clause-pages
returns-clause-pages c =
    by_tokens (λ pages. length pages ≤ max_document_pages) c.args.units (source_tokens c.args.bytes.now) c.document_of.result
    (λ tokens is. pages_few c.args.units plain_codes plain_words tokens c.document_of.result is) c.document_of.ensures.is

pub returns-clause-modest : goal.returns-clause-modest
returns-clause-modest c =
    by_tokens IsModestDocument c.args.units (source_tokens c.args.bytes.now) c.document_of.result
    (λ tokens is. formulas_modest c.args.units plain_codes plain_words tokens c.document_of.result is) c.document_of.ensures.is

pub returns-clause-tags : goal.returns-clause-tags
returns-clause-tags c =
    by_tokens HaveTagsPlaced c.args.units (source_tokens c.args.bytes.now) c.document_of.result
    (λ tokens is. formulas_tagged c.args.units plain_codes plain_words tokens c.document_of.result is) c.document_of.ensures.is
