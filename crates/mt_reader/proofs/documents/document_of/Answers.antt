use Rattle.std.proofs.Common.{◌∙◌}
use Rattle.mt_token.specs.Tokens.{source_tokens}
use Rattle.mt_reader.proofs.SourceDocuments.{document_is}
use Rattle.mt_reader.proofs.documents.document_of.Goals as goal

pub returns-clause-is : goal.returns-clause-is
returns-clause-is c =
    document_is c.args.units (source_tokens c.args.bytes.now) c.read_pages.result
    (λ list e. c.read_pages.ensures.is _ (c.new-reader.ensures.is c.args.units list e))
    (λ cause e. c.read_pages.ensures.fault cause (c.new-reader.ensures.fault ∙ e))
