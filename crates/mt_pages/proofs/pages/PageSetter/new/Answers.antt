use Rattle.std.proofs.Common.{refl}
use Rattle.mt_token.specs.Tokens.{source_tokens}
use Rattle.mt_pages.proofs.Common.{units_of, pages_view}
use Rattle.mt_pages.proofs.SetLemmas.{are_none, start_read}
use Rattle.mt_pages.proofs.pages.PageSetter.new.Goals as goal

pub returns-clause-is : goal.returns-clause-is
returns-clause-is c = λ fonts width. are_none fonts width c.args.source.now _ (start_read (units_of fonts) (source_tokens c.args.source.now) (pages_view c.new.result) (c.new.ensures.is (units_of fonts)) c.new.ensures.fault) refl refl
