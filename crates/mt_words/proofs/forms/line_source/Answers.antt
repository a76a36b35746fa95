use Rattle.std.proofs.Common.{◌∙◌, codes}
use Rattle.clap.specs.Words.{found_of}
use Rattle.mt_words.proofs.FoundLemmas.{source-rows}
use Rattle.mt_words.proofs.forms.line_source.Goals as goal

pub returns : goal.returns
returns c = c.value_source.ensures ∙ source-rows (found_of c.args.matches.now) (codes "line")
