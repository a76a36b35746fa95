use Rattle.std.proofs.Common.{◌∙◌, arith, codes}
use Rattle.std.specs.Str.Parse.{ParsesUnsigned, ExplainsUnsignedError, HasUnsignedDigitsIfOk}
use Rattle.clap.specs.Words.{found_of, rows_of}
use Rattle.clap.proofs.WalkLemmas.{one_text-rows}
use Rattle.mt_words.proofs.NumberLemmas.{line-read}
use Rattle.mt_words.proofs.forms.line_width.Goals as goal

pub returns : goal.returns
returns c =
    let rows = one_text-rows (found_of c.args.matches.now) (codes "line") in
    c.width_in_range.ensures
    ∙ line-read (λ text read. ParsesUnsigned 32 10 text read × ExplainsUnsignedError 10 text read × HasUnsignedDigitsIfOk text read) 32 (λ text read is. is.0) (rows_of (found_of c.args.matches.now)) c.get_one.result (omega arith)
    (λ is. c.get_one.ensures.none (rows ∙ is)) (λ text is. c.get_one.ensures.value text (rows ∙ is))
