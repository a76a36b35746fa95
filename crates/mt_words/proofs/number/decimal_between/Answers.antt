use Rattle.std.proofs.Common.{◌∙◌, arith, sym}
use Rattle.mt_words.proofs.NumberLemmas.{digits_not_between}
use Rattle.mt_words.proofs.number.decimal_between.Goals as goal

pub returns-in_default : goal.returns-in_default
returns-in_default c =
    sym (digits_not_between c.args.low c.args.high c.args.word.now (sym c.is_digits.ensures ∙ c.if-not-is_digits.false) (omega arith) c.in_default.ensures.value.0)
