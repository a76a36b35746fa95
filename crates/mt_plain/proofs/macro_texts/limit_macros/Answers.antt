use Rattle.std.proofs.Common.{refl}
use Rattle.mt_plain.specs.MacroTexts.{limit_macros}
use Rattle.mt_plain.proofs.Loading.{limit_texts_lex}
use Rattle.mt_plain.proofs.macro_texts.limit_macros.Goals as goal

pub returns : goal.returns
unfolding limit_macros
returns c = record { is = refl; sound = limit_texts_lex }
