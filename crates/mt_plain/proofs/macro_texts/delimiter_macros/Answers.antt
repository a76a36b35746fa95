use Rattle.std.proofs.Common.{refl}
use Rattle.mt_plain.specs.MacroTexts.{delimiter_macros}
use Rattle.mt_plain.proofs.Loading.{delimiter_texts_lex}
use Rattle.mt_plain.proofs.macro_texts.delimiter_macros.Goals as goal

pub returns : goal.returns
unfolding delimiter_macros
returns c = record { is = refl; sound = delimiter_texts_lex }
