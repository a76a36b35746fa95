use Rattle.std.proofs.Common.{refl}
use Rattle.mt_plain.specs.MacroTexts.{function_macros}
use Rattle.mt_plain.proofs.Loading.{function_texts_lex}
use Rattle.mt_plain.proofs.macro_texts.function_macros.Goals as goal

pub returns : goal.returns
unfolding function_macros
returns c = record { is = refl; sound = function_texts_lex }
