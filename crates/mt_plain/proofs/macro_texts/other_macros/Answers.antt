use Rattle.std.proofs.Common.{refl}
use Rattle.mt_plain.specs.MacroTexts.{other_macros}
use Rattle.mt_plain.proofs.Loading.{other_texts_lex}
use Rattle.mt_plain.proofs.macro_texts.other_macros.Goals as goal

pub returns : goal.returns
unfolding other_macros
returns c = record { is = refl; sound = other_texts_lex }
