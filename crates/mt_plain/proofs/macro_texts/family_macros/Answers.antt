use Rattle.std.proofs.Common.{refl}
use Rattle.mt_plain.specs.MacroTexts.{family_macros}
use Rattle.mt_plain.proofs.Loading.{family_texts_lex}
use Rattle.mt_plain.proofs.macro_texts.family_macros.Goals as goal

pub returns : goal.returns
unfolding family_macros
returns c = record { is = refl; sound = family_texts_lex }
