use Rattle.std.proofs.Common.{refl}
use Rattle.mt_plain.specs.MacroTexts.{accent_macros}
use Rattle.mt_plain.proofs.Loading.{accent_texts_lex}
use Rattle.mt_plain.proofs.macro_texts.accent_macros.Goals as goal

pub returns : goal.returns
unfolding accent_macros
returns c = record { is = refl; sound = accent_texts_lex }
