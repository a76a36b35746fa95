use Rattle.std.proofs.Common.{refl, arith}
use Rattle.mt_dviread.proofs.MachineLemmas.{no_char}
use Rattle.mt_dviread.proofs.machine.char_of.Goals as goal

pub returns-in_default-clause-err : goal.returns-in_default-clause-err
returns-in_default-clause-err c = (refl, no_char c.args.font.now c.args.code c.requires (omega (arith, c.in_default.ensures)))
