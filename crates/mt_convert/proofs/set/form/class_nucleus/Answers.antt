use Rattle.std.proofs.Common.{sym, subst}
use Rattle.mt_convert.specs.inner.OnPieces.{SetsNucleusOn}
use Rattle.mt_convert.specs.inner.Turns.{role_value}
use Rattle.mt_convert.proofs.kinds.Parts.{other_symbol_is}
use Rattle.mt_convert.proofs.set.form.class_nucleus.Goals as goal

pub returns-in_default : goal.returns-in_default
returns-in_default c = record { is = subst (λ s. SetsNucleusOn c.symbol_nucleus.result c.args.pieces.now c.symbol_nucleus.new.pieces s) (sym (other_symbol_is c.args.class c.args.fonts.now c.args.style (role_value c.args.role) c.args.symbol c.args.has_subscript c.in_default.not-Op)) c.symbol_nucleus.ensures.is }
