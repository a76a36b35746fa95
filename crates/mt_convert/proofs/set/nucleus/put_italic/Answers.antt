use Rattle.std.proofs.Common.{rules}
use Rattle.mt_convert.proofs.NucleiOn.{italic_put}
use Rattle.mt_convert.proofs.set.nucleus.put_italic.Goals as goal

pub returns : goal.returns
returns c = λ old glyph e. italic_put old c.args.pieces.now c.put_kern.new.self glyph c.args.italic.sp c.args.has_subscript c.if-has_subscript.false (search rules) e c.in_ok-put_kern.ensures
