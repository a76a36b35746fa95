use Rattle.std.proofs.Common.{◌∙◌, ◌-ℤ◌, ap, pos}
use Rattle.mt_convert.proofs.Common.{Extents, none_out}
use Rattle.mt_convert.proofs.NucleiOn.{narrow_left}
use Rattle.mt_convert.proofs.set.nucleus.without_italic.Goals as goal

pub returns : goal.returns
returns c = λ old l e same.
    let n = c.narrowed-narrow.ensures in
    narrow_left old c.args.pieces.now c.set_last_extents.new.self l c.narrowed-narrow.result c.args.italic.sp
    (n.width ∙ ap (λ (z : Extents). z.width -ℤ c.args.italic.sp) same) (n.height ∙ ap (λ (z : Extents). z.height) same) (n.depth ∙ ap (λ (z : Extents). z.depth) same)
    (none_out _ c.first_out.result c.first_out.ensures c.in_default.not-Some) (c.set_last_extents.ensures old (pos 0) l e)
