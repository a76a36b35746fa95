use Rattle.std.proofs.Common.{◌^◌, arith}
use Rattle.mt_display.proofs.Displaying.{wider}
use Rattle.mt_display.proofs.slot.indent.Goals as goal

pub returns-else-slot-clause-small : goal.returns-else-slot-clause-small
returns-else-slot-clause-small c =
    c.half.ensures.small (2 ^ 33) (wider _ (2 ^ 33) _ (c.gap.ensures.small _ _ (c.gap-free.ensures.small _ _ c.requires.z c.requires.w) c.requires.e) (omega arith))
