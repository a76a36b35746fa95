use Rattle.std.proofs.Common.{◌^◌, arith}
use Rattle.mt_display.proofs.Displaying.{wider}
use Rattle.mt_display.proofs.slot.room_between.Goals as goal

pub returns-clause-small : goal.returns-clause-small
returns-clause-small c =
    wider _ (2 ^ 40) _ (c.gap-3.ensures.small _ _ (c.gap-2.ensures.small _ _ (c.gap.ensures.small _ _ c.requires.slot.z c.requires.slot.w) c.requires.slot.e) c.requires.d) (omega arith)

pub gap-requires-3-clause-a : goal.gap-requires-3-clause-a
gap-requires-3-clause-a c =
    wider _ (2 ^ 34) _ (c.gap-2.ensures.small _ _ (c.gap.ensures.small _ _ c.requires.slot.z c.requires.slot.w) c.requires.slot.e) (omega arith)
