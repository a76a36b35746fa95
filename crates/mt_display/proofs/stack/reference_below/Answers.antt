use Rattle.std.proofs.Common.{◌*◌, ◌^◌}
use Rattle.mt_display.proofs.Stacking.{reference_near, bottom_above}
use Rattle.mt_display.proofs.stack.reference_below.Goals as goal

pub returns-clause-near : goal.returns-clause-near
returns-clause-near c = reference_near c.args.here.line _ _ c.args.extents.height c.plus.ensures (c.top_below.ensures.near (2 ^ 33 * c.args.here.line) (bottom_above _ _ c.requires.near)) c.requires.extents.height
