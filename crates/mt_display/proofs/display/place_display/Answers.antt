use Rattle.std.proofs.Common.{arith}
use Rattle.mt_display.proofs.TakenLines.{fits_of}
use Rattle.mt_display.proofs.display.place_display.Goals as goal

pub returns-clause-fits : goal.returns-clause-fits
returns-clause-fits c =
    let m = c.in_ok-put_lines.ensures in
    let t = c.in_ok-take_lines.ensures in
    fits_of _ c.in_ok-take_lines.field-0 c.put_lines.new.stack _ m (t.is m.added m.stack m.some m.few) (omega arith) t.levels
