use Rattle.std.proofs.Common.{◌-◌}
use Rattle.mt_box.proofs.NodePlaces.{kept_around}
use Rattle.mt_box.proofs.marks.moves.move_range.Goals as goal

pub returns-clause-marks : goal.returns-clause-marks
returns-clause-marks c = λ h. kept_around c.deref_mut.result.now c.args.nodes.now.items c.move_all.new.nodes c.args.start (c.args.end - c.args.start) c.args.nodes.now.len c.deref_mut.ensures.value h c.move_all.ensures.marks
