use Rattle.mt_scripts.proofs.Bounds.{script_reaches, script_near}
use Rattle.mt_scripts.proofs.attach.shifts_beside.Goals as goal

pub script_shifts-requires : goal.script_shifts-requires
script_shifts-requires c = record {
  nucleus = c.requires.nucleus;
  sup = script_reaches _ c.requires.sup;
  sub = script_reaches _ c.requires.sub;
}

pub returns-clause-up_near : goal.returns-clause-up_near
returns-clause-up_near c = λ near. c.script_shifts.ensures.up_near record {
  nucleus = near;
  sup = script_near _ c.requires.sup;
  sub = script_near _ c.requires.sub;
}

pub returns-clause-down_near : goal.returns-clause-down_near
returns-clause-down_near c = λ near. c.script_shifts.ensures.down_near record {
  nucleus = near;
  sup = script_near _ c.requires.sup;
  sub = script_near _ c.requires.sub;
}
