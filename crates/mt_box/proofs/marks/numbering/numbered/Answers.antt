use Rattle.std.proofs.Common.{◌<◌, length, rules}
use Rattle.mt_box.proofs.Numbering.{numbering_step}
use Rattle.mt_box.proofs.marks.numbering.numbered.Goals as goal

pub loop-i-preserved : goal.loop-i-preserved
loop-i-preserved c =
    let low : c.loop-i.i < length c.loop-i.nodes.items = search rules in
    numbering_step _ _ c.loop-i.i c.in_ok-nodes.field-0 c.index.result.now c.loop-i.invariant low c.index.ensures c.in_ok-nodes.ensures.is c.in_ok-nodes.ensures.near
