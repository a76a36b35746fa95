use Rattle.std.proofs.Common.{arith}
use Rattle.mt_pieces.proofs.Gapped.{copied_more}
use Rattle.mt_pieces.proofs.gaps.copy_parts.Goals as goal

pub loop-i-preserved : goal.loop-i-preserved
loop-i-preserved c =
    let i = c.loop-i.invariant in
    record {
      low = omega (arith, i.low);
      is = copied_more c.args.parts.now.items c.loop-i.parts.items c.push.new.self.items c.args.start c.loop-i.i c.index-part.result.now i.low (omega (arith, c.loop-i-test.true, c.requires.end)) i.is c.index-part.ensures c.in_ok-push.ensures.items;
    }
