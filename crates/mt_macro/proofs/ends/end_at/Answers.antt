use Rattle.std.proofs.Common.{map}
use Rattle.mt_macro.proofs.Ending.{end_at_index}
use Rattle.mt_macro.proofs.ends.end_at.Goals as goal

pub returns-then-index-ends : goal.returns-then-index-ends
returns-then-index-ends g c =
    end_at_index c.args.index (map (g.L.Lexicon.token c.args.tables.now) c.args.after.now) c.args.ends.now c.requires.ends c.if-index-ends.true
