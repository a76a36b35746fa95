use Rattle.std.proofs.Common.{map}
use Rattle.mt_macro.proofs.Unplaced.{expands_to}
use Rattle.mt_reader.proofs.Expanding.{put_short}
use Rattle.mt_reader.proofs.expanded_items.ExpandedItems.expand.Goals as goal

pub returns-clause-is : goal.returns-clause-is
returns-clause-is g c =
    let token = g.B.Lexicon.token c.args.tables.now in
    expands_to (g.B.Bodies.placed c.args.tables.now) (g.met.B.DocumentTables.unplaced c.args.tables.now) (g.B.Bodies.macros c.args.tables.now) _ _ (map token c.args.list.now) c.expand_matched.ensures.is

pub returns-clause-short : goal.returns-clause-short
returns-clause-short g c =
    let token = g.B.Lexicon.token c.args.tables.now in
    put_short token _ (g.B.Bodies.macros c.args.tables.now) (map token c.args.list.now) _
    (expands_to (g.B.Bodies.placed c.args.tables.now) (g.met.B.DocumentTables.unplaced c.args.tables.now) (g.B.Bodies.macros c.args.tables.now) _ _ (map token c.args.list.now) c.expand_matched.ensures.is)
