use Rattle.std.proofs.Common.{map, arith}
use Rattle.std.proofs.lemmas.List.{length-map}
use Rattle.mt_macro.proofs.Itself.{by_macros, too_long}
use Rattle.mt_macro.proofs.expansion.matched_expands_to_itself.Goals as goal

pub returns : goal.returns
returns g c =
    let same = length-map c.args.list.now (g.B.Lexicon.token c.args.tables.now) in
    by_macros (g.B.Bodies.macros c.args.tables.now) (map (g.B.Lexicon.token c.args.tables.now) c.args.list.now) _
    (omega (arith, same, c.if-list-gt-MAX_TOKENS.false)) c.requires c.has_macro.ensures

pub returns-then-list-gt-MAX_TOKENS : goal.returns-then-list-gt-MAX_TOKENS
returns-then-list-gt-MAX_TOKENS g c =
    let same = length-map c.args.list.now (g.B.Lexicon.token c.args.tables.now) in
    too_long (g.B.Bodies.macros c.args.tables.now) (map (g.B.Lexicon.token c.args.tables.now) c.args.list.now)
    (omega (arith, same, c.if-list-gt-MAX_TOKENS.true))
