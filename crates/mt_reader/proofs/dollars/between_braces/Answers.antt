use Rattle.std.proofs.Common.{◌+◌}
use Rattle.std.proofs.lemmas.List.{take-map}
use Rattle.mt_macro.proofs.Mapped.{mapped_drop}
use Rattle.mt_reader.proofs.dollars.between_braces.Goals as goal

pub returns-in-Some-clause-is : goal.returns-in-Some-clause-is
returns-in-Some-clause-is g c =
    let token = g.L.Lexicon.token c.args.tables.now in
    rw (← take-map token c.in-Some.index c.args.tokens.now, mapped_drop token c.args.tokens.now (c.in-Some.index + 1)) c.in-Some.ensures.is
