use Rattle.std.proofs.Common.{map, arith}
use Rattle.std.proofs.lemmas.List.{length-map}
use Rattle.mt_reader.proofs.Defining.{bad_before}
use Rattle.mt_reader.proofs.definitions.checked_body.Goals as goal

pub overflow_sub-left : goal.overflow_sub-left
overflow_sub-left g c =
    let token = g.L.Lexicon.token c.args.tables.now in
    bad_before c.args.params c.args.left (map token c.args.taken.argument.now) c.in-Some.place (omega (arith, length-map c.args.taken.argument.now token, c.requires)) c.in-Some.ensures
