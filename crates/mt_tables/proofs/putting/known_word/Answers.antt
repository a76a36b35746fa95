use Rattle.std.proofs.Common.{arith}
use Rattle.mt_tables.proofs.Growing.{read_as_space}
use Rattle.mt_tables.proofs.putting.known_word.Goals as goal

pub returns-in-Name-clause-same : goal.returns-in-Name-clause-same
returns-in-Name-clause-same c = read_as_space c.args.names.now _ c.args.word _ _ c.space.ensures c.in-Name.is (omega (arith, c.if-name_number-len.true, c.len.ensures, c.name_number.ensures))
