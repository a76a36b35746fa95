use Rattle.mt_reader.proofs.document_turn.formula_turn.Goals as goal

pub returns-in-Ok-Some-clause-is : goal.returns-in-Ok-Some-clause-is
returns-in-Ok-Some-clause-is g c = rw c.in-Ok-Some.field-0-is at c.in-Ok-Some.ensures.is c.args.whole
