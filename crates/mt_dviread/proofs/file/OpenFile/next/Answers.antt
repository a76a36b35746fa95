use Rattle.std.proofs.Common.{sym, ap, ◌∙◌}
use Rattle.std.specs.Prelude.{Some}
use Rattle.mt_dviread.specs.declared.run.RunOpcode.TheVariants.{Move, Select}
use Rattle.mt_dviread.proofs.file.OpenFile.next.Goals as goal

pub returns-in_ok-perform_move-in-Some-Move-clause-turns : goal.returns-in_ok-perform_move-in-Some-Move-clause-turns
returns-in_ok-perform_move-in-Some-Move-clause-turns c = λ file s. c.in_ok-perform_move-in-Some-Move.ensures.turns file Move s (sym c.in-Some-Move.ensures.is ∙ ap Some c.in-Some-Move.field-0-is)

pub returns-in_ok-perform_move-in-Some-Select-clause-turns : goal.returns-in_ok-perform_move-in-Some-Select-clause-turns
returns-in_ok-perform_move-in-Some-Select-clause-turns c = λ file s. c.in_ok-perform_move-in-Some-Select.ensures.turns file Select s (sym c.in-Some-Select.ensures.is ∙ ap Some c.in-Some-Select.field-0-is)
