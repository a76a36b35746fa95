use Rattle.std.proofs.Common.{◌∙◌, sym, ap}
use Rattle.mt_rules.specs.Setting.{pass_unless}
use Rattle.mt_box.specs.Extents.{first_out}
use Rattle.mt_delim.proofs.Runs.{run_tested}
use Rattle.mt_delim.proofs.extensible.run_out.Goals as goal

pub returns-in-Some : goal.returns-in-Some
returns-in-Some c =
    run_tested c.args.font.now c.args.run c.in-Some.code (sym c.in-Some.ensures)
    ∙ ap (λ e. pass_unless (first_out e)) (sym c.extents_without_italic.ensures) ∙ ap (λ o. pass_unless o) (sym c.first_out.ensures)
