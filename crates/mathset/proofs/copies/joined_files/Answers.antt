use Rattle.mt_dviops.specs.Copied.{Every, copied}
use Rattle.mathset.specs.CopySteps.{join_refusal}
use Rattle.mathset.proofs.CopyLemmas.{copy_made}
use Rattle.mathset.proofs.copies.joined_files.Goals as goal

pub returns-in-Ok : goal.returns-in-Ok
returns-in-Ok c = record {
  is = copy_made join_refusal (record { fonts = c.args.fonts.now; files = c.args.files.now; choice = Every }) (copied c.args.fonts.now c.args.files.now Every) _ c.in-Ok.ensures.is (record { exact = c.in-Ok.ensures.is; read = c.in-Ok.ensures.read });
}

pub returns-in-Err : goal.returns-in-Err
returns-in-Err c = record {
  is = c.join_refusal.ensures (record { fonts = c.args.fonts.now; files = c.args.files.now; choice = Every }) (copied c.args.fonts.now c.args.files.now Every) c.in-Err.ensures.refused;
}
