use Rattle.std.proofs.Common.{[], ◌∷◌}
use Rattle.mt_dviops.specs.Copied.{Numbered, copied}
use Rattle.mathset.specs.CopySteps.{pick_refusal}
use Rattle.mathset.proofs.CopyLemmas.{copy_made}
use Rattle.mathset.proofs.copies.picked.Goals as goal

pub returns-in-Ok : goal.returns-in-Ok
returns-in-Ok c = record {
  is = copy_made pick_refusal (record { fonts = c.args.fonts.now; files = c.args.bytes.now ∷ []; choice = Numbered c.args.pages.now }) (copied c.args.fonts.now (c.args.bytes.now ∷ []) (Numbered c.args.pages.now)) _ c.in-Ok.ensures.is (record { exact = c.in-Ok.ensures.is; read = c.in-Ok.ensures.read });
}

pub returns-in-Err : goal.returns-in-Err
returns-in-Err c = record {
  is = c.pick_refusal.ensures (record { fonts = c.args.fonts.now; files = c.args.bytes.now ∷ []; choice = Numbered c.args.pages.now }) (copied c.args.fonts.now (c.args.bytes.now ∷ []) (Numbered c.args.pages.now)) c.in-Err.ensures.refused;
}
