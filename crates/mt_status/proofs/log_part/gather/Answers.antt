use Rattle.std.proofs.Common.{◌∙◌, ap}
use Rattle.mt_status.proofs.LogPartLemmas.{fails_at_once, written_err, written_ok}
use Rattle.mt_status.proofs.log_part.gather.Goals as goal

pub returns-in_err-write_all-in-Err-clause-front : goal.returns-in_err-write_all-in-Err-clause-front
returns-in_err-write_all-in-Err-clause-front g c =
    fails_at_once _ _ _ _ _ _ _ (c.as_slice.ensures.value ∙ ap (λ v. v.items) c.in-Err.ensures.err) c.in_err-write_all-in-Err.ensures.appended

pub returns-in_ok-write_all-in-Err-clause-gathers : goal.returns-in_ok-write_all-in-Err-clause-gathers
returns-in_ok-write_all-in-Err-clause-gathers g c =
    written_ok _ _ _ _ _ _ _ _ (c.as_slice.ensures.value ∙ ap (λ v. v.items) c.in-Err.ensures.err) c.clear.ensures c.in_ok-write_all-in-Err.ensures.appended c.write_all-in-Err.ensures.appended

pub returns-in_ok-write_all-in-Err-clause-front : goal.returns-in_ok-write_all-in-Err-clause-front
returns-in_ok-write_all-in-Err-clause-front g c =
    written_err _ _ _ _ _ _ _ (c.as_slice.ensures.value ∙ ap (λ v. v.items) c.in-Err.ensures.err) c.in_ok-write_all-in-Err.ensures.appended c.write_all-in-Err.ensures.appended
