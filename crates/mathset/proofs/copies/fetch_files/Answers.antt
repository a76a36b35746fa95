use Rattle.std.proofs.Common.{◌∙◌, ◌+◌, ◌∷◌, [], ap, ℕ}
use Rattle.std.proofs.lemmas.List.{length-append}
use Rattle.std.proofs.lemmas.Result.{err_from_is_err_and}
use Rattle.mathset.proofs.CopyLemmas.{files_done, files_err, files_lead}
use Rattle.mathset.proofs.copies.fetch_files.Goals as goal

pub loop-name-preserved : goal.loop-name-preserved
loop-name-preserved g c =
    let invariant = c.loop-name.invariant in
    rw c.in_ok-push.ensures.items (record {
      same = c.in_ok-bytes.ensures.is.origin.0 ∙ invariant.same;
      holds = c.in_ok-bytes.ensures.is.kept ∙ invariant.holds;
      count = length-append c.loop-name.files.items (c.in_ok-bytes.bytes ∷ []) ∙ ap (λ (n : ℕ). n + 1) invariant.count;
      leads = λ held is.
          files_lead _ c.args.names.now held c.loop-name.name-index _ c.loop-name.files.items c.in_ok-bytes.bytes c.loop-name-test.true (c.in_ok-bytes.ensures.is.origin.1 held (invariant.holds ∙ is)) (invariant.leads held is);
    })

pub returns-in_err-bytes-clause-is : goal.returns-in_err-bytes-clause-is
returns-in_err-bytes-clause-is g c =
    let invariant = c.loop-name.invariant in
    let p = err_from_is_err_and c.from_residual.result c.from_residual.ensures.1 in
    rw (p.1, p.2)
    (files_err _ (record { holds = g.C.Cabinet.holds c.loop-name.cabinet; faults = g.C.Cabinet.faults c.loop-name.cabinet; lost = g.C.Cabinet.lost c.loop-name.cabinet }) _ c.args.names.now c.loop-name.name-index _ c.loop-name.files.items c.in_err-bytes.field-0.0
    c.loop-name-test.true (record { faults = invariant.same; holds = invariant.holds }) invariant.leads c.in_err-bytes.ensures.is)

pub returns-clause-is : goal.returns-clause-is
returns-clause-is g c =
    files_done _ _ c.args.names.now c.loop-name.name-index c.loop-name.files.items c.from_vec.result c.loop-name-test.false c.from_vec.ensures
    (record { faults = c.loop-name.invariant.same; holds = c.loop-name.invariant.holds }) c.loop-name.invariant.leads
