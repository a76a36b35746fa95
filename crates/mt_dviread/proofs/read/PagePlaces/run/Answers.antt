use Rattle.std.proofs.Common.{arith, sym}
use Rattle.std.proofs.lemmas.Result.{err_from_is_err_and}
use Rattle.mt_dviread.proofs.KeptLemmas.{keeping_late, keeping_on, run_refused, same_lists, same_places}
use Rattle.mt_dviread.proofs.read.PagePlaces.run.Goals as goal

pub returns-in_err-mark-in-Mark-clause-keeps : goal.returns-in_err-mark-in-Mark-clause-keeps
returns-in_err-mark-in-Mark-clause-keeps c = λ bytes k.
    let p = err_from_is_err_and c.from_residual.result c.from_residual.ensures.1 in
    rw (p.1, p.2) (run_refused c.args.fonts.now bytes c.loop-kind.file c.perform_mark.new.self _ _ c.in_err-mark-in-Mark.field-0.0 (c.loop-kind.invariant.2 bytes k) (λ file s. c.in_err-mark-in-Mark.ensures.turns file s) c.in-Some.ensures.in_page)

pub loop-kind-preserved-in-Continue-branch-2 : goal.loop-kind-preserved-in-Continue-branch-2
loop-kind-preserved-in-Continue-branch-2 c =
    let e = c.in_ok-mark-in-Mark.ensures in (
      e.within,
      (let before = c.loop-kind.invariant.1 in let shorter = e.shorter in omega (arith, before, shorter)),
      λ bytes k. keeping_on c.args.fonts.now bytes c.loop-kind.file c.perform_mark.new.self _ _ _ _ _ (c.loop-kind.invariant.2 bytes k) (λ file s. e.turns file s) e.within e.same c.in_ok-put-in-Mark.ensures.pages c.in_ok-put-in-Mark.ensures.page,
    )

pub returns-in_err-put-in-Mark-clause-keeps : goal.returns-in_err-put-in-Mark-clause-keeps
returns-in_err-put-in-Mark-clause-keeps c = λ bytes k.
    let e = c.in_ok-mark-in-Mark.ensures in
    let p = err_from_is_err_and c.from_residual-in_err-put-in-Mark.result c.from_residual-in_err-put-in-Mark.ensures.1 in
    rw (p.1, p.2) (tt, λ fault is zero. keeping_late c.args.fonts.now bytes c.loop-kind.file c.perform_mark.new.self _ _ _ (c.loop-kind.invariant.2 bytes k) (λ file s. e.turns file s) e.within e.same fault is zero)

pub loop-kind-preserved : goal.loop-kind-preserved
loop-kind-preserved c =
    let e = c.in_ok-perform_move-in-Move.ensures in (
      e.within,
      (let before = c.loop-kind.invariant.1 in let shorter = e.shorter in omega (arith, before, shorter)),
      λ bytes k. keeping_on c.args.fonts.now bytes c.loop-kind.file c.perform_move.new.self _ _ _ _ _ (c.loop-kind.invariant.2 bytes k) (λ file s. e.turns file c.in-Some.kind s (sym c.in-Some.ensures.is)) e.within e.same (same_lists c.in-Some.kind _ _) (same_places c.in-Some.kind _),
    )

pub returns-in_err-perform_move-in-Move : goal.returns-in_err-perform_move-in-Move
returns-in_err-perform_move-in-Move c =
    let p = err_from_is_err_and c.from_residual-in_err-perform_move-in-Move.result c.from_residual-in_err-perform_move-in-Move.ensures.1 in
    record {
      keeps = λ bytes k. rw (p.1, p.2) (run_refused c.args.fonts.now bytes c.loop-kind.file c.perform_move.new.self _ _ c.in_err-perform_move-in-Move.field-0.0 (c.loop-kind.invariant.2 bytes k) (λ file s. c.in_err-perform_move-in-Move.ensures.turns file c.in-Some.kind s (sym c.in-Some.ensures.is)) c.in-Some.ensures.in_page);
      within = rw p.1 tt;
      left = rw p.1 tt;
    }
