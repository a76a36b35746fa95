use Rattle.std.proofs.Common.{◌∙◌, ap, arith, refl, sym}
use Rattle.std.specs.Prelude.{Some, None}
use Rattle.std.proofs.lemmas.Result.{err_from_is_err_and}
use Rattle.mt_dviread.specs.declared.deed.Deed.TheVariants.{Selects}
use Rattle.mt_dviread.specs.declared.run.RunOpcode.TheVariants.{Move, Select}
use Rattle.mt_dviops.proofs.CopyRuns.{font_low, run_performs, run_selects}
use Rattle.mt_dviops.proofs.CopyTurns.{copying_fault, deed_font}
use Rattle.mt_dviops.proofs.open.OpenCopies.run.Goals as goal

pub returns-in_err-mark-in-Mark-clause-copies : goal.returns-in_err-mark-in-Mark-clause-copies
returns-in_err-mark-in-Mark-clause-copies c =
    let p = err_from_is_err_and c.from_residual.result c.from_residual.ensures.1 in
    rw (p.1, p.2) (copying_fault c.args.fonts.now c.args.bytes.now c.loop-kind.file c.perform_mark.new.self _ c.in_err-mark-in-Mark.field-0.0 c.loop-kind.invariant.2 (λ file s. c.in_err-mark-in-Mark.ensures.turns file s))

pub loop-kind-preserved-in-Mark : goal.loop-kind-preserved-in-Mark
loop-kind-preserved-in-Mark c =
    let e = c.in_ok-mark-in-Mark.ensures in
    let low = c.loop-kind.invariant.0 in
    let before = c.loop-kind.invariant.1 in
    let shorter = e.shorter in
    let same = e.same in (
      omega (arith, low, shorter, same),
      omega (arith, before, shorter),
      run_performs c.args.fonts.now c.args.bytes.now c.loop-kind.file c.perform_mark.new.self c.loop-kind.self c.put.new.self c.loop-kind.from (Some c.in_ok-mark-in-Mark.mark.place) c.loop-kind.invariant.2 low (λ file s. e.turns file s) e.within shorter same
          (c.put.ensures ∙ rw (e.right, e.lower, c.depth.ensures.is) refl),
    )

pub returns-in_err-perform_move-in-Move-clause-copies : goal.returns-in_err-perform_move-in-Move-clause-copies
returns-in_err-perform_move-in-Move-clause-copies c =
    let p = err_from_is_err_and c.from_residual-in_err-perform_move-in-Move.result c.from_residual-in_err-perform_move-in-Move.ensures.1 in
    rw (p.1, p.2) (copying_fault c.args.fonts.now c.args.bytes.now c.loop-kind.file c.perform_move.new.self _ c.in_err-perform_move-in-Move.field-0.0 c.loop-kind.invariant.2 (λ file s. c.in_err-perform_move-in-Move.ensures.turns file Move s (sym c.in-Some.ensures.is ∙ ap Some c.in-Move.is)))

pub loop-kind-preserved-in-Move : goal.loop-kind-preserved-in-Move
loop-kind-preserved-in-Move c =
    let e = c.in_ok-perform_move-in-Move.ensures in
    let low = c.loop-kind.invariant.0 in
    let before = c.loop-kind.invariant.1 in
    let shorter = e.shorter in
    let same = e.same in (
      omega (arith, low, shorter, same),
      omega (arith, before, shorter),
      run_performs c.args.fonts.now c.args.bytes.now c.loop-kind.file c.perform_move.new.self c.loop-kind.self c.deepen.new.self c.loop-kind.from None c.loop-kind.invariant.2 low (λ file s. e.turns file Move s (sym c.in-Some.ensures.is ∙ ap Some c.in-Move.is)) e.within shorter same
          (c.deepen.ensures ∙ rw c.depth-in-Move.ensures.is refl),
    )

pub returns-in_err-perform_move-in-Select-clause-copies : goal.returns-in_err-perform_move-in-Select-clause-copies
returns-in_err-perform_move-in-Select-clause-copies c =
    let p = err_from_is_err_and c.from_residual-in_err-perform_move-in-Select.result c.from_residual-in_err-perform_move-in-Select.ensures.1 in
    rw (p.1, p.2) (copying_fault c.args.fonts.now c.args.bytes.now c.loop-kind.file c.perform_move-in-Select.new.self _ c.in_err-perform_move-in-Select.field-0.0 c.loop-kind.invariant.2 (λ file s. c.in_err-perform_move-in-Select.ensures.turns file Select s (sym c.in-Some.ensures.is ∙ ap Some c.in-Select.is)))

pub reselect-requires-clause-font : goal.reselect-requires-clause-font
reselect-requires-clause-font c =
    font_low c.font.result (λ n is. deed_font c.args.fonts.now c.args.bytes.now c.loop-kind.file c.perform_move-in-Select.new.self _ Selects c.requires.set c.loop-kind.invariant.2
    (λ file s. c.in_ok-perform_move-in-Select.ensures.turns file Select s (sym c.in-Some.ensures.is ∙ ap Some c.in-Select.is)) refl n (sym c.font.ensures ∙ is))

pub loop-kind-preserved : goal.loop-kind-preserved
loop-kind-preserved c =
    let e = c.in_ok-perform_move-in-Select.ensures in
    let takes = c.in_ok-from-in-Select.ensures in
    let before = c.loop-kind.invariant.1 in
    let shorter = e.shorter in
    let coming = sym c.in-Some.ensures.is ∙ ap Some c.in-Select.is in
    let one = e.one coming in (
      (let next = takes.0 in let at = c.at-at.ensures in omega (arith, next, one, at)),
      omega (arith, before, shorter),
      run_selects c.args.fonts.now c.args.bytes.now c.loop-kind.file c.perform_move-in-Select.new.self c.loop-kind.self c.reselect.new.self c.loop-kind.from c.in_ok-from-in-Select.from c.loop-kind.invariant.2 (λ file s. e.turns file Select s coming) e.within e.same one
          (rw (sym c.font.ensures, sym c.at-at.ensures) takes),
    )
