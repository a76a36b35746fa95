use Rattle.std.proofs.Common.{◌∙◌, ap, sym, subst, length, length-append, ◌≤◌, ◌∷◌, ◌++◌, [], arith}
use Rattle.mt_box.specs.Rows.{piece_values, row_level, AllMeasurable, AllModest}
use Rattle.mt_pieces.proofs.Taking.{last_apart, levels_turned, modest_measured, modest_turned, taking_end, taking_step, values_turned}
use Rattle.mt_pieces.proofs.pieces.Pieces.take_row.Goals as goal

pub taking-smaller : goal.taking-smaller
taking-smaller c =
    let a = last_apart c.taking.self (omega (arith, c.taking-test.true, c.len-in-taking.ensures)) in
    omega (arith, ap length (c.in_ok-piece.ensures.others a.rest a.last a.whole), ap length a.whole, length-append a.rest (a.last ∷ []))

pub taking-preserved : goal.taking-preserved
taking-preserved c =
    let a = last_apart c.taking.self (omega (arith, c.taking-test.true, c.len-in-taking.ensures)) in
    let rest = c.in_ok-piece.ensures.others a.rest a.last a.whole in
    taking_step c.args.first c.args.self.now c.taking.self c.take_last.new.self c.taking.row.items c.push.new.self.items c.in_ok-piece.piece a.last c.taking.invariant
    (omega (arith, c.taking-test.true, c.len-in-taking.ensures)) (a.whole ∙ ap (λ z. z ++ a.last ∷ []) (sym rest)) (c.in_ok-piece.ensures.piece a.rest a.last a.whole) c.in_ok-piece.ensures.modest c.in_ok-piece.ensures.level c.in_ok-push.ensures.items

pub returns-clause-row : goal.returns-clause-row
returns-clause-row c =
    let t = taking_end c.args.first c.args.self.now c.taking.self c.taking.row.items c.taking.invariant (omega (arith, c.taking-test.false, c.len-in-taking.ensures)) in
    ap piece_values (c.from_vec.ensures ∙ c.reverse.ensures.items) ∙ (values_turned c.taking.row.items ∙ t.row)

pub returns-clause-modest : goal.returns-clause-modest
returns-clause-modest c = subst AllModest (sym (c.from_vec.ensures ∙ c.reverse.ensures.items)) (modest_turned c.taking.row.items c.taking.invariant.modest)

pub returns-clause-measurable : goal.returns-clause-measurable
returns-clause-measurable c = subst AllMeasurable (sym (c.from_vec.ensures ∙ c.reverse.ensures.items)) (modest_measured _ (modest_turned c.taking.row.items c.taking.invariant.modest))

pub returns-clause-levels : goal.returns-clause-levels
returns-clause-levels c = subst (λ z. row_level z ≤ 2) (sym (c.from_vec.ensures ∙ c.reverse.ensures.items)) (subst (λ n. n ≤ 2) (sym (levels_turned c.taking.row.items)) c.taking.invariant.levels)
