use Rattle.std.proofs.Common.{◌*◌, ◌≤◌, ◌^◌, arith, drop, length, sym, subst}
use Rattle.mt_convert.proofs.Common.{RowOn, list_nesting, list_row, RowHolds}
use Rattle.mt_convert.proofs.TakenRows.{taken_fits}
use Rattle.mt_convert.proofs.Turning.{nesting_positive}
use Rattle.mt_convert.proofs.Wrapping.{few_taken, list_taken}
use Rattle.mt_convert.proofs.kinds.Bounds.{put_span}
use Rattle.mt_convert.proofs.passes.set_list.Goals as goal

pub set_span-requires : goal.set_span-requires
set_span-requires c =
    let s = put_span _ c.in_ok-span.span c.args.list c.in_ok-span.ensures.is c.in_ok-span.ensures.within c.requires.modest c.in_ok-span.ensures.lists in
    record { within = s.within; modest = s.modest; lists = s.kept }

pub returns-clause-is : goal.returns-clause-is
returns-clause-is c =
    list_taken c.args.fonts.now c.args.style c.args.list _ c.set_span.new.pieces c.in_ok-take_row.field-0 c.in_ok-pieces.ensures
    (subst (λ l. RowOn c.in_ok-pieces.pieces c.set_span.new.pieces (list_row c.args.fonts.now c.args.style l)) c.in_ok-span.ensures.is c.in_ok-set_span.ensures.is) c.in_ok-take_row.ensures.row

pub returns-clause-few : goal.returns-clause-few
returns-clause-few c =
    few_taken c.set_span.new.pieces c.in_ok-take_row.field-0 c.in_ok-take_row.ensures.row
    (subst (λ o. length (drop (length o) c.set_span.new.pieces) ≤ 2 ^ 21) c.in_ok-pieces.ensures c.in_ok-set_span.ensures.few)

pub returns-clause-fits : goal.returns-clause-fits
returns-clause-fits c = taken_fits (12 * list_nesting c.args.list) _ c.in_ok-take_row.ensures.measurable c.in_ok-take_row.ensures.levels (omega (arith, nesting_positive c.args.list))

pub returns-clause-holds : goal.returns-clause-holds
returns-clause-holds c =
    subst (RowHolds c.args.fonts.now) (sym c.in_ok-take_row.ensures.row)
    (subst (λ o. RowHolds c.args.fonts.now (drop (length o) c.set_span.new.pieces)) c.in_ok-pieces.ensures c.in_ok-set_span.ensures.holds)
