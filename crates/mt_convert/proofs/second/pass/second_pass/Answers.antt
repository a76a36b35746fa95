use Rattle.std.proofs.Common.{◌^◌, arith, subst, Ok}
use Rattle.mt_convert.proofs.Common.{halves_value}
use Rattle.mt_convert.specs.inner.Placed.{HalvesOn}
use Rattle.mt_convert.proofs.TakenRows.{taken_fits}
use Rattle.mt_convert.proofs.Wrapping.{pass_is, few_taken}
use Rattle.mt_convert.proofs.second.pass.second_pass.Goals as goal

pub returns-clause-is : goal.returns-clause-is
returns-clause-is c =
    pass_is c.args.fonts.now c.args.style (halves_value c.args.half) c.in_ok-halves.halves c.put_halfway.new.pieces c.join_on.new.pieces c.in_ok-take_row.field-0
    (subst (λ o. HalvesOn c.in_ok-halves.halves o c.put_halfway.new.pieces (Ok (halves_value c.args.half))) c.new-pieces.ensures c.in_ok-halves.ensures) c.in_ok-join_on.ensures.is c.in_ok-take_row.ensures.row

pub returns-clause-few : goal.returns-clause-few
returns-clause-few c = few_taken c.join_on.new.pieces c.in_ok-take_row.field-0 c.in_ok-take_row.ensures.row c.in_ok-join_on.ensures.few

pub returns-clause-bounded : goal.returns-clause-bounded
returns-clause-bounded c = taken_fits (2 ^ 16) _ c.in_ok-take_row.ensures.measurable c.in_ok-take_row.ensures.levels (omega arith)

pub returns-clause-fits : goal.returns-clause-fits
returns-clause-fits c = λ n le k. taken_fits n _ c.in_ok-take_row.ensures.measurable c.in_ok-take_row.ensures.levels (omega (arith, le))
