use Rattle.std.proofs.Common.{◌*◌, arith, subst}
use Rattle.mt_convert.proofs.Common.{list_nesting, halves_of}
use Rattle.mt_convert.specs.inner.Placed.{HalvesOn}
use Rattle.mt_convert.proofs.Turning.{nesting_positive}
use Rattle.mt_convert.proofs.Wrapping.{few_on, halves_on, halves_placed, halves_taken}
use Rattle.mt_convert.proofs.kinds.Bounds.{put_span}
use Rattle.mt_convert.proofs.passes.first_pass.Goals as goal

pub first_pass_on-requires : goal.first_pass_on-requires
first_pass_on-requires c = record { modest = put_span _ c.in_ok-span.span c.args.list c.in_ok-span.ensures.is c.in_ok-span.ensures.within c.requires.modest c.in_ok-span.ensures.lists }

pub with_reach-halves-requires : goal.with_reach-halves-requires
with_reach-halves-requires c = record { few = few_on c.in_ok-items.items _ c.first_pass_on.new.pieces _ c.in_ok-pieces.ensures c.in_ok-items.ensures.is }

pub halfway_of-requires : goal.halfway_of-requires
halfway_of-requires c = record {
  placed =
      halves_placed c.with_reach-halves.result _ c.first_pass_on.new.pieces _ c.in_ok-pieces.ensures
      (halves_on c.in_ok-items.items c.with_reach-halves.result _ c.first_pass_on.new.pieces _ c.in_ok-pieces.ensures c.in_ok-items.ensures.is c.with_reach-halves.ensures);
}

pub returns-clause-is : goal.returns-clause-is
returns-clause-is c =
    let h = halves_on c.in_ok-items.items c.with_reach-halves.result _ c.first_pass_on.new.pieces _ c.in_ok-pieces.ensures c.in_ok-items.ensures.is c.with_reach-halves.ensures in
    halves_taken c.with_reach-halves.result _ c.first_pass_on.new.pieces (halves_of c.args.fonts.now c.args.style c.args.list) _ c.in_ok-pieces.ensures
    (subst (λ l. HalvesOn c.with_reach-halves.result c.in_ok-pieces.pieces c.first_pass_on.new.pieces (halves_of c.args.fonts.now c.args.style l)) c.in_ok-span.ensures.is h) c.in_ok-halfway_of.ensures.is

pub returns-clause-fits : goal.returns-clause-fits
returns-clause-fits c = c.in_ok-halfway_of.ensures.fits (12 * list_nesting c.args.list) (omega (arith, nesting_positive c.args.list))
