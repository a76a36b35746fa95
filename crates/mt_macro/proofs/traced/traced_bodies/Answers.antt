use Rattle.std.proofs.Common.{arith, ◌∙◌}
use Rattle.mt_macro.proofs.TracedBodies.{traced_more, all_traced, traced_all, short_all}
use Rattle.mt_macro.proofs.traced.traced_bodies.Goals as goal

pub loop-number-preserved : goal.loop-number-preserved
loop-number-preserved c =
    let is = rw c.in-Some.is at c.entry.ensures.is in
    let short = rw c.in-Some.is at c.entry.ensures.short in
    record {
      traced = traced_more c.args.macros.now c.loop-number.bodies.items _ c.loop-number.number (c.in-Some.entry.now.name, c.in-Some.entry.now.meaning) c.in_ok-traced_list.field-0 c.loop-number.invariant.traced is
          (c.in_ok-traced_list.ensures ∙ c.as_slice.ensures) short c.in_ok-push.ensures.items;
      within = omega (arith, c.loop-number-test.true, c.len.ensures);
    }

pub returns-clause-tokens : goal.returns-clause-tokens
returns-clause-tokens c =
    traced_all c.args.macros.now c.loop-number.bodies.items (all_traced c.args.macros.now c.loop-number.bodies.items c.loop-number.number c.loop-number.invariant.traced (omega (arith, c.loop-number-test.false, c.len.ensures)))

pub returns-clause-short : goal.returns-clause-short
returns-clause-short c =
    short_all c.args.macros.now c.loop-number.bodies.items (all_traced c.args.macros.now c.loop-number.bodies.items c.loop-number.number c.loop-number.invariant.traced (omega (arith, c.loop-number-test.false, c.len.ensures)))
