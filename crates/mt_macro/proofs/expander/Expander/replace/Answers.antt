use Rattle.std.proofs.Common.{arith, refl}
use Rattle.mt_macro.proofs.Steps.{gains_all, replaced_long, replaced_done}
use Rattle.mt_macro.proofs.expander.Expander.replace.Goals as goal

pub returns-then-length : goal.returns-then-length
returns-then-length g c =
    let all = gains_all _ _ _ _ _ _ _ c.in_ok-all.all c.in_ok-all.ensures c.if-not-all.false in
    let filled = rw c.as_slice.ensures.value at c.in_ok-fill.ensures in
    replaced_long _ _ _ _ _ _ _ _ _ _ _ _ _ all filled refl (omega arith)

pub returns : goal.returns
returns g c =
    let all = gains_all _ _ _ _ _ _ _ c.in_ok-all.all c.in_ok-all.ensures c.if-not-all.false in
    let filled = rw c.as_slice.ensures.value at c.in_ok-fill.ensures in
    replaced_done _ _ _ _ _ _ _ _ _ _ c.put_filled.new.rest c.bound_parts.new.rest _ _ all filled refl (omega arith) c.in_ok-bound_parts.ensures.left c.in_ok-put_filled.ensures.is c.in_ok-bound_parts.ensures.is

pub fill-requires-clause-given : goal.fill-requires-clause-given
fill-requires-clause-given g c =
    let all = gains_all _ _ _ _ _ _ _ c.in_ok-all.all c.in_ok-all.ensures c.if-not-all.false in
    rw c.as_slice.ensures.value all.given

pub fill-requires-clause-short : goal.fill-requires-clause-short
fill-requires-clause-short g c =
    let all = gains_all _ _ _ _ _ _ _ c.in_ok-all.all c.in_ok-all.ensures c.if-not-all.false in
    rw c.as_slice.ensures.value all.short
