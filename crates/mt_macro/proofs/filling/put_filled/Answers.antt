use Rattle.std.proofs.Common.{arith, ap, ◌+◌}
use Rattle.mt_macro.proofs.Putting.{putting_room, putting_more}
use Rattle.mt_macro.proofs.filling.put_filled.Goals as goal

pub overflow_add-rest : goal.overflow_add-rest
overflow_add-rest g c =
    let room = putting_room _ _ _ _ _ (record { runs = c.pop.new.self; count = c.loop-run.filled.count }) _ c.in-Some.run' c.loop-run.invariant c.in-Some.ensures.items c.requires.short in
    omega (arith, room, c.len.ensures)

pub loop-run-preserved : goal.loop-run-preserved
loop-run-preserved g c =
    putting_more _ _ _ _ _ _ _ _ c.in-Some.run' c.loop-run.invariant c.in-Some.ensures.items c.in_ok-push.ensures.items (ap (λ n. c.loop-run.rest.count + n) c.len.ensures)
