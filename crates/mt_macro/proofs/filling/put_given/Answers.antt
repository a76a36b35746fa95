use Rattle.std.proofs.Common.{arith, ap, ◌+◌}
use Rattle.mt_macro.proofs.Fillings.{puts_empty, puts_given, short_at}
use Rattle.mt_macro.proofs.filling.put_given.Goals as goal

pub returns-then-count-eq0 : goal.returns-then-count-eq0
returns-then-count-eq0 g c = puts_empty _ _ _ _ _ _ c.requires.given (omega arith) c.argument_at-run.ensures (omega (arith, c.len-count.ensures))

pub overflow_add-filled : goal.overflow_add-filled
overflow_add-filled g c =
    let short = short_at _ _ _ c.requires.short (omega arith) c.argument_at-run.ensures in
    omega (arith, c.requires.room, short, c.len-count.ensures)

pub returns : goal.returns
returns g c = puts_given _ _ _ _ _ _ _ c.requires.given (omega arith) c.argument_at-run.ensures (omega (arith, c.len-count.ensures)) c.in_ok-push.ensures.items (ap (λ n. c.args.filled.now.count + n) c.len-count.ensures)
