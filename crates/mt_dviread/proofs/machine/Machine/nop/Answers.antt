use Rattle.std.proofs.Common.{refl, subst}
use Rattle.mt_dvi.specs.Machine as machine
use Rattle.mt_dviread.specs.inner.Performs.{Performs, registers_of, with_registers}
use Rattle.mt_dviread.proofs.machine.Machine.nop.Goals as goal

pub returns-clause-performs : goal.returns-clause-performs
returns-clause-performs c =
    subst (λ (m : machine.Machine). Performs c.moved-2.result c.moved-2.new.self (machine.without_place (with_registers c.args.self.now m.now))) c.moved.view_is
    (c.moved-2.ensures.performs (registers_of c.moved.inside.registers) refl)
