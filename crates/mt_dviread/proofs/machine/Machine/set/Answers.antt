use Rattle.std.proofs.Common.{◌≡◌, ap, ◌∙◌, subst, FitsSigned, rules, to_z, of_z, w32}
use Rattle.mt_dvi.specs.Machine as machine
use Rattle.std.proofs.lemmas.Int.{to_z-of_z}
use Rattle.mt_dviread.specs.inner.Operations.{register_of}
use Rattle.mt_dviread.specs.inner.Performs.{Performs, registers_of, registers_moved, registers_with, with_registers}
use Rattle.mt_dviread.proofs.MachineLemmas.{set_is}
use Rattle.mt_dviread.proofs.machine.Machine.set.Goals as goal

pub returns-clause-performs : goal.returns-clause-performs
returns-clause-performs c =
    let r = register_of c.args.register in
    let m = c.args.self.now in
    let fits : FitsSigned w32 c.args.by = search rules in
    let by = to_z-of_z w32 c.args.by fits in
    let set : registers_of c.set.result ≡ registers_with m.now r c.args.by =
    c.set.ensures ∙ ap (λ (x : machine.Registers). registers_with x r (to_z w32 (of_z w32 c.args.by))) (ap (λ (x : machine.Machine). x.now) c.moved.view_is) ∙ ap (registers_with m.now r) by in
    let moved : with_registers m (registers_moved (registers_of c.set.result) r) ≡ machine.add_register (machine.set_register m r c.args.by) r =
    ap (λ (x : machine.Registers). with_registers m (registers_moved x r)) set ∙ set_is m r c.args.by in
    subst (λ (x : machine.Machine). Performs c.moved-2.result c.moved-2.new.self (machine.without_place x)) moved (c.moved-2.ensures.performs (registers_moved (registers_of c.set.result) r) c.add.ensures)
