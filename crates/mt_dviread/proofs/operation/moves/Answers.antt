use Rattle.std.proofs.Common.{◌≡◌, refl, subst, arith, to_z, of_z, w32}
use Rattle.std.proofs.lemmas.Int.{ints}
use Rattle.mt_dviread.specs.inner.Operations.{IsOperation}
use Rattle.mt_dviread.proofs.Decoded.{is_right, is_down, by_w, by_x, by_y, by_z}
use Rattle.mt_dviread.proofs.operation.moves.Goals as goal

pub returns-then-opcode-lt-W_0 : goal.returns-then-opcode-lt-W_0
returns-then-opcode-lt-W_0 c =
    let t = c.signed.type_inv in
    let e : to_z w32 (of_z w32 c.signed.result) ≡ c.signed.result = omega (arith, ints, t) in
    rw (e, c.signed.ensures, is_right c.args.opcode c.args.operands.now (omega arith) (omega arith)) refl

pub returns-then-opcode-lt-X_0 : goal.returns-then-opcode-lt-X_0
returns-then-opcode-lt-X_0 c = subst (IsOperation c.by_register.result) (by_w c.args.opcode c.args.operands.now (omega arith) (omega arith) c.requires.whole) c.by_register.ensures

pub returns-else-opcode-lt-X_0 : goal.returns-else-opcode-lt-X_0
returns-else-opcode-lt-X_0 c = subst (IsOperation c.by_register-else-opcode-lt-X_0.result) (by_x c.args.opcode c.args.operands.now (omega arith) (omega arith) c.requires.whole) c.by_register-else-opcode-lt-X_0.ensures

pub returns-then-opcode-lt-Y_0 : goal.returns-then-opcode-lt-Y_0
returns-then-opcode-lt-Y_0 c =
    let t = c.signed-then-opcode-lt-Y_0.type_inv in
    let e : to_z w32 (of_z w32 c.signed-then-opcode-lt-Y_0.result) ≡ c.signed-then-opcode-lt-Y_0.result = omega (arith, ints, t) in
    rw (e, c.signed-then-opcode-lt-Y_0.ensures, is_down c.args.opcode c.args.operands.now (omega arith) (omega arith)) refl

pub returns-then-opcode-lt-Z_0 : goal.returns-then-opcode-lt-Z_0
returns-then-opcode-lt-Z_0 c = subst (IsOperation c.by_register-then-opcode-lt-Z_0.result) (by_y c.args.opcode c.args.operands.now (omega arith) (omega arith) c.requires.whole) c.by_register-then-opcode-lt-Z_0.ensures

pub returns-else-opcode-lt-Z_0 : goal.returns-else-opcode-lt-Z_0
returns-else-opcode-lt-Z_0 c = subst (IsOperation c.by_register-else-opcode-lt-Z_0.result) (by_z c.args.opcode c.args.operands.now (omega arith) (omega arith) c.requires.whole) c.by_register-else-opcode-lt-Z_0.ensures
