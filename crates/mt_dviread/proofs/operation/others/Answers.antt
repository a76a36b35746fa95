use Rattle.std.proofs.Common.{◌≡◌, ◌+◌, ◌-◌, arith}
use Rattle.mt_dviread.proofs.Decoded.{is_special, is_definition, is_undefined}
use Rattle.mt_dviread.proofs.operation.others.Goals as goal

pub returns-then-opcode-lt-FNT_DEF1 : goal.returns-then-opcode-lt-FNT_DEF1
returns-then-opcode-lt-FNT_DEF1 c = (_, is_special c.args.opcode c.args.operands.now (omega arith) (omega arith))

pub returns-then-opcode-lt-PRE : goal.returns-then-opcode-lt-PRE
returns-then-opcode-lt-PRE c =
    let e : c.from-then-opcode-lt-PRE.result ≡ c.args.opcode - 243 + 1 = omega arith in
    (_, rw e at c.read.ensures, is_definition c.args.opcode c.args.operands.now (omega arith) (omega arith))

pub returns-else-opcode-eq-POST_POST : goal.returns-else-opcode-eq-POST_POST
returns-else-opcode-eq-POST_POST c = is_undefined c.args.opcode c.args.operands.now (omega arith)
