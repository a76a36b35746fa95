use Rattle.std.proofs.Common.{◌≡◌, arith, to_z, of_z, w32}
use Rattle.std.proofs.lemmas.Int.{ints}
use Rattle.mt_dvi.specs.Codes.{four_byte_numbers}
use Rattle.mt_dviread.proofs.Decoded.{is_bop, is_pop}
use Rattle.mt_dviread.proofs.operation.marks.Goals as goal

pub returns-then-opcode-eq-BOP : goal.returns-then-opcode-eq-BOP
returns-then-opcode-eq-BOP c =
    let t = c.signed.type_inv in
    let e : to_z w32 (of_z w32 c.signed.result) ≡ c.signed.result = omega (arith, ints, t) in
    (four_byte_numbers 10 c.args.operands.now, rw (e, c.signed.ensures, c.past.ensures.is) (is_bop c.args.opcode c.args.operands.now c.if-opcode-eq-BOP.true))

pub returns-else-opcode-eq-PUSH : goal.returns-else-opcode-eq-PUSH
returns-else-opcode-eq-PUSH c = is_pop c.args.opcode c.args.operands.now (omega arith)
