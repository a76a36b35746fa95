use Rattle.std.proofs.Common.{arith}
use Rattle.mt_convert.proofs.Common.{root_row}
use Rattle.mt_convert.proofs.RowsOn.{few_behind, root_atom, root_few}
use Rattle.mt_convert.proofs.set.parts.with_degree.Goals as goal

pub test_row-requires : goal.test_row-requires
test_row-requires c =
    let there = c.requires in
    let r = c.in_ok-part_set.ensures.row there.before c.root.new.self (root_row c.args.fonts.now c.args.style there.one there.two) (c.root.ensures there.before there.one there.two there.is) in
    record { few = few_behind 4 c.args.first c.root.new.self there.before r.row there.at r.stays (omega (arith, root_few c.args.fonts.now c.args.style there.one there.two r.row r.is)) }

pub returns : goal.returns
returns c = λ rest d r at e.
    let k = c.in_ok-part_set.ensures.row rest c.root.new.self (root_row c.args.fonts.now c.args.style d r) (c.root.ensures rest d r e) in
    root_atom c.test_row.result rest c.root.new.self c.args.fonts.now c.args.style d r k (c.test_row.ensures.is rest k.row at k.stays)
