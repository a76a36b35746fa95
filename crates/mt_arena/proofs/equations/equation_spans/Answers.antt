use Rattle.mt_arena.proofs.Equating.{equation_read}
use Rattle.mt_arena.proofs.equations.equation_spans.Goals as goal

pub returns-clause-is : goal.returns-clause-is
returns-clause-is c =
    equation_read c.args.arena.now.closed c.args.cells c.next_cell-first.new.cells c.next_cell-second.new.cells _ c.next_cell-first.ensures.is c.next_cell-first.ensures.rest c.next_cell-second.ensures.is c.next_cell-second.ensures.rest
    c.next_cell-number.ensures.is
