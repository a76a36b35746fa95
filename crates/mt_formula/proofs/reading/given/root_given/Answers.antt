use Rattle.mt_arena.specs.Arena.{cell_part, sequence_in}
use Rattle.mt_formula.proofs.Giving.{root_kept, root_lists}
use Rattle.mt_formula.proofs.reading.given.root_given.Goals as goal

pub insert-requires-clause-lists : goal.insert-requires-clause-lists
insert-requires-clause-lists c = root_lists _ c.args.degree c.args.body c.requires.degree c.requires.body

pub returns-clause-kept : goal.returns-clause-kept
returns-clause-kept c =
    let es = c.args.arena.now.closed in
    rw (c.plain_noad.ensures) (root_kept es _ c.delim_of.result c.in_ok-root.root (sequence_in es c.args.degree) (cell_part es c.args.body) c.in_ok-root.ensures.closed c.in_ok-root.ensures.is
    (root_lists es c.args.degree c.args.body c.requires.degree c.requires.body) c.requires.body.field)
