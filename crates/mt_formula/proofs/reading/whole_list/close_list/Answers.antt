use Rattle.mt_arena.specs.Arena.{as_sequence}
use Rattle.mt_arena.proofs.Putting.{span_same}
use Rattle.mt_formula.proofs.Arenas.{closed_span, last_inside, with_last, with_last_inside}
use Rattle.mt_formula.proofs.reading.whole_list.close_list.Goals as goal

pub returns-clause-is : goal.returns-clause-is
returns-clause-is c =
    span_same c.close.result as_sequence _ _ _ (with_last c.args.arena.now.closed c.args.arena.now.top _ c.args.last.now c.in_ok-push_last.ensures.adds.top) c.close.ensures.is

pub returns-clause-kept : goal.returns-clause-kept
returns-clause-kept c =
    closed_span c.close.result _ _ c.close.ensures.within c.close.ensures.is c.close.ensures.lists
    (with_last_inside c.args.arena.now.closed c.args.arena.now.top _ c.args.last.now c.in_ok-push_last.ensures.adds.top c.requires.inside (last_inside _ c.args.last.now c.requires.last))
