use Rattle.mt_parts.proofs.Widest.{Walked}
use Rattle.mt_parts.proofs.accents.widest_code.Given as goal

abbrev pub invariant-loop-turn : goal.invariant-loop-turn
invariant-loop-turn l = Walked l.font l.width.sp l.start l._turn l.code
