use Rattle.mt_plain.proofs.Loading.{Loading}
use Rattle.mt_plain.proofs.macros.preload_all.Given as goal

abbrev pub invariant-loop-text : goal.invariant-loop-text
invariant-loop-text l = Loading l.fn.macros l.macros l.list l.text-index
