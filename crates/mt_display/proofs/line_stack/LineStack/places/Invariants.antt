use Rattle.std.proofs.Common.{drop}
use Rattle.mt_display.proofs.Stacking.{Walking}
use Rattle.mt_display.proofs.line_stack.LineStack.places.Given as goal

abbrev pub invariant-loop-shift : goal.invariant-loop-shift
invariant-loop-shift l = Walking l.room l.self (drop l.shift-index l.shift-items) l.page.items l.at l.next
