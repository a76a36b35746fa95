use Rattle.std.proofs.Common.{[], take}
use Rattle.mt_display.proofs.Common.{IsStack, line_values}
use Rattle.mt_display.proofs.stack.stack_lines.Given as goal

abbrev pub invariant-loop-line : goal.invariant-loop-line
invariant-loop-line l = IsStack (line_values (take l.line-index l.line-items)) [] l.stack
