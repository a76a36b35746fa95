use Rattle.std.proofs.Common.{◌≡◌, ◌≤◌, ◌+◌, None, length}
use Rattle.std.specs.Option.{option_copied}
use Rattle.mt_locate.specs.Unmatched.{unmatched_brace}
use Rattle.mt_locate.proofs.unmatched.unmatched_brace.Given as goal

abbrev pub invariant-loop-rest : goal.invariant-loop-rest
invariant-loop-rest l = record {
  is : unmatched_brace 0 None l.tokens ≡ unmatched_brace l.level (option_copied l.outermost) l.rest;
  few : l.level + length l.rest ≤ length l.tokens;
}

abbrev pub decreases-loop-rest : goal.decreases-loop-rest
decreases-loop-rest l = length l.rest
