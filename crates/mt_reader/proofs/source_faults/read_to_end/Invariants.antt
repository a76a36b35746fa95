use Rattle.std.proofs.Common.{◌≡◌, ◌≤◌, ◌-◌, length}
use Rattle.mt_token.specs.Ahead.{ahead, offset, source}
use Rattle.mt_token.specs.Tokens.{fault_of}
use Rattle.mt_reader.proofs.source_faults.read_to_end.Given as goal

abbrev pub invariant-loop : goal.invariant-loop
invariant-loop l = record {
  same : fault_of (ahead l.lexer) ≡ fault_of (ahead l.fn.lexer);
  falls : offset l.fn.lexer ≤ offset l.lexer;
  bytes : source l.lexer ≡ source l.fn.lexer;
}

abbrev pub decreases-loop : goal.decreases-loop
decreases-loop l = length (source l.lexer) - offset l.lexer
