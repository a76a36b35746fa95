use Rattle.std.proofs.Common.{◌≡◌, take}
use Rattle.mt_macro.proofs.table.copy_body.Given as goal

abbrev pub invariant-loop-token : goal.invariant-loop-token
invariant-loop-token l = l.tokens.items ≡ take l.token-index l.list
