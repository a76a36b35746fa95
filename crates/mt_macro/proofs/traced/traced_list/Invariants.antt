use Rattle.std.proofs.Common.{◌≡◌, take}
use Rattle.mt_macro.specs.Traced.{traced_tokens}
use Rattle.mt_macro.proofs.traced.traced_list.Given as goal

abbrev pub invariant-loop-token : goal.invariant-loop-token
invariant-loop-token l = traced_tokens l.traced.items ≡ take l.token-index l.list
