use Rattle.mt_macro.proofs.traced.TracedMacrosBodiesTraced.put.Goals as goal

pub returns-in_ok-token_at_call-in-Some : goal.returns-in_ok-token_at_call-in-Some
returns-in_ok-token_at_call-in-Some c = rw c.in-Some.is c.in_ok-token_at_call-in-Some.ensures
