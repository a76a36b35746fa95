-- A body with arguments in place of its parameters, as runs.
use Rattle.std.specs.Prelude.{◌≡◌, ◌+◌, ◌≤◌, ◌^◌, List, ◌++◌, length}
use Rattle.mt_token.specs.declared.token.Token.{Token}
use Rattle.mt_macro.specs.Arguments.{fill}
use Rattle.mt_macro.specs.inner.Ends.{joined}
use Rattle.mt_macro.specs.declared.run.Run.{Run}
use Rattle.mt_macro.specs.declared.stack.Rest.{Rest}
use Rattle.mt_macro.specs.inner.Runs.{Sources, all_tokens, AreRuns}

-- runs with these tokens put behind others
pub record Puts (src : Sources) (ms : List (List Token)) (old new : Rest) (tokens : List Token) : Type 0 where
  pub runs : AreRuns src ms old.runs.items → AreRuns src ms new.runs.items
  pub is : joined (all_tokens src ms new.runs.items) ≡ joined (all_tokens src ms old.runs.items) ++ tokens
  pub counted : new.count ≡ old.count + length tokens

-- the runs of a body with arguments in place of its parameters
pub record Fills (src : Sources) (ms : List (List Token)) (body : List Token) (taken : List Run) (filled : Rest) : Type 0 where
  pub runs : AreRuns src ms filled.runs.items
  pub is : joined (all_tokens src ms filled.runs.items) ≡ fill (all_tokens src ms taken) body
  pub counted : filled.count ≡ length (fill (all_tokens src ms taken) body)
  pub small : filled.count ≤ 2 ^ 63
