-- What became of a macro and its arguments in a step.
use Rattle.std.specs.Prelude.{◌≡◌, ℕ, ◌+◌, ◌<◌, ◌≤◌, List, length, map}
use Rattle.mt_token.specs.declared.token.Token.{Token}
use Rattle.mt_macro.specs.Limits.{max_tokens}
use Rattle.mt_macro.specs.Arguments.{arguments}
use Rattle.mt_macro.specs.Expansion.{MacroStep, Missing, Next}
use Rattle.mt_macro.specs.PlacedExpansion.{Placing, placed_replacement}
use Rattle.mt_macro.specs.declared.table.Macro.{Macro}
use Rattle.mt_macro.specs.declared.run.Run.{Run}
use Rattle.mt_macro.specs.declared.stack.Rest.{Rest}
use Rattle.mt_macro.specs.declared.expander.Replacement.{Replacement}
use Rattle.mt_macro.specs.declared.expander.Replacement.TheVariants.{NoArgument, TooLong, Done}
use Rattle.mt_macro.specs.inner.Runs.{Sources, left_of, AreLeft}

-- a step makes the list n tokens long, more than max_tokens, where so many tokens are before the macro
pub record ExceedsBudget (passed n : ℕ) (s : MacroStep) : Type 0 where
  pub list : List Token
  pub is : s ≡ Next list
  pub count : n ≡ passed + length list
  pub over : max_tokens < n

-- a step leaves these tokens from the macro's index on, and the list has at most max_tokens tokens
pub record FitsBudget (passed : ℕ) (s : MacroStep) (after : List Token) : Type 0 where
  pub is : s ≡ Next after
  pub few : passed + length after ≤ max_tokens

-- what became of a macro is what the step makes of it, where so many tokens are before it
abbrev pub ReplacesBy : ℕ → Replacement → MacroStep → List Token → Type 0
ReplacesBy passed NoArgument s after = s ≡ Missing 0
ReplacesBy passed (TooLong n) s after = ExceedsBudget passed n s
ReplacesBy passed Done s after = FitsBudget passed s after

-- after a step that was done there are tokens left
abbrev pub AreLeftAfter : Replacement → Sources → List Run → Rest → Type 0
AreLeftAfter NoArgument src parts rest = Unit {0}
AreLeftAfter (TooLong n) src parts rest = Unit {0}
AreLeftAfter Done src parts rest = AreLeft src parts rest

-- the same of each macro with so many parameters, of which this is the body where a token calls it, where these tokens follow it
pub record Replaces (passed : ℕ) (r : Replacement) (params : ℕ) (body before : List Token) (src : Sources) (parts : List Run) (rest : Rest) : Type 0 where
  pub is : (placed : Placing) (call : Token) (m : Macro) → m.params ≡ params → map (placed call) m.body ≡ body → ReplacesBy passed r (placed_replacement placed call m (arguments m.params before)) (left_of src parts rest)
  pub below : AreLeftAfter r src parts rest
