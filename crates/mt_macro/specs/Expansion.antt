-- Expansion, a step at a time (The TeXbook, chapter 20).
use Rattle.std.specs.Prelude.{◌≡◌, ℕ, zero, suc, ◌+◌, nat_lt, List, [], ◌∷◌, ◌++◌, length, Option}
use Rattle.std.specs.Prelude.{Some, None, if◌then◌else◌, Result, Ok, Err}
use Rattle.mt_token.specs.declared.token.Token.{Token}
use Rattle.mt_macro.specs.declared.table.Macro.{Macro}
use Rattle.mt_macro.specs.Limits.{max_tokens, max_steps}
use Rattle.mt_macro.specs.Braces.{first_unmatched}
use Rattle.mt_macro.specs.Table.{Table, macro_at}
use Rattle.mt_macro.specs.declared.expansion.ExpandError.{ExpandError}
use Rattle.mt_macro.specs.declared.expansion.ExpandError.TheVariants.{Budget, MissingArgument, Unbalanced, TooLong}
use Rattle.mt_macro.specs.declared.expansion.ExpandError.TheVariants.{OutOfMemory}
use Rattle.mt_macro.specs.Arguments.{Arguments, arguments, fill}

-- what one step makes of a list
pub data MacroStep : Type 0 where
  -- no macro is left
  Done : MacroStep
  -- the macro at this index lacks an argument
  Missing : (index : ℕ) → MacroStep
  Next : (list : List Token) → MacroStep

abbrev pub past : Token → MacroStep → MacroStep
past t Done = Done
past t (Missing index) = Missing (index + 1)
past t (Next list) = Next (t ∷ list)

abbrev pub replacement : Macro → Option Arguments → MacroStep
replacement m None = Missing 0
replacement m (Some taken) = Next (fill taken.arguments m.body ++ taken.after)

abbrev pub macro_step_at : Option Macro → Token → List Token → MacroStep → MacroStep
macro_step_at None t rest further = past t further
macro_step_at (Some m) t rest further = replacement m (arguments m.params rest)

-- the leftmost macro with its arguments is replaced by its body
abbrev pub macro_step : Table → List Token → MacroStep
macro_step table [] = Done
macro_step table (t ∷ rest) = macro_step_at (macro_at table t) t rest (macro_step table rest)

-- the list without macros, or the first fault
pub data Expansion : Type 0 where
  Expanded : (list : List Token) → Expansion
  OverBudget : (steps : ℕ) (length : ℕ) → Expansion
  NoArgument : (index : ℕ) → Expansion
  NoPartner : (index : ℕ) → Expansion
  ListTooLong : Expansion

abbrev pub at_last : ℕ → List Token → MacroStep → Expansion
at_last done list Done = Expanded list
at_last done list (Missing index) = OverBudget done (length list)
at_last done list (Next next) = OverBudget done (length list)

abbrev pub further : List Token → (List Token → Expansion) → MacroStep → Expansion
further list again Done = Expanded list
further list again (Missing index) = NoArgument index
further list again (Next next) = again next

abbrev pub within_budget : ℕ → List Token → Expansion → Expansion
within_budget done list answer = if nat_lt max_tokens (length list) then OverBudget done (length list) else answer

-- the outcome for a list after so many steps, where so many more are allowed
unfoldable pub run : Table → ℕ → ℕ → List Token → Expansion
run table zero done list = within_budget done list (at_last done list (macro_step table list))
run table (suc left) done list =
    within_budget done list (further list (run table left (done + 1)) (macro_step table list))

abbrev pub unless_unmatched : Option ℕ → Expansion → Expansion
unless_unmatched None answer = answer
unless_unmatched (Some index) answer = NoPartner index

-- the outcome for a list that is given: its length, its braces, and then its expansion in at most max_steps steps
abbrev pub expansion : Table → List Token → Expansion
expansion table list =
    if nat_lt max_tokens (length list) then ListTooLong
    else unless_unmatched (first_unmatched 0 list) (run table max_steps 0 list)

-- the error is that of this outcome, or memory ran out
abbrev pub IsErrorOf : ExpandError → Expansion → Type 0
IsErrorOf (Budget steps n) o = o ≡ OverBudget steps n
IsErrorOf (MissingArgument index) o = o ≡ NoArgument index
IsErrorOf (Unbalanced index) o = o ≡ NoPartner index
IsErrorOf TooLong o = o ≡ ListTooLong
IsErrorOf OutOfMemory o = Unit {0}

-- the result is this outcome, or memory ran out
abbrev pub Expands : Result (List Token) ExpandError → Expansion → Type 0
Expands (Ok list) o = o ≡ Expanded list
Expands (Err e) o = IsErrorOf e o

-- the same of a list that is put where it is wanted
abbrev pub ExpandsTo : Result (Unit {0}) ExpandError → List Token → Expansion → Type 0
ExpandsTo (Ok done) list o = o ≡ Expanded list
ExpandsTo (Err e) list o = IsErrorOf e o
