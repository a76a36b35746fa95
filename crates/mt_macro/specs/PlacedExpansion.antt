-- Expansion in which a token of a body is put as the token that calls its macro says: its span may be that of the call.
use Rattle.std.specs.Prelude.{◌≡◌, ℕ, zero, suc, ◌+◌, nat_lt, List, [], ◌∷◌, ◌++◌, length, map, take, Option}
use Rattle.std.specs.Prelude.{Some, None, if◌then◌else◌, Result, Ok, Err}
use Rattle.mt_token.specs.declared.token.Token.{Token}
use Rattle.mt_macro.specs.declared.table.Macro.{Macro}
use Rattle.mt_macro.specs.Limits.{max_tokens, max_steps}
use Rattle.mt_macro.specs.Braces.{first_unmatched}
use Rattle.mt_macro.specs.Table.{Table, macro_at}
use Rattle.mt_macro.specs.declared.expansion.ExpandError.{ExpandError}
use Rattle.mt_macro.specs.declared.expansion.ExpandError.TheVariants.{Budget, MissingArgument, Unbalanced, TooLong}
use Rattle.mt_macro.specs.declared.expansion.ExpandError.TheVariants.{OutOfMemory}
use Rattle.mt_macro.specs.Arguments.{Arguments, arguments, fill}
use Rattle.mt_macro.specs.Expansion.{MacroStep, Done, Missing, Next, past, Expansion, Expanded, OverBudget, NoArgument}
use Rattle.mt_macro.specs.Expansion.{NoPartner, ListTooLong}

-- a token of a body, by the token that calls the macro
abbrev pub Placing : Type 0
Placing = Token → Token → Token

-- the token has the span of the call
abbrev pub at_call : Placing
at_call call t = record { kind = t.kind; start = call.start; end = call.end; ascii = t.ascii }

abbrev pub placed_replacement : Placing → Token → Macro → Option Arguments → MacroStep
placed_replacement placed call m None = Missing 0
placed_replacement placed call m (Some taken) = Next (fill taken.arguments (map (placed call) m.body) ++ taken.after)

abbrev pub placed_step_at : Placing → Option Macro → Token → List Token → MacroStep → MacroStep
placed_step_at placed None t rest further = past t further
placed_step_at placed (Some m) t rest further = placed_replacement placed t m (arguments m.params rest)

-- the leftmost macro with its arguments is replaced by its body
abbrev pub placed_step : Placing → Table → List Token → MacroStep
placed_step placed table [] = Done
placed_step placed table (t ∷ rest) = placed_step_at placed (macro_at table t) t rest (placed_step placed table rest)

-- the outcome, and the list of the step at which the expansion stops
pub record Stop : Type 0 where
  pub outcome : Expansion
  pub list : List Token

abbrev pub stop : Expansion → List Token → Stop
stop outcome list = record { outcome = outcome; list = list }

abbrev pub stop_at_last : ℕ → List Token → MacroStep → Stop
stop_at_last done list Done = stop (Expanded list) list
stop_at_last done list (Missing index) = stop (OverBudget done (length list)) list
stop_at_last done list (Next next) = stop (OverBudget done (length list)) list

abbrev pub stop_further : List Token → (List Token → Stop) → MacroStep → Stop
stop_further list again Done = stop (Expanded list) list
stop_further list again (Missing index) = stop (NoArgument index) list
stop_further list again (Next next) = again next

abbrev pub stop_within : ℕ → List Token → Stop → Stop
stop_within done list answer =
    if nat_lt max_tokens (length list) then stop (OverBudget done (length list)) list else answer

-- where the expansion of a list stops after so many steps, where so many more are allowed
unfoldable pub placed_run : Placing → Table → ℕ → ℕ → List Token → Stop
placed_run placed table zero done list =
    stop_within done list (stop_at_last done list (placed_step placed table list))
placed_run placed table (suc left) done list =
    stop_within done list
    (stop_further list (placed_run placed table left (done + 1)) (placed_step placed table list))

abbrev pub stop_unless_unmatched : Option ℕ → List Token → Stop → Stop
stop_unless_unmatched None list answer = answer
stop_unless_unmatched (Some index) list answer = stop (NoPartner index) list

-- where the expansion of a list that is given stops: by its length, its braces, and then its steps
abbrev pub placed_expansion : Placing → Table → List Token → Stop
placed_expansion placed table list =
    if nat_lt max_tokens (length list) then stop ListTooLong list
    else stop_unless_unmatched (first_unmatched 0 list) list (placed_run placed table max_steps 0 list)

-- the error is that of this stop, or memory ran out; where a macro lacks an argument the tokens up to and with the macro
-- are these
abbrev pub IsStopOf : ExpandError → List Token → Stop → Type 0
IsStopOf (Budget steps n) list s = s.outcome ≡ OverBudget steps n
IsStopOf (MissingArgument index) list s = (s.outcome ≡ NoArgument index) × (list ≡ take (index + 1) s.list)
IsStopOf (Unbalanced index) list s = s.outcome ≡ NoPartner index
IsStopOf TooLong list s = s.outcome ≡ ListTooLong
IsStopOf OutOfMemory list s = Unit {0}

-- the result, and the list that is put where it is wanted, are those of this stop, or memory ran out
abbrev pub StopsAs : Result (Unit {0}) ExpandError → List Token → Stop → Type 0
StopsAs (Ok done) list s = s.outcome ≡ Expanded list
StopsAs (Err e) list s = IsStopOf e list s
