-- What a source is answered (`IsDocument`).
use Rattle.std.specs.Prelude.{◌≡◌, ℕ, List, Option, Some, None, Result, Ok, Err, ⊤}
use Rattle.mt_macro.specs.declared.expansion.ExpandError.{ExpandError}
use Rattle.mt_macro.specs.declared.expansion.ExpandError.TheVariants.{Budget, MissingArgument, Unbalanced as UnbalancedList, TooLong, OutOfMemory as NoMemoryToExpand}
use Rattle.mt_macro.specs.Expansion.{OverBudget, NoArgument, NoPartner, ListTooLong}
use Rattle.mt_rules.specs.declared.document.Formula.{Formula}
use Rattle.mt_scan.specs.declared.fault.ReadError.{ReadError}
use Rattle.mt_scan.specs.Errors.{PlacedCause, read_error_fault}
use Rattle.mt_reader.specs.declared.document_error.DocError.{DocError}
use Rattle.mt_reader.specs.declared.document_error.DocError.TheVariants.{Source, Outside, Expand, Read, Total, Pages, OutOfMemory}
use Rattle.mt_reader.specs.Documents.{DocumentAnswer, NotLexed, Outside as RefusedOutside, NotExpanded, NotRead, TooManyTokens, TooManyPages}

-- formula n is not expanded, for this cause
abbrev pub IsExpandRefusal : ℕ → ExpandError → DocumentAnswer → Type 0
IsExpandRefusal n (Budget steps length) answer = answer ≡ Err (NotExpanded n (OverBudget steps length))
IsExpandRefusal n (MissingArgument place) answer = answer ≡ Err (NotExpanded n (NoArgument place))
IsExpandRefusal n (UnbalancedList place) answer = answer ≡ Err (NotExpanded n (NoPartner place))
IsExpandRefusal n TooLong answer = answer ≡ Err (NotExpanded n ListTooLong)
IsExpandRefusal n NoMemoryToExpand answer = ⊥

-- formula n is not read, for this cause at this place
abbrev pub IsNotRead : ℕ → Option PlacedCause → DocumentAnswer → Type 0
IsNotRead n (Some fault) answer = answer ≡ Err (NotRead n fault.0 fault.1)
IsNotRead n None answer = ⊥

-- formula n is not read, for this error
abbrev pub IsReadRefusal : ℕ → ReadError → DocumentAnswer → Type 0
IsReadRefusal n error answer = IsNotRead n (read_error_fault error) answer

-- the answer is this refusal, or memory ran out
abbrev pub IsRefusal : DocError → DocumentAnswer → Type 0
IsRefusal (Source cause) answer = answer ≡ Err (NotLexed cause)
IsRefusal (Outside n place cause) answer = answer ≡ Err (RefusedOutside n cause place)
IsRefusal (Expand n cause) answer = IsExpandRefusal n cause answer
IsRefusal (Read n cause) answer = IsReadRefusal n cause answer
IsRefusal (Total n count) answer = answer ≡ Err (TooManyTokens n count)
IsRefusal (Pages count) answer = answer ≡ Err (TooManyPages count)
IsRefusal OutOfMemory answer = ⊤

-- the result is this answer, or memory ran out
abbrev pub IsDocument : Result (List (List Formula)) DocError → DocumentAnswer → Type 0
IsDocument (Ok pages) answer = answer ≡ Ok pages
IsDocument (Err e) answer = IsRefusal e answer
