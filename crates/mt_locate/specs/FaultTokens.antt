-- The numbers of a fault of the reading (`fault_numbers`), and the token at which it is (`fault_token`).
use Rattle.std.specs.Prelude.{ℕ, Bool, false, Option, Some, None}
use Rattle.mt_macro.specs.declared.expansion.ExpandError.{ExpandError}
use Rattle.mt_macro.specs.declared.expansion.ExpandError.TheVariants.{Budget, MissingArgument, Unbalanced, TooLong, OutOfMemory as NoMemoryToExpand}
use Rattle.mt_scan.specs.Errors.{read_error_number, read_error_place}
use Rattle.mt_reader.specs.Causes.{outside_number}
use Rattle.mt_reader.specs.declared.document_error.DocError.{DocError}
use Rattle.mt_reader.specs.declared.document_error.DocError.TheVariants.{Source, Outside, Expand, Read, Total, Pages, OutOfMemory}
use Rattle.mt_reader.specs.declared.outside_cause.OutsideCause.{OutsideCause}
use Rattle.mt_reader.specs.declared.outside_cause.OutsideCause.TheVariants.{OpenFormula}
use Rattle.mt_locate.specs.Sought.{is_same}
use Rattle.mt_locate.specs.declared.fault_token.FaultToken.{FaultToken}
use Rattle.mt_locate.specs.declared.fault_token.FaultToken.TheVariants.{OfSource, Unmatched, Expanded, Macro, First, Nowhere}
use Rattle.mt_status.specs.Meanings.{missing_argument}
use Rattle.mt_status.specs.declared.subject.Numbers.{Numbers}
use Rattle.mt_status.specs.declared.subject.Numbers.TheVariants.{Token, Formula, Page}

abbrev pub expand_numbers : ℕ → ExpandError → Option Numbers
expand_numbers n (MissingArgument index) = Some (Token n index missing_argument)
expand_numbers n (Budget steps size) = Some (Formula n)
expand_numbers n TooLong = Some (Formula n)
expand_numbers n (Unbalanced index) = None
expand_numbers n NoMemoryToExpand = None

abbrev pub read_numbers : ℕ → ℕ → Option ℕ → Option Numbers
read_numbers n cause None = None
read_numbers n cause (Some index) = Some (Token n index cause)

-- the numbers that a status has of a fault
abbrev pub fault_numbers : DocError → Option Numbers
fault_numbers (Outside n place cause) = Some (Token n place (outside_number cause))
fault_numbers (Expand n cause) = expand_numbers n cause
fault_numbers (Read n cause) = read_numbers n (read_error_number cause) (read_error_place cause)
fault_numbers (Total n count) = Some (Formula n)
fault_numbers (Pages page) = Some (Page page)
fault_numbers (Source cause) = None
fault_numbers OutOfMemory = None

abbrev pub are_numbers : Numbers → Option Numbers → Bool
are_numbers numbers None = false
are_numbers numbers (Some found) = is_same found numbers

-- whether a fault has these numbers
abbrev pub has_numbers : Numbers → DocError → Bool
has_numbers numbers fault = are_numbers numbers (fault_numbers fault)

abbrev pub expand_token : ExpandError → FaultToken
expand_token (MissingArgument index) = Macro index
expand_token (Budget steps size) = First
expand_token TooLong = First
expand_token (Unbalanced index) = Nowhere
expand_token NoMemoryToExpand = Nowhere

abbrev pub read_token : Option ℕ → FaultToken
read_token None = Nowhere
read_token (Some index) = Expanded index

abbrev pub outside_token : OutsideCause → ℕ → FaultToken
outside_token OpenFormula index = Unmatched index
outside_token cause index = OfSource index

-- the token at which a fault is
abbrev pub fault_token : DocError → FaultToken
fault_token (Outside n place cause) = outside_token cause place
fault_token (Expand n cause) = expand_token cause
fault_token (Read n cause) = read_token (read_error_place cause)
fault_token (Total n count) = First
fault_token (Pages page) = First
fault_token (Source cause) = Nowhere
fault_token OutOfMemory = Nowhere
