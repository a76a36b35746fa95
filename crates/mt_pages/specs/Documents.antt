-- The document of a source (`document_of`), and the status of what is wrong with it (`document_refusal`).
use Rattle.std.specs.Prelude.{ℕ, Bool, true, false, List, Option, Some, None, Result, Ok, Err, if◌then◌else◌}
use Rattle.mt_token.specs.declared.token.TokenError.{TokenError}
use Rattle.mt_token.specs.Errors.{token_error_number, token_error_place}
use Rattle.mt_macro.specs.Expansion.{Expansion, Expanded, OverBudget, NoArgument, NoPartner, ListTooLong}
use Rattle.mt_family.specs.SetValue.{SetValue}
use Rattle.mt_family.specs.Sets.{units_of}
use Rattle.mt_scan.specs.declared.fault.ReadCause.{ReadCause}
use Rattle.mt_scan.specs.declared.fault.ReadCause.TheVariants.{TooDeep as TooManyGroups}
use Rattle.mt_scan.specs.Errors.{cause_number}
use Rattle.mt_rules.specs.declared.document.Formula.{Formula}
use Rattle.mt_reader.specs.Documents.{DocumentAnswer, DocumentFault, NotLexed, Outside, NotExpanded, NotRead, TooManyTokens, TooManyPages}
use Rattle.mt_reader.specs.Causes.{outside_number}
use Rattle.mt_reader.specs.Sources.{source_document}
use Rattle.mt_status.specs.Meanings.{missing_argument}
use Rattle.mt_status.specs.declared.status.Much.TheVariants.{Pages}
use Rattle.mt_status.specs.declared.status.Status.{Status}
use Rattle.mt_status.specs.declared.status.Status.TheVariants.{BadSource, BadFormula, Budget, TooDeep, TooMuch, OutOfMemory}

-- the first byte at fault, and the number of the cause
abbrev pub source_byte : Option ℕ → ℕ → Status
source_byte (Some offset) cause = BadSource offset cause
-- never comes: the source is no longer than its fetch allows
source_byte None cause = OutOfMemory

abbrev pub token_refusal : TokenError → Status
token_refusal e = source_byte (token_error_place e) (token_error_number e)

-- formula n is not expanded
abbrev pub expansion_refusal : ℕ → Expansion → Status
expansion_refusal n (OverBudget steps length) = Budget n
expansion_refusal n ListTooLong = Budget n
expansion_refusal n (NoArgument place) = BadFormula n place missing_argument
-- neither comes: a list that is expanded is no refusal, and each brace of a formula has its partner
expansion_refusal n (Expanded list) = OutOfMemory
expansion_refusal n (NoPartner place) = OutOfMemory

-- too many open groups have a status of their own
abbrev pub is_too_deep : ReadCause → Bool
is_too_deep TooManyGroups = true
is_too_deep cause = false

-- formula n is not read
abbrev pub reading_refusal : ℕ → ReadCause → ℕ → Status
reading_refusal n cause place =
    if is_too_deep cause then TooDeep n place else BadFormula n place (cause_number cause)

-- a document that is refused
abbrev pub document_refusal : DocumentFault → Status
document_refusal (NotLexed cause) = token_refusal cause
document_refusal (Outside n cause place) = BadFormula n place (outside_number cause)
document_refusal (NotExpanded n outcome) = expansion_refusal n outcome
document_refusal (NotRead n cause place) = reading_refusal n cause place
document_refusal (TooManyTokens n count) = Budget n
document_refusal (TooManyPages count) = TooMuch Pages count

abbrev pub document_from : DocumentAnswer → Result (List (List Formula)) Status
document_from (Ok pages) = Ok pages
document_from (Err fault) = Err (document_refusal fault)

-- the document of a source; an em and an ex are those of family 0
abbrev pub document_of : SetValue → List ℕ → Result (List (List Formula)) Status
document_of set bytes = document_from (source_document (units_of set) bytes)
