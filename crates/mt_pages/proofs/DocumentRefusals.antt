-- A source that is not read is refused for a reason (`document_explains`): memory did not run out, and a formula is refused for a cause with a
-- number.
use Rattle.std.proofs.Common.{◌≡◌, ◌+◌, ◌-◌, ℕ, zero, suc, length, map, Bool, true, false, List, [], ◌∷◌, refl, cond, Option, Some, None, Result, Ok, Err, nat_lt, drop, sym, ap, ◌∙◌, true≢false, if◌then◌else◌, not, ◌&&◌, subst}
use Rattle.mt_pages.proofs.Common.{Token, Expansion, Expanded, OverBudget, NoArgument, NoPartner, ListTooLong, MacroStep, Done, Missing, Next, macro_step, at_last, further, within_budget, run, unless_unmatched, expansion, CodeTables, plain_codes, plain_words, word_token, SetValue, units_of, DocumentState, DocumentAnswer, DocumentTurn, Goes, Ends, Stops, StopsOutside, after_assignment, after_definition, after_expansion, after_reading, formula_in, formula_turn, is_page_limit, outside_role, pages_from, start_state, turn_answer, turn_by, with_table, document_from, document_of, document_refusal, reading_refusal, token_refusal, OutOfMemory, Status, BadFormula, Avoids, ◌>>=◌}
use Rattle.std.specs.Prelude.{⊤}
use Rattle.mt_scaled.specs.declared.unit.Units.{Units}
use Rattle.mt_token.specs.declared.token.TokenError.{TokenError}
use Rattle.mt_token.specs.declared.token.TokenError.TheVariants.{NotAscii, BadByte, TooLong as SourceTooLong, OutOfMemory as NoTokenMemory}
use Rattle.mt_token.specs.declared.lexeme.State.{State}
use Rattle.mt_token.specs.declared.lexeme.State.TheVariants.{New}
use Rattle.mt_token.specs.Lexemes as lexemes
use Rattle.mt_token.specs.Lexemes.{Lexeme, lexeme}
use Rattle.mt_token.specs.declared.token.ByteCause.TheVariants as causes
use Rattle.mt_token.specs.Tokens.{Answer, Spanned, before, at_lexeme, lex, max_source, source_tokens}
use Rattle.mt_macro.specs.declared.definition.MacroError.{MacroError}
use Rattle.mt_macro.specs.Braces.{Taken, first_unmatched}
use Rattle.mt_macro.specs.Definition.{define}
use Rattle.mt_macro.specs.Limits.{max_tokens, max_steps}
use Rattle.mt_macro.specs.Table.{Table}
use Rattle.mt_scan.specs.declared.fault.ReadCause.{ReadCause}
use Rattle.mt_scan.specs.declared.fault.ReadCause.TheVariants.{UnknownName, DoubleScript, TwoFractions, BadDelimiter, Unbalanced, MisplacedLimits, MissingField, BadNumber, BadDimension, MisplacedNumber, TooDeep as TooManyGroups, ExtraCell}
use Rattle.mt_scan.specs.Parts.{Read, ReadOr, Got, Fault, NoTurn, IsAnswered}
use Rattle.mt_formula.specs.Formulas.{Reading, Reads, ReadFault, reading}
use Rattle.mt_reader.specs.Limits.{max_total_tokens}
use Rattle.mt_reader.specs.Causes.{outside_number}
use Rattle.mt_reader.specs.declared.outside_cause.OutsideCause.{OutsideCause}
use Rattle.mt_reader.specs.declared.outside_cause.OutsideCause.TheVariants.{Misplaced as MisplacedToken, OpenFormula, BadDefinition, OpenBody, TooManyNames, BadAssignment}
use Rattle.mt_reader.specs.declared.outside_role.OutsideRole.{OutsideRole}
use Rattle.mt_reader.specs.declared.outside_role.OutsideRole.TheVariants.{Passed, Defines, SetsMathCode, SetsDelimiterCode, BeginsFormula, EndsPage, EndsDocument, Misplaced}
use Rattle.mt_reader.specs.Assignments.{math_code_assignment, delcode_assignment}
use Rattle.mt_reader.specs.Definitions.{MacroDefinition, macro_definition}
use Rattle.mt_reader.specs.Dollars.{begins_display, between_dollars, up_to_end}
use Rattle.mt_reader.specs.Sources.{document_by}
use Rattle.mt_status.specs.Notes.{has_too_many_places}
use Rattle.mt_pages.proofs.Balanced.{balanced}
use Rattle.mt_reader.specs.Answered.{definition_answered, math_code_answered, delcode_answered}

-- a refusal that says what is wrong: memory did not run out, and a formula is refused for a cause with a number
abbrev pub has_cause : Status → Bool
has_cause OutOfMemory = false
has_cause (BadFormula n token zero) = false
has_cause status = true

-- what is answered, or a refusal that says what is wrong
abbrev pub HasCause : {T : Type 0} → Result T Status → Type 0
HasCause (Ok x) = ⊤
HasCause (Err status) = has_cause status ≡ true

pub cause_then : {T U : Type 0} (step : Result T Status) (next : T → Result U Status) → HasCause step → ((x : T) → HasCause (next x)) → HasCause (step >>= next)
cause_then (Ok x) next first rest = rest x
cause_then (Err status) next first rest = first

-- and which is not that there are too many places, since none is found yet
abbrev pub says_why : Status → Bool
says_why status = not (has_too_many_places status) && has_cause status

both_say : (full cause : Bool) → (not full && cause) ≡ true → (full ≡ false) × (cause ≡ true)
both_say true cause is = absurd (cc)
both_say false cause is = (refl, is)

abbrev pub Explains : {T : Type 0} → Result T Status → Type 0
Explains (Ok x) = ⊤
Explains (Err status) = says_why status ≡ true

pub explains_then : {T U : Type 0} (step : Result T Status) (next : T → Result U Status) → Explains step → ((x : T) → Explains (next x)) → Explains (step >>= next)
explains_then (Ok x) next first rest = rest x
explains_then (Err status) next first rest = first

pub explains_cause : {T : Type 0} (answer : Result T Status) → Explains answer → HasCause answer
explains_cause (Ok x) why = tt
explains_cause (Err status) why = (both_say (has_too_many_places status) (has_cause status) why).1

pub explains_few : {T : Type 0} (answer : Result T Status) (status : Status) → Explains answer → answer ≡ Err status → has_too_many_places status ≡ false
explains_few answer status why same =
    (both_say (has_too_many_places status) (has_cause status) (subst (λ (r : Result _ Status). Explains r) same why)).0

pub explains_if : {T : Type 0} (b : Bool) (x y : Result T Status) → Explains x → Explains y → Explains (if b then x else y)
explains_if true x y p q = p
explains_if false x y p q = q

-- so it is no other refusal
pub avoids : {T : Type 0} (bad : Status) (answer : Result T Status) → has_cause bad ≡ false → HasCause answer → Avoids bad answer
avoids bad (Ok x) silent why same = absurd (cc)
avoids bad (Err status) silent why same =
    let is : status ≡ bad = cc in
    true≢false (sym why ∙ (ap has_cause is ∙ silent))

-- ---- tokens

-- tokens, or a byte at fault
fits : Answer → Bool
fits (Ok tokens) = true
fits (Err (NotAscii offset)) = true
fits (Err (BadByte offset)) = true
fits (Err SourceTooLong) = false
fits (Err NoTokenMemory) = false

before_fits : (done : List Spanned) (answer : Answer) → fits answer ≡ true → fits (before done answer) ≡ true
unfolding fits
before_fits done (Ok more) h = refl
before_fits done (Err (NotAscii offset)) h = refl
before_fits done (Err (BadByte offset)) h = refl
before_fits done (Err SourceTooLong) h = h
before_fits done (Err NoTokenMemory) h = h

lexeme_fits : (found : Lexeme) (at : ℕ) (rest : State → ℕ → Answer) → ((next : State) (skip : ℕ) → fits (rest next skip) ≡ true) → fits (at_lexeme found at rest) ≡ true
unfolding fits
lexeme_fits (lexemes.Passed count state) at rest h = h state (count - 1)
lexeme_fits (lexemes.Made kind count state) at rest h = before_fits (record { kind = kind; start = at; end = at + count } ∷ []) _ (h state (count - 1))
lexeme_fits (lexemes.AtFault causes.NotAscii on) at rest h = refl
lexeme_fits (lexemes.AtFault causes.BadByte on) at rest h = refl

lex_fits : (state : State) (at skip : ℕ) (bytes : List ℕ) → fits (lex state at skip bytes) ≡ true
unfolding fits
lex_fits state at skip [] = refl
lex_fits state at (suc skip) (b ∷ rest) = lex_fits state (at + 1) skip rest
lex_fits state at zero (b ∷ rest) = lexeme_fits (lexeme state (b ∷ rest)) at _ (λ next skip. lex_fits next (at + 1) skip rest)

-- a source that is short enough has its tokens, or a byte at fault
tokens_fit : (bytes : List ℕ) → nat_lt max_source (length bytes) ≡ false → fits (source_tokens bytes) ≡ true
tokens_fit bytes e = rw e (lex_fits New 0 0 bytes)

token_explained : (cause : TokenError) → fits (Err cause) ≡ true → says_why (token_refusal cause) ≡ true
unfolding fits
token_explained (NotAscii offset) fit = refl
token_explained (BadByte offset) fit = refl
token_explained SourceTooLong fit = fit
token_explained NoTokenMemory fit = fit

-- ---- expansion

-- a brace without partner
is_unmatched : Expansion → Bool
is_unmatched (Expanded list) = false
is_unmatched (OverBudget steps n) = false
is_unmatched (NoArgument place) = false
is_unmatched (NoPartner place) = true
is_unmatched ListTooLong = false

within_matched : (done : ℕ) (list : List Token) (answer : Expansion) (b : Bool) → nat_lt max_tokens (length list) ≡ b → is_unmatched answer ≡ false
    → is_unmatched (within_budget done list answer) ≡ false
unfolding is_unmatched
within_matched done list answer true e h = rw e refl
within_matched done list answer false e h = rw e h

further_matched : (list : List Token) (again : List Token → Expansion) (step : MacroStep) → ((next : List Token) → is_unmatched (again next) ≡ false)
    → is_unmatched (further list again step) ≡ false
unfolding is_unmatched
further_matched list again Done h = refl
further_matched list again (Missing index) h = refl
further_matched list again (Next next) h = h next

at_last_matched : (done : ℕ) (list : List Token) (step : MacroStep) → is_unmatched (at_last done list step) ≡ false
unfolding is_unmatched
at_last_matched done list Done = refl
at_last_matched done list (Missing index) = refl
at_last_matched done list (Next next) = refl

run_matched : (table : Table) (left done : ℕ) (list : List Token) → is_unmatched (run table left done list) ≡ false
unfolding run
run_matched table zero done list = within_matched done list _ _ refl (at_last_matched done list (macro_step table list))
run_matched table (suc left) done list = within_matched done list _ _ refl (further_matched list _ (macro_step table list) (λ next. run_matched table left (done + 1) next))

unless_matched : (answer : Expansion) (o : Option ℕ) → o ≡ None → is_unmatched answer ≡ false → is_unmatched (unless_unmatched o answer) ≡ false
unless_matched answer o e h = rw e h

expansion_matched : (table : Table) (list : List Token) (b : Bool) → nat_lt max_tokens (length list) ≡ b → first_unmatched 0 list ≡ None → is_unmatched (expansion table list) ≡ false
unfolding is_unmatched
expansion_matched table list true e h = rw e refl
expansion_matched table list false e h = rw e (unless_matched (run table max_steps 0 list) (first_unmatched 0 list) h (run_matched table max_steps 0 list))

between_by : (table : Table) (rest : List Token) (taken : Taken) (display : Bool) → cond display (up_to_end true 0 (drop 1 rest)) (up_to_end false 0 rest) ≡ Some taken
    → is_unmatched (expansion table taken.argument) ≡ false
between_by table rest taken true h = expansion_matched table taken.argument _ refl (balanced true (drop 1 rest) taken h)
between_by table rest taken false h = expansion_matched table taken.argument _ refl (balanced false rest taken h)

-- the expansion of a formula never meets a brace without partner
between_matched : (table : Table) (rest : List Token) (taken : Taken) → between_dollars rest ≡ Some taken → is_unmatched (expansion table taken.argument) ≡ false
between_matched table rest taken h = between_by table rest taken (begins_display rest) h

-- ---- turns

-- a turn that is not refused, or its refusal says what is wrong
abbrev TurnExplains : DocumentTurn → Type 0
TurnExplains (Goes state rest) = ⊤
TurnExplains (Ends state) = ⊤
TurnExplains (Stops refusal) = says_why (document_refusal refusal) ≡ true
TurnExplains (StopsOutside n cause left) = ⊤

table_explains : (s : DocumentState) (left : ℕ) (rest : List Token) (made : Result Table MacroError) → TurnExplains (with_table s left rest made)
table_explains s left rest (Ok macros) = tt
table_explains s left rest (Err e) = tt

definition_explains : (s : DocumentState) (left : ℕ) (read : ReadOr OutsideCause MacroDefinition) (a : IsAnswered read) → TurnExplains (after_definition s left read a)
definition_explains s left (Fault cause at) a = tt
definition_explains s left NoTurn a = elim a [ ]
definition_explains s left (Got d rest) a = table_explains s left rest (define s.macros d.name d.params d.body)

assignment_explains : (s : DocumentState) (left : ℕ) (read : Read CodeTables) (a : IsAnswered read) → TurnExplains (after_assignment s left read a)
assignment_explains s left (Fault cause at) a = tt
assignment_explains s left NoTurn a = elim a [ ]
assignment_explains s left (Got tables rest) a = tt

cause_explained : (n : ℕ) (cause : ReadCause) (place : ℕ) → says_why (reading_refusal n cause place) ≡ true
cause_explained n UnknownName place = refl
cause_explained n DoubleScript place = refl
cause_explained n TwoFractions place = refl
cause_explained n BadDelimiter place = refl
cause_explained n Unbalanced place = refl
cause_explained n MisplacedLimits place = refl
cause_explained n MissingField place = refl
cause_explained n BadNumber place = refl
cause_explained n BadDimension place = refl
cause_explained n MisplacedNumber place = refl
cause_explained n TooManyGroups place = refl
cause_explained n ExtraCell place = refl

reading_explains : (units : Units) (s : DocumentState) (display : Bool) (total : ℕ) (rest : List Token) (read : Reading) → TurnExplains (after_reading units s display total rest read)
reading_explains units s display total rest (ReadFault cause place) = cause_explained (s.count + 1) cause place
reading_explains units s display total rest (Reads body tag) = tt

expanded_explains : (units : Units) (s : DocumentState) (display : Bool) (rest list : List Token) (b : Bool) → nat_lt max_total_tokens (s.total + length list) ≡ b
    → TurnExplains (after_expansion units s display rest (Expanded list))
expanded_explains units s display rest list true e = rw (e, TurnExplains) refl
expanded_explains units s display rest list false e = rw (e, TurnExplains) (reading_explains units s display (s.total + length list) rest (reading s.tables units display list))

expansion_explains : (units : Units) (s : DocumentState) (display : Bool) (rest : List Token) (outcome : Expansion) → is_unmatched outcome ≡ false
    → TurnExplains (after_expansion units s display rest outcome)
unfolding is_unmatched
expansion_explains units s display rest (Expanded list) h = expanded_explains units s display rest list _ refl
expansion_explains units s display rest (OverBudget steps n) h = refl
expansion_explains units s display rest (NoArgument place) h = refl
expansion_explains units s display rest (NoPartner place) h = sym h
expansion_explains units s display rest ListTooLong h = refl

formula_in_explains : (units : Units) (s : DocumentState) (display : Bool) (left : ℕ) (o : Option Taken)
    → ((taken : Taken) → o ≡ Some taken → is_unmatched (expansion s.macros taken.argument) ≡ false) → TurnExplains (formula_in units s display left o)
formula_in_explains units s display left None matched = tt
formula_in_explains units s display left (Some taken) matched = expansion_explains units s display taken.after (expansion s.macros taken.argument) (matched taken refl)

formula_explains : (units : Units) (s : DocumentState) (rest : List Token) (limit : Bool) → TurnExplains (formula_turn units s rest limit)
formula_explains units s rest true = refl
formula_explains units s rest false = formula_in_explains units s (begins_display rest) (length rest + 1) (between_dollars rest) (λ taken h. between_matched s.macros rest taken h)

turn_by_explains : (units : Units) (s : DocumentState) (rest : List Token) (role : OutsideRole) → TurnExplains (turn_by units s rest role)
turn_by_explains units s rest Passed = tt
turn_by_explains units s rest Defines = definition_explains s (length rest + 1) (macro_definition rest) (definition_answered rest)
turn_by_explains units s rest SetsMathCode = assignment_explains s (length rest + 1) (math_code_assignment s.tables rest) (math_code_answered s.tables rest)
turn_by_explains units s rest SetsDelimiterCode = assignment_explains s (length rest + 1) (delcode_assignment s.tables rest) (delcode_answered s.tables rest)
turn_by_explains units s rest BeginsFormula = formula_explains units s rest (is_page_limit s)
turn_by_explains units s rest EndsPage = tt
turn_by_explains units s rest EndsDocument = tt
turn_by_explains units s rest Misplaced = tt

-- ---- documents

outside_explained : (n place : ℕ) (cause : OutsideCause) → says_why (BadFormula n place (outside_number cause)) ≡ true
outside_explained n place MisplacedToken = refl
outside_explained n place OpenFormula = refl
outside_explained n place BadDefinition = refl
outside_explained n place OpenBody = refl
outside_explained n place TooManyNames = refl
outside_explained n place BadAssignment = refl

abbrev AnswerExplains : DocumentAnswer → Type 0
AnswerExplains answer = Explains (document_from answer)

turn_answer_explains : (units : Units) (whole : ℕ) (again : DocumentState → List Token → DocumentAnswer) (turn : DocumentTurn)
    → ((s : DocumentState) (rest : List Token) → AnswerExplains (again s rest)) → TurnExplains turn → AnswerExplains (turn_answer units whole again turn)
turn_answer_explains units whole again (Goes s rest) more h = more s rest
turn_answer_explains units whole again (Ends s) more h = tt
turn_answer_explains units whole again (Stops refusal) more h = h
turn_answer_explains units whole again (StopsOutside n cause left) more h = outside_explained n (whole - left) cause

pages_explain : (units : Units) (whole turns : ℕ) (s : DocumentState) (tokens : List Token) → AnswerExplains (pages_from units whole turns s tokens)
unfolding pages_from
pages_explain units whole zero s tokens = tt
pages_explain units whole (suc turns) s [] = tt
pages_explain units whole (suc turns) s (t ∷ rest) =
    turn_answer_explains units whole (pages_from units whole turns) (turn_by units s rest (outside_role t.kind)) (λ s' rest'. pages_explain units whole turns s' rest') (turn_by_explains units s rest (outside_role t.kind))

answer_explains : (units : Units) (tokens : Answer) → fits tokens ≡ true → AnswerExplains (document_by units tokens)
answer_explains units (Ok list) h =
    pages_explain units (length (map word_token list)) (length (map word_token list)) (start_state plain_codes plain_words) (map word_token list)
answer_explains units (Err cause) h = token_explained cause h

-- a source within its limit
pub document_explains : (set : SetValue) (bytes : List ℕ) → nat_lt max_source (length bytes) ≡ false → Explains (document_of set bytes)
document_explains set bytes short = answer_explains (units_of set) (source_tokens bytes) (tokens_fit bytes short)

-- and a longer one is refused as for lack of memory
pub long_refused : (set : SetValue) (bytes : List ℕ) → nat_lt max_source (length bytes) ≡ true → document_of set bytes ≡ Err OutOfMemory
long_refused set bytes long = rw long refl
