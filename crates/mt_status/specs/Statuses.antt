-- The table of statuses: the number of each (`code_of`), its line of the log (`log_line`), its line for a person
-- (`explained`), what it means (`meaning`), what it is about (`subject_of`), and from what it comes (`refusal_origin`).
use Rattle.std.specs.Prelude.{ℕ, List, [], ◌∷◌, Some, None, codes, decimal}
use Rattle.std.specs.List.{concat}
use Rattle.std.specs.Fmt.{signed_decimal}
use Rattle.mt_scaled.specs.Meanings.{cause_text}
use Rattle.mt_family.specs.Errors.{family_causes, list_causes}
use Rattle.mt_family.specs.Sizes.{index_of}
use Rattle.mt_token.specs.Errors.{byte_causes}
use Rattle.mt_scan.specs.Errors.{cause_number}
use Rattle.mt_scan.specs.declared.fault.ReadCause.TheVariants.{TooDeep as TooManyGroups}
use Rattle.mt_dviread.specs.Errors.{dvi_causes}
use Rattle.mt_status.specs.declared.status.Much.{Much}
use Rattle.mt_status.specs.declared.status.Much.TheVariants.{Pages, Places, Bytes}
use Rattle.mt_status.specs.declared.status.Status.{Status}
use Rattle.mt_status.specs.declared.status.Status.TheVariants.{Done, BadWords, ReadFault, TooLong, WriteFault, FontList, BadTfm, BadFamily, BadSource, BadFormula, Budget, MissingFamily, MissingChar, SmartLigature, Overflow, TooTall, TooDeep, TooMuch, BadDvi, BadPick, MagClash, BadFile, OutOfMemory}
use Rattle.mt_status.specs.declared.subject.Characters.TheVariants as characters
use Rattle.mt_status.specs.declared.subject.DviFault.TheVariants as dvi
use Rattle.mt_status.specs.declared.subject.Numbers.TheVariants as numbers
use Rattle.mt_status.specs.declared.subject.Subject.{Subject}
use Rattle.mt_status.specs.declared.subject.Subject.TheVariants as subjects
use Rattle.mt_status.specs.Explanation.{explained_at, explained_whole, usage}
use Rattle.mt_status.specs.Meanings.{font_cause, token_cause}

-- the number that the process ends with
abbrev pub code_of : Status → ℕ
code_of Done = 0
code_of BadWords = 2
code_of (ReadFault name) = 20
code_of (TooLong name) = 21
code_of (WriteFault written) = 22
code_of (FontList line cause) = 30
code_of (BadTfm font cause) = 31
code_of (BadFamily fam size cause) = 32
code_of (BadSource offset cause) = 40
code_of (BadFormula n token cause) = 41
code_of (Budget n) = 42
code_of (MissingFamily n fam size) = 43
code_of (MissingChar n fam size code) = 44
code_of (SmartLigature n fam size first second) = 45
code_of (Overflow n value) = 46
code_of (TooTall n count) = 47
code_of (TooDeep n token) = 48
code_of (TooMuch kind count) = 49
code_of (BadDvi offset cause) = 50
code_of (BadPick page) = 51
code_of (MagClash file) = 52
code_of (BadFile file offset cause) = 53
code_of OutOfMemory = 60

-- what there is too much of
abbrev pub much_text : Much → List ℕ
much_text Pages = codes "pages"
much_text Places = codes "places"
much_text Bytes = codes "bytes"

-- the line of the log
abbrev pub log_line : Status → List ℕ
log_line Done = []
log_line BadWords = codes "mathset: words\n"
log_line (ReadFault name) = concat (codes "mathset: cannot read " ∷ name ∷ codes "\n" ∷ [])
log_line (TooLong name) = concat (codes "mathset: too long " ∷ name ∷ codes "\n" ∷ [])
log_line (WriteFault written) = concat (codes "mathset: cannot write after " ∷ decimal written ∷ codes " bytes\n" ∷ [])
log_line (FontList line cause) = concat (codes "mathset: font list line " ∷ decimal line ∷ codes " cause " ∷ decimal cause ∷ codes "\n" ∷ [])
log_line (BadTfm font cause) = concat (codes "mathset: font " ∷ decimal font ∷ codes " cause " ∷ decimal cause ∷ codes "\n" ∷ [])
log_line (BadFamily fam size cause) = concat (codes "mathset: family " ∷ decimal fam ∷ codes " size " ∷ decimal (index_of size) ∷ codes " cause " ∷ decimal cause ∷ codes "\n" ∷ [])
log_line (BadSource offset cause) = concat (codes "mathset: source byte " ∷ decimal offset ∷ codes " cause " ∷ decimal cause ∷ codes "\n" ∷ [])
log_line (BadFormula n token cause) = concat (codes "mathset: formula " ∷ decimal n ∷ codes " token " ∷ decimal token ∷ codes " cause " ∷ decimal cause ∷ codes "\n" ∷ [])
log_line (Budget n) = concat (codes "mathset: formula " ∷ decimal n ∷ codes " budget\n" ∷ [])
log_line (MissingFamily n fam size) = concat (codes "mathset: formula " ∷ decimal n ∷ codes " family " ∷ decimal fam ∷ codes " size " ∷ decimal (index_of size) ∷ codes " missing\n" ∷ [])
log_line (MissingChar n fam size code) = concat (codes "mathset: formula " ∷ decimal n ∷ codes " family " ∷ decimal fam ∷ codes " size " ∷ decimal (index_of size) ∷ codes " code " ∷ decimal code ∷ codes " missing\n" ∷ [])
log_line (SmartLigature n fam size first second) = concat (codes "mathset: formula " ∷ decimal n ∷ codes " family " ∷ decimal fam ∷ codes " size " ∷ decimal (index_of size) ∷ codes " pair " ∷ decimal first ∷ codes " " ∷ decimal second ∷ codes "\n" ∷ [])
log_line (Overflow n value) = concat (codes "mathset: formula " ∷ decimal n ∷ codes " overflow " ∷ signed_decimal value ∷ codes "\n" ∷ [])
log_line (TooTall n count) = concat (codes "mathset: formula " ∷ decimal n ∷ codes " repeats " ∷ decimal count ∷ codes "\n" ∷ [])
log_line (TooDeep n token) = concat (codes "mathset: formula " ∷ decimal n ∷ codes " token " ∷ decimal token ∷ codes " depth\n" ∷ [])
log_line (TooMuch kind count) = concat (codes "mathset: too many " ∷ much_text kind ∷ codes " " ∷ decimal count ∷ codes "\n" ∷ [])
log_line (BadDvi offset cause) = concat (codes "mathset: dvi byte " ∷ decimal offset ∷ codes " cause " ∷ decimal cause ∷ codes "\n" ∷ [])
log_line (BadPick page) = concat (codes "mathset: no page " ∷ decimal page ∷ codes "\n" ∷ [])
log_line (MagClash file) = concat (codes "mathset: file " ∷ decimal file ∷ codes " mag\n" ∷ [])
log_line (BadFile file offset cause) = concat (codes "mathset: file " ∷ decimal file ∷ codes " byte " ∷ decimal offset ∷ codes " cause " ∷ decimal cause ∷ codes "\n" ∷ [])
log_line OutOfMemory = codes "mathset: out of memory\n"

-- the line for a person: the place that a refusal names, and a text about it
abbrev pub explained : Status → List ℕ → List ℕ
explained Done text = []
explained BadWords text = explained_whole usage
explained (ReadFault name) text = explained_at (codes "") name text
explained (TooLong name) text = explained_at (codes "") name text
explained (WriteFault written) text = explained_whole text
explained (FontList line cause) text = explained_at (codes "font list line ") (decimal line) text
explained (BadTfm font cause) text = explained_at (codes "font ") (decimal font) text
explained (BadFamily fam size cause) text = explained_at (codes "family ") (decimal fam) text
explained (BadSource offset cause) text = explained_at (codes "source byte ") (decimal offset) text
explained (BadFormula n token cause) text = explained_at (codes "formula ") (decimal n) text
explained (Budget n) text = explained_at (codes "formula ") (decimal n) text
explained (MissingFamily n fam size) text = explained_at (codes "formula ") (decimal n) text
explained (MissingChar n fam size code) text = explained_at (codes "formula ") (decimal n) text
explained (SmartLigature n fam size first second) text = explained_at (codes "formula ") (decimal n) text
explained (Overflow n value) text = explained_at (codes "formula ") (decimal n) text
explained (TooTall n count) text = explained_at (codes "formula ") (decimal n) text
explained (TooDeep n token) text = explained_at (codes "formula ") (decimal n) text
explained (TooMuch kind count) text = explained_whole text
explained (BadDvi offset cause) text = explained_at (codes "dvi byte ") (decimal offset) text
explained (BadPick page) text = explained_at (codes "page ") (decimal page) text
explained (MagClash file) text = explained_at (codes "file ") (decimal file) text
explained (BadFile file offset cause) text = explained_at (codes "file ") (decimal file) text
explained OutOfMemory text = explained_whole text

abbrev pub too_much_meaning : Much → List ℕ
too_much_meaning Pages = codes "a source can have at most 5,000 pages, and a file of copied pages 65,535"
too_much_meaning Places = codes "at most 2,000,000 glyphs and rules can be placed"
too_much_meaning Bytes = codes "a DVI file can have at most 67,108,864 bytes"

-- what a refusal means
abbrev pub meaning : Status → List ℕ
meaning Done = []
meaning BadWords = []
meaning (ReadFault name) = codes "the file does not exist, is a directory, or cannot be read"
meaning (TooLong name) = codes "a font list can have at most 65,536 bytes, a TFM file 131,068, a source 4,194,304, and a DVI file 67,108,864"
meaning (WriteFault written) = codes "the output could not be written in full"
meaning (FontList line cause) = cause_text list_causes cause
meaning (BadTfm font cause) = font_cause cause
meaning (BadFamily fam size cause) = cause_text family_causes cause
meaning (BadSource offset cause) = cause_text byte_causes cause
meaning (BadFormula n token cause) = token_cause cause
meaning (Budget n) = codes "a formula can take at most 20,000 steps of macros and 50,000 tokens, and all formulas together 1,000,000 tokens"
meaning (MissingFamily n fam size) = codes "the family has no font at this size"
meaning (MissingChar n fam size code) = codes "the font does not have this character"
meaning (SmartLigature n fam size first second) = codes "a ligature that keeps one of its characters is not supported"
meaning (Overflow n value) = codes "a length or a position is 16384pt or more"
meaning (TooTall n count) = codes "a delimiter can repeat its piece at most 2,000 times"
meaning (TooDeep n token) = codes "at most 150 groups can be open"
meaning (TooMuch kind count) = too_much_meaning kind
meaning (BadDvi offset cause) = cause_text dvi_causes cause
meaning (BadPick page) = codes "the DVI file does not have this page"
meaning (MagClash file) = codes "the magnification is not that of file 0"
meaning (BadFile file offset cause) = cause_text dvi_causes cause
meaning OutOfMemory = codes "there is not enough memory"

abbrev pub much_subject : Much → ℕ → Subject
much_subject Pages count = subjects.Fault (numbers.Page count)
much_subject Places count = subjects.Places
much_subject Bytes count = subjects.Nothing

-- what it is about
abbrev pub subject_of : Status → Subject
subject_of Done = subjects.Nothing
subject_of BadWords = subjects.Nothing
subject_of (ReadFault name) = subjects.Unread
subject_of (TooLong name) = subjects.Nothing
subject_of (WriteFault written) = subjects.Nothing
subject_of (FontList line cause) = subjects.ListLine line
subject_of (BadTfm font cause) = subjects.Font font
subject_of (BadFamily fam size cause) = subjects.Family (record { family = fam; size = size; characters = characters.None })
subject_of (BadSource offset cause) = subjects.Byte offset cause
subject_of (BadFormula n token cause) = subjects.Fault (numbers.Token n token cause)
subject_of (Budget n) = subjects.Fault (numbers.Formula n)
subject_of (MissingFamily n fam size) = subjects.Formula n (Some (record { family = fam; size = size; characters = characters.None }))
subject_of (MissingChar n fam size code) = subjects.Formula n (Some (record { family = fam; size = size; characters = characters.One code }))
subject_of (SmartLigature n fam size first second) = subjects.Formula n (Some (record { family = fam; size = size; characters = characters.Pair first second }))
subject_of (Overflow n value) = subjects.Formula n None
subject_of (TooTall n count) = subjects.Formula n None
subject_of (TooDeep n token) = subjects.Fault (numbers.Token n token (cause_number TooManyGroups))
subject_of (TooMuch kind count) = much_subject kind count
subject_of (BadDvi offset cause) = subjects.Dvi (dvi.Byte offset cause)
subject_of (BadPick page) = subjects.Dvi dvi.Page
subject_of (MagClash file) = subjects.Dvi (dvi.Magnification file)
subject_of (BadFile file offset cause) = subjects.Dvi (dvi.ByteOfFile file offset cause)
subject_of OutOfMemory = subjects.Nothing

-- from what the answer of a step comes: the files, a read that failed, or lack of memory
pub data Origin : Type 0 where
  Told : Origin
  Lost : List ℕ → Origin
  Memory : Origin
  -- the status is none that a step answers
  Never : Origin

abbrev pub refusal_origin : Status → Origin
refusal_origin Done = Never
refusal_origin BadWords = Never
refusal_origin (ReadFault name) = Lost name
refusal_origin (WriteFault written) = Never
refusal_origin OutOfMemory = Memory
refusal_origin status = Told
