-- The statuses of what is wrong with fonts: of a font list (`list_refusal`), a font (`font_refusal`), the set of them (`font_set_refusal`).
use Rattle.std.specs.Prelude.{ℕ, Option, Some, None, Result, Ok, Err}
use Rattle.mt_tfm.specs.Errors.{tfm_error_number}
use Rattle.mt_tfm.specs.Font.{Metrics}
use Rattle.mt_tfm.specs.declared.error.TfmError.{TfmError}
use Rattle.mt_tfm.specs.declared.error.TfmError.TheVariants.{OutOfMemory as NoFontMemory}
use Rattle.mt_family.specs.declared.error.ListError.{ListError}
use Rattle.mt_family.specs.declared.error.SetError.{SetError}
use Rattle.mt_family.specs.declared.error.SetError.TheVariants.{SameFont}
use Rattle.mt_family.specs.Errors.{SizedFamily, list_error_number, list_error_place, set_error_family, set_error_number}
use Rattle.mt_family.specs.ListFacts.{ListValue}
use Rattle.mt_family.specs.SetValue.{SetValue}
use Rattle.mt_status.specs.Meanings.{same_font}
use Rattle.mt_status.specs.declared.status.Status.{Status}
use Rattle.mt_status.specs.declared.status.Status.TheVariants.{FontList, BadTfm, BadFamily, OutOfMemory}

-- the line at fault, and the number of the cause; lack of memory has no line
abbrev pub list_line : Option ℕ → ℕ → Status
list_line (Some line) cause = FontList line cause
list_line None cause = OutOfMemory

-- a font list that is refused
abbrev pub list_refusal : ListError → Status
list_refusal e = list_line (list_error_place e) (list_error_number e)

abbrev pub list_by : Result ListValue ListError → Result ListValue Status
list_by (Ok list) = Ok list
list_by (Err e) = Err (list_refusal e)

-- a font that is refused: its number in the list, and the number of the cause
abbrev pub font_refusal : ℕ → TfmError → Status
font_refusal n NoFontMemory = OutOfMemory
font_refusal n e = BadTfm n (tfm_error_number e)

abbrev pub font_by : ℕ → Option TfmError → Metrics → Result Metrics Status
font_by n None metrics = Ok metrics
font_by n (Some fault) metrics = Err (font_refusal n fault)

-- the family and the size, and the number of the cause; lack of memory has no family
abbrev pub family_refusal : Option SizedFamily → ℕ → Status
family_refusal (Some family) cause = BadFamily family.0 family.1 cause
family_refusal None cause = OutOfMemory

-- a set that is refused: a font, or a family at a size
abbrev pub font_set_refusal : SetError → Status
font_set_refusal (SameFont font) = BadTfm font same_font
font_set_refusal e = family_refusal (set_error_family e) (set_error_number e)

abbrev pub font_set_by : Option SetError → SetValue → Result SetValue Status
font_set_by None set = Ok set
font_set_by (Some e) set = Err (font_set_refusal e)
