-- The pages of a file as they are copied (`source_file_of`).
use Rattle.std.specs.Prelude.{ℕ, ◌+◌, ℤ, List, [], ◌∷◌, ◌++◌, length, max, take, Option, Some, None, Result, Ok, Err}
use Rattle.mt_family.specs.SetValue.{SetValue}
use Rattle.mt_dvi.specs.Opcodes.{fnt_num_0}
use Rattle.mt_dvi.specs.Codes.{Operation, Bop, Eop, Select, Define, operation}
use Rattle.mt_dvi.specs.File.{Fault, empty_page, Page, Phase, BetweenPages, InPage, Reading, read}
use Rattle.mt_dviops.specs.Walk.{Step, walked}

-- a page as it is copied: the bytes of its ten counts, the bytes between bop and eop, the fonts that it selects by
-- their numbers in the set, the greatest depth of its stack, and the page as the machine read it
pub record SourcePage : Type 0 where
  pub counts : List ℕ
  pub body : List ℕ
  pub selected : List ℕ
  pub depth : ℕ
  pub page : Page

-- a page as bop begins it
abbrev pub empty_source : List ℕ → SourcePage
empty_source counts = record { counts = counts; body = []; selected = []; depth = 0; page = empty_page [] }

-- the pages that have ended, and the page that has begun
pub record Source : Type 0 where
  pub pages : List SourcePage
  pub page : SourcePage

abbrev pub no_source : Source
no_source = record { pages = []; page = empty_source [] }

-- a font is selected by its number in the set; the machine has one selected after the opcode
abbrev pub copy_selection : SourcePage → Option ℕ → SourcePage
copy_selection page None = page
copy_selection page (Some n) =
    record page { body = page.body ++ (fnt_num_0 + n) ∷ []; selected = page.selected ++ n ∷ [] }

-- an opcode of a page: a definition is left out, a selection is made anew, and all others stay byte for byte
abbrev pub copy_opcode : SourcePage → Operation → Step → SourcePage
copy_opcode page (Define d) step = page
copy_opcode page (Select number) step = copy_selection page step.after.machine.font
copy_opcode page op step = record page {
  body = page.body ++ step.code ∷ step.operands;
  depth = max page.depth (length step.after.machine.saved);
}

abbrev pub copy_between : Source → Operation → Step → Source
copy_between source (Bop counts pointer) step = record source { page = empty_source (take 40 step.operands) }
copy_between source op step = source

abbrev pub copy_in_page : Source → Operation → Step → Source
copy_in_page source Eop step = record source {
  pages = source.pages ++ record (source.page) { page = step.before.page } ∷ [];
}
copy_in_page source op step = record source { page = copy_opcode source.page op step }

abbrev pub copy_step_in : Phase → Source → Operation → Step → Source
copy_step_in BetweenPages source op step = copy_between source op step
copy_step_in InPage source op step = copy_in_page source op step
copy_step_in phase source op step = source

abbrev pub copy_step : Source → Step → Source
copy_step source step = copy_step_in step.before.phase source (operation step.code step.operands) step

-- the pages of the opcodes of a file
abbrev pub walked_pages : SetValue → List ℕ → List SourcePage
walked_pages fonts bytes = (walked fonts copy_step no_source bytes).pages

-- a file that the machine reads to its end: its magnification, and its pages
pub record SourceFile : Type 0 where
  pub mag : ℤ
  pub pages : List SourcePage

abbrev pub source_by : Reading → List SourcePage → Result SourceFile Fault
source_by (Ok file) pages = Ok (record { mag = file.mag; pages = pages })
source_by (Err fault) pages = Err fault

-- the pages of a file as they are copied, or its first fault
unfoldable pub source_file_of : SetValue → List ℕ → Result SourceFile Fault
source_file_of fonts bytes = source_by (read fonts bytes) (walked_pages fonts bytes)
