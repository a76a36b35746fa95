-- The steps of a command (`request_steps`), from the files to the product.
use Rattle.std.specs.Prelude.{ℕ, ℤ, List, Result, Ok}
use Rattle.mt_outside.specs.declared.files.Held.{Held}
use Rattle.mt_family.specs.SetValue.{SetValue}
use Rattle.mt_token.specs.Tokens.{max_source}
use Rattle.mathset.specs.CopySteps.{join_step, pick_step}
use Rattle.mathset.specs.DviSteps.{dvi_step}
use Rattle.mathset.specs.FontSteps.{font_set_step}
use Rattle.mt_pages.specs.Listing.{listing}
use Rattle.mathset.specs.Outcome.{Outcome, plain, ◌>>=◌}
use Rattle.mathset.specs.Reads.{file_of}
use Rattle.mt_words.specs.RequestValues.{SourceValue, DviValue, DviPagesValue, DviFilesValue, SampleValue}
use Rattle.mathset.specs.Samples.{sample_files, sample_words, summed}
use Rattle.mt_pages.specs.Typeset.{TypesetValue, typeset_of}
use Rattle.mathset.specs.Product.{Product, File, Text}
use Rattle.mt_status.specs.declared.status.Status.{Status}
use Rattle.mt_words.specs.declared.request.Request.{Request}
use Rattle.mt_words.specs.declared.request.Request.TheVariants.{Set, Places, Read, Pick, Join, Gen}

-- the source is fetched and set
abbrev pub source_step : List ℕ → ℤ → SetValue → List Held → Outcome TypesetValue
source_step name width fonts files = do
  source ← file_of name max_source files
  plain (typeset_of fonts width source)

-- the fonts, then the source
abbrev pub typeset_steps : SourceValue → List Held → Outcome TypesetValue
typeset_steps words files = do
  fonts ← font_set_step words.fonts files
  source_step words.source words.line fonts files

-- `set`: the product is the DVI file of the source's pages
abbrev pub set_steps : SourceValue → List Held → Outcome Product
set_steps words files = do
  typeset ← typeset_steps words files
  plain (Ok (File typeset))

-- `places`: the product is the listing of the same pages
abbrev pub places_steps : SourceValue → List Held → Outcome Product
places_steps words files = do
  typeset ← typeset_steps words files
  plain (Ok (Text (listing typeset.pages)))

-- `read`: the product is the listing of a DVI file's pages
abbrev pub read_steps : DviValue → List Held → Outcome Product
read_steps words files = do
  fonts ← font_set_step words.fonts files
  dvi_step words.dvi fonts files

-- `pick`: the product is the DVI file of chosen pages of a DVI file
abbrev pub pick_steps : DviPagesValue → List Held → Outcome Product
pick_steps words files = do
  fonts ← font_set_step words.fonts files
  pick_step words.dvi words.pages fonts files

-- `join`: the product is the DVI file of all pages of DVI files
abbrev pub join_steps : DviFilesValue → List Held → Outcome Product
join_steps words files = do
  fonts ← font_set_step words.fonts files
  join_step words.files fonts files

-- `gen`: the product is the summary of a generated source, set with the toy fonts. No file is asked for.
abbrev pub gen_answer : SampleValue → Result Product Status
gen_answer words = summed words.count (typeset_steps sample_words (sample_files words.seed words.count)).result

abbrev pub gen_steps : SampleValue → List Held → Outcome Product
gen_steps words files = plain (gen_answer words)

abbrev pub request_steps : Request → List Held → Outcome Product
request_steps (Set words) files = set_steps words files
request_steps (Places words) files = places_steps words files
request_steps (Read words) files = read_steps words files
request_steps (Pick words) files = pick_steps words files
request_steps (Join words) files = join_steps words files
request_steps (Gen words) files = gen_steps words files
