-- The step that reads a DVI file (`dvi_step`).
use Rattle.std.specs.Prelude.{ℕ, List, Result, Ok, Err}
use Rattle.mt_outside.specs.declared.files.Held.{Held}
use Rattle.mt_family.specs.SetValue.{SetValue}
use Rattle.mt_box.specs.declared.place.Place.{Place}
use Rattle.mt_dvi.specs.File.{Fault, pages_of}
use Rattle.mt_dviread.specs.Errors.{dvi_cause_number}
use Rattle.mt_dvi.specs.Limits.{max_dvi}
use Rattle.mt_pages.specs.Listing.{listing}
use Rattle.mathset.specs.Outcome.{Outcome, plain, ◌>>=◌}
use Rattle.mathset.specs.Reads.{file_of}
use Rattle.mathset.specs.Product.{Product, Text}
use Rattle.mt_status.specs.declared.status.Status.{Status}
use Rattle.mt_status.specs.declared.status.Status.TheVariants.{BadDvi}

-- a file that is refused: the offset of the opcode at fault, and the number of the cause
abbrev pub dvi_refusal : Fault → Status
dvi_refusal fault = BadDvi fault.at (dvi_cause_number fault.cause)

abbrev pub dvi_by : Result (List (List Place)) Fault → Result Product Status
dvi_by (Ok pages) = Ok (Text (listing pages))
dvi_by (Err fault) = Err (dvi_refusal fault)

-- the listing of a file's pages, or its first fault
abbrev pub dvi_listing : SetValue → List ℕ → Result Product Status
dvi_listing fonts bytes = dvi_by (pages_of fonts bytes)

-- the file is fetched and read
abbrev pub dvi_step : List ℕ → SetValue → List Held → Outcome Product
dvi_step name fonts files = do
  bytes ← file_of name max_dvi files
  plain (dvi_listing fonts bytes)
