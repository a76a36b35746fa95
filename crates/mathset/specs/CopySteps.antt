-- The steps that copy pages of DVI files (`pick_step`, `join_step`).
use Rattle.std.specs.Prelude.{ℕ, List, [], ◌∷◌, ◌++◌, Result, Ok, Err}
use Rattle.mt_outside.specs.declared.files.Held.{Held}
use Rattle.mt_family.specs.SetValue.{SetValue}
use Rattle.mt_dvi.specs.Limits.{max_dvi}
use Rattle.mt_dviread.specs.Errors.{dvi_cause_number}
use Rattle.mt_dviops.specs.Copied.{Numbered, Every, Refusal, PageOutOfRange, TooManyPages, TooManyPlaces, copied}
use Rattle.mt_dviops.specs.Copied.{BadFile as FileFault, MagClash as OtherMag, TooLong as TooManyBytes}
use Rattle.mathset.specs.DviSteps.{dvi_refusal}
use Rattle.mathset.specs.Outcome.{Outcome, plain, ◌>>=◌}
use Rattle.mathset.specs.Product.{CopyValue, Product, Copy}
use Rattle.mathset.specs.Reads.{file_of}
use Rattle.mt_status.specs.declared.status.Much.TheVariants.{Pages, Places, Bytes}
use Rattle.mt_status.specs.declared.status.Status.{Status}
use Rattle.mt_status.specs.declared.status.Status.TheVariants.{TooMuch, BadPick, MagClash, BadFile}

-- why there is no file of joined files: a file at fault is reported by its number from 0
abbrev pub join_refusal : Refusal → Status
join_refusal (FileFault file fault) = BadFile file fault.at (dvi_cause_number fault.cause)
join_refusal (PageOutOfRange page) = BadPick page
join_refusal (OtherMag file) = MagClash file
join_refusal (TooManyPages count) = TooMuch Pages count
join_refusal (TooManyPlaces count) = TooMuch Places count
join_refusal (TooManyBytes count) = TooMuch Bytes count

-- why there is no file of picked pages: a fault of the only file is that of `read`
abbrev pub pick_refusal : Refusal → Status
pick_refusal (FileFault file fault) = dvi_refusal fault
pick_refusal refusal = join_refusal refusal

abbrev pub copy_by : (Refusal → Status) → CopyValue → Result (List ℕ) Refusal → Result Product Status
copy_by refused copy (Ok bytes) = Ok (Copy copy)
copy_by refused copy (Err refusal) = Err (refused refusal)

-- the file of these copied pages, or the first refusal
abbrev pub copy_of : (Refusal → Status) → CopyValue → Result Product Status
copy_of refused copy = copy_by refused copy (copied copy.fonts copy.files copy.choice)

-- pages of one file, by their numbers
abbrev pub picked : List ℕ → SetValue → List ℕ → Result Product Status
picked pages fonts bytes = copy_of pick_refusal (record { fonts = fonts; files = bytes ∷ []; choice = Numbered pages })

-- all pages of these files
abbrev pub joined_files : SetValue → List (List ℕ) → Result Product Status
joined_files fonts files = copy_of join_refusal (record { fonts = fonts; files = files; choice = Every })

-- the file is fetched, and its pages are copied
abbrev pub pick_step : List ℕ → List ℕ → SetValue → List Held → Outcome Product
pick_step name pages fonts files = do
  bytes ← file_of name max_dvi files
  plain (picked pages fonts bytes)

-- the files of names, after those that were fetched before
abbrev pub files_step : List (List ℕ) → List (List ℕ) → List Held → Outcome (List (List ℕ))
files_step fetched [] files = plain (Ok fetched)
files_step fetched (name ∷ names) files = do
  bytes ← file_of name max_dvi files
  files_step (fetched ++ bytes ∷ []) names files

-- all files are fetched before the first is read
abbrev pub join_step : List (List ℕ) → SetValue → List Held → Outcome Product
join_step names fonts files = do
  fetched ← files_step [] names files
  plain (joined_files fonts fetched)
