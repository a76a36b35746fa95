-- What is made of the pages of a source: a DVI file (`IsFileOfSource`), a listing, a summary.
use Rattle.std.specs.Prelude.{◌≡◌, ℕ, List, Result, Ok, Err}
use Rattle.mt_family.specs.SetValue.{SetValue}
use Rattle.mt_box.specs.declared.place.Place.{Place}
use Rattle.mt_dvi.specs.Lean.{Lean}
use Rattle.mt_dvi.specs.Written.{Written}
use Rattle.mt_scaled.specs.Results.{◌>>=◌}
use Rattle.mt_pages.specs.Listing.{listing, summary}
use Rattle.mt_status.specs.Origins.{IsPure}
use Rattle.mt_status.specs.declared.status.Status.{Status}

-- the bytes are a DVI file of the pages that are the answer, and it is lean
pub record IsFileOfPages (fonts : SetValue) (answer : Result (List (List Place)) Status) (bytes : List ℕ) : Type 0 where
  pub pages : List (List Place)
  pub is : answer ≡ Ok pages
  pub written : Written fonts bytes pages
  pub lean : Lean fonts bytes

-- or the refusal is the answer, or memory ran out
abbrev pub IsFileOfSource : SetValue → Result (List (List Place)) Status → Result (List ℕ) Status → Type 0
IsFileOfSource fonts answer (Ok bytes) = IsFileOfPages fonts answer bytes
IsFileOfSource fonts answer (Err status) = IsPure answer (Err status)

-- the listing of the pages, or the refusal
abbrev pub listed : Result (List (List Place)) Status → Result (List ℕ) Status
listed pages = do
  p ← pages
  Ok (listing p)

-- the summary of the pages, which so many formulas gave, or the refusal
abbrev pub summed_up : ℕ → Result (List (List Place)) Status → Result (List ℕ) Status
summed_up formulas pages = do
  p ← pages
  Ok (summary formulas p)
