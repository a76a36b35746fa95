-- The pages of a source, in the form in which they are put out.
use Rattle.std.proofs.Common.{◌≡◌, ℕ, List, refl, ap}
use Rattle.std.specs.Prelude.{ℤ, Result, Ok, Err}
use Rattle.mt_scaled.specs.Results.{◌>>=◌}
use Rattle.mt_family.specs.SetValue.{SetValue}
use Rattle.mt_box.specs.declared.place.Place.{Place}
use Rattle.mt_pages.specs.Listing.{listing, summary}
use Rattle.mt_pages.specs.Output.{IsFileOfSource, listed, summed_up}
use Rattle.mt_pages.specs.Pages.{source_pages}
use Rattle.mt_pages.specs.Typeset.{TypesetValue, typeset_of}
use Rattle.mathset.specs.declared.typesetting.Form.TheVariants.{File as AsFile, Listing as AsListing, Summary as AsSummary}
use Rattle.mathset.specs.inner.Forms.{IsPutOut}
use Rattle.mt_status.specs.Origins.{IsPure, refusal_origin}
use Rattle.mt_status.specs.declared.status.Status.{Status}
use Rattle.mt_status.proofs.PureLemmas.{pure_by, pure_err}

abbrev set_in : SetValue → Result (List (List Place)) Status → Result TypesetValue Status
set_in fonts answer = answer >>= (λ pages. Ok (record { fonts = fonts; pages = pages }))

file_by : (fonts : SetValue) (answer : Result (List (List Place)) Status) (result : Result (List ℕ) Status) → IsFileOfSource fonts answer result → IsPutOut AsFile (set_in fonts answer) result
file_by fonts answer (Ok bytes) file = record {
  typeset = record { fonts = fonts; pages = file.pages };
  is = ap (set_in fonts) file.is;
  made = (file.written, file.lean);
}
file_by fonts answer (Err status) is = pure_err answer (λ pages. Ok (record { fonts = fonts; pages = pages })) status is

pub file_put : (fonts : SetValue) (width : ℤ) (source : List ℕ) (result : Result (List ℕ) Status) → IsFileOfSource fonts (source_pages fonts width source) result → IsPutOut AsFile (typeset_of fonts width source) result
file_put fonts width source result is = file_by fonts (source_pages fonts width source) result is

text_refused : (make : List (List Place) → List ℕ) (fonts : SetValue) (answer : Result (List (List Place)) Status) (status : Status) → (let r : Result (List ℕ) Status = answer >>= (λ pages. Ok (make pages)) in r) ≡ Err status
    → set_in fonts answer ≡ Err status
text_refused make fonts (Ok pages) status is = absurd (cc)
text_refused make fonts (Err e) status is = let same : e ≡ status = cc in ap Err same

listing_by : (fonts : SetValue) (answer : Result (List (List Place)) Status) (result : Result (List ℕ) Status) → IsPure (listed answer) result → IsPutOut AsListing (set_in fonts answer) result
listing_by fonts (Ok pages) (Ok text) is = record { typeset = record { fonts = fonts; pages = pages }; is = refl; made = (let same : text ≡ listing pages = cc in same) }
listing_by fonts (Err e) (Ok text) is = absurd (cc)
listing_by fonts answer (Err status) is = pure_by (refusal_origin status) _ _ (λ same. text_refused listing fonts answer status same) is

pub listing_put : (fonts : SetValue) (width : ℤ) (source : List ℕ) (result : Result (List ℕ) Status) → IsPure (listed (source_pages fonts width source)) result → IsPutOut AsListing (typeset_of fonts width source) result
listing_put fonts width source result is = listing_by fonts (source_pages fonts width source) result is

summary_by : (fonts : SetValue) (formulas : ℕ) (answer : Result (List (List Place)) Status) (result : Result (List ℕ) Status) → IsPure (summed_up formulas answer) result → IsPutOut (AsSummary formulas) (set_in fonts answer) result
summary_by fonts formulas (Ok pages) (Ok text) is = record { typeset = record { fonts = fonts; pages = pages }; is = refl; made = (let same : text ≡ summary formulas pages = cc in same) }
summary_by fonts formulas (Err e) (Ok text) is = absurd (cc)
summary_by fonts formulas answer (Err status) is = pure_by (refusal_origin status) _ _ (λ same. text_refused (summary formulas) fonts answer status same) is

pub summary_put : (fonts : SetValue) (width : ℤ) (source : List ℕ) (formulas : ℕ) (result : Result (List ℕ) Status) → IsPure (summed_up formulas (source_pages fonts width source)) result
    → IsPutOut (AsSummary formulas) (typeset_of fonts width source) result
summary_put fonts width source formulas result is = summary_by fonts formulas (source_pages fonts width source) result is
