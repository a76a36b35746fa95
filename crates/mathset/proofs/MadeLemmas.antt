-- Steps that set a source, and those that make a product of it.
use Rattle.std.proofs.Common.{◌≡◌, ℕ, List, refl, sym, ◌∙◌, ap}
use Rattle.std.specs.Prelude.{Some, Result, Ok, Err}
use Rattle.mt_outside.specs.declared.files.Held.{Held}
use Rattle.mt_pages.specs.Listing.{listing}
use Rattle.mt_pages.specs.Typeset.{TypesetValue}
use Rattle.mathset.specs.Outcome.{Outcome, plain, ◌>>=◌}
use Rattle.mathset.specs.Product.{Product, File, Text}
use Rattle.mathset.specs.Samples.{summed}
use Rattle.mathset.specs.declared.typesetting.Form.{Form}
use Rattle.mathset.specs.declared.typesetting.Form.TheVariants.{File as AsFile, Listing as AsListing, Summary as AsSummary}
use Rattle.mathset.specs.inner.Forms.{IsPutOut, StepPutsOut}
use Rattle.mathset.specs.inner.Steps.{CabinetValue, IsProduct, StepLeaves, StepMakes, text_of}
use Rattle.mathset.proofs.StepLemmas.{steady_pure, step_err, step_pure, step_then}
use Rattle.mt_status.specs.Origins.{IsPure, refusal_origin}
use Rattle.mt_status.specs.declared.status.Status.{Status}
use Rattle.mt_status.proofs.PureLemmas.{pure_by}

-- a file is fetched, and what it has is set
pub put_step : (before mid : CabinetValue) (first : List Held → Outcome (List ℕ)) (bytes : List ℕ) (next : List ℕ → Result TypesetValue Status) (form : Form) (result : Result (List ℕ) Status)
    → StepLeaves before mid first (Ok bytes) → IsPutOut form (next bytes) result → StepPutsOut before mid (λ files. first files >>= (λ b. plain (next b))) form result
put_step before mid first bytes next form (Ok out) one put = record {
  typeset = put.typeset;
  made = put.made;
  step = step_then before mid mid first bytes (λ b files. plain (next b)) (Ok put.typeset) one (step_pure mid (next bytes) (Ok put.typeset) put.is);
}
put_step before mid first bytes next form (Err status) one put = step_then before mid mid first bytes (λ b files. plain (next b)) (Err status) one (step_pure mid (next bytes) (Err status) put)

-- a step before those that set
pub puts_then : {T : Type 0} (before mid now : CabinetValue) (first : List Held → Outcome T) (x : T) (next : T → List Held → Outcome TypesetValue) (form : Form) (result : Result (List ℕ) Status)
    → StepLeaves before mid first (Ok x) → StepPutsOut mid now (next x) form result → StepPutsOut before now (λ files. first files >>= (λ y. next y files)) form result
puts_then before mid now first x next form (Ok out) one put = record { typeset = put.typeset; made = put.made; step = step_then before mid now first x next (Ok put.typeset) one put.step }
puts_then before mid now first x next form (Err status) one put = step_then before mid now first x next (Err status) one put

-- the product of a source that is set
product_step : (before now : CabinetValue) (steps : List Held → Outcome TypesetValue) (t : TypesetValue) (make : TypesetValue → Product) → StepLeaves before now steps (Ok t)
    → StepLeaves before now (λ files. steps files >>= (λ x. plain (Ok (make x)))) (Ok (make t))
product_step before now steps t make step = step_then before now now steps t (λ x files. plain (Ok (make x))) (Ok (make t)) step (step_pure now (Ok (make t)) (Ok (make t)) refl)

product_err : (before now : CabinetValue) (steps : List Held → Outcome TypesetValue) (status : Status) (make : TypesetValue → Product) → StepLeaves before now steps (Err status)
    → StepLeaves {T = Product} before now (λ files. steps files >>= (λ x. plain (Ok (make x)))) (Err status)
product_err before now steps status make step = step_err {T = TypesetValue} {U = Product} before now steps (λ files x. plain (Ok (make x))) status step

pub file_made : (before now : CabinetValue) (steps : List Held → Outcome TypesetValue) (result : Result (List ℕ) Status) → StepPutsOut before now steps AsFile result
    → StepMakes before now (λ files. steps files >>= (λ t. plain (Ok (File t)))) result
file_made before now steps (Ok bytes) put = record { product = File put.typeset; made = put.made.0; lean = put.made.1; step = product_step before now steps put.typeset (λ t. File t) put.step }
file_made before now steps (Err status) step = product_err before now steps status (λ t. File t) step

pub listing_made : (before now : CabinetValue) (steps : List Held → Outcome TypesetValue) (result : Result (List ℕ) Status) → StepPutsOut before now steps AsListing result
    → StepMakes before now (λ files. steps files >>= (λ t. plain (Ok (Text (listing t.pages))))) result
listing_made before now steps (Ok bytes) put = record { product = Text (listing put.typeset.pages); made = put.made; lean = tt; step = product_step before now steps put.typeset (λ t. Text (listing t.pages)) put.step }
listing_made before now steps (Err status) step = product_err before now steps status (λ t. Text (listing t.pages)) step

-- a text is a product
pub text_made : (before now : CabinetValue) (steps : List Held → Outcome Product) (result : Result (List ℕ) Status) → StepLeaves before now steps (text_of result) → StepMakes before now steps result
text_made before now steps (Ok bytes) step = record { product = Text bytes; made = refl; lean = tt; step = step }
text_made before now steps (Err status) step = step

-- a text that is made of no file of the cabinet
pub pure_made : (v : CabinetValue) (answer : Result Product Status) (result : Result (List ℕ) Status) → IsPure answer (text_of result) → StepMakes v v (λ files. plain answer) result
pure_made v answer result is = text_made v v (λ files. plain answer) result (step_pure v answer (text_of result) is)

-- over a cabinet that tells its files and counts no fault
pub summary_made : (before now : CabinetValue) (steps : List Held → Outcome TypesetValue) (formulas : ℕ) (result : Result (List ℕ) Status) (files : List Held) → before.holds ≡ Some files → before.faults ≡ 0 → now.faults ≡ 0
    → StepPutsOut before now steps (AsSummary formulas) result → IsPure (summed formulas (steps files).result) (text_of result)
summary_made before now steps formulas (Ok bytes) files told none still put =
    let is : (steps files).result ≡ Ok put.typeset = steady_pure before now steps (Ok put.typeset) files told none still put.step in
    ap (summed formulas) is ∙ ap (λ (b : List ℕ). Ok (Text b)) (sym put.made)
summary_made before now steps formulas (Err status) files told none still step =
    pure_by (refusal_origin status) _ _ (λ same. ap (summed formulas) same) (steady_pure before now steps (Err status) files told none still step)

-- a product that is made of no file of the cabinet
product_made : (v : CabinetValue) (answer : Result Product Status) (result : Result (List ℕ) Status) → IsProduct answer result → StepMakes v v (λ files. plain answer) result
product_made v answer (Ok bytes) is = record { product = is.product; made = is.made; lean = is.lean; step = step_pure v answer (Ok is.product) is.is }
product_made v answer (Err status) is = step_pure v answer (Err status) is

-- a step before those that make a product
pub made_then : {T : Type 0} (before mid now : CabinetValue) (first : List Held → Outcome T) (x : T) (next : T → List Held → Outcome Product) (result : Result (List ℕ) Status)
    → StepLeaves before mid first (Ok x) → StepMakes mid now (next x) result → StepMakes before now (λ files. first files >>= (λ y. next y files)) result
made_then before mid now first x next (Ok bytes) one two = record { product = two.product; made = two.made; lean = two.lean; step = step_then before mid now first x next (Ok two.product) one two.step }
made_then before mid now first x next (Err status) one two = step_then before mid now first x next (Err status) one two

-- a step before a product that is made of no other file
pub made_of : {T : Type 0} (before mid : CabinetValue) (first : List Held → Outcome T) (x : T) (answer : T → Result Product Status) (result : Result (List ℕ) Status)
    → StepLeaves before mid first (Ok x) → IsProduct (answer x) result → StepMakes before mid (λ files. first files >>= (λ y. plain (answer y))) result
made_of before mid first x answer result one is = made_then before mid mid first x (λ y files. plain (answer y)) result one (product_made mid (answer x) result is)
