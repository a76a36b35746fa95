-- Files that are fetched one after another, and the pages that are copied of them.
use Rattle.std.proofs.Common.{◌≡◌, ◌∙◌, ℕ, zero, suc, ◌+◌, ◌<◌, ◌≤◌, List, [], ◌∷◌, ◌++◌, length, get_or, drop, refl, sym, ap, subst, add-one, arith}
use Rattle.std.specs.Prelude.{Option, Some, None, IfSome, IsSomeAnd, Result, Ok, Err, map}
use Rattle.std.specs.Borrow.{Bor}
use Rattle.std.proofs.lemmas.List.{drop_all}
use Rattle.mt_outside.specs.declared.files.Held.{Held}
use Rattle.mt_dvi.specs.Limits.{max_dvi}
use Rattle.mt_dvi.specs.File.{Fault}
use Rattle.mt_dviread.specs.declared.error.DviError.{DviError}
use Rattle.mt_dviops.specs.Copied.{BadFile, Refusal}
use Rattle.mt_dviops.specs.Refused.{Refuses}
use Rattle.mt_dviops.specs.declared.error.OpError.{OpError}
use Rattle.mt_dviops.specs.declared.error.OpError.TheVariants as errors
use Rattle.mathset.specs.CopySteps.{copy_by, files_step, join_refusal, pick_refusal}
use Rattle.mathset.specs.Outcome.{Outcome}
use Rattle.mathset.specs.Product.{CopyValue, Copy, Makes, Product}
use Rattle.mathset.specs.Reads.{file_of}
use Rattle.mathset.specs.inner.Steps.{CabinetValue, HasProduct, StepLeaves}
use Rattle.mathset.proofs.StepLemmas.{IsSame, Leads, leads_on, leads_then, step_err, step_leads}
use Rattle.mt_status.specs.Origins.{IsPure}
use Rattle.mt_status.specs.declared.status.Status.{Status}

-- the file of copied pages is the product
pub copy_made : (refused : Refusal → Status) (copy : CopyValue) (answer : Result (List ℕ) Refusal) (bytes : List ℕ) → answer ≡ Ok bytes → Makes (Copy copy) bytes → HasProduct (copy_by refused copy answer) bytes
copy_made refused copy (Ok b) bytes is made = record { product = Copy copy; is = refl; made = made; lean = tt }
copy_made refused copy (Err refusal) bytes is made = absurd (cc)

-- a file at fault
pub join_told : (copy : CopyValue) (answer : Result (List ℕ) Refusal) (file : ℕ) (fault : Option Fault) (status : Status) → IfSome fault (λ f. status ≡ join_refusal (BadFile file f))
    → IsSomeAnd fault (λ f. answer ≡ Err (BadFile file f)) → IsPure (copy_by join_refusal copy answer) (Err status)
join_told copy answer file None status is told = absurd told
join_told copy answer file (Some f) status is told = subst (λ (s : Status). IsPure (copy_by join_refusal copy answer) (Err s)) (sym is) (ap (copy_by join_refusal copy) told)

pub pick_told : (copy : CopyValue) (answer : Result (List ℕ) Refusal) (file : ℕ) (fault : Option Fault) (status : Status) → IfSome fault (λ f. status ≡ pick_refusal (BadFile file f))
    → IsSomeAnd fault (λ f. answer ≡ Err (BadFile file f)) → IsPure (copy_by pick_refusal copy answer) (Err status)
pick_told copy answer file None status is told = absurd told
pick_told copy answer file (Some f) status is told = subst (λ (s : Status). IsPure (copy_by pick_refusal copy answer) (Err s)) (sym is) (ap (copy_by pick_refusal copy) told)

moved : (copy : CopyValue) (answer : Result (List ℕ) Refusal) (refusal : Refusal) (status : Status) → pick_refusal refusal ≡ join_refusal refusal → answer ≡ Err refusal
    → IsPure (copy_by join_refusal copy answer) (Err status) → IsPure (copy_by pick_refusal copy answer) (Err status)
moved copy answer refusal status same told is =
    let joins = ap (copy_by join_refusal copy) told in
    let picks = ap (copy_by pick_refusal copy) told in
    let both : copy_by pick_refusal copy answer ≡ copy_by join_refusal copy answer = picks ∙ ap (λ (s : Status). Err s) same ∙ sym joins in
    subst (λ (r : Result Product Status). IsPure r (Err status)) (sym both) is

-- every other refusal is the same where pages are picked
pub pick_as_join : (error : OpError) (copy : CopyValue) (answer : Result (List ℕ) Refusal) (status : Status) → ((file : ℕ) (cause : DviError) → error ≡ errors.BadFile file cause → ⊥) → (error ≡ errors.OutOfMemory → ⊥)
    → Refuses error answer → IsPure (copy_by join_refusal copy answer) (Err status) → IsPure (copy_by pick_refusal copy answer) (Err status)
pick_as_join (errors.BadFile file cause) copy answer status bad memory told is = absurd (bad file cause refl)
pick_as_join (errors.PageOutOfRange page) copy answer status bad memory told is = moved copy answer _ status refl told is
pick_as_join (errors.MagClash file) copy answer status bad memory told is = moved copy answer _ status refl told is
pick_as_join (errors.TooManyPages count) copy answer status bad memory told is = moved copy answer _ status refl told is
pick_as_join (errors.TooManyPlaces count) copy answer status bad memory told is = moved copy answer _ status refl told is
pick_as_join (errors.TooLong count) copy answer status bad memory told is = moved copy answer _ status refl told is
pick_as_join errors.OutOfMemory copy answer status bad memory told is = absurd (memory refl)

abbrev said : List (Bor (List ℕ)) → List (List ℕ)
said names = map (λ (name : Bor (List ℕ)). name.now) names

name_at : (names : List (Bor (List ℕ))) (i : ℕ) (d : Bor (List ℕ)) → i < length names → drop i (said names) ≡ (get_or names i d).now ∷ drop (suc i) (said names)
name_at [] i d lt = absurd (omega (arith, lt))
name_at (name ∷ names) zero d lt = refl
name_at (name ∷ names) (suc i) d lt = name_at names i d (omega (arith, lt))

past_all : (names : List (Bor (List ℕ))) (i : ℕ) → length names ≤ i → drop i (said names) ≡ []
past_all [] i past = drop_all i [] (omega arith)
past_all (name ∷ names) zero past = absurd (omega (arith, past))
past_all (name ∷ names) (suc i) past = past_all names i (omega (arith, past))

-- a file after those that were fetched
pub files_lead : (whole : Outcome (List (List ℕ))) (names : List (Bor (List ℕ))) (held : List Held) (i : ℕ) (d : Bor (List ℕ)) (fetched : List (List ℕ)) (bytes : List ℕ) → i < length names
    → (file_of (get_or names i d).now max_dvi held).result ≡ Ok bytes → Leads whole (files_step fetched (drop i (said names)) held)
    → Leads whole (files_step (fetched ++ bytes ∷ []) (drop (i + 1) (said names)) held)
files_lead whole names held i d fetched bytes lt is so_far =
    rw add-one
    (leads_on whole _ _ (subst (λ (l : List (List ℕ)). Leads whole (files_step fetched l held)) (name_at names i d lt) so_far)
    (leads_then (file_of (get_or names i d).now max_dvi held) bytes (λ b. files_step (fetched ++ b ∷ []) (drop (suc i) (said names)) held) is))

-- the next file is refused
pub files_err : (before mid now : CabinetValue) (names : List (Bor (List ℕ))) (i : ℕ) (d : Bor (List ℕ)) (fetched : List (List ℕ)) (status : Status) → i < length names
    → IsSame before mid → ((held : List Held) → before.holds ≡ Some held → Leads (files_step [] (said names) held) (files_step fetched (drop i (said names)) held))
    → StepLeaves mid now (file_of (get_or names i d).now max_dvi) (Err status) → StepLeaves before now (files_step [] (said names)) (Err status)
files_err before mid now names i d fetched status lt same leads step =
    step_leads {T = List (List ℕ)} before mid now (files_step [] (said names)) (files_step fetched ((get_or names i d).now ∷ drop (suc i) (said names))) (Err status) same
    (λ held is. subst (λ (l : List (List ℕ)). Leads (files_step [] (said names) held) (files_step fetched l held)) (name_at names i d lt) (leads held is))
    (step_err {T = List ℕ} {U = List (List ℕ)} mid now (file_of (get_or names i d).now max_dvi) (λ held b. files_step (fetched ++ b ∷ []) (drop (suc i) (said names)) held) status step)

-- all files are fetched
pub files_done : (before now : CabinetValue) (names : List (Bor (List ℕ))) (i : ℕ) (fetched result : List (List ℕ)) → length names ≤ i → result ≡ fetched
    → IsSame before now → ((held : List Held) → before.holds ≡ Some held → Leads (files_step [] (said names) held) (files_step fetched (drop i (said names)) held))
    → StepLeaves before now (files_step [] (said names)) (Ok result)
files_done before now names i fetched result past is same leads = record {
  kept = same.holds;
  origin = (
    same.faults,
    λ held told.
        (leads held told).result ∙ ap (λ (l : List (List ℕ)). (files_step fetched l held).result) (past_all names i past) ∙ ap (λ (l : List (List ℕ)). Ok l) (sym is),
  );
}
