-- What `copied` makes of all pages of several files (`bad_files`, `joins`, `clashes`, `all_joined`, `too_many_joined`).
use Rattle.std.proofs.Common.{◌≡◌, ℕ, ◌+◌, ◌<◌, ◌≤◌, List, [], ◌∷◌, length, get_or, refl, sym, ◌∙◌, ap, arith}
use Rattle.std.specs.Prelude.{Bool, true, false, not, cond, ℤ, Option, Some, None, Ok, Err}
use Rattle.std.specs.List.{position, position_from}
use Rattle.std.specs.Ordering.{int_eq}
use Rattle.std.proofs.lemmas.Iterator.Adapters.{position_from-zero}
use Rattle.mt_scaled.specs.Results.{◌>>=◌, ◌>>◌}
use Rattle.mt_family.specs.SetValue.{SetValue}
use Rattle.mt_dvi.specs.Limits.{max_dvi_pages}
use Rattle.mt_dviops.specs.declared.copies.Copies.{Copies}
use Rattle.mt_dviops.specs.Source.{SourceFile}
use Rattle.mt_dviops.specs.Copied.{CopyAnswer, Every, MagClash, Refusal, TooManyPages, all_pages, copied, copied_pages, files_answer, mag_of, test_mags}
use Rattle.mt_dviops.specs.inner.Chosen.{AllHold, has_other_mag}
use Rattle.mt_dviops.proofs.Refusals.{pages_refused}

abbrev pub clash_of : Option ℕ → CopyAnswer Unit
clash_of None = Ok tt
clash_of (Some k) = Err (MagClash k)

mags_from : (fonts : SetValue) (mag : ℤ) (k : ℕ) (copies : List Copies) (list : List SourceFile) → AllHold fonts copies list → test_mags mag k list ≡ clash_of (position_from (has_other_mag mag) k copies)
mags_from fonts mag k [] [] all = refl
mags_from fonts mag k [] (x ∷ list) all = absurd all
mags_from fonts mag k (c ∷ copies) [] all = absurd all
mags_from fonts mag k (c ∷ copies) (x ∷ list) (one, all) = by (int_eq c.mag mag) (ap (λ (z : ℤ). int_eq z mag) one.mag) (mags_from fonts mag (k + 1) copies list all) where
  by : (b : Bool) → int_eq x.mag mag ≡ b → test_mags mag (k + 1) list ≡ clash_of (position_from (has_other_mag mag) (k + 1) copies)
      → test_mags mag k (x ∷ list) ≡ clash_of (cond (not b) (Some k) (position_from (has_other_mag mag) (k + 1) copies))
  by true e ih = rw e ih
  by false e ih = rw e refl

mags_at : (fonts : SetValue) (mag : ℤ) (copies : List Copies) (list : List SourceFile) (o : Option ℕ) → AllHold fonts copies list → position (has_other_mag mag) copies ≡ o → test_mags mag 0 list ≡ clash_of o
mags_at fonts mag copies list o all e = mags_from fonts mag 0 copies list all ∙ ap clash_of (sym (position_from-zero (has_other_mag mag) copies) ∙ e)

first_mag : (fonts : SetValue) (copies : List Copies) (list : List SourceFile) (c : Copies) → AllHold fonts copies list → 1 ≤ length copies → mag_of list ≡ (get_or copies 0 c).mag
first_mag fonts [] list c all some = absurd (omega (arith, some))
first_mag fonts (x ∷ copies) [] c all some = absurd all
first_mag fonts (x ∷ copies) (y ∷ list) c (one, all) some = one.mag

pub bad_files : (fonts : SetValue) (files : List (List ℕ)) (r : Refusal) → files_answer fonts 0 files ≡ Err r → copied fonts files Every ≡ Err r
unfolding copied
bad_files fonts files r e = rw e refl

-- the answer where the files are read, by the first file with another magnification
by_mags : (fonts : SetValue) (files : List (List ℕ)) (list : List SourceFile) (mag : ℤ) (t : CopyAnswer Unit) → files_answer fonts 0 files ≡ Ok list → mag_of list ≡ mag → test_mags mag 0 list ≡ t
    → copied fonts files Every ≡ ((t >> Ok (all_pages list)) >>= (λ pages. copied_pages fonts mag pages))
unfolding copied
by_mags fonts files list mag t is m e = rw (is, m, e) refl

-- what is known of the files that are kept: what they are, their magnification, and the first with another one
pub record Joins (fonts : SetValue) (files : List (List ℕ)) (copies : List Copies) (list : List SourceFile) (mag : ℤ) (other : Option ℕ) : Type 0 where
  pub is : files_answer fonts 0 files ≡ Ok list
  pub held : AllHold fonts copies list
  pub mag_is : mag_of list ≡ mag
  pub test : test_mags mag 0 list ≡ clash_of other

pub joins : (fonts : SetValue) (files given : List (List ℕ)) (copies lent : List Copies) (list : List SourceFile) (first : Copies) (mag known : ℤ) (other found : Option ℕ) → given ≡ files
    → files_answer fonts 0 given ≡ Ok list → AllHold fonts copies list → length copies ≡ length given → 1 ≤ length files → first ≡ get_or copies 0 first → known ≡ first.mag → mag ≡ known
    → lent ≡ copies → found ≡ position (has_other_mag mag) lent → found ≡ other → Joins fonts files copies list mag other
joins fonts files given copies lent list first mag known other found same is all n some at of_first kept l f o =
    let long = ap length same in
    let there : 1 ≤ length copies = omega (arith, n, long, some) in
    record {
      is = ap (files_answer fonts 0) (sym same) ∙ is;
      held = all;
      mag_is = first_mag fonts copies list first all there ∙ ap (λ (x : Copies). x.mag) (sym at) ∙ sym of_first ∙ sym kept;
      test = mags_at fonts mag copies list other all (ap (λ (x : List Copies). position (has_other_mag mag) x) (sym l) ∙ sym f ∙ o);
    }

pub clashes : (fonts : SetValue) (files : List (List ℕ)) (copies : List Copies) (list : List SourceFile) (mag : ℤ) (k : ℕ) → Joins fonts files copies list mag (Some k) → copied fonts files Every ≡ Err (MagClash k)
clashes fonts files copies list mag k j = by_mags fonts files list mag (clash_of (Some k)) j.is j.mag_is j.test

pub all_joined : (fonts : SetValue) (files : List (List ℕ)) (copies : List Copies) (list : List SourceFile) (mag : ℤ) → Joins fonts files copies list mag None → copied fonts files Every ≡ copied_pages fonts mag (all_pages list)
all_joined fonts files copies list mag j = by_mags fonts files list mag (clash_of None) j.is j.mag_is j.test

pub too_many_joined : (fonts : SetValue) (files : List (List ℕ)) (copies : List Copies) (list : List SourceFile) (mag : ℤ) (count : ℕ) → Joins fonts files copies list mag None → length (all_pages list) ≡ count → max_dvi_pages < count
    → copied fonts files Every ≡ Err (TooManyPages count)
too_many_joined fonts files copies list mag count j n many =
    all_joined fonts files copies list mag j ∙ pages_refused fonts mag (all_pages list) (omega (arith, n, many)) ∙ ap (λ (k : ℕ). let r : CopyAnswer (List ℕ) = Err (TooManyPages k) in r) n
