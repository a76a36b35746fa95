-- A source that is cut, set part by part and joined has its own pages (`cut_joined`).
use Rattle.std.proofs.Common.{◌≡◌, ℕ, List, [], ◌∷◌, ◌++◌, sym, ◌∙◌, ap, subst, ℤ, Result, Ok}
use Rattle.std.proofs.lemmas.List.{append-nil}
use Rattle.mt_family.specs.SetValue.{SetValue}
use Rattle.mt_family.specs.Sets.{units_of}
use Rattle.mt_box.specs.declared.place.Place.{Place}
use Rattle.mt_dvi.specs.File.{Dvi}
use Rattle.mt_dvi.specs.Written.{Written}
use Rattle.mt_dviops.specs.Copied.{Every}
use Rattle.mt_dviops.specs.Parts.{AllWritten, all_parts}
use Rattle.mt_dviops.proofs.PartPages.{joined_dvi}
use Rattle.mt_pages.specs.Cuts.{IsCut}
use Rattle.mt_pages.specs.Pages.{source_pages}
use Rattle.mt_pages.proofs.CutSet.{whole_set}
use Rattle.mt_status.specs.declared.status.Status.{Status}
use Rattle.mathset.specs.Product.{CopiesPages, CopyValue}

one_answer : (r : Result (List (List Place)) Status) (a b : List (List Place)) → r ≡ Ok a → r ≡ Ok b → a ≡ b
one_answer r a b e f = cc

pub cut_joined : (set : SetValue) (width : ℤ) (lines front rest : List ℕ) → IsCut (units_of set) lines front rest → (all pages more : List (List Place)) → source_pages set width (lines ++ 10 ∷ rest) ≡ Ok all
    → source_pages set width (lines ++ 10 ∷ []) ≡ Ok pages → source_pages set width (front ++ 10 ∷ rest) ≡ Ok more → (first second joined : List ℕ) → Written set first pages → Written set second more
    → CopiesPages (record { fonts = set; files = first ∷ second ∷ []; choice = Every }) joined → Dvi set joined all
cut_joined set width lines front rest cut all pages more whole one two first second joined a b copied =
    let parts = whole_set set width lines front rest cut all whole in
    let p : parts.0 ≡ pages = one_answer (source_pages set width (lines ++ 10 ∷ [])) parts.0 pages parts.2 one in
    let q : parts.1 ≡ more = one_answer (source_pages set width (front ++ 10 ∷ rest)) parts.1 more parts.3 two in
    let same : all ≡ pages ++ (more ++ []) =
    parts.4 ∙ (ap (λ (l : List (List Place)). l ++ parts.1) p ∙ (ap (λ (l : List (List Place)). pages ++ l) q ∙ ap (λ (l : List (List Place)). pages ++ l) (sym (append-nil more)))) in
    let files : AllWritten set (first ∷ second ∷ []) (pages ∷ more ∷ []) = (a, (b, tt)) in
    subst (Dvi set joined) (sym same) (joined_dvi set (first ∷ second ∷ []) (pages ∷ more ∷ []) joined files copied.read)
