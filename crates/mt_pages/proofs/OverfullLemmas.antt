-- The formula that has the first place too many, over pages that are set and placed one after another.
use Rattle.std.proofs.Common.{◌≡◌, ℕ, List, [], ◌∷◌, refl, ◌∙◌, ap, ℤ, Option, Some, None, Result, Ok, Err}
use Rattle.mt_pages.proofs.Common.{◌>>=◌, SetValue, max_places, Formula, PageLinesValue, no_lines, page_lines, document_lines, document_of, document_overfull, found_in, pages_overfull, source_overfull, NotesOnly, Status}
use Rattle.mt_pages.specs.inner.SetPages.{noted_at_end, overfull_after}
use Rattle.mt_pages.specs.declared.pages.FirstFault.{FirstFault}
use Rattle.mt_pages.specs.declared.pages.FirstFault.TheVariants.{Nothing, Place as HeldPlace, Setting as HeldSetting}

-- what is noted is this formula
pub notes_only : (overfull formula : Option ℕ) → overfull ≡ formula → NotesOnly overfull formula
notes_only overfull None same = tt
notes_only overfull (Some n) same = same

-- nothing is noted
pub notes_none : (overfull formula : Option ℕ) → formula ≡ None → NotesOnly overfull formula
notes_none overfull None none = tt
notes_none overfull (Some n) none = absurd (cc)

-- ---- no page is set yet, or all are

pub overfull_start : (set : SetValue) (width : ℤ) (document : List (List Formula)) → document_overfull set width document ≡ overfull_after set width max_places Nothing document
unfolding document_overfull
overfull_start set width document = refl

overfull_end : (set : SetValue) (width : ℤ) (room : ℕ) (held : FirstFault) → overfull_after set width room held [] ≡ noted_at_end held
overfull_end set width room Nothing = refl
overfull_end set width room (HeldPlace fault) = refl
overfull_end set width room (HeldSetting status) = refl

pub overfull_all : (set : SetValue) (width : ℤ) (source : List ℕ) (document : List (List Formula)) (room : ℕ) (held : FirstFault) → document_of set source ≡ Ok document → document_overfull set width document ≡ overfull_after set width room held []
    → source_overfull set width source ≡ noted_at_end held
unfolding source_overfull
overfull_all set width source document room held all is =
    ap (λ (d : Result (List (List Formula)) Status). found_in d (λ document. document_overfull set width document)) all ∙ (is ∙ overfull_end set width room held)

-- ---- a page whose lines are refused

pub overfull_refused : (set : SetValue) (width : ℤ) (page : List Formula) (room : ℕ) (held : FirstFault) (status : Status) → page_lines set width no_lines page ≡ Err status → (rest : List (List Formula))
    → overfull_after set width room held (page ∷ rest) ≡ None
overfull_refused set width page room Nothing status same rest =
    ap (λ (r : Result PageLinesValue Status). found_in (r >>= (λ lines. document_lines set width rest >>= (λ pages. Ok (lines ∷ pages)))) (λ pages. pages_overfull room pages)) same
overfull_refused set width page room (HeldPlace fault) status same rest =
    ap (λ (r : Result PageLinesValue Status). found_in (r >>= (λ lines. document_lines set width rest >>= (λ pages. Ok (lines ∷ pages)))) (λ pages. fault.formula)) same
overfull_refused set width page room (HeldSetting s) status same rest = refl
