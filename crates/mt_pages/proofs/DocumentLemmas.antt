-- The pages of a document, one after another.
use Rattle.std.proofs.Common.{◌≡◌, List, ◌∷◌, refl, ap, ℤ, Result, Ok, Err}
use Rattle.mt_pages.proofs.Common.{◌>>=◌, SetValue, Formula, LineValue, formula_lines, PageLinesValue, with_formula_lines, page_lines, document_pages, IsPure, Status, pure_err}
use Rattle.mt_pages.specs.inner.Placed.{nothing_placed}
use Rattle.mt_pages.specs.inner.SetPages.{rest_pages}

-- ---- the formulas of a page

-- one formula more
pub page_next : (set : SetValue) (width : ℤ) (page : PageLinesValue) (f : Formula) (fs : List Formula) (lines : List LineValue) → formula_lines set width f ≡ Ok lines
    → page_lines set width page (f ∷ fs) ≡ page_lines set width (with_formula_lines page f.number lines) fs
page_next set width page f fs lines is = ap (λ (r : Result (List LineValue) Status). r >>= (λ ls. page_lines set width (with_formula_lines page f.number ls) fs)) is

pub page_err : (set : SetValue) (width : ℤ) (page : PageLinesValue) (f : Formula) (fs : List Formula) (status : Status) → IsPure (formula_lines set width f) (Err status)
    → IsPure (page_lines set width page (f ∷ fs)) (Err status)
page_err set width page f fs status is = pure_err (formula_lines set width f) (λ ls. page_lines set width (with_formula_lines page f.number ls) fs) status is

-- ---- the pages of a document

pub pages_start : (set : SetValue) (width : ℤ) (document : List (List Formula)) → document_pages set width document ≡ rest_pages set width nothing_placed document
unfolding document_pages
pages_start set width document = refl
