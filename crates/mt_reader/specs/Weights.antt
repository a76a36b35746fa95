-- How many formulas a document has, each display counted twice (`pages_weight`), and how great each of them is
-- (`HaveFewItems`, `IsModestDocument`).
use Rattle.std.specs.Prelude.{ℕ, ◌*◌, ◌≤◌, ◌^◌, Bool, List, All, sum_by, if◌then◌else◌}
use Rattle.mt_macro.specs.Limits.{max_tokens}
use Rattle.mt_rules.specs.declared.document.Formula.{Formula}
use Rattle.mt_formula.specs.Counts.{body_rows, formula_items, IsModestFormula}

-- so many dollars are at each side of it
abbrev pub dollars : Bool → ℕ
dollars display = if display then 2 else 1

abbrev pub formula_weight : Formula → ℕ
formula_weight f = dollars f.display

abbrev pub page_weight : List Formula → ℕ
page_weight page = sum_by formula_weight page

abbrev pub pages_weight : List (List Formula) → ℕ
pages_weight pages = sum_by page_weight pages

-- four items for each token that it may have, in its body and its number together
abbrev pub HasFewItems : Formula → Type 0
HasFewItems f = formula_items (f.body, f.tag) ≤ 4 * max_tokens

abbrev pub HaveFewItems : List (List Formula) → Type 0
HaveFewItems pages = All (All HasFewItems) pages

-- body and number of each formula can be set within bounds, and a display of several lines has at most 2^18
pub record HasModestLists (f : Formula) : Type 0 where
  pub lists : IsModestFormula (f.body, f.tag)
  pub rows : body_rows f.body ≤ 2 ^ 18

abbrev pub IsModestDocument : List (List Formula) → Type 0
IsModestDocument pages = All (All HasModestLists) pages
