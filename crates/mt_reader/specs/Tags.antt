-- The numbers at the side of a document's formulas are beside lists, and in displays (`HaveTagsPlaced`).
use Rattle.std.specs.Prelude.{List, All}
use Rattle.mt_rules.specs.declared.document.Formula.{Formula}
use Rattle.mt_formula.specs.Tags.{IsTagPlaced}

abbrev pub HasTagPlaced : Formula → Type 0
HasTagPlaced f = IsTagPlaced f.display f.body f.tag

abbrev pub HaveTagsPlaced : List (List Formula) → Type 0
HaveTagsPlaced pages = All (All HasTagPlaced) pages
