-- What the fields of `ArenaPage` are seen as, and what holds of them.
use Rattle.std.specs.Prelude.{List, All, map}
use Rattle.mt_rules.specs.declared.document.Formula.{Formula}
use Rattle.mt_reader.specs.declared.arena_page.ArenaPage.TheInside.{Inside}
use Rattle.mt_reader.specs.ArenaPages.{KeptFormula, page_formula}

abbrev pub page_value : Inside → List Formula
page_value p = map (page_formula p.arena.closed) p.formulas.items

abbrev pub ArePageLists : Inside → Type 0
ArePageLists p = All (KeptFormula p.arena.closed) p.formulas.items
