use Rattle.std.proofs.Common.{List, take}
use Rattle.std.specs.Prelude.{All}
use Rattle.mt_box.specs.declared.place.Place.{Place}
use Rattle.mt_dvi.specs.Writable.{IsWritable}
use Rattle.mt_setting_tests.proofs.dvi.are_writable.Given as goal

abbrev pub invariant-loop-page : goal.invariant-loop-page
invariant-loop-page l = All (λ (page : List Place). All (IsWritable l.fonts) page) (take l.page-index l.page-items)
