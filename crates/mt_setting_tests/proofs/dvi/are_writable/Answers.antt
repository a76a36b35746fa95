use Rattle.std.proofs.Common.{List, ◌∙◌, subst}
use Rattle.std.specs.Prelude.{All}
use Rattle.std.proofs.lemmas.List.{take_all}
use Rattle.mt_box.specs.declared.place.Place.{Place}
use Rattle.mt_dvi.specs.Writable.{IsWritable}
use Rattle.mt_setting_tests.proofs.dvi.are_writable.Goals as goal

pub returns : goal.returns
returns c = λ yes. subst (All (λ (page : List Place). All (IsWritable c.args.fonts.now) page)) (take_all c.loop-page.page-index c.as_slice-page-items.result.now c.loop-page-test.false ∙ c.as_slice-page-items.ensures) c.loop-page.invariant
