use Rattle.std.proofs.Common.{List, subst, sym}
use Rattle.mt_pages.proofs.Common.{Place}
use Rattle.mt_dvi.specs.FileOf.{CanTake}
use Rattle.mt_pages.proofs.SetLemmas.{can_take}
use Rattle.mt_pages.proofs.source.DviFilePageSink.add.Goals as goal

pub add_page-requires : goal.add_page-requires
add_page-requires c = subst (λ (l : List Place). CanTake c.args.fonts.now c.args.self.now l) (sym c.as_slice.ensures) (can_take c.args.fonts.now c.args.self.now c.args.page c.requires)
