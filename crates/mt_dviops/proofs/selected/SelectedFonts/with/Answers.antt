use Rattle.mt_dviops.proofs.SelectedBits.{with_bit}
use Rattle.mt_dviops.proofs.selected.SelectedFonts.with.Goals as goal

pub returns : goal.returns
returns c = λ m. with_bit c.args.self.bits c.args.n m c.requires
