use Rattle.mt_dviops.proofs.SelectedBits.{union_bits}
use Rattle.mt_dviops.proofs.selected.SelectedFonts.union.Goals as goal

pub returns : goal.returns
returns c = λ m. union_bits c.args.self.bits c.args.others.bits m
