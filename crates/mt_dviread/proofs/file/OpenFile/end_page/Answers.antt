use Rattle.std.proofs.Common.{sym, ap, ◌∙◌, refl, length}
use Rattle.mt_dvi.specs.Machine.{Machine}
use Rattle.mt_dviread.proofs.OpenFiles.{page_ended}
use Rattle.mt_dviread.proofs.file.OpenFile.end_page.Goals as goal

pub returns-clause-goes : goal.returns-clause-goes
returns-clause-goes c = λ fonts file s none.
    let empty = ap (λ (m : Machine). length m.saved) s.machine ∙ sym c.saved_count.ensures.is ∙ c.if-saved_count-ne0.false in
    page_ended fonts c.args.self.now _ _ file s none empty c.at_bop.ensures refl
