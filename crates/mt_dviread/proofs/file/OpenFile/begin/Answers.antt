use Rattle.std.proofs.Common.{sym, ◌∙◌, subst, FitsSigned, rules, to_z, of_z, w32}
use Rattle.std.specs.Prelude.{Ok}
use Rattle.mt_dvi.specs.File as files
use Rattle.mt_dviread.proofs.OpenFiles.{begun}
use Rattle.std.proofs.lemmas.Int.{to_z-of_z}
use Rattle.mt_dvi.specs.Codes as codes
use Rattle.mt_dviread.specs.declared.file.OpenFile.{OpenFile}
use Rattle.mt_dviread.specs.declared.deed.Deed.TheVariants.{Passes}
use Rattle.mt_dviread.specs.inner.Follows.{Goes}
use Rattle.mt_dviread.proofs.file.OpenFile.begin.Goals as goal

pub returns-clause-goes : goal.returns-clause-goes
returns-clause-goes c = λ fonts file meant s none is.
    let fits : FitsSigned w32 c.args.preamble.mag = search rules in
    let mag = to_z-of_z w32 c.args.preamble.mag fits in
    subst (λ (x : OpenFile). Goes fonts Passes file (Ok tt) x (files.before_pre_step file (codes.Pre meant))) (sym c.begin_at.ensures)
    (begun fonts c.args.self.now (to_z w32 (of_z w32 c.args.preamble.mag)) file meant s none (is.mag ∙ sym mag) (sym (c.is_preamble.ensures meant is) ∙ c.if-not-is_preamble.false))
