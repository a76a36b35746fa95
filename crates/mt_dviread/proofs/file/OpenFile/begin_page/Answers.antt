use Rattle.std.proofs.Common.{◌≡◌, arith}
use Rattle.mt_dviread.proofs.OpenFiles.{page_begun}
use Rattle.std.proofs.lemmas.Int.{ints}
use Rattle.mt_dviread.proofs.file.OpenFile.begin_page.Goals as goal

pub returns-clause-goes : goal.returns-clause-goes
returns-clause-goes c = λ fonts file counts s none.
    let there = s.last in
    let same : c.args.before ≡ file.last = omega (arith, ints, there) in
    page_begun fonts c.args.self.now _ _ file counts c.args.before s none same c.at_bop.ensures (omega (arith, ints))
