use Rattle.std.proofs.Common.{◌≡◌, length, refl, arith, to_z, of_z, w64}
use Rattle.std.specs.Prelude.{pos}
use Rattle.std.proofs.lemmas.Int.{ints}
use Rattle.mt_dvi.proofs.FileLemmas.{few_with, page_added, short_enough}
use Rattle.mt_dvi.proofs.file.DviFile.add_page.Goals as goal

pub returns : goal.returns
returns c = λ pages file.
    let size = short_enough _ _ _ file in
    let fits = file.last in
    let start : to_z w64 c.len-start.result ≡ pos (length c.args.self.now.out.items) = omega (arith, ints, c.len-start.ensures, size) in
    let same : to_z w64 (of_z w64 c.args.self.now.last) ≡ c.args.self.now.last = omega (arith, ints, fits) in
    let leads = rw same at c.in_ok-write_page.ensures.leads in
    page_added c.args.fonts.now pages c.args.places.now c.args.self.now _ _ file (few_with _ _ _ c.requires) c.requires.can
    c.in_ok-write_page.ensures.defined c.in_ok-write_page.ensures.edges leads c.in_ok-write_page.ensures.long (omega (arith, c.from.ensures)) start refl refl
