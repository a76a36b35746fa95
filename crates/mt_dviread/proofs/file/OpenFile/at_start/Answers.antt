use Rattle.std.proofs.Common.{refl, sym, arith, inr}
use Rattle.mt_dviread.proofs.file.OpenFile.at_start.Goals as goal

pub returns-clause-sees : goal.returns-clause-sees
returns-clause-sees c = λ fonts. record {
  at = refl;
  phase = refl;
  mag = refl;
  known = c.none.ensures fonts;
  again = inr refl;
  pages = refl;
  machine = sym c.at_bop.ensures;
  last = refl;
  deepest = refl;
  place_count = refl;
  post_at = refl;
  few = omega arith;
}
