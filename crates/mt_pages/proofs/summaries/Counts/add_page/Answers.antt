use Rattle.std.proofs.Common.{refl, ap, ◌+◌, ℕ, arith}
use Rattle.mt_pages.proofs.ListingLemmas.{counts_more}
use Rattle.mt_pages.proofs.summaries.Counts.add_page.Goals as goal

pub returns-clause-counts : goal.returns-clause-counts
returns-clause-counts c =
    λ pages is.
    counts_more pages c.args.page.now c.args.self.now _ is refl (ap (λ (n : ℕ). c.args.self.now.glyphs + n) c.glyphs_on.ensures) (ap (λ (n : ℕ). c.args.self.now.rules + n) c.rules_on.ensures)

pub returns-clause-grows : goal.returns-clause-grows
returns-clause-grows c = record { glyphs = omega arith; rules = omega arith }
