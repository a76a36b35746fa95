use Rattle.std.proofs.Common.{◌≡◌, rules, subst, ℕ, List, sym}
use Rattle.mt_samples.specs.Bytes.{italic_bytes}
use Rattle.mt_samples.specs.Tables.{italic, ReadsAs}
use Rattle.mt_samples.proofs.Readings.{italic_reads}
use Rattle.mt_samples.proofs.fonts.italic_font.Goals as goal

pub returns : goal.returns
unfolding italic_bytes
returns c =
    let is : italic_bytes ≡ c.from_vec.result = search rules in
    record { reads = subst (λ (bytes : List ℕ). ReadsAs bytes italic) is italic_reads; is = sym is }
