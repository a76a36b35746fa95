use Rattle.std.proofs.Common.{◌≡◌, rules, subst, ℕ, List, sym}
use Rattle.mt_samples.specs.Bytes.{symbols_bytes}
use Rattle.mt_samples.specs.Tables.{symbols, ReadsAs}
use Rattle.mt_samples.proofs.Readings.{symbols_reads}
use Rattle.mt_samples.proofs.fonts.symbols_font.Goals as goal

pub returns : goal.returns
unfolding symbols_bytes
returns c =
    let is : symbols_bytes ≡ c.from_vec.result = search rules in
    record { reads = subst (λ (bytes : List ℕ). ReadsAs bytes symbols) is symbols_reads; is = sym is }
