use Rattle.std.proofs.Common.{◌≡◌, rules, subst, ℕ, List, sym}
use Rattle.mt_samples.specs.Bytes.{roman_bytes}
use Rattle.mt_samples.specs.Tables.{roman, ReadsAs}
use Rattle.mt_samples.proofs.Readings.{roman_reads}
use Rattle.mt_samples.proofs.fonts.roman_font.Goals as goal

pub returns : goal.returns
unfolding roman_bytes
returns c =
    let is : roman_bytes ≡ c.from_vec.result = search rules in
    record { reads = subst (λ (bytes : List ℕ). ReadsAs bytes roman) is roman_reads; is = sym is }
