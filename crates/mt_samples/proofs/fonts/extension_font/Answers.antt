use Rattle.std.proofs.Common.{◌≡◌, rules, subst, ℕ, List, sym}
use Rattle.mt_samples.specs.Bytes.{extension_bytes}
use Rattle.mt_samples.specs.Tables.{extension, ReadsAs}
use Rattle.mt_samples.proofs.Readings.{extension_reads}
use Rattle.mt_samples.proofs.fonts.extension_font.Goals as goal

pub returns : goal.returns
unfolding extension_bytes
returns c =
    let is : extension_bytes ≡ c.from_vec.result = search rules in
    record { reads = subst (λ (bytes : List ℕ). ReadsAs bytes extension) is extension_reads; is = sym is }
