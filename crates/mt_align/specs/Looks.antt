-- What differs between a matrix and equations: `inset_of`, `least_height`, `least_depth` and `gap_of`.
use Rattle.std.specs.Prelude.{ℕ, zero, suc, ℤ, pos}
use Rattle.mt_scaled.specs.Number.{half_of}
use Rattle.mt_rules.specs.Vcenter.{line_gap}
use Rattle.mt_rules.specs.Tables.{open_gap}
use Rattle.mt_align.specs.declared.look.Look.{Look}
use Rattle.mt_align.specs.declared.look.Look.TheVariants.{Matrix, Equations}

-- how far right a cell of column j is, where the column is wider than it by so much
abbrev pub inset_of : Look → ℕ → ℤ → ℤ
inset_of Matrix j slack = half_of slack
inset_of Equations zero slack = slack
inset_of Equations (suc j) slack = pos 0

abbrev pub least_height : Look → ℤ
least_height Matrix = pos 0
least_height Equations = pos 557056

abbrev pub least_depth : Look → ℤ
least_depth Matrix = pos 0
least_depth Equations = pos 229376

abbrev pub gap_of : Look → ℤ → ℤ → ℤ
gap_of Matrix depth height = line_gap depth height
gap_of Equations depth height = open_gap depth height
