-- Math units (`math_unit`): an 18th of the quad at the size of the place (The TeXbook, chapter 18; tex.web, sections
-- 703 and 716).
use Rattle.std.specs.Prelude.{ℤ, pos, int_div}
use Rattle.mt_scaled.specs.Number.{mu_product}
use Rattle.mt_family.specs.SetValue.{SetValue}
use Rattle.mt_rules.specs.declared.style.Style.{Style}
use Rattle.mt_rules.specs.Styles.{size_of}
use Rattle.mt_rules.specs.Parameters.{quad}

abbrev pub math_unit : SetValue → Style → ℤ
math_unit fonts style = int_div (quad fonts (size_of style)) (pos 18)

-- an amount in 65536ths of a math unit
abbrev pub in_points : SetValue → Style → ℤ → ℤ
in_points fonts style amount = mu_product amount (math_unit fonts style)
