-- The fonts of a file by their numbers (`font_at`).
use Rattle.std.specs.Prelude.{ℕ, Option, Some, None}
use Rattle.std.specs.Ordering.{nat_cmp}
use Rattle.std.specs.BTreeMap.{BTreeMap, get}
use Rattle.mt_dviread.specs.declared.numbered.DefinedFont.{DefinedFont}

-- the number in the set of the font that a definition means
abbrev pub font_meant_by : Option DefinedFont → Option ℕ
font_meant_by None = None
font_meant_by (Some defined) = defined.font

abbrev pub font_at : BTreeMap ℕ DefinedFont → ℕ → Option ℕ
font_at fonts n = font_meant_by (get nat_cmp fonts n)
