-- The clean box of a character of a font (`clean_glyph`): what a list of one ordinary symbol is set to once its
-- character is found.
use Rattle.std.specs.Prelude.{ℕ, false}
use Rattle.mt_tfm.specs.Font.{Metrics}
use Rattle.mt_box.specs.Layout.{Layout}
use Rattle.mt_rules.specs.Setting.{Setting, ◌>>=◌, make_row}
use Rattle.mt_rules.specs.Nuclei.{OrdinarySymbol, glyph_nucleus, make_clean}

abbrev pub clean_glyph : ℕ → Metrics → ℕ → Setting Layout
clean_glyph font m c = do
  nucleus ← glyph_nucleus font m c OrdinarySymbol false
  row ← make_row nucleus.row
  make_clean row
