-- Delimiters of fixed sizes (`big_delimiter`; plain TeX's \big, \Big, \bigg and \Bigg; The TeXbook, chapter 17 and
-- Appendix B).
use Rattle.std.specs.Prelude.{ℕ, ℤ, pos, [], ◌∷◌, get_or}
use Rattle.std.specs.Int.{int_max}
use Rattle.mt_family.specs.declared.size.Size.TheVariants.{Text}
use Rattle.mt_family.specs.SetValue.{SetValue}
use Rattle.mt_box.specs.Layout.{Layout}
use Rattle.mt_box.specs.Rows.{pack}
use Rattle.mt_rules.specs.declared.symbol.Delim.{Delim}
use Rattle.mt_rules.specs.Setting.{Setting, ◌>>=◌, make_box}
use Rattle.mt_rules.specs.Delimiters.{DelimiterVariant, NoVariant, delimiter, delimiter_variant, piece_on_axis, boundary_size}

-- the height of what the delimiter is to be beside: 8.5pt, 11.5pt, 14.5pt or, from level 3 on, 17.5pt
abbrev pub big_height : ℕ → ℤ
big_height level = get_or (pos 557056 ∷ pos 753664 ∷ pos 950272 ∷ pos 1146880 ∷ []) level (pos 1146880)

-- where no character is taken, there is no width
abbrev pub without_null_width : DelimiterVariant → Layout → Layout
without_null_width NoVariant l = record {
  extents = record { width = pos 0; height = l.extents.height; depth = l.extents.depth };
  places = l.places;
}
without_null_width _ l = l

-- at least as high as what it is beside
abbrev pub at_least_high : ℤ → Layout → Layout
at_least_high height l = record {
  extents = record { width = l.extents.width; height = int_max height l.extents.height; depth = l.extents.depth };
  places = l.places;
}

-- the size that boundaries want, at text size
abbrev pub big_wanted : SetValue → ℕ → ℤ
big_wanted fonts level = boundary_size fonts Text (big_height level) (pos 0)

-- the delimiter, then its layout
unfoldable pub big_delimiter : SetValue → Delim → ℕ → Setting Layout
big_delimiter fonts delim level = do
  let wanted = big_wanted fonts level
  box ← delimiter fonts delim Text wanted
  let body = without_null_width (delimiter_variant fonts delim Text wanted) box
  make_box (at_least_high (big_height level) (pack (piece_on_axis fonts Text body ∷ [])))
