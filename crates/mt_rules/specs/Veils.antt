-- Boxes of which a part is left: the width or not, the height and depth or not, the marks or not (`veil_layout`;
-- plain TeX's \phantom, \hphantom, \vphantom and \smash; The TeXbook, chapter 18 and Appendix B).
use Rattle.std.specs.Prelude.{pos, [], Bool, if◌then◌else◌}
use Rattle.mt_box.specs.declared.extents.Extents.{Extents}
use Rattle.mt_box.specs.Layout.{Layout}

-- whether it keeps its width, and its height and depth
abbrev pub veil_extents : Bool → Bool → Extents → Extents
veil_extents width height e = record {
  width = if width then e.width else pos 0;
  height = if height then e.height else pos 0;
  depth = if height then e.depth else pos 0;
}

-- and what it marks
unfoldable pub veil_layout : Bool → Bool → Bool → Layout → Layout
veil_layout width height marks l = record {
  extents = veil_extents width height l.extents;
  places = if marks then l.places else [];
}
