-- What is known of a nucleus with scripts (`IsNucleusOf`).
use Rattle.std.specs.Prelude.{◌≡◌, List}
use Rattle.mt_box.specs.Rows.{PieceValue, pack}
use Rattle.mt_rules.specs.Scripts.{begins_with_glyph}
use Rattle.mt_scripts.specs.declared.attach.Nucleus.{Nucleus}

-- it is the nucleus of this row
pub record IsNucleusOf (row : List PieceValue) (n : Nucleus) : Type 0 where
  pub extents : n.extents ≡ (pack row).extents
  pub glyph : n.glyph ≡ begins_with_glyph row
