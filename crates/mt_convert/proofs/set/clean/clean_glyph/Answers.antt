use Rattle.mt_convert.proofs.Common.{none_out}
use Rattle.mt_convert.specs.inner.OnPieces.{SetsBoxOn}
use Rattle.mt_convert.proofs.CleanGlyphs.{clean_glyph_by}
use Rattle.mt_convert.proofs.set.clean.clean_glyph.Goals as goal

pub returns : goal.returns
returns c =
    record {
      is = clean_glyph_by (λ s. SetsBoxOn c.packed_glyph.result c.args.pieces.now c.packed_glyph.new.pieces s) c.args.number c.args.font.now c.args.code c.extents_without_italic-extents.result c.italic_length-italic.result.sp
          (none_out _ c.first_out.result c.first_out.ensures c.in_default.not-Some) c.extents_without_italic-extents.ensures c.italic_length-italic.ensures.is c.packed_glyph.ensures.is;
    }
