use Rattle.mt_pieces.proofs.GlyphBoxes.{glyph_packed}
use Rattle.mt_pieces.proofs.packing.glyph_layer.Goals as goal

pub returns-clause-is : goal.returns-clause-is
returns-clause-is c =
    let x = c.extents_with_kern.ensures in
    glyph_packed c.tested_extents.result c.args.font c.args.code c.args.extents c.extents_with_kern.result c.args.kern.sp c.args.marks.now c.push_glyph.new.self c.in_ok-push_glyph.ensures
    (x.width c.args.font c.args.code) (x.height c.args.font c.args.code) (x.depth c.args.font c.args.code) c.tested_extents.ensures.is
