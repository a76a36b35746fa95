use Rattle.std.proofs.Common.{◌^◌, ◌+ℤ◌, ◌∙◌, ap, arith, subst}
use Rattle.mt_scaled.proofs.Products.{kept}
use Rattle.mt_box.specs.Packs.{Packs}
use Rattle.mt_box.proofs.GlyphRows.{glyph_with_kern}
use Rattle.mt_box.proofs.boxes.hpack_glyph.Goals as goal

pub returns-clause-packs : goal.returns-clause-packs
returns-clause-packs c =
    let e = c.extents_with_kern.ensures in
    let width = e.width ∙ ap (λ z. c.args.extents.width +ℤ z) (kept (2 ^ 40) c.args.kern c.requires.kern (omega arith)) in
    subst (λ l. Packs l c.glyph_box.result) (glyph_with_kern c.args.font c.args.code c.args.extents c.extents_with_kern.result c.args.kern width e.height e.depth) c.glyph_box.ensures.packs
