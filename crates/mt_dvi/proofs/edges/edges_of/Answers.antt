use Rattle.std.proofs.Common.{arith}
use Rattle.std.proofs.lemmas.Int.{ints}
use Rattle.mt_dvi.proofs.MoveLemmas.{half}
use Rattle.mt_dvi.proofs.edges.edges_of.Goals as goal

pub returns-in-Glyph-clause-right : goal.returns-in-Glyph-clause-right
returns-in-Glyph-clause-right c =
    let can = rw c.in-Glyph.is at c.requires.can in
    let size = c.measured_glyph-measured.ensures in
    rw (c.in-Glyph.is, c.font_with.ensures.is) (omega (arith, ints, size.width, half _ size.wide, half _ can.h_in_range))

pub returns-in-Glyph-clause-lower : goal.returns-in-Glyph-clause-lower
returns-in-Glyph-clause-lower c =
    let can = rw c.in-Glyph.is at c.requires.can in
    let size = c.measured_glyph-measured.ensures in
    rw (c.in-Glyph.is, c.font_with.ensures.is) (omega (arith, ints, size.depth, half _ size.deep, half _ can.v_in_range))

pub returns-in-Glyph-clause-small_right : goal.returns-in-Glyph-clause-small_right
returns-in-Glyph-clause-small_right c =
    let can = rw c.in-Glyph.is at c.requires.can in
    omega (arith, ints, half _ c.measured_glyph-measured.ensures.wide, half _ can.h_in_range)

pub returns-in-Glyph-clause-small_lower : goal.returns-in-Glyph-clause-small_lower
returns-in-Glyph-clause-small_lower c =
    let can = rw c.in-Glyph.is at c.requires.can in
    omega (arith, ints, half _ c.measured_glyph-measured.ensures.deep, half _ can.v_in_range)
