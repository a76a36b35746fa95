use Rattle.std.proofs.Common.{◌≡◌, arith, to_z, of_z, w64}
use Rattle.std.proofs.lemmas.Int.{ints}
use Rattle.mt_dvi.proofs.MoveLemmas.{half}
use Rattle.mt_dvi.proofs.PlaceLemmas.{glyph_here, rule_here}
use Rattle.mt_dvi.proofs.RowLemmas.{row_back}
use Rattle.mt_dvi.proofs.page.fill_place.Goals as goal

pub returns-in_ok-end-in-Glyph-clause-leads : goal.returns-in_ok-end-in-Glyph-clause-leads
returns-in_ok-end-in-Glyph-clause-leads c =
    let h = rw c.in-Glyph.is at c.requires.h in
    let v = rw c.in-Glyph.is at c.requires.v in
    rw c.in-Glyph.is (glyph_here c.args.fonts.now _ _ c.args.defined.now c.write_glyph.new.defined c.args.cursor.now _ _ _ _ c.args.put h v c.in_ok-end-in-Glyph.ensures.leads)

pub returns-in-Rule-clause-leads : goal.returns-in-Rule-clause-leads
returns-in-Rule-clause-leads c =
    let can = rw c.in-Rule.is at c.requires.can in
    let height : to_z w64 (of_z w64 c.in-Rule.height) ≡ c.in-Rule.height = omega (arith, ints, half _ can.height_in_range) in
    let width : to_z w64 (of_z w64 c.in-Rule.width) ≡ c.in-Rule.width = omega (arith, ints, half _ can.width_in_range) in
    let h = rw c.in-Rule.is at c.requires.h in
    let v = rw c.in-Rule.is at c.requires.v in
    let e = rw (height, width, c.deref_mut.ensures.value) at c.write_rule.ensures.leads in
    rw (row_back c.write_rule.result c.args.out.now.len c.write_rule.new.row c.deref_mut.result.now c.args.out.now.items c.write_rule.ensures.long c.deref_mut.ensures.len, c.in-Rule.is) (rule_here c.args.fonts.now _ _ c.args.defined.now c.args.cursor.now _ _ _ _ c.args.put h v (e c.args.defined.now))
