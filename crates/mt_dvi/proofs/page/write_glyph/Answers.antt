use Rattle.mt_dvi.proofs.PlaceLemmas.{glyph_written}
use Rattle.mt_dvi.proofs.RowLemmas.{row_back}
use Rattle.mt_dvi.proofs.page.write_glyph.Goals as goal

pub returns-clause-leads : goal.returns-clause-leads
returns-clause-leads c =
    let emits = rw c.deref_mut.ensures.value at c.char.ensures.emits in
    rw (row_back c.char.result c.select.new.out.len c.char.new.row c.deref_mut.result.now c.select.new.out.items c.char.ensures.long c.deref_mut.ensures.len)
    (λ reached few stands. glyph_written c.args.fonts.now _ _ c.select.new.defined reached c.args.cursor.now c.args.n c.args.code c.args.put c.requires.can emits c.requires.h c.requires.v few
    (c.in_ok-at.ensures.leads reached stands))
