use Rattle.std.proofs.Common.{refl, ◌∙◌}
use Rattle.mt_tables.proofs.Loads.{words_more, known_more, keeps_on}
use Rattle.mt_tables.proofs.tables.Tables.words_of.Goals as goal

pub loop-token-preserved : goal.loop-token-preserved
loop-token-preserved c =
    let h = c.loop-token.invariant in
    let e = c.in_ok-word_of.ensures in
    record {
      is = words_more c.loop-token.self.names c.word_of.new.self.names _ _ c.in_ok-word_of.field-0 c.args.list.now c.loop-token.token-index _ c.token-item.result h.is h.known e.keeps e.is c.in_ok-push_word.ensures c.loop-token-test.true c.token-item.is refl;
      known = known_more _ _ _ _ c.in_ok-word_of.field-0 h.known e.keeps e.known c.in_ok-push_word.ensures;
      keeps = keeps_on _ _ _ h.keeps e.keeps;
      codes = e.codes ∙ h.codes;
      macros = e.macros ∙ h.macros;
    }
