use Rattle.std.proofs.Common.{arith, ap, refl, sym, length, [], ◌∷◌, ◌∙◌}
use Rattle.std.proofs.lemmas.List.{length-append}
use Rattle.std.proofs.lemmas.Result.{err_from_is_err_and}
use Rattle.mt_tables.proofs.AddedWords.{adds_none, adds_all, adds_more, adds_kept, fault_ahead}
use Rattle.mt_tables.proofs.Loads.{keeps_itself, keeps_on}
use Rattle.mt_tables.proofs.tables.Tables.read_words.Goals as goal

pub loop-words-init : goal.loop-words-init
loop-words-init c = record {
  adds = adds_none _ _ _;
  room = omega arith;
  forward = omega arith;
  keeps = keeps_itself _;
  codes = refl;
  macros = refl;
  bytes = refl;
}

pub returns-then-len-limit-clause-is : goal.returns-then-len-limit-clause-is
returns-then-len-limit-clause-is c = adds_all _ _ _ _ _ _ _ c.loop-words.invariant.adds (c.in_ok-read_plain.ensures.is _)

pub returns-in_err-word-clause-fault : goal.returns-in_err-word-clause-fault
returns-in_err-word-clause-fault c =
    let plain = adds_all _ _ _ _ _ _ _ c.loop-words.invariant.adds (c.in_ok-read_plain.ensures.is c.loop-words.self.names) in
    let p = err_from_is_err_and c.from_residual-in_err-word.result c.from_residual-in_err-word.ensures.1 in
    rw (p.1, p.2) (fault_ahead _ _ _ _ _ _ c.in_err-word.field-0.0 plain c.in_err-word.ensures.is)

pub loop-words-preserved : goal.loop-words-preserved
loop-words-preserved c =
    let h = c.loop-words.invariant in
    let p = c.in_ok-read_plain.ensures in
    let e = c.in_ok-word.ensures in
    let is = rw c.in-Some.is at e.is in
    let pushed = c.in_ok-push_word-in-Some.ensures in
    let plain = adds_all _ _ _ _ _ _ _ h.adds (p.is c.loop-words.self.names) in
    record {
      adds = adds_more _ _ _ _ _ _ _ _ c.in-Some.word is.0 plain e.keeps is.1 is.2 pushed;
      room = omega (arith, ap length pushed, length-append c.read_plain.new.words.items (c.in-Some.word ∷ []), h.room, p.each, is.3, is.4, is.5);
      forward = omega (arith, h.forward, p.forward, is.3, is.4, is.5);
      keeps = keeps_on _ _ _ h.keeps e.keeps;
      codes = e.codes ∙ h.codes;
      macros = e.macros ∙ h.macros;
      bytes = e.bytes ∙ (p.bytes ∙ h.bytes);
    }

pub returns-in-None-clause-is : goal.returns-in-None-clause-is
returns-in-None-clause-is c =
    let is = rw c.in-None.is at c.in_ok-word.ensures.is in
    let plain = adds_all _ _ _ _ _ _ _ c.loop-words.invariant.adds (c.in_ok-read_plain.ensures.is c.loop-words.self.names) in
    adds_kept _ _ _ _ _ _ _ plain c.in_ok-word.ensures.keeps (is.0 ∙ sym is.1)
