use Rattle.std.proofs.Common.{arith, ap, refl, sym, length, [], ◌∷◌, ◌∙◌}
use Rattle.std.proofs.lemmas.List.{length-append}
use Rattle.mt_token.specs.Ahead.{offset, source}
use Rattle.mt_tables.proofs.AddedWords.{adds_none, adds_plain, adds_kept}
use Rattle.mt_tables.proofs.Loads.{keeps_itself}
use Rattle.mt_tables.proofs.reading.read_plain.Goals as goal

pub loop-here-init : goal.loop-here-init
loop-here-init c = record {
  adds = λ names. adds_none names _ _;
  each = refl;
  forward = omega arith;
  same = refl;
  bytes = refl;
}

pub loop-here-preserved : goal.loop-here-preserved
loop-here-preserved c =
    let h = c.loop-here.invariant in
    let is = c.in-Some.ensures.is in
    let pushed = c.in_ok-push_word-in-Some.ensures in
    record {
      adds = λ names. adds_plain names _ _ _ _ _ _ c.character.result c.in-Some.c c.loop-here.here.at (h.adds names) c.character.ensures is.1 pushed;
      each = omega (arith, ap length pushed, length-append c.loop-here.words.items (c.character.result ∷ []), h.each, is.2);
      forward = omega (arith, h.forward, is.2);
      same = h.same;
      bytes = c.in-Some.ensures.bytes ∙ h.bytes;
    }

pub returns-in-None-clause-is : goal.returns-in-None-clause-is
returns-in-None-clause-is c = λ names. adds_kept names names _ _ _ _ _ (c.loop-here.invariant.adds names) (keeps_itself names) (sym c.in-None.ensures.is.0)

pub returns-in_err-push_word-in-Some-clause-forward : goal.returns-in_err-push_word-in-Some-clause-forward
returns-in_err-push_word-in-Some-clause-forward c = omega (arith, ap offset c.loop-here.invariant.same)

pub returns-in_err-push_word-in-Some-clause-bytes : goal.returns-in_err-push_word-in-Some-clause-bytes
returns-in_err-push_word-in-Some-clause-bytes c = ap source c.loop-here.invariant.same
