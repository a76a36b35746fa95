use Rattle.std.proofs.Common.{◌≡◌, ◌∙◌, ◌-◌, ℕ, List, length, take, drop, arith, length-drop}
use Rattle.std.proofs.Math.Seq.{take-add}
use Rattle.std.proofs.lemmas.List.{take_all}
use Rattle.mt_outside.proofs.Appended.{appends_more}
use Rattle.mt_outside.proofs.sink.write_all.Goals as goal

-- the slice of all bytes from an index on
rest_is : (n : ℕ) (xs : List ℕ) → take (length xs - n) (drop n xs) ≡ drop n xs
rest_is n xs = take_all _ _ (omega (arith, length-drop n xs))

pub loop-done-preserved : goal.loop-done-preserved
loop-done-preserved g c = record {
  within = omega (arith, c.in-Ok.ensures.within);
  appended = rw (take-add, ← rest_is c.loop-done.done c.args.bytes.now) (appends_more _ _ _ _ _ c.loop-done.invariant.appended c.in-Ok.ensures.appended);
  same = c.in-Ok.ensures.leaves ∙ c.loop-done.invariant.same;
}
