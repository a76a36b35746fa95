use Rattle.std.proofs.Common.{◌≡◌, ◌+◌, ◌≤◌, length, map, take, drop}
use Rattle.mt_macro.specs.Braces.{group}
use Rattle.mt_macro.proofs.Taking.{onto_all}
use Rattle.mt_macro.proofs.braces.closing_brace.Given as goal

abbrev pub invariant-loop-rest : goal.invariant-loop-rest
invariant-loop-rest g l =
    let tokens = map (g.L.Lexicon.token l.tables) l.tokens in
    let rest = map (g.L.Lexicon.token l.tables) l.rest in
    record {
      is : group 0 tokens ≡ onto_all (take l.index tokens) (group l.level rest);
      here : rest ≡ drop l.index tokens;
      within : l.index + length l.rest ≡ length l.tokens;
      low : l.level ≤ l.index;
    }

abbrev pub decreases-loop-rest : goal.decreases-loop-rest
decreases-loop-rest g l = length l.rest
