use Rattle.std.proofs.Common.{sym, subst, map, List, ℕ}
use Rattle.mt_macro.specs.inner.Ends.{AreEnds}
use Rattle.mt_macro.proofs.Ending.{are_ends_none}
use Rattle.mt_macro.proofs.ends.known_ends.Goals as goal

pub returns-else-list-gt-FEW : goal.returns-else-list-gt-FEW
returns-else-list-gt-FEW g c =
    subst (λ (es : List ℕ). AreEnds (map (g.L.Lexicon.token c.args.tables.now) c.args.list.now) es) (sym c.new.ensures.items) (are_ends_none _)
