use Rattle.std.proofs.Common.{sym, ◌∙◌}
use Rattle.std.specs.Prelude.{None}
use Rattle.std.proofs.lemmas.List.{get_or-replicate}
use Rattle.mt_dviread.proofs.DefinedLemmas.{none_at}
use Rattle.mt_dviread.proofs.numbered.NumberedFonts.none.Goals as goal

pub invariant_of-result : goal.invariant_of-result
invariant_of-result c = record { same = λ n small. get_or-replicate 64 n None None small ∙ sym (none_at c.new.result n c.new.ensures.empty) }
