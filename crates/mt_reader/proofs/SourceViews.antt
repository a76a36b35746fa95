-- The words behind the first one that is ahead.
use Rattle.std.proofs.Common.{◌≡◌, ℕ, ◌+◌, ◌-◌, List, length, take, drop, sym, ◌∙◌, arith}
use Rattle.std.proofs.lemmas.List.{drop-drop, length-drop, take_all}
use Rattle.mt_lexicon.specs.declared.word.Word.{Word}

pub tail_is : (items : List Word) (used : ℕ) → take (length items - (used + 1)) (drop (used + 1) items) ≡ drop 1 (drop used items)
tail_is items used = take_all (length items - (used + 1)) (drop (used + 1) items) (omega (arith, length-drop (used + 1) items)) ∙ sym (drop-drop 1 used items)
