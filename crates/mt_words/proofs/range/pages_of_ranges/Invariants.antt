use Rattle.std.proofs.Common.{◌≡◌, List, ℕ, map, drop}
use Rattle.std.specs.Borrow.{Bor}
use Rattle.mt_words.proofs.RangeLemmas.{after_pages}
use Rattle.mt_words.specs.Ranges.{pages_of_ranges}
use Rattle.mt_words.proofs.range.pages_of_ranges.Given as goal

abbrev pub invariant-loop-word : goal.invariant-loop-word
invariant-loop-word l =
    pages_of_ranges (map (λ (word : Bor (List ℕ)). word.now) l.words) ≡ after_pages l.pages.items (pages_of_ranges (drop l.word-index (map (λ (word : Bor (List ℕ)). word.now) l.words)))
