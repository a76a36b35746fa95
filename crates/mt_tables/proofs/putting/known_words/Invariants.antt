use Rattle.std.proofs.Common.{◌≡◌, map, take, length}
use Rattle.std.specs.List.{AllByRecursion}
use Rattle.mt_lexicon.specs.Meaning.{token_of, Known}
use Rattle.mt_tables.proofs.putting.known_words.Given as goal

abbrev pub invariant-loop-word : goal.invariant-loop-word
invariant-loop-word l = record {
  same : map (token_of l.names) l.words.items ≡ map (token_of l.names) (take l.word-index l.list);
  known : AllByRecursion (Known l.names) l.words.items;
  size : length l.words.items ≡ l.word-index;
}
