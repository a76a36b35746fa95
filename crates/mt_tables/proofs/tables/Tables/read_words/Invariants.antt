use Rattle.std.proofs.Common.{◌≡◌, ◌≤◌, ◌+◌, ◌-◌, length}
use Rattle.mt_token.specs.Ahead.{ahead}
use Rattle.mt_lexicon.specs.Meaning.{Extends}
use Rattle.mt_tables.specs.Reading.{AddsWords}
use Rattle.mt_tables.proofs.tables.Tables.read_words.Given as goal

abbrev pub invariant-loop-words : goal.invariant-loop-words
invariant-loop-words l = record {
  adds : AddsWords l.self.names l.fn.words.items (ahead l.fn.lexer) l.words.items (ahead l.lexer);
  room : length l.words.items + l.fn.lexer.at ≤ length l.fn.words.items + l.lexer.at;
  forward : l.fn.lexer.at ≤ l.lexer.at;
  keeps : Extends l.fn.self.names l.self.names;
  codes : l.self.codes ≡ l.fn.self.codes;
  macros : l.self.macros ≡ l.fn.self.macros;
  bytes : l.lexer.bytes.now ≡ l.fn.lexer.bytes.now;
}

abbrev pub decreases-loop-words : goal.decreases-loop-words
decreases-loop-words l = length l.lexer.bytes.now - l.lexer.at
