use Rattle.std.proofs.Common.{◌≡◌, ◌≤◌, ◌+◌, ◌-◌, length}
use Rattle.mt_token.specs.Ahead.{ahead}
use Rattle.mt_lexicon.specs.Meaning.{NameTable}
use Rattle.mt_tables.specs.Reading.{AddsWords}
use Rattle.mt_tables.proofs.reading.read_plain.Given as goal

abbrev pub invariant-loop-here : goal.invariant-loop-here
invariant-loop-here l = record {
  adds : (names : NameTable) → AddsWords names l.fn.words.items (ahead l.fn.lexer) l.words.items (ahead l.here);
  each : length l.words.items + l.fn.lexer.at ≡ length l.fn.words.items + l.here.at;
  forward : l.fn.lexer.at ≤ l.here.at;
  same : l.lexer ≡ l.fn.lexer;
  bytes : l.here.bytes.now ≡ l.fn.lexer.bytes.now;
}

abbrev pub decreases-loop-here : goal.decreases-loop-here
decreases-loop-here l = length l.here.bytes.now - l.here.at
