-- What has been read of a document (`state_view`), by its tables; what is left of a source (`source_view`); and both with the
-- names that words are read by (`pages_view`).
use Rattle.std.specs.Prelude.{ℕ, ◌+◌, ◌-◌, List, drop, length}
use Rattle.mt_token.specs.Ahead.{ahead, offset, source}
use Rattle.mt_token.specs.Tokens.{Answer}
use Rattle.mt_macro.specs.Table.{Table}
use Rattle.mt_rules.specs.declared.document.Formula.{Formula}
use Rattle.mt_plain.specs.CodeTables.{CodeTables}
use Rattle.mt_lexicon.specs.declared.word.Word.{Word}
use Rattle.mt_lexicon.specs.Meaning.{NameTable}
use Rattle.mt_tables.specs.Held.{Held}
use Rattle.mt_reader.specs.declared.document_state.DocumentState.{DocumentState as StateFields}
use Rattle.mt_reader.specs.declared.page_reader.PageReader.{PageReader}
use Rattle.mt_reader.specs.declared.token_tables.TokenTables.{TokenTables}
use Rattle.mt_reader.specs.declared.word_source.WordSource.{WordSource}

-- the codes and macros, how many pages are ended, the formulas of the page that is not, how many formulas there are, and how
-- many tokens they had after expansion
pub record StateView : Type 0 where
  pub codes : CodeTables
  pub macros : Table
  pub ended : ℕ
  pub page : List Formula
  pub count : ℕ
  pub total : ℕ

abbrev pub state_view : {K : Type 0} → (K → CodeTables) → (K → Table) → StateFields K → StateView
state_view codes macros s = record {
  codes = codes s.tables;
  macros = macros s.tables;
  ended = s.ended;
  page = s.page;
  count = s.count;
  total = s.total;
}

-- the same of tables of words
abbrev pub held_view : StateFields Held → StateView
held_view s = state_view (λ (h : Held). h.codes) (λ (h : Held). h.macros) s

-- the same of tables over tokens
abbrev pub token_view : StateFields TokenTables → StateView
token_view s = state_view (λ (t : TokenTables). t.codes) (λ (t : TokenTables). t.macros) s

-- the words that are ahead, what is ahead of the cursor behind them, how many bytes are not read, and how many tokens are
-- before these words
pub record SourceView : Type 0 where
  pub words : List Word
  pub behind : Answer
  pub unread : ℕ
  pub passed : ℕ

abbrev pub source_view : WordSource → SourceView
source_view s = record {
  words = drop s.used s.words.items;
  behind = ahead s.lexer;
  unread = length (source s.lexer) - offset s.lexer;
  passed = s.passed + s.used;
}

-- what has been read, the names of words, and what is left of the source
pub record ReaderView : Type 0 where
  pub state : StateView
  pub names : NameTable
  pub source : SourceView

abbrev pub pages_view : PageReader → ReaderView
pages_view r = record { state = held_view r.state; names = r.state.tables.names; source = source_view r.source }
