use Rattle.std.proofs.Common.{◌≡◌, map, take}
use Rattle.std.specs.List.{AllByRecursion}
use Rattle.mt_macro.specs.Placeless.{placeless}
use Rattle.mt_lexicon.specs.Meaning.{token_of, Known, Extends}
use Rattle.mt_tables.proofs.tables.Tables.words_of.Given as goal

abbrev pub invariant-loop-token : goal.invariant-loop-token
invariant-loop-token l = record {
  is : map (token_of l.self.names) l.words.items ≡ map placeless (take l.token-index l.list);
  known : AllByRecursion (Known l.self.names) l.words.items;
  keeps : Extends l.fn.self.names l.self.names;
  codes : l.self.codes ≡ l.fn.self.codes;
  macros : l.self.macros ≡ l.fn.self.macros;
}
