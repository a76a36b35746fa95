use Rattle.std.proofs.Common.{refl, arith}
use Rattle.mt_tables.proofs.AddedWords.{adds_none}
use Rattle.mt_tables.proofs.Loads.{keeps_itself}
use Rattle.mt_reader.proofs.word_source.WordSource.more.Goals as goal

pub returns-then-is_read_to_end-clause-is : goal.returns-then-is_read_to_end-clause-is
returns-then-is_read_to_end-clause-is c = record {
  names = keeps_itself _;
  adds = adds_none _ _ _;
  room = omega arith;
  passed = refl;
}
