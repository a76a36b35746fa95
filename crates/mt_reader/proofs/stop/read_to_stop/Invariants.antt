use Rattle.std.proofs.Common.{◌≤◌, length}
use Rattle.mt_plain.specs.CodeTables.{plain_codes}
use Rattle.mt_plain.specs.PlainMacros.{plain_table}
use Rattle.mt_reader.specs.Stops.{definition_tokens}
use Rattle.mt_reader.specs.StopReading.{CanRead, IsAhead}
use Rattle.mt_reader.specs.Views.{token_view}
use Rattle.mt_reader.proofs.stop.read_to_stop.Given as goal

abbrev pub invariant-loop-rest : goal.invariant-loop-rest
invariant-loop-rest l = record {
  is : IsAhead l.units l.formula plain_codes plain_table l.source (definition_tokens l.definitions.items) (token_view l.state) l.rest;
  can : CanRead (token_view l.state) l.rest;
  short : length l.rest ≤ length l.source;
}

abbrev pub decreases-loop-rest : goal.decreases-loop-rest
decreases-loop-rest l = length l.rest
