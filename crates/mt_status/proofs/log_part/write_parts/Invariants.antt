use Rattle.std.proofs.Common.{◌≡◌}
use Rattle.mt_status.proofs.LogPartLemmas.{UpTo}
use Rattle.mt_status.proofs.log_part.write_parts.Given as goal

abbrev pub invariant-loop-part : goal.invariant-loop-part
invariant-loop-part g l = record {
  told : UpTo (g.S.Sink.written l.initial.sink) (g.S.Sink.written l.sink) l.held.items l.parts l.part-index;
  same : g.S.Sink.faults l.sink ≡ g.S.Sink.faults l.initial.sink;
}
