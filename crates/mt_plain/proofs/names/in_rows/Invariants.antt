use Rattle.std.proofs.Common.{◌≡◌, drop}
use Rattle.mt_plain.specs.inner.Buckets.{in_rows}
use Rattle.mt_plain.proofs.names.in_rows.Given as goal

abbrev pub invariant-loop-row : goal.invariant-loop-row
invariant-loop-row l = in_rows l.rows l.name ≡ in_rows (drop l.row-index l.rows) l.name
