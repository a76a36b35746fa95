use Rattle.std.proofs.Common.{◌≡◌, ◌*◌, ◌≤◌, length}
use Rattle.std.specs.List.{filter, range_with_len}
use Rattle.mt_dviops.specs.Result.{definitions_bytes}
use Rattle.mt_dviops.specs.inner.Shown.{has_selected}
use Rattle.mt_dviops.proofs.write.definitions.Given as goal

abbrev pub invariant-loop-n : goal.invariant-loop-n
invariant-loop-n l = record {
  is : l.out.items ≡ definitions_bytes l.fonts (filter (has_selected l.selected) (range_with_len 0 l.n));
  short : length l.out.items ≤ 80 * l.n;
}
