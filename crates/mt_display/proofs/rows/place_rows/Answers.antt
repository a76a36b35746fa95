use Rattle.std.proofs.Common.{map, refl}
use Rattle.mt_display.proofs.Common.{layout_of, centred_row}
use Rattle.mt_display.proofs.RowMaps.{all_wide}
use Rattle.mt_display.proofs.rows.place_rows.Goals as goal

pub line_of_rows-requires-clause-wide : goal.line_of_rows-requires-clause-wide
line_of_rows-requires-clause-wide c = all_wide _ (centred_row _) (λ x. refl) c.in_ok-rows.rows (map layout_of c.args.rows) c.in_ok-rows.ensures.is
