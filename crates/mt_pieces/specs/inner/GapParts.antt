-- The parts of what comes between pieces.
use Rattle.std.specs.Prelude.{Bool, true, false, List, [], ◌∷◌}
use Rattle.mt_box.specs.declared.marks.row.RowPart.{RowPart}
use Rattle.mt_box.specs.declared.marks.row.RowPart.TheVariants as part
use Rattle.mt_pieces.specs.declared.gaps.Gap.{Gap}
use Rattle.mt_pieces.specs.declared.gaps.Gap.TheVariants as gap

abbrev pub gap_parts : Gap → List RowPart
gap_parts gap.None = []
gap_parts (gap.Kern width) = part.Gap width.sp ∷ []
gap_parts (gap.Space space) = part.Space space.width space.shrink ∷ []

abbrev pub is_no_gap : Gap → Bool
is_no_gap gap.None = true
is_no_gap (gap.Kern width) = false
is_no_gap (gap.Space space) = false
