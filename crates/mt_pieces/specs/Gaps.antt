-- Kerns and spaces put between pieces (`with_gaps`).
use Rattle.std.specs.Prelude.{◌^◌, ⊤, List, [], ◌∷◌, ◌++◌, take, drop}
use Rattle.mt_scaled.specs.Number.{Within}
use Rattle.mt_box.specs.Rows.{PieceValue, PieceKern, PieceSpace}
use Rattle.mt_pieces.specs.declared.gaps.Gap.{Gap}
use Rattle.mt_pieces.specs.declared.gaps.Gap.TheVariants as gap
use Rattle.mt_pieces.specs.declared.gaps.Run.{Run}

abbrev pub gap_pieces : Gap → List PieceValue
gap_pieces gap.None = []
gap_pieces (gap.Kern width) = PieceKern width.sp ∷ []
gap_pieces (gap.Space space) = PieceSpace space.width space.shrink ∷ []

-- pieces, or parts of them, with the gaps of runs; those after the runs stay behind them
abbrev pub with_gaps : {A : Type 0} → (Gap → List A) → List Run → List A → List A
with_gaps put [] xs = xs
with_gaps put (run ∷ runs) xs = put run.gap ++ (take run.count xs ++ with_gaps put runs (drop run.count xs))

-- numbers are at most 2^40 in size
abbrev pub GapFits : Gap → Type 0
GapFits gap.None = ⊤
GapFits (gap.Kern width) = Within (2 ^ 40) width.sp
GapFits (gap.Space space) = Within (2 ^ 40) space.width × Within (2 ^ 40) space.shrink

abbrev pub AllRunsFit : List Run → Type 0
AllRunsFit [] = ⊤
AllRunsFit (run ∷ runs) = GapFits run.gap × AllRunsFit runs
