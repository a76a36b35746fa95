-- Both passes over a list (`list_set`, `list_err`).
use Rattle.std.proofs.Common.{◌≡◌, List, ap, sym, subst, Result, Ok}
use Rattle.mt_convert.proofs.Common.{SetValue, PieceValue, Style, Sequence, ◌>>=◌, SetFault, PlacedHalves, SetFails, SetsRowOn, second_pass_of}
use Rattle.mt_convert.specs.inner.Fields.{list_content}
use Rattle.mt_convert.specs.inner.Placed.{placed_halves}
use Rattle.mt_convert.proofs.Appending.{fails_then}
use Rattle.mt_convert.specs.ListRow.{halves_of}

-- a fault of an item is the fault of the list
pub list_err : (fonts : SetValue) (style : Style) (list : Sequence) (fault : SetFault) → SetFails fault (halves_of fonts style list) → SetFails fault (list_content fonts list style)
unfolding halves_of
list_err fonts style list fault h = fails_then fault (halves_of fonts style list) (λ halves. second_pass_of fonts style halves) h

pub list_set : {U : Type 0} (fonts : SetValue) (style : Style) (list : Sequence) (row : List PieceValue) (halves : PlacedHalves) (r : Result U SetFault) (old new : List PieceValue) → halves_of fonts style list ≡ Ok (placed_halves halves row) → SetsRowOn r old new (second_pass_of fonts style (placed_halves halves row)) → SetsRowOn r old new (list_content fonts list style)
unfolding halves_of
list_set fonts style list row halves r old new e h = subst (SetsRowOn r old new) (sym (ap (λ s. s >>= (λ hs. second_pass_of fonts style hs)) e)) h
