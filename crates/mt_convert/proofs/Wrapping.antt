-- The public calls, by way of a stack that begins empty (`pass_is`, `list_taken`, `halves_taken`).
use Rattle.std.proofs.Common.{◌≡◌, ◌≤◌, ◌^◌, List, [], ◌++◌, take, drop, length, ap, sym, refl, ◌∙◌, arith, subst, Ok, Err, Result, All, OnOk}
use Rattle.mt_convert.proofs.Common.{SetValue, Piece, PieceValue, piece_values, Style, Sequence, Setting, SetFault, PlacedItem, PlacedHalves, RowOn, SetsRowOn, Halves, RowHolds, second_pass_of, IsSoundFont}
use Rattle.mt_convert.specs.inner.Fields.{list_content}
use Rattle.mt_convert.specs.inner.Placed.{placed_halves, reaching, HalvesOn, IsPlaced, ItemsOn}
use Rattle.mt_convert.proofs.Behind.{row_behind}
use Rattle.mt_convert.proofs.holds.Lists.{list_row_holds}
use Rattle.mt_convert.proofs.PutRows.{values_length}
use Rattle.mt_convert.specs.ListRow.{halves_of, list_row}

halves_are : (x y : Halves) → ◌≡◌ {A = Setting Halves} (Ok x) (Ok y) → x ≡ y
halves_are x y e = cc

-- the list that was put on an empty stack
same_list : (halves : Halves) (h : PlacedHalves) (now : List PieceValue) → HalvesOn h [] now (Ok halves) → halves ≡ placed_halves h now
same_list halves h now k = halves_are halves (placed_halves h k.row) k.is ∙ ap (placed_halves h) (sym k.stays)

pub pass_is : (fonts : SetValue) (style : Style) (halves : Halves) (h : PlacedHalves) (now new : List PieceValue) (row : List Piece) → HalvesOn h [] now (Ok halves) → RowOn (take 0 now) new (second_pass_of fonts style (placed_halves h now)) → piece_values row ≡ new
    → second_pass_of fonts style halves ≡ Ok (piece_values row)
pass_is fonts style halves h now new row k m e = ap (second_pass_of fonts style) (same_list halves h now k) ∙ (m.is ∙ ap (λ r. Ok r) (sym (e ∙ m.stays)))

pub few_taken : (new : List PieceValue) (row : List Piece) → piece_values row ≡ new → length new ≤ 2 ^ 21 → length row ≤ 2 ^ 21
few_taken new row e f = omega (arith, f, values_length row, ap length e)

-- ---- a list that is set

pub list_taken : (fonts : SetValue) (style : Style) (list : Sequence) (old new : List PieceValue) (row : List Piece) → old ≡ [] → RowOn old new (list_row fonts style list) → piece_values row ≡ new → list_row fonts style list ≡ Ok (piece_values row)
list_taken fonts style list old new row e m f = m.is ∙ ap (λ r. Ok r) (sym (f ∙ (m.stays ∙ ap (λ o. o ++ m.row) e)))

pub list_put : {U : Type 0} (r : Result U SetFault) (fonts : SetValue) (style : Style) (list : Sequence) (old new : List PieceValue) → SetsRowOn r old new (list_content fonts list style) → SetsRowOn r old new (list_row fonts style list)
unfolding list_row halves_of
list_put r fonts style list old new h = h

pub row_put : {U : Type 0} (r : Result U SetFault) (fonts : SetValue) (style : Style) (list : Sequence) (old new : List PieceValue) → All IsSoundFont fonts.fonts → SetsRowOn r old new (list_row fonts style list) → OnOk r (RowHolds fonts (drop (length old) new))
row_put (Ok u) fonts style list old new sound h = subst (RowHolds fonts) (sym (row_behind (length old) old h.row new refl h.stays)) (list_row_holds fonts sound style list h.row h.is)
row_put (Err fault) fonts style list old new sound h = tt

-- the items of the first pass

pub halves_on : (hs : List PlacedItem) (h : PlacedHalves) (old now : List PieceValue) (setting : Setting Halves) → old ≡ [] → ItemsOn hs old now setting → h ≡ reaching hs now → HalvesOn h old now setting
halves_on hs h old now setting e k f =
    subst (λ x. HalvesOn x old now setting) (sym (f ∙ ap (reaching hs) (k.stays ∙ ap (λ o. o ++ k.row) e))) (record { row = k.row; is = k.is; stays = k.stays; placed = k.placed })

pub few_on : (hs : List PlacedItem) (old now : List PieceValue) (setting : Setting Halves) → old ≡ [] → ItemsOn hs old now setting → length now ≤ 2 ^ 21
few_on hs old now setting e k = omega (arith, ap length (k.stays ∙ ap (λ o. o ++ k.row) e), k.placed.items.total)

pub halves_placed : (h : PlacedHalves) (old now : List PieceValue) (setting : Setting Halves) → old ≡ [] → HalvesOn h old now setting → IsPlaced h now
halves_placed h old now setting e k = subst (IsPlaced h) (sym (k.stays ∙ ap (λ o. o ++ k.row) e)) k.placed

pub halves_taken : (h : PlacedHalves) (old now : List PieceValue) (setting : Setting Halves) (v : Halves) → old ≡ [] → HalvesOn h old now setting → v ≡ placed_halves h now → setting ≡ Ok v
halves_taken h old now setting v e k f = k.is ∙ ap (λ x. Ok x) (sym (f ∙ ap (placed_halves h) (k.stays ∙ ap (λ o. o ++ k.row) e)))
