-- Lines that are given as boxes: their level, and their layouts on marks.
use Rattle.std.proofs.Common.{◌≡◌, ◌≤◌, ◌+◌, ◌^◌, List, [], ◌∷◌, ◌++◌, map, length, suc, refl, arith, append_assoc, ◌∙◌, ap, subst, All}
use Rattle.std.proofs.lemmas.List.Elements.{All-head, All-tail, All-nil, All-append}
use Rattle.mt_box.specs.declared.place.Place.{Place}
use Rattle.mt_box.specs.declared.extents.Extents.{Extents}
use Rattle.mt_box.specs.Layout.{BoxValue, layout_of}
use Rattle.mt_box.specs.Extents.{ExtentsInRange}
use Rattle.mt_box.specs.marks.RowParts.{on_stack}
use Rattle.mt_parts.specs.LineColumns.{boxes_level}
use Rattle.mt_parts.specs.LineLayers.{all_extents, all_places}

-- ---- their level

pub boxes_level-low : (bs : List BoxValue) → 1 ≤ boxes_level bs
boxes_level-low [] = omega arith
boxes_level-low (b ∷ bs) = omega (arith, boxes_level-low bs)

pub boxes_level-small : (bs : List BoxValue) → All (λ (b : BoxValue). b.level + 4 ≤ 2 ^ 20) bs → boxes_level bs ≤ 2 ^ 20
boxes_level-small [] h = omega arith
boxes_level-small (b ∷ bs) h = omega (arith, All-head (λ (c : BoxValue). c.level + 4 ≤ 2 ^ 20) b bs h, boxes_level-small bs (All-tail (λ (c : BoxValue). c.level + 4 ≤ 2 ^ 20) b bs h))

-- ---- their layouts

pub record Pushed (rows rest : List BoxValue) (lines : List Extents) (now old : List (List Place)) : Type 0 where
  pub extents : lines ++ all_extents (map layout_of rest) ≡ all_extents (map layout_of rows)
  pub marks : on_stack (all_places (map layout_of rest)) now ≡ on_stack (all_places (map layout_of rows)) old
  pub in_range : All ExtentsInRange lines

one_in : (e : Extents) → ExtentsInRange e → All ExtentsInRange (e ∷ [])
one_in e h = λ k d lt. (let first : k ≡ 0 = omega (arith, lt) in rw first h)

pub pushed_start : (rows : List BoxValue) (lines : List Extents) (now : List (List Place)) → lines ≡ [] → Pushed rows rows lines now now
pushed_start rows lines now e = rw e (record { extents = refl; marks = refl; in_range = All-nil ExtentsInRange })

pub pushed_step : (rows rest rest' : List BoxValue) (b : BoxValue) (lines lines' : List Extents) (now now' old : List (List Place))
    → Pushed rows rest lines now old → rest ≡ b ∷ rest' → ExtentsInRange b.extents → lines' ≡ lines ++ b.extents ∷ [] → now' ≡ b.places ∷ now
    → Pushed rows rest' lines' now' old
pushed_step rows rest rest' b lines lines' now now' old h is range e f =
    let h' : Pushed rows (b ∷ rest') lines now old = subst (λ z. Pushed rows z lines now old) is h in
    rw (e, f) (record {
      extents = append_assoc lines (b.extents ∷ []) (all_extents (map layout_of rest')) ∙ h'.extents;
      marks = h'.marks;
      in_range = All-append ExtentsInRange lines (b.extents ∷ []) h'.in_range (one_in b.extents range);
    })

pub pushed_end : (rows rest : List BoxValue) (lines : List Extents) (now old : List (List Place)) → Pushed rows rest lines now old → rest ≡ [] → Pushed rows [] lines now old
pushed_end rows rest lines now old h e = subst (λ z. Pushed rows z lines now old) e h

count_of : (rows : List BoxValue) → length (all_extents (map layout_of rows)) ≡ length rows
count_of [] = refl
count_of (b ∷ bs) = ap suc (count_of bs)

pub lines_few : (rows : List BoxValue) (lines : List Extents) → lines ≡ all_extents (map layout_of rows) → length rows ≤ 2 ^ 20 → length lines ≤ 2 ^ 20
lines_few rows lines e few = let same : length lines ≡ length rows = ap length e ∙ count_of rows in omega (arith, same, few)
