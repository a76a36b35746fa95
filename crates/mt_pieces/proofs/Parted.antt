-- Parts of formulas in place of the last pieces.
use Rattle.std.specs.Prelude.{⊤}
use Rattle.std.proofs.Common.{◌≡◌, ℕ, ◌-◌, pos, List, [], ◌∷◌, ◌++◌, Some, length, reverse, take, Result, Err, OnOk, OnErr, IfOk, IfErr, IsOk, subst}
use Rattle.mt_box.specs.declared.place.Place.{Place}
use Rattle.mt_box.specs.declared.extents.Extents.{Extents}
use Rattle.mt_box.specs.declared.marks.row.RowPiece.{RowPiece}
use Rattle.mt_box.specs.declared.marks.row.RowPart.{RowPart}
use Rattle.mt_box.specs.Extents.{ExtentsInRange}
use Rattle.mt_box.specs.Layout.{Layout}
use Rattle.mt_box.specs.Rows.{PieceValue, PieceBox}
use Rattle.mt_box.specs.marks.Layers.{dropped, top}
use Rattle.mt_rules.specs.declared.part_error.PartError.{PartError}
use Rattle.mt_rules.specs.declared.part_error.PartError.TheVariants.{OutOfMemory as NoPartMemory}
use Rattle.mt_rules.specs.OnMarks.{SetsOn, layout_with}
use Rattle.mt_rules.specs.Setting.{Setting}
use Rattle.mt_pieces.specs.Putting.{boxed_on, SetsPieces}
use Rattle.mt_pieces.specs.declared.last.TwoBoxes.{TwoBoxes}
use Rattle.mt_pieces.specs.inner.LastParts.{last_box, last_two}
use Rattle.mt_pieces.specs.inner.View.{AreLaid, box_part, pieces_back}
use Rattle.mt_pieces.proofs.LastPieces.{last_of, last_is, two_of, two_are}
use Rattle.mt_pieces.proofs.Settled.{settled_laid, part_settled}

-- what a call did that settled a part: the layouts after it, and the parts
pub record IsSettled (made : Result Extents PartError) (r : Result ⊤ PartError) (kept ps' : List RowPart) (ms ms' : List (List Place)) : Type 0 where
  pub ok : OnOk r (IsOk made)
  pub marks : OnOk r (ms' ≡ ms)
  pub parts : IfOk made (λ e. OnOk r (ps' ≡ kept ++ box_part e ∷ []))
  pub no_marks : OnErr r (ms' ≡ [])
  pub no_parts : OnErr r (ps' ≡ [])
  pub fault : IfErr made (λ f. r ≡ Err f)
  pub memory : IfOk made (λ e. IfErr r (λ f. f ≡ NoPartMemory))

-- ---- in place of the last box

pub one_part : (ps ps' : List RowPart) (keep : ℕ) (old ms ms' : List (List Place)) (p : RowPiece) (made : Result Extents PartError) (r : Result ⊤ PartError) (now : List PieceValue) (setting : Layout → Setting Layout)
    → AreLaid (reverse ps) old → pieces_back (reverse ps) old ≡ now → last_box (reverse ps) ≡ Some p → keep ≡ length ps - 1
    → ((n : List Place) (rest : List (List Place)) → old ≡ n ∷ rest → SetsOn made (top ms) (setting (layout_with p.extents n)))
    → ((n : List Place) (rest : List (List Place)) → old ≡ n ∷ rest → OnOk made (ms ≡ top ms ∷ rest))
    → IsSettled made r (take keep ps) ps' ms ms'
    → (before : List PieceValue) (l : Layout) → now ≡ before ++ PieceBox (pos 0) l ∷ [] → SetsPieces r (pieces_back (reverse ps') ms') (boxed_on before (setting l))
one_part ps ps' keep old ms ms' p made r now setting h v e k is rest settled before l w =
    let b = last_of ps keep old p h e k in
    let t = last_is ps keep old p now before (pos 0) l b v w in
    subst (λ z. SetsPieces r (pieces_back (reverse ps') ms') (boxed_on before (setting z))) t.layout
    (part_settled made r (take keep ps) ps' ms ms' (dropped old) before (setting (layout_with p.extents (top old)))
    (is (top old) (dropped old) b.layers) (rest (top old) (dropped old) b.layers) settled.marks settled.parts settled.fault settled.memory t.rest)

pub one_laid : (ps ps' : List RowPart) (keep : ℕ) (old ms ms' : List (List Place)) (p : RowPiece) (made : Result Extents PartError) (r : Result ⊤ PartError)
    → AreLaid (reverse ps) old → last_box (reverse ps) ≡ Some p → keep ≡ length ps - 1
    → ((n : List Place) (rest : List (List Place)) → old ≡ n ∷ rest → OnOk made (ms ≡ top ms ∷ rest)) → IfOk made ExtentsInRange
    → IsSettled made r (take keep ps) ps' ms ms' → AreLaid (reverse ps') ms'
one_laid ps ps' keep old ms ms' p made r h e k rest range settled =
    let b = last_of ps keep old p h e k in
    settled_laid made r (take keep ps) ps' ms ms' (dropped old) settled.ok settled.marks settled.parts settled.no_marks settled.no_parts (rest (top old) (dropped old) b.layers) range b.laid

-- ---- in place of the last two boxes

pub two_part : (ps ps' : List RowPart) (keep : ℕ) (old ms ms' : List (List Place)) (b : TwoBoxes) (made : Result Extents PartError) (r : Result ⊤ PartError) (now : List PieceValue) (setting : Layout → Layout → Setting Layout)
    → AreLaid (reverse ps) old → pieces_back (reverse ps) old ≡ now → last_two (reverse ps) ≡ Some b → keep ≡ length ps - 2
    → ((n d : List Place) (rest : List (List Place)) → old ≡ d ∷ n ∷ rest → SetsOn made (top ms) (setting (layout_with b.first.extents n) (layout_with b.second.extents d)))
    → ((n d : List Place) (rest : List (List Place)) → old ≡ d ∷ n ∷ rest → OnOk made (ms ≡ top ms ∷ rest))
    → IsSettled made r (take keep ps) ps' ms ms'
    → (before : List PieceValue) (l m : Layout) → now ≡ before ++ PieceBox (pos 0) l ∷ PieceBox (pos 0) m ∷ [] → SetsPieces r (pieces_back (reverse ps') ms') (boxed_on before (setting l m))
two_part ps ps' keep old ms ms' b made r now setting h v e k is rest settled before l m w =
    let two = two_of ps keep old b h e k in
    let t = two_are ps keep old b now before (pos 0) (pos 0) l m two v w in
    subst (λ z. SetsPieces r (pieces_back (reverse ps') ms') (boxed_on before (setting z m))) t.first
    (subst (λ z. SetsPieces r (pieces_back (reverse ps') ms') (boxed_on before (setting (layout_with b.first.extents (top (dropped old))) z))) t.second
    (part_settled made r (take keep ps) ps' ms ms' (dropped (dropped old)) before (setting (layout_with b.first.extents (top (dropped old))) (layout_with b.second.extents (top old)))
    (is (top (dropped old)) (top old) (dropped (dropped old)) two.layers) (rest (top (dropped old)) (top old) (dropped (dropped old)) two.layers) settled.marks settled.parts settled.fault settled.memory t.rest))

pub two_laid : (ps ps' : List RowPart) (keep : ℕ) (old ms ms' : List (List Place)) (b : TwoBoxes) (made : Result Extents PartError) (r : Result ⊤ PartError)
    → AreLaid (reverse ps) old → last_two (reverse ps) ≡ Some b → keep ≡ length ps - 2
    → ((n d : List Place) (rest : List (List Place)) → old ≡ d ∷ n ∷ rest → OnOk made (ms ≡ top ms ∷ rest)) → IfOk made ExtentsInRange
    → IsSettled made r (take keep ps) ps' ms ms' → AreLaid (reverse ps') ms'
two_laid ps ps' keep old ms ms' b made r h e k rest range settled =
    let two = two_of ps keep old b h e k in
    settled_laid made r (take keep ps) ps' ms ms' (dropped (dropped old)) settled.ok settled.marks settled.parts settled.no_marks settled.no_parts (rest (top (dropped old)) (top old) (dropped (dropped old)) two.layers) range two.laid
