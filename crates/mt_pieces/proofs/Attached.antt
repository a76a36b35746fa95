-- The box that scripts were made after a nucleus, and the test of their row.
use Rattle.std.proofs.Common.{◌≡◌, ℤ, ◌+ℤ◌, ◌^◌, List, [], ◌∷◌, ◌++◌, append_assoc, reverse, Option, Some, None, Result, Ok, Err, OnOk, OnErr, IfOk, IfErr, IsOk, refl, sym, ◌∙◌, ap, subst, arith}
use Rattle.std.specs.Prelude.{⊤}
use Rattle.std.specs.Int.{int_max}
use Rattle.std.specs.Option.{ForSome}
use Rattle.std.proofs.lemmas.Int.{ints, clamps}
use Rattle.std.proofs.lemmas.List.{append-nil}
use Rattle.mt_scaled.specs.Number.{Within}
use Rattle.mt_box.specs.declared.place.Place.{Place}
use Rattle.mt_box.specs.declared.extents.Extents.{Extents}
use Rattle.mt_box.specs.declared.marks.row.RowPiece.{RowPiece}
use Rattle.mt_box.specs.declared.marks.row.RowPart.{RowPart}
use Rattle.mt_box.specs.declared.error.PackError.{PackError}
use Rattle.mt_box.specs.declared.error.PackError.TheVariants.{Overflow as PackOverflow, OutOfMemory as NoPackMemory}
use Rattle.mt_box.specs.Extents.{ExtentsInRange, first_out}
use Rattle.mt_box.specs.Rows.{PieceValue, PieceBox, pack, piece_height, piece_depth, piece_width, row_width, row_height, row_depth}
use Rattle.mt_box.specs.marks.Layers.{top}
use Rattle.mt_rules.specs.OnMarks.{ExtentsTested, layout_with}
use Rattle.mt_rules.specs.Setting.{Setting, ◌>>=◌, make_row, pass_unless}
use Rattle.mt_pieces.specs.Attaching.{row_on}
use Rattle.mt_pieces.specs.Putting.{PacksPieces}
use Rattle.mt_pieces.specs.inner.Taken.{AttachesOn, StandsOn, part_if, reach_beside, reach_with, tested_row}
use Rattle.mt_pieces.specs.inner.View.{AreLaid, IsBoxLaid, pieces_back}
use Rattle.mt_pieces.proofs.Taken.{piece_if}

-- ---- numbers

pub extents_is : (e : Extents) (w h d : ℤ) → e.width ≡ w → e.height ≡ h → e.depth ≡ d → e ≡ record { width = w; height = h; depth = d }
extents_is e w h d p q r = rw (sym p, sym q, sym r) refl

width_more : (ms : List PieceValue) (m : PieceValue) → row_width ms +ℤ piece_width m ≡ row_width (ms ++ m ∷ [])
width_more [] m = omega (arith, ints)
width_more (n ∷ ms) m = omega (arith, ints, width_more ms m)

height_more : (ms : List PieceValue) (m : PieceValue) → int_max (row_height ms) (piece_height m) ≡ row_height (ms ++ m ∷ [])
height_more [] m = omega (arith, ints, clamps)
height_more (n ∷ ms) m = omega (arith, ints, clamps, height_more ms m)

depth_more : (ms : List PieceValue) (m : PieceValue) → int_max (row_depth ms) (piece_depth m) ≡ row_depth (ms ++ m ∷ [])
depth_more [] m = omega (arith, ints, clamps)
depth_more (n ∷ ms) m = omega (arith, ints, clamps, depth_more ms m)

pack_more : (ms : List PieceValue) (p : RowPiece) (ps : List Place) → reach_beside (pack ms).extents p ≡ (pack (ms ++ PieceBox p.raise (layout_with p.extents ps) ∷ [])).extents
pack_more ms p ps =
    let m = PieceBox p.raise (layout_with p.extents ps) in
    extents_is (reach_beside (pack ms).extents p) (row_width (ms ++ m ∷ [])) (row_height (ms ++ m ∷ [])) (row_depth (ms ++ m ∷ [])) (width_more ms m) (height_more ms m) (depth_more ms m)

pub raise_small : (row : Extents) (p : RowPiece) → ExtentsInRange p.extents → ExtentsInRange (reach_beside row p) → Within (2 ^ 40) p.raise
raise_small row p h k = record { low = omega (arith, ints, clamps, h.depth.low, k.depth.high); high = omega (arith, ints, clamps, h.height.low, k.height.high) }

-- ---- the test

-- the answer of a test, with what was tested in place of its extents
abbrev pub with_value : {A : Type 0} → A → Result Extents PackError → Result A PackError
with_value x (Ok e) = Ok x
with_value x (Err f) = Err f

test_is : (e : Extents) (r : Result Extents PackError) (ms : List PieceValue) → e ≡ (pack ms).extents → ExtentsTested e r → (o : Option RowPiece) (front : List PieceValue) (ps : List Place)
    → ms ≡ front ++ piece_if o ps → AttachesOn front (with_value o r) ps (make_row ms)
test_is e (Ok x) ms same h None front ps whole =
    ap (λ z. pass_unless z >>= (λ u. (let r : Setting (List PieceValue) = Ok ms in r))) (ap first_out (sym same) ∙ h.1) ∙ ap (λ (z : List PieceValue). (let r : Setting (List PieceValue) = Ok z in r)) (whole ∙ append-nil front)
test_is e (Ok x) ms same h (Some p) front ps whole =
    ap (λ z. pass_unless z >>= (λ u. (let r : Setting (List PieceValue) = Ok ms in r))) (ap first_out (sym same) ∙ h.1) ∙ ap (λ (z : List PieceValue). (let r : Setting (List PieceValue) = Ok z in r)) whole
test_is e (Err (PackOverflow v)) ms same h o front ps whole =
    ap (λ z. pass_unless z >>= (λ u. (let r : Setting (List PieceValue) = Ok ms in r))) (ap first_out (sym same) ∙ h)
test_is e (Err NoPackMemory) ms same h o front ps whole = tt

pub row_tested : (o : Option RowPiece) (r : Result Extents PackError) (row : Extents) (ms : List PieceValue) (ps : List Place) (setting : Setting (List PieceValue)) → row ≡ (pack ms).extents
    → ExtentsTested (reach_with row o) r → AttachesOn ms (Ok o) ps setting → AttachesOn ms (with_value o r) ps (tested_row setting)
row_tested None r row ms ps setting e h is =
    subst (λ z. AttachesOn ms (with_value None r) ps (tested_row z)) (sym is) (test_is row r ms e h None ms ps (sym (append-nil ms)))
row_tested (Some p) r row ms ps setting e h is =
    subst (λ z. AttachesOn ms (with_value (Some p) r) ps (tested_row z)) (sym is)
    (test_is (reach_beside row p) r (ms ++ PieceBox p.raise (layout_with p.extents ps) ∷ []) (ap (λ z. reach_beside z p) e ∙ pack_more ms p ps) h (Some p) ms ps refl)

-- ---- the pieces after it

pub attached_laid : (made : Result (Option RowPiece) PackError) (r : Result ⊤ PackError) (ps ps' : List RowPart) (ms ms' ls : List (List Place)) → OnOk r (IsOk made) → OnOk r (ms' ≡ ms)
    → IfOk made (λ o. OnOk r (reverse ps' ≡ part_if o (reverse ps))) → OnErr r (ms' ≡ []) → OnErr r (ps' ≡ []) → StandsOn made ms ls → IfOk made (λ o. ForSome o IsBoxLaid) → AreLaid (reverse ps) ls → AreLaid (reverse ps') ms'
attached_laid (Ok None) (Ok u) ps ps' ms ms' ls ok m q no_m no_q t box h =
    subst (λ z. AreLaid z ms') (sym q) (subst (AreLaid (reverse ps)) (sym (m ∙ t)) h)
attached_laid (Ok (Some p)) (Ok u) ps ps' ms ms' ls ok m q no_m no_q t box h =
    subst (λ z. AreLaid z ms') (sym q) (subst (AreLaid (part_if (Some p) (reverse ps))) (sym (m ∙ t)) (box p refl, h))
attached_laid (Err f) (Ok u) ps ps' ms ms' ls ok m q no_m no_q t box h = absurd (let z : ⊥ = cc in z)
attached_laid made (Err f) ps ps' ms ms' ls ok m q no_m no_q t box h = subst (λ z. AreLaid z ms') (sym (ap reverse no_q)) no_m

pub attached : (made : Result (Option RowPiece) PackError) (r : Result ⊤ PackError) (ps ps' : List RowPart) (ms ms' ls : List (List Place)) (before row : List PieceValue) (setting : Setting (List PieceValue))
    → AttachesOn row made (top ms) setting → StandsOn made ms ls → OnOk r (IsOk made) → OnOk r (ms' ≡ ms) → IfOk made (λ o. OnOk r (reverse ps' ≡ part_if o (reverse ps)))
    → IfErr made (λ f. r ≡ Err f) → IfOk made (λ o. OnErr r (r ≡ Err NoPackMemory)) → pieces_back (reverse ps) ls ≡ before ++ row
    → PacksPieces r (pieces_back (reverse ps') ms') (row_on before setting)
attached (Ok None) (Ok u) ps ps' ms ms' ls before row setting is t ok m q fault memory h =
    let view : pieces_back (reverse ps') ms' ≡ before ++ row = ap (λ z. pieces_back z ms') q ∙ (ap (pieces_back (reverse ps)) (m ∙ t) ∙ h) in
    ap (row_on before) is ∙ ap (λ (z : List PieceValue). (let r : Setting (List PieceValue) = Ok z in r)) (sym view)
attached (Ok (Some p)) (Ok u) ps ps' ms ms' ls before row setting is t ok m q fault memory h =
    let last = PieceBox p.raise (layout_with p.extents (top ms)) ∷ [] in
    let view : pieces_back (reverse ps') ms' ≡ before ++ (row ++ last) =
    ap (λ z. pieces_back z ms') q ∙ (ap (pieces_back (part_if (Some p) (reverse ps))) (m ∙ t) ∙ (ap (λ z. z ++ last) h ∙ append_assoc before row last)) in
    ap (row_on before) is ∙ ap (λ (z : List PieceValue). (let r : Setting (List PieceValue) = Ok z in r)) (sym view)
attached (Ok o) (Err f) ps ps' ms ms' ls before row setting is t ok m q fault memory h =
    subst (λ (z : Result ⊤ PackError). PacksPieces z (pieces_back (reverse ps') ms') (row_on before setting)) (sym memory) tt
attached (Err (PackOverflow v)) r ps ps' ms ms' ls before row setting is t ok m q fault memory h =
    subst (λ (z : Result ⊤ PackError). PacksPieces z (pieces_back (reverse ps') ms') (row_on before setting)) (sym fault) (ap (row_on before) is)
attached (Err NoPackMemory) r ps ps' ms ms' ls before row setting is t ok m q fault memory h =
    subst (λ (z : Result ⊤ PackError). PacksPieces z (pieces_back (reverse ps') ms') (row_on before setting)) (sym fault) tt
