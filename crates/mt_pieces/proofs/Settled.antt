-- A box that a call left on top of the layouts, in place of other pieces.
use Rattle.std.specs.Prelude.{⊤}
use Rattle.std.proofs.Common.{◌≡◌, pos, List, [], ◌∷◌, ◌++◌, reverse, Result, Ok, Err, OnOk, OnErr, IfOk, IfErr, IsOk, arith, sym, ◌∙◌, ap, subst}
use Rattle.std.proofs.lemmas.Int.{ints}
use Rattle.mt_box.specs.declared.place.Place.{Place}
use Rattle.mt_box.specs.declared.extents.Extents.{Extents}
use Rattle.mt_box.specs.declared.marks.row.RowPart.{RowPart}
use Rattle.mt_box.specs.declared.error.PackError.{PackError}
use Rattle.mt_box.specs.declared.error.PackError.TheVariants.{Overflow as PackOverflow, OutOfMemory as NoPackMemory}
use Rattle.mt_box.specs.Extents.{ExtentsInRange}
use Rattle.mt_box.specs.Layout.{Layout}
use Rattle.mt_box.specs.Rows.{PieceValue, PieceBox}
use Rattle.mt_box.specs.marks.Layers.{top}
use Rattle.mt_rules.specs.declared.part_error.PartError.{PartError}
use Rattle.mt_rules.specs.declared.part_error.PartError.TheVariants.{Overflow as PartOverflow, TooTall as PartTooTall, OutOfMemory as NoPartMemory}
use Rattle.mt_rules.specs.OnMarks.{SetsOn, BoxSetsOn, layout_with}
use Rattle.mt_rules.specs.Setting.{Setting}
use Rattle.mt_pieces.specs.Putting.{boxed_on, SetsPieces, PacksPieces}
use Rattle.mt_pieces.specs.inner.View.{AreLaid, box_part, pieces_back}
use Rattle.mt_pieces.proofs.Laid.{last_first}

box_view : (ps ps' : List RowPart) (ms ms' ls : List (List Place)) (rest : List PieceValue) (e : Extents) → ms ≡ top ms ∷ ls → ms' ≡ ms → ps' ≡ ps ++ box_part e ∷ [] → pieces_back (reverse ps) ls ≡ rest
    → pieces_back (reverse ps') ms' ≡ rest ++ PieceBox (pos 0) (layout_with e (top ms)) ∷ []
box_view ps ps' ms ms' ls rest e t m q r =
    ap (λ z. pieces_back z ms') (ap reverse q ∙ last_first ps (box_part e))
    ∙ (ap (pieces_back (box_part e ∷ reverse ps)) (m ∙ t) ∙ ap (λ z. z ++ PieceBox (pos 0) (layout_with e (top ms)) ∷ []) r)

pub on_ok : {T E P : Type 0} → (r : Result T E) → P → OnOk r P
on_ok (Ok u) h = h
on_ok (Err e) h = tt

-- the top one of layers that are known
pub top_known : {T E : Type 0} → (r : Result T E) (ms : List (List Place)) (l : List Place) (rest : List (List Place)) → ms ≡ l ∷ rest → OnOk r (ms ≡ top ms ∷ rest)
top_known r ms l rest h = on_ok r (h ∙ ap (λ z. top z ∷ rest) (sym h))

-- the parts have their layers, or there are none after a fault
pub settled_laid : {E : Type 0} → (made : Result Extents E) (r : Result ⊤ E) (ps ps' : List RowPart) (ms ms' ls : List (List Place)) → OnOk r (IsOk made) → OnOk r (ms' ≡ ms) → IfOk made (λ e. OnOk r (ps' ≡ ps ++ box_part e ∷ []))
    → OnErr r (ms' ≡ []) → OnErr r (ps' ≡ []) → OnOk made (ms ≡ top ms ∷ ls) → IfOk made ExtentsInRange → AreLaid (reverse ps) ls → AreLaid (reverse ps') ms'
settled_laid (Ok e) (Ok u) ps ps' ms ms' ls ok m q no_m no_q t range h =
    subst (λ z. AreLaid z ms') (sym (ap reverse q ∙ last_first ps (box_part e)))
    (subst (AreLaid (box_part e ∷ reverse ps)) (sym (m ∙ t)) (record { extents = range; raise = record { low = omega (arith, ints); high = omega (arith, ints) } }, h))
settled_laid (Err f) (Ok u) ps ps' ms ms' ls ok m q no_m no_q t range h = absurd (let z : ⊥ = cc in z)
settled_laid made (Err f) ps ps' ms ms' ls ok m q no_m no_q t range h = subst (λ z. AreLaid z ms') (sym (ap reverse no_q)) no_m

-- the pieces are what setting answers, or the fault is
pub packed_settled : (made : Result Extents PackError) (r : Result ⊤ PackError) (ps ps' : List RowPart) (ms ms' ls : List (List Place)) (rest : List PieceValue) (setting : Setting Layout)
    → BoxSetsOn made (top ms) setting → OnOk made (ms ≡ top ms ∷ ls) → OnOk r (ms' ≡ ms) → IfOk made (λ e. OnOk r (ps' ≡ ps ++ box_part e ∷ []))
    → IfErr made (λ f. r ≡ Err f) → IfOk made (λ e. IfErr r (λ f. f ≡ NoPackMemory)) → pieces_back (reverse ps) ls ≡ rest → PacksPieces r (pieces_back (reverse ps') ms') (boxed_on rest setting)
packed_settled (Ok e) (Ok u) ps ps' ms ms' ls rest setting is t m q fault memory h =
    ap (boxed_on rest) is ∙ ap (λ (z : List PieceValue). (let r : Setting (List PieceValue) = Ok z in r)) (sym (box_view ps ps' ms ms' ls rest e t m q h))
packed_settled (Ok e) (Err f) ps ps' ms ms' ls rest setting is t m q fault memory h =
    subst (λ (z : PackError). PacksPieces (let r : Result ⊤ PackError = Err z in r) (pieces_back (reverse ps') ms') (boxed_on rest setting)) (sym memory) tt
packed_settled (Err (PackOverflow v)) r ps ps' ms ms' ls rest setting is t m q fault memory h =
    subst (λ (z : Result ⊤ PackError). PacksPieces z (pieces_back (reverse ps') ms') (boxed_on rest setting)) (sym fault) (ap (boxed_on rest) is)
packed_settled (Err NoPackMemory) r ps ps' ms ms' ls rest setting is t m q fault memory h =
    subst (λ (z : Result ⊤ PackError). PacksPieces z (pieces_back (reverse ps') ms') (boxed_on rest setting)) (sym fault) tt

pub part_settled : (made : Result Extents PartError) (r : Result ⊤ PartError) (ps ps' : List RowPart) (ms ms' ls : List (List Place)) (rest : List PieceValue) (setting : Setting Layout)
    → SetsOn made (top ms) setting → OnOk made (ms ≡ top ms ∷ ls) → OnOk r (ms' ≡ ms) → IfOk made (λ e. OnOk r (ps' ≡ ps ++ box_part e ∷ []))
    → IfErr made (λ f. r ≡ Err f) → IfOk made (λ e. IfErr r (λ f. f ≡ NoPartMemory)) → pieces_back (reverse ps) ls ≡ rest → SetsPieces r (pieces_back (reverse ps') ms') (boxed_on rest setting)
part_settled (Ok e) (Ok u) ps ps' ms ms' ls rest setting is t m q fault memory h =
    ap (boxed_on rest) is ∙ ap (λ (z : List PieceValue). (let r : Setting (List PieceValue) = Ok z in r)) (sym (box_view ps ps' ms ms' ls rest e t m q h))
part_settled (Ok e) (Err f) ps ps' ms ms' ls rest setting is t m q fault memory h =
    subst (λ (z : PartError). SetsPieces (let r : Result ⊤ PartError = Err z in r) (pieces_back (reverse ps') ms') (boxed_on rest setting)) (sym memory) tt
part_settled (Err (PartOverflow v)) r ps ps' ms ms' ls rest setting is t m q fault memory h =
    subst (λ (z : Result ⊤ PartError). SetsPieces z (pieces_back (reverse ps') ms') (boxed_on rest setting)) (sym fault) (ap (boxed_on rest) is)
part_settled (Err (PartTooTall n)) r ps ps' ms ms' ls rest setting is t m q fault memory h =
    subst (λ (z : Result ⊤ PartError). SetsPieces z (pieces_back (reverse ps') ms') (boxed_on rest setting)) (sym fault) (ap (boxed_on rest) is)
part_settled (Err NoPartMemory) r ps ps' ms ms' ls rest setting is t m q fault memory h =
    subst (λ (z : Result ⊤ PartError). SetsPieces z (pieces_back (reverse ps') ms') (boxed_on rest setting)) (sym fault) tt
