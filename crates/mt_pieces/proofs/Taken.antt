-- The last parts taken off, where they are boxes, and the pieces that are left.
use Rattle.std.proofs.Common.{◌≡◌, pos, ◌≤◌, List, [], ◌∷◌, ◌++◌, append_assoc, length, reverse, Option, Some, None, is_some, refl, sym, ◌∙◌, ap, subst, arith}
use Rattle.std.specs.Prelude.{⊤}
use Rattle.std.specs.Option.{ForSome}
use Rattle.std.proofs.lemmas.List.{append-nil, length-reverse}
use Rattle.mt_box.specs.declared.place.Place.{Place}
use Rattle.mt_box.specs.declared.marks.row.RowPiece.{RowPiece}
use Rattle.mt_box.specs.declared.marks.row.RowPart.{RowPart}
use Rattle.mt_box.specs.Extents.{ExtentsInRange}
use Rattle.mt_box.specs.Layout.{Layout}
use Rattle.mt_box.specs.Rows.{PieceValue, PieceGlyph, PieceBox, PieceKern, PieceSpace}
use Rattle.mt_rules.specs.OnMarks.{layout_with}
use Rattle.mt_rules.specs.Scripts.{begins_with_glyph}
use Rattle.mt_rules.specs.Setting.{empty_layout}
use Rattle.mt_scripts.specs.LimitMarks.{IsLimit, limit_of}
use Rattle.mt_pieces.specs.Attaching.{box_if, script_boxes}
use Rattle.mt_pieces.specs.inner.Taken.{extents_if, layer_if, part_if}
use Rattle.mt_pieces.specs.inner.View.{AreLaid, IsBoxLaid, pieces_back}
use Rattle.mt_pieces.proofs.LastPieces.{same_ends}

-- ---- layers

abbrev pub IsBoxIf : Option RowPiece → Type 0
IsBoxIf None = ⊤
IsBoxIf (Some p) = IsBoxLaid p

pub range_if : (o : Option RowPiece) → IsBoxIf o → ForSome o (λ p. ExtentsInRange p.extents)
range_if o h = λ x e. (subst IsBoxIf e h).extents

pub record LaidIf (o : Option RowPiece) (ps : List RowPart) (ms : List (List Place)) : Type 0 where
  pub layer : List Place
  pub under : List (List Place)
  pub stack : ms ≡ layer_if o layer under
  pub laid : AreLaid ps under
  pub box : IsBoxIf o
  pub none : IsLimit (extents_if o) layer

pub laid_if : (o : Option RowPiece) (ps : List RowPart) (ms : List (List Place)) → AreLaid (part_if o ps) ms → LaidIf o ps ms
laid_if None ps ms h = record { layer = []; under = ms; stack = refl; laid = h; box = tt; none = refl }
laid_if (Some p) ps [] h = absurd h.0
laid_if (Some p) ps (l ∷ ls) h = record { layer = l; under = ls; stack = refl; laid = h.1; box = h.0; none = tt }

-- ---- pieces

abbrev pub piece_if : Option RowPiece → List Place → List PieceValue
piece_if None l = []
piece_if (Some p) l = PieceBox p.raise (layout_with p.extents l) ∷ []

pub view_if : (o : Option RowPiece) (l : List Place) (ps : List RowPart) (ls : List (List Place)) → pieces_back (part_if o ps) (layer_if o l ls) ≡ pieces_back ps ls ++ piece_if o l
view_if None l ps ls = sym (append-nil (pieces_back ps ls))
view_if (Some p) l ps ls = refl

abbrev body_of : PieceValue → Layout
body_of (PieceGlyph f c e) = empty_layout
body_of (PieceBox r b) = b
body_of (PieceKern k) = empty_layout
body_of (PieceSpace w s) = empty_layout

pub record SameIf (xs ys : List PieceValue) (o : Option RowPiece) (l : List Place) (a : Option Layout) : Type 0 where
  pub front : xs ≡ ys
  pub box : a ≡ limit_of (extents_if o) l

pub same_if : (o : Option RowPiece) (a : Option Layout) (l : List Place) (xs ys : List PieceValue) → is_some o ≡ is_some a → xs ++ piece_if o l ≡ ys ++ box_if a → SameIf xs ys o l a
same_if None None l xs ys e h = record { front = sym (append-nil xs) ∙ (h ∙ append-nil ys); box = refl }
same_if None (Some a) l xs ys e h = absurd (let z : ⊥ = cc in z)
same_if (Some p) None l xs ys e h = absurd (let z : ⊥ = cc in z)
same_if (Some p) (Some a) l xs ys e h =
    let ends = same_ends xs ys (PieceBox p.raise (layout_with p.extents l)) (PieceBox (pos 0) a) h in
    record { front = ends.front; box = ap (λ z. Some (body_of z)) (sym ends.last) }

-- ---- both scripts

pub record Scripted (sup sub : Option RowPiece) (ps : List RowPart) (ms : List (List Place)) : Type 0 where
  pub above : List Place
  pub below : List Place
  pub under : List (List Place)
  pub stack : ms ≡ layer_if sub below (layer_if sup above under)
  pub laid : AreLaid ps under
  pub sup_box : IsBoxIf sup
  pub sub_box : IsBoxIf sub
  pub no_sup : IsLimit (extents_if sup) above
  pub no_sub : IsLimit (extents_if sub) below
  pub view : pieces_back (part_if sub (part_if sup ps)) ms ≡ (pieces_back ps under ++ piece_if sup above) ++ piece_if sub below

pub scripted : (sup sub : Option RowPiece) (ps : List RowPart) (ms : List (List Place)) → AreLaid (part_if sub (part_if sup ps)) ms → Scripted sup sub ps ms
scripted sup sub ps ms h =
    let b = laid_if sub (part_if sup ps) ms h in
    let a = laid_if sup ps b.under b.laid in
    record {
      above = a.layer;
      below = b.layer;
      under = a.under;
      stack = b.stack ∙ ap (layer_if sub b.layer) a.stack;
      laid = a.laid;
      sup_box = a.box;
      sub_box = b.box;
      no_sup = a.none;
      no_sub = b.none;
      view = ap (pieces_back (part_if sub (part_if sup ps))) b.stack
          ∙ (view_if sub b.layer (part_if sup ps) b.under
          ∙ ap (λ z. z ++ piece_if sub b.layer) (ap (pieces_back (part_if sup ps)) a.stack ∙ view_if sup a.layer ps a.under));
    }

pub record Told (sup sub : Option RowPiece) (s b : List Place) (front rest : List PieceValue) (above_layout below_layout : Option Layout) : Type 0 where
  pub same : front ≡ rest
  pub above : above_layout ≡ limit_of (extents_if sup) s
  pub below : below_layout ≡ limit_of (extents_if sub) b

pub told : (sup sub : Option RowPiece) (s b : List Place) (front before row : List PieceValue) (above below : Option Layout) → is_some sup ≡ is_some above → is_some sub ≡ is_some below
    → (front ++ piece_if sup s) ++ piece_if sub b ≡ before ++ (row ++ script_boxes above below) → Told sup sub s b front (before ++ row) above below
told sup sub s b front before row above below p q e =
    let r : before ++ (row ++ script_boxes above below) ≡ ((before ++ row) ++ box_if above) ++ box_if below =
    sym (append_assoc before row (script_boxes above below)) ∙ sym (append_assoc (before ++ row) (box_if above) (box_if below)) in
    let one = same_if sub below b (front ++ piece_if sup s) ((before ++ row) ++ box_if above) q (e ∙ r) in
    let two = same_if sup above s front (before ++ row) p one.front in
    record { same = two.front; above = two.box; below = one.box }

-- parts are no fewer than without the scripts
pub more_taken : (sup sub : Option RowPiece) (ps qs : List RowPart) → reverse ps ≡ part_if sub (part_if sup (reverse qs)) → length qs ≤ length ps
more_taken sup sub ps qs e =
    omega (arith, ap length e, length-reverse ps, length-reverse qs, longer sup (reverse qs), longer sub (part_if sup (reverse qs)))
  where
    longer : (o : Option RowPiece) (rs : List RowPart) → length rs ≤ length (part_if o rs)
    longer None rs = omega arith
    longer (Some p) rs = omega arith

-- a row begins as it does with scripts after it
pub begins_before : (row : List PieceValue) (above below : Option Layout) → begins_with_glyph (row ++ script_boxes above below) ≡ begins_with_glyph row
begins_before [] None None = refl
begins_before [] None (Some b) = refl
begins_before [] (Some a) below = refl
begins_before (m ∷ row) above below = refl
