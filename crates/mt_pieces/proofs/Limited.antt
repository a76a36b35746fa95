-- An operator and its limits, the last pieces.
use Rattle.std.proofs.Common.{◌≡◌, pos, List, [], ◌∷◌, ◌++◌, Option, Some, None, is_some, refl, sym, ◌∙◌, ap}
use Rattle.mt_box.specs.declared.place.Place.{Place}
use Rattle.mt_box.specs.declared.marks.row.RowPiece.{RowPiece}
use Rattle.mt_box.specs.declared.marks.row.RowPart.{RowPart}
use Rattle.mt_box.specs.declared.marks.row.RowPart.TheVariants as part
use Rattle.mt_box.specs.Layout.{Layout}
use Rattle.mt_box.specs.Rows.{PieceValue, PieceBox}
use Rattle.mt_rules.specs.OnMarks.{layout_with}
use Rattle.mt_scripts.specs.LimitMarks.{IsLimit, limit_of}
use Rattle.mt_pieces.specs.Attaching.{script_boxes}
use Rattle.mt_pieces.specs.inner.Taken.{extents_if, layer_if, part_if}
use Rattle.mt_pieces.specs.inner.View.{AreLaid, IsBoxLaid, pieces_back}
use Rattle.mt_pieces.proofs.Taken.{IsBoxIf, laid_if, piece_if, same_if, scripted, told}

pub record Limited (sup sub : Option RowPiece) (p : RowPiece) (ps : List RowPart) (ms : List (List Place)) : Type 0 where
  pub nucleus : List Place
  pub above : List Place
  pub below : List Place
  pub under : List (List Place)
  pub stack : ms ≡ layer_if sub below (layer_if sup above (nucleus ∷ under))
  pub laid : AreLaid ps under
  pub box : IsBoxLaid p
  pub sup_box : IsBoxIf sup
  pub sub_box : IsBoxIf sub
  pub no_sup : IsLimit (extents_if sup) above
  pub no_sub : IsLimit (extents_if sub) below
  pub view : pieces_back (part_if sub (part_if sup (part.Layout p ∷ ps))) ms ≡ ((pieces_back ps under ++ piece_if (Some p) nucleus) ++ piece_if sup above) ++ piece_if sub below

pub limited : (sup sub : Option RowPiece) (p : RowPiece) (ps : List RowPart) (ms : List (List Place)) → AreLaid (part_if sub (part_if sup (part.Layout p ∷ ps))) ms → Limited sup sub p ps ms
limited sup sub p ps ms h =
    let s = scripted sup sub (part.Layout p ∷ ps) ms h in
    let n = laid_if (Some p) ps s.under s.laid in
    record {
      nucleus = n.layer;
      above = s.above;
      below = s.below;
      under = n.under;
      stack = s.stack ∙ ap (λ z. layer_if sub s.below (layer_if sup s.above z)) n.stack;
      laid = n.laid;
      box = n.box;
      sup_box = s.sup_box;
      sub_box = s.sub_box;
      no_sup = s.no_sup;
      no_sub = s.no_sub;
      view = s.view ∙ ap (λ z. (pieces_back (part.Layout p ∷ ps) z ++ piece_if sup s.above) ++ piece_if sub s.below) n.stack;
    }

abbrev layout_or : Layout → Option Layout → Layout
layout_or a None = a
layout_or a (Some x) = x

pub record ToldLimits (sup sub : Option RowPiece) (p : RowPiece) (l s b : List Place) (front rest : List PieceValue) (n : Layout) (above below : Option Layout) : Type 0 where
  pub same : front ≡ rest
  pub middle : layout_with p.extents l ≡ n
  pub over : above ≡ limit_of (extents_if sup) s
  pub lower : below ≡ limit_of (extents_if sub) b

pub told_limits : (sup sub : Option RowPiece) (p : RowPiece) (l s b : List Place) (front rest : List PieceValue) (n : Layout) (above below : Option Layout) → is_some sup ≡ is_some above → is_some sub ≡ is_some below
    → ((front ++ piece_if (Some p) l) ++ piece_if sup s) ++ piece_if sub b ≡ rest ++ PieceBox (pos 0) n ∷ script_boxes above below → ToldLimits sup sub p l s b front rest n above below
told_limits sup sub p l s b front rest n above below has_sup has_sub e =
    let k = told sup sub s b (front ++ piece_if (Some p) l) rest (PieceBox (pos 0) n ∷ []) above below has_sup has_sub e in
    let m = same_if (Some p) (Some n) l front rest refl k.same in
    record { same = m.front; middle = ap (layout_or n) (sym m.box); over = k.above; lower = k.below }
