-- Lines and pieces on one stack, and lines that are put behind others.
use Rattle.std.proofs.Common.{◌≡◌, ℕ, ◌^◌, pos, List, [], ◌∷◌, ◌++◌, length, take, drop, append_assoc, refl, ◌∙◌, ap, subst, arith, All, Ok}
use Rattle.mt_display.proofs.Common.{ints, length-map, take_at, drop_at, All-cons, All-nil, Within, PieceValue, Setting, LineStack, IsStack, MoreLines, line_box, line_boxes, LineValue}

-- ---- lines

pub boxes_length : (lines : List LineValue) → length (line_boxes lines) ≡ length lines
boxes_length lines = length-map lines line_box

one_small : (l : LineValue) → Within (2 ^ 40) l.shift → All (λ (k : LineValue). Within (2 ^ 40) k.shift) (l ∷ [])
one_small l h = All-cons (λ (k : LineValue). Within (2 ^ 40) k.shift) l [] h (All-nil (λ (k : LineValue). Within (2 ^ 40) k.shift))

pub one_more_line : (lines : List LineValue) (l : LineValue) (s : LineStack) (setting : Setting (List LineValue)) → IsStack (lines ++ l ∷ []) [] s → setting ≡ Ok (l ∷ []) → Within (2 ^ 40) l.shift → MoreLines lines s setting
one_more_line lines l s setting h e small = record {
  added = l ∷ [];
  is = e;
  stack = h;
  some = omega arith;
  few = omega arith;
  small = one_small l small;
}

pub two_more_lines : (lines : List LineValue) (l m : LineValue) (s : LineStack) → IsStack ((lines ++ l ∷ []) ++ m ∷ []) [] s → Within (2 ^ 40) l.shift → Within (2 ^ 40) m.shift → MoreLines lines s (Ok (l ∷ m ∷ []))
two_more_lines lines l m s h a b = record {
  added = l ∷ m ∷ [];
  is = refl;
  stack = subst (λ (ls : List LineValue). IsStack ls [] s) (append_assoc lines (l ∷ []) (m ∷ [])) h;
  some = omega arith;
  few = omega arith;
  small = All-cons (λ (k : LineValue). Within (2 ^ 40) k.shift) l (m ∷ []) a (one_small m b);
}

pub zero_small : Within (2 ^ 40) (pos 0)
zero_small = record { low = omega (arith, ints); high = omega (arith, ints) }

-- behind so many lines are these pieces
pub behind_lines : (lines : List LineValue) (row : List PieceValue) (s : LineStack) (first : ℕ) → length lines ≡ first → IsStack lines row s → drop first s.pieces ≡ row
behind_lines lines row s first n h = ap (drop first) h.pieces ∙ drop_at (line_boxes lines) row first (boxes_length lines ∙ n)

pub up_to_lines : (lines : List LineValue) (row : List PieceValue) (s : LineStack) (first : ℕ) → length lines ≡ first → IsStack lines row s → take first s.pieces ≡ line_boxes lines
up_to_lines lines row s first n h = ap (take first) h.pieces ∙ take_at (line_boxes lines) row first (boxes_length lines ∙ n)
