-- Rows and boxes behind the pieces that are there.
use Rattle.std.proofs.Common.{◌≡◌, ℕ, ◌≤◌, List, [], ◌∷◌, ◌++◌, length, take, drop, ap, sym, ◌∙◌, refl, subst, arith, append_assoc, length-append, length-drop, Option, Some, None, ℤ, w32, to_z, of_z, FitsSigned, pos}
use Rattle.mt_convert.proofs.Common.{ints, drop_at, Layout, PieceValue, PieceBox}
use Rattle.std.proofs.Math.Seq.{take-append_seam}
use Rattle.mt_pieces.specs.Attaching.{box_if, script_boxes}

pub nil_right : {A : Type 0} (xs : List A) → xs ≡ xs ++ []
nil_right [] = refl
nil_right (x ∷ xs) = ap (λ ys. x ∷ ys) (nil_right xs)

-- a word keeps its number
pub kept_word : (z : ℤ) → FitsSigned w32 z → to_z w32 (of_z w32 z) ≡ z
kept_word z h = omega (arith, ints)

-- the pieces from the number on that was the count of all before
pub row_behind : (first : ℕ) (old row new : List PieceValue) → first ≡ length old → new ≡ old ++ row → drop first new ≡ row
row_behind first old row new f e = ap (drop first) e ∙ drop_at old row first (sym f)

pub rest_before : (first : ℕ) (old row new : List PieceValue) → first ≡ length old → new ≡ old ++ row → take first new ≡ old
rest_before first old row new f e = ap (take first) e ∙ (ap (λ n. take n (old ++ row)) f ∙ take-append_seam old row)

pub few_behind : (first most : ℕ) (old row new : List PieceValue) → first ≡ length old → new ≡ old ++ row → length row ≤ most → length (drop first new) ≤ most
few_behind first most old row new f e le = subst (λ r. length r ≤ most) (sym (row_behind first old row new f e)) le

-- a row of few pieces
pub few_row : (first most : ℕ) (before row old : List PieceValue) → length before ≡ first → old ≡ before ++ row → length (drop first old) ≤ most → length row ≤ most
few_row first most before row old f e le = subst (λ r. length r ≤ most) (row_behind first before row old (sym f) e) le

-- ---- scripts

script_few : (o : Option Layout) → length (box_if o) ≤ 1
script_few None = omega arith
script_few (Some l) = omega arith

-- both scripts behind a nucleus
pub scripts_behind : (old mid new : List PieceValue) (above below : Option Layout) → mid ≡ old ++ box_if above → new ≡ mid ++ box_if below → new ≡ old ++ script_boxes above below
scripts_behind old mid new above below e f = f ∙ (ap (λ x. x ++ box_if below) e ∙ append_assoc old (box_if above) (box_if below))

pub row_and_scripts : (before row old mid new : List PieceValue) (above below : Option Layout) → old ≡ before ++ row → mid ≡ old ++ box_if above → new ≡ mid ++ box_if below → new ≡ before ++ (row ++ script_boxes above below)
row_and_scripts before row old mid new above below e f g =
    scripts_behind old mid new above below f g ∙ (ap (λ x. x ++ script_boxes above below) e ∙ append_assoc before row (script_boxes above below))

pub scripts_few : (first : ℕ) (old mid new : List PieceValue) (above below : Option Layout) → length (drop first old) ≤ 2 → mid ≡ old ++ box_if above → new ≡ mid ++ box_if below → length (drop first new) ≤ 4
scripts_few first old mid new above below le e f =
    omega (
      arith,
      le,
      length-drop first old,
      length-drop first new,
      ap length e,
      length-append old (box_if above),
      script_few above,
      ap length f,
      length-append mid (box_if below),
      script_few below,
    )

-- a box, and scripts behind it
pub box_and_scripts : (old there mid new : List PieceValue) (box : Layout) (above below : Option Layout) → there ≡ old ++ PieceBox (pos 0) box ∷ [] → mid ≡ there ++ box_if above → new ≡ mid ++ box_if below → new ≡ old ++ PieceBox (pos 0) box ∷ script_boxes above below
box_and_scripts old there mid new box above below e f g = row_and_scripts old (PieceBox (pos 0) box ∷ []) there mid new above below e f g

-- two boxes
pub two_boxes : (old there new : List PieceValue) (n d : Layout) → there ≡ old ++ PieceBox (pos 0) n ∷ [] → new ≡ there ++ PieceBox (pos 0) d ∷ [] → new ≡ old ++ PieceBox (pos 0) n ∷ PieceBox (pos 0) d ∷ []
two_boxes old there new n d e f = f ∙ (ap (λ x. x ++ PieceBox (pos 0) d ∷ []) e ∙ append_assoc old (PieceBox (pos 0) n ∷ []) (PieceBox (pos 0) d ∷ []))
