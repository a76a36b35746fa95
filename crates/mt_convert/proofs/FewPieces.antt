-- How many pieces the row of a list has at most (`all_few`).
use Rattle.std.proofs.Common.{◌≡◌, ℕ, ◌≤◌, ◌+◌, ◌*◌, List, [], ◌∷◌, ◌++◌, length, take, drop, ap, refl, arith, ℤ, length-append, length-take, Ok, Err, Option, Some, None}
use Rattle.mt_convert.proofs.Common.{Size, SetValue, PieceValue, Class, Open, Close, Style, math_unit, Setting, ◌>>=◌, Current, PlacedItem, all_pieces, boundary_piece, current_after_half, half_pieces, pieces_between, space_before, spacing_pieces}
use Rattle.mt_rules.specs.Spaces.{Spacing, NoSpacing, spacing}
use Rattle.mt_pieces.specs.declared.items.PlacedItem.TheVariants as placed
use Rattle.mt_convert.specs.inner.Placed.{placed_value, placed_values, placed_length, placed_count}

ok_is : (x y : List PieceValue) → ◌≡◌ {A = Setting (List PieceValue)} (Ok x) (Ok y) → x ≡ y
ok_is x y e = cc

spacing_few : (s : Spacing) (unit : ℤ) → length (spacing_pieces s unit) ≤ 1
spacing_few NoSpacing unit = omega arith
spacing_few _ unit = omega arith

between_few : (fonts : SetValue) (style : Style) (left : Option Class) (right : Class) → length (pieces_between fonts style left right) ≤ 1
between_few fonts style None right = omega arith
between_few fonts style (Some left) right = spacing_few (spacing left right style) (math_unit fonts style)

space_few : (fonts : SetValue) (current : Current) (class : Class) → length (space_before fonts current class) ≤ 1
space_few fonts current class = between_few fonts current.style current.last class

boundary_few : (space : List PieceValue) (s : Setting PieceValue) (ps : List PieceValue) → length space ≤ 1 → (s >>= (λ m. Ok (space ++ m ∷ []))) ≡ Ok ps → length ps ≤ 2
boundary_few space (Ok m) ps few e = omega (arith, few, length-append space (m ∷ []), ap length (ok_is (space ++ m ∷ []) ps e))
boundary_few space (Err f) ps few e = absurd (cc)

half_few : (fonts : SetValue) (size : Size) (wanted : ℤ) (current : Current) (h : PlacedItem) (row ps : List PieceValue) → half_pieces fonts size wanted current (placed_value h row) ≡ Ok ps → length ps ≤ placed_length h + 2
half_few fonts size wanted current (placed.Set c n) row ps e =
    omega (arith, space_few fonts current c, length-append (space_before fonts current c) (take n row), length-take n row, ap length (ok_is (space_before fonts current c ++ take n row) ps e))
half_few fonts size wanted current (placed.Left d) row ps e = boundary_few (space_before fonts current Open) (boundary_piece fonts size wanted d) ps (space_few fonts current Open) e
half_few fonts size wanted current (placed.Middle d) row ps e = boundary_few (space_before fonts current Close) (boundary_piece fonts size wanted d) ps (space_few fonts current Close) e
half_few fonts size wanted current (placed.Right d) row ps e = boundary_few (space_before fonts current Close) (boundary_piece fonts size wanted d) ps (space_few fonts current Close) e
half_few fonts size wanted current (placed.Style s) row ps e = omega (arith, ap length (ok_is [] ps e))
half_few fonts size wanted current _ row ps e = omega (arith, ap length (ok_is _ ps e))

both_few : (a b : ℕ) (s t : Setting (List PieceValue)) (ps : List PieceValue) → ((xs : List PieceValue) → s ≡ Ok xs → length xs ≤ a) → ((ys : List PieceValue) → t ≡ Ok ys → length ys ≤ b) → (s >>= (λ xs. t >>= (λ ys. Ok (xs ++ ys)))) ≡ Ok ps → length ps ≤ a + b
both_few a b (Ok xs) (Ok ys) ps f g e = omega (arith, f xs refl, g ys refl, length-append xs ys, ap length (ok_is (xs ++ ys) ps e))
both_few a b (Ok xs) (Err f') ps f g e = absurd (cc)
both_few a b (Err f') t ps f g e = absurd (cc)

pub all_few : (fonts : SetValue) (size : Size) (wanted : ℤ) (current : Current) (hs : List PlacedItem) (row ps : List PieceValue) → all_pieces fonts size wanted current (placed_values hs row) ≡ Ok ps → length ps ≤ placed_count hs + 2 * length hs
all_few fonts size wanted current [] row ps e = omega (arith, ap length (ok_is [] ps e))
all_few fonts size wanted current (h ∷ hs) row ps e =
    let half = placed_value h row in
    let rest = drop (placed_length h) row in
    let after = current_after_half current half in
    let few =
    both_few (placed_length h + 2) (placed_count hs + 2 * length hs) (half_pieces fonts size wanted current half) (all_pieces fonts size wanted after (placed_values hs rest)) ps
    (λ xs k. half_few fonts size wanted current h row xs k) (λ ys k. all_few fonts size wanted after hs rest ys k) e in
    omega (arith, few)
