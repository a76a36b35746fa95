-- The definition of displays on worked displays.
use Rattle.std.proofs.Common.{◌≡◌, ℕ, ℤ, pos, negsuc, Bool, true, false, List, [], ◌∷◌, map, Option, Some, None, Ok, Err, refl}
use Rattle.mt_display.proofs.Common.{Place, Glyph, PieceValue, PieceGlyph, PieceKern, PieceSpace, Setting, Overflow, LineValue, NumberValue, display_lines}

-- a glyph that is so wide, and 5pt high
abbrev wide : ℕ → ℕ → ℕ → PieceValue
wide font code width = PieceGlyph font code record { width = pos width; height = pos 327680; depth = pos 0 }

abbrev square : ℕ → ℕ → PieceValue
square font code = wide font code 327680

-- the row of a + b, 1274304 wide, which may shrink by 291264
abbrev a_plus_b : List PieceValue
a_plus_b = square 3 97 ∷ PieceSpace (pos 145632) (pos 145632) ∷ square 0 43 ∷ PieceSpace (pos 145632) (pos 145632) ∷ square 3 98 ∷ []

-- the row of (1), 983040 wide
abbrev one : List PieceValue
one = square 0 40 ∷ square 0 49 ∷ square 0 41 ∷ []

abbrev numbered : Bool → List PieceValue → Option NumberValue
numbered left row = Some (record { row = row; left = left })

abbrev line : ℤ → ℤ → ℤ → ℤ → List Place → LineValue
line shift width height depth places = record {
  shift = shift;
  body = record { extents = record { width = width; height = height; depth = depth }; places = places };
}

-- a glyph on the baseline
abbrev at : ℕ → ℕ → ℤ → Place
at font code h = Glyph font code h (pos 0)

abbrev Lines : Type 0
Lines = Setting (List LineValue)

-- displays, with a quad of 655360 in most, and the lines that they give
abbrev cases : List (Lines × Lines)
cases =
    -- a display at its own width, in the middle
    (
      display_lines (pos 655360) a_plus_b None (pos 30785863),
      Ok (line (pos 14755780) (pos 1274304) (pos 327680) (pos 0) (at 3 97 (pos 0) ∷ at 0 43 (pos 473312) ∷ at 3 98 (pos 946624) ∷ []) ∷ []),
    )
    -- a line as wide as the display
    ∷ (
      display_lines (pos 655360) a_plus_b None (pos 1274304),
      Ok (line (pos 0) (pos 1274304) (pos 327680) (pos 0) (at 3 97 (pos 0) ∷ at 0 43 (pos 473312) ∷ at 3 98 (pos 946624) ∷ []) ∷ []),
    )
    -- 1sp too narrow: the second space loses it
    ∷ (
      display_lines (pos 655360) a_plus_b None (pos 1274303),
      Ok (line (pos 0) (pos 1274303) (pos 327680) (pos 0) (at 3 97 (pos 0) ∷ at 0 43 (pos 473311) ∷ at 3 98 (pos 946623) ∷ []) ∷ []),
    )
    -- a line of 1sp: more than all shrink is asked for
    ∷ (
      display_lines (pos 655360) a_plus_b None (pos 1),
      Ok (line (pos 0) (pos 1) (pos 327680) (pos 0) (at 3 97 (pos 0) ∷ at 0 43 (pos 327680) ∷ at 3 98 (pos 655360) ∷ []) ∷ []),
    )
    -- w + q is z: nothing shrinks
    ∷ (
      display_lines (pos 655360) a_plus_b (numbered false one) (pos 2912704),
      Ok (line (pos 327680) (pos 2585024) (pos 327680) (pos 0) (at 3 97 (pos 0) ∷ at 0 43 (pos 473312) ∷ at 3 98 (pos 946624) ∷ at 0 40 (pos 1601984) ∷ at 0 49 (pos 1929664) ∷ at 0 41 (pos 2257344) ∷ []) ∷ []),
    )
    -- w + q is 1sp above z: the spaces shrink
    ∷ (
      display_lines (pos 655360) a_plus_b (numbered false one) (pos 2912703),
      Ok (line (pos 327680) (pos 2585023) (pos 327680) (pos 0) (at 3 97 (pos 0) ∷ at 0 43 (pos 473311) ∷ at 3 98 (pos 946623) ∷ at 0 40 (pos 1601983) ∷ at 0 49 (pos 1929663) ∷ at 0 41 (pos 2257343) ∷ []) ∷ []),
    )
    -- w - s + q is z: all spaces shrink whole
    ∷ (
      display_lines (pos 655360) a_plus_b (numbered false one) (pos 2621440),
      Ok (line (pos 327680) (pos 2293760) (pos 327680) (pos 0) (at 3 97 (pos 0) ∷ at 0 43 (pos 327680) ∷ at 3 98 (pos 655360) ∷ at 0 40 (pos 1310720) ∷ at 0 49 (pos 1638400) ∷ at 0 41 (pos 1966080) ∷ []) ∷ []),
    )
    -- 1sp less: the number goes below the display
    ∷ (
      display_lines (pos 655360) a_plus_b (numbered false one) (pos 2621439),
      Ok (line (pos 673568) (pos 1274304) (pos 327680) (pos 0) (at 3 97 (pos 0) ∷ at 0 43 (pos 473312) ∷ at 3 98 (pos 946624) ∷ [])
          ∷ line (pos 1638399) (pos 983040) (pos 327680) (pos 0) (at 0 40 (pos 0) ∷ at 0 49 (pos 327680) ∷ at 0 41 (pos 655360) ∷ []) ∷ []),
    )
    -- the number at the left
    ∷ (
      display_lines (pos 655360) a_plus_b (numbered true one) (pos 2621440),
      Ok (line (pos 0) (pos 2293760) (pos 327680) (pos 0) (at 0 40 (pos 0) ∷ at 0 49 (pos 327680) ∷ at 0 41 (pos 655360) ∷ at 3 97 (pos 1310720) ∷ at 0 43 (pos 1638400) ∷ at 3 98 (pos 1966080) ∷ []) ∷ []),
    )
    -- and above the display
    ∷ (
      display_lines (pos 655360) a_plus_b (numbered true one) (pos 2621439),
      Ok (line (pos 0) (pos 983040) (pos 327680) (pos 0) (at 0 40 (pos 0) ∷ at 0 49 (pos 327680) ∷ at 0 41 (pos 655360) ∷ [])
          ∷ line (pos 673568) (pos 1274304) (pos 327680) (pos 0) (at 3 97 (pos 0) ∷ at 0 43 (pos 473312) ∷ at 3 98 (pos 946624) ∷ []) ∷ []),
    )
    -- no room beside, and the display is set to z
    ∷ (
      display_lines (pos 655360) a_plus_b (numbered false one) (pos 1000000),
      Ok (line (pos 0) (pos 1000000) (pos 327680) (pos 0) (at 3 97 (pos 0) ∷ at 0 43 (pos 336160) ∷ at 3 98 (pos 672320) ∷ [])
          ∷ line (pos 16960) (pos 983040) (pos 327680) (pos 0) (at 0 40 (pos 0) ∷ at 0 49 (pos 327680) ∷ at 0 41 (pos 655360) ∷ []) ∷ []),
    )
    -- a negative quad: q is less than e
    ∷ (
      display_lines (negsuc 899999) a_plus_b (numbered false one) (pos 1357344),
      Ok (line (negsuc 449999) (pos 1807344) (pos 327680) (pos 0) (at 3 97 (pos 0) ∷ at 0 43 (pos 473312) ∷ at 3 98 (pos 946624) ∷ at 0 40 (pos 824304) ∷ at 0 49 (pos 1151984) ∷ at 0 41 (pos 1479664) ∷ []) ∷ []),
    )
    -- w > z, but w + q is z: d is negative, an odd half
    ∷ (
      display_lines (negsuc 983140) (wide 3 97 1000001 ∷ []) (numbered false (wide 3 98 983040 ∷ [])) (pos 999900),
      Ok (line (negsuc 491569) (pos 1491470) (pos 327680) (pos 0) (at 3 97 (pos 0) ∷ at 3 98 (pos 508430) ∷ []) ∷ []),
    )
    -- no shrink: nothing moves, and the box is z wide all the same
    ∷ (
      display_lines (pos 655360) (square 3 97 ∷ PieceKern (pos 1000) ∷ square 3 98 ∷ []) None (pos 100),
      Ok (line (pos 0) (pos 100) (pos 327680) (pos 0) (at 3 97 (pos 0) ∷ at 3 98 (pos 328680) ∷ []) ∷ []),
    )
    -- a number of width 0: e is 0 and q is the quad, so there is room; a line of its own
    ∷ (
      display_lines (pos 655360) a_plus_b (numbered false (square 3 49 ∷ PieceKern (negsuc 327679) ∷ [])) (pos 30785863),
      Ok (line (pos 14755780) (pos 1274304) (pos 327680) (pos 0) (at 3 97 (pos 0) ∷ at 0 43 (pos 473312) ∷ at 3 98 (pos 946624) ∷ [])
          ∷ line (pos 30785863) (pos 0) (pos 327680) (pos 0) (at 3 49 (pos 0) ∷ []) ∷ []),
    )
    -- and w + q > z: the display keeps its width though w - s + q is below z
    ∷ (
      display_lines (pos 655360) a_plus_b (numbered false (square 3 49 ∷ PieceKern (negsuc 327679) ∷ [])) (pos 1929663),
      Ok (line (pos 327680) (pos 1274304) (pos 327680) (pos 0) (at 3 97 (pos 0) ∷ at 0 43 (pos 473312) ∷ at 3 98 (pos 946624) ∷ [])
          ∷ line (pos 1929663) (pos 0) (pos 327680) (pos 0) (at 3 49 (pos 0) ∷ []) ∷ []),
    )
    -- a number of width -1000: beside the display, its left end right of the line
    ∷ (
      display_lines (pos 655360) (square 3 97 ∷ []) (numbered false (PieceKern (negsuc 999) ∷ [])) (pos 3276800),
      Ok (line (pos 1474560) (pos 1802240) (pos 327680) (pos 0) (at 3 97 (pos 0) ∷ []) ∷ []),
    )
    -- the same at the left
    ∷ (
      display_lines (pos 655360) (square 3 97 ∷ []) (numbered true (square 3 49 ∷ PieceKern (negsuc 328680) ∷ [])) (pos 3276800),
      Ok (line (pos 0) (pos 1802240) (pos 327680) (pos 0) (at 3 49 (pos 0) ∷ at 3 97 (pos 1474560) ∷ []) ∷ []),
    )
    -- d is 2e - 1: in the middle of what the number leaves
    ∷ (
      display_lines (pos 655360) (square 3 97 ∷ []) (numbered false one) (pos 4259838),
      Ok (line (pos 1474559) (pos 2785279) (pos 327680) (pos 0) (at 3 97 (pos 0) ∷ at 0 40 (pos 1802239) ∷ at 0 49 (pos 2129919) ∷ at 0 41 (pos 2457599) ∷ []) ∷ []),
    )
    -- d is 2e: in the middle of the line
    ∷ (
      display_lines (pos 655360) (square 3 97 ∷ []) (numbered false one) (pos 4259840),
      Ok (line (pos 1966080) (pos 2293760) (pos 327680) (pos 0) (at 3 97 (pos 0) ∷ at 0 40 (pos 1310720) ∷ at 0 49 (pos 1638400) ∷ at 0 41 (pos 1966080) ∷ []) ∷ []),
    )
    -- z - w is 4e - 1, and half of it rounds up to 2e: still the middle of the line
    ∷ (
      display_lines (pos 655360) (square 3 97 ∷ []) (numbered false one) (pos 4259839),
      Ok (line (pos 1966080) (pos 2293759) (pos 327680) (pos 0) (at 3 97 (pos 0) ∷ at 0 40 (pos 1310719) ∷ at 0 49 (pos 1638399) ∷ at 0 41 (pos 1966079) ∷ []) ∷ []),
    )
    -- d < 2e, and the display begins with a space: at the margin
    ∷ (
      display_lines (pos 655360) (PieceSpace (pos 0) (pos 0) ∷ square 3 97 ∷ []) (numbered false one) (pos 2949120),
      Ok (line (pos 0) (pos 2949120) (pos 327680) (pos 0) (at 3 97 (pos 0) ∷ at 0 40 (pos 1966080) ∷ at 0 49 (pos 2293760) ∷ at 0 41 (pos 2621440) ∷ []) ∷ []),
    )
    -- the same at the left: at z - w, against the right margin
    ∷ (
      display_lines (pos 655360) (PieceSpace (pos 0) (pos 0) ∷ square 3 97 ∷ []) (numbered true one) (pos 2949120),
      Ok (line (pos 0) (pos 2949120) (pos 327680) (pos 0) (at 0 40 (pos 0) ∷ at 0 49 (pos 327680) ∷ at 0 41 (pos 655360) ∷ at 3 97 (pos 2621440) ∷ []) ∷ []),
    )
    -- a kern is no space
    ∷ (
      display_lines (pos 655360) (PieceKern (pos 0) ∷ square 3 97 ∷ []) (numbered false one) (pos 2949120),
      Ok (line (pos 819200) (pos 2129920) (pos 327680) (pos 0) (at 3 97 (pos 0) ∷ at 0 40 (pos 1146880) ∷ at 0 49 (pos 1474560) ∷ at 0 41 (pos 1802240) ∷ []) ∷ []),
    )
    -- d < 2e at the left
    ∷ (
      display_lines (pos 655360) (square 3 97 ∷ []) (numbered true one) (pos 2949120),
      Ok (line (pos 0) (pos 2129920) (pos 327680) (pos 0) (at 0 40 (pos 0) ∷ at 0 49 (pos 327680) ∷ at 0 41 (pos 655360) ∷ at 3 97 (pos 1802240) ∷ []) ∷ []),
    )
    -- a line of 1sp with a number
    ∷ (
      display_lines (pos 655360) (square 3 97 ∷ []) (numbered false one) (pos 1),
      Ok (line (pos 0) (pos 1) (pos 327680) (pos 0) (at 3 97 (pos 0) ∷ [])
          ∷ line (negsuc 983038) (pos 983040) (pos 327680) (pos 0) (at 0 40 (pos 0) ∷ at 0 49 (pos 327680) ∷ at 0 41 (pos 655360) ∷ []) ∷ []),
    )
    -- an empty display
    ∷ (
      display_lines (pos 655360) [] None (pos 100001),
      Ok (line (pos 50001) (pos 0) (pos 0) (pos 0) [] ∷ []),
    )
    -- wider than TeX allows, but set to z: no fault
    ∷ (
      display_lines (pos 655360) (PieceKern (pos 1073741823) ∷ PieceKern (pos 1) ∷ square 3 97 ∷ []) None (pos 100),
      Ok (line (pos 0) (pos 100) (pos 327680) (pos 0) (at 3 97 (pos 1073741824) ∷ []) ∷ []),
    )
    -- both out of range: the display is said
    ∷ (display_lines (pos 655360) (PieceKern (negsuc 1073741822) ∷ PieceKern (negsuc 1) ∷ []) (numbered false (PieceKern (pos 1073741823) ∷ PieceKern (pos 1) ∷ [])) (pos 100), Err (Overflow (negsuc 1073741824)))
    -- display and number in range, and their row is not
    ∷ (display_lines (negsuc 2147483645) (PieceKern (pos 1073741823) ∷ []) (numbered false (PieceKern (pos 1073741823) ∷ [])) (pos 3), Err (Overflow (pos 1073741824)))
    ∷ []

cases_agree : map (λ (c : Lines × Lines). c.0) cases ≡ map (λ (c : Lines × Lines). c.1) cases
unfolding display_lines
cases_agree = refl
