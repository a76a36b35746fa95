-- The definitions of displays of several lines on worked rows.
use Rattle.std.proofs.Common.{◌≡◌, ℕ, ℤ, pos, negsuc, true, false, List, [], ◌∷◌, map, Ok, Err, refl}
use Rattle.mt_display.proofs.Common.{Place, Glyph, Rule, Layout, EquationLayout, equations_line, rows_line, Setting, Overflow, LineValue, equation_lines, row_lines}

-- a box of these extents and places
abbrev layout : ℤ → ℤ → ℤ → List Place → Layout
layout width height depth places = record { extents = record { width = width; height = height; depth = depth }; places = places }

abbrev empty : Layout
empty = layout (pos 0) (pos 0) (pos 0) []

-- letters of 5pt, the first one at h
abbrev row : ℕ → List Place → Layout
row width places = layout (pos width) (pos 327680) (pos 0) places

abbrev at : ℕ → ℕ → ℕ → Place
at font code h = Glyph font code (pos h) (pos 0)

abbrev letter : ℕ → Layout
letter code = row 327680 (at 3 code 0 ∷ [])

-- = and a letter, as they are on the right side of an equation
abbrev equals : ℕ → Layout
equals code = row 1019440 (at 0 61 182040 ∷ at 3 code 691760 ∷ [])

abbrev one : Layout
one = row 983040 (at 0 40 0 ∷ at 0 49 327680 ∷ at 0 41 655360 ∷ [])

abbrev two : Layout
two = row 983040 (at 0 40 0 ∷ at 0 50 327680 ∷ at 0 41 655360 ∷ [])

abbrev equation : Layout → Layout → Layout → EquationLayout
equation first second number = record { first = first; second = second; number = number }

abbrev Lines : Type 0
Lines = Setting (List LineValue)

-- the line at the left end
abbrev line : ℕ → ℤ → ℤ → List Place → Lines
line width height depth places = Ok (record { shift = pos 0; body = layout (pos width) height depth places } ∷ [])

-- v below the baseline, or up above it
abbrev up : ℕ → ℕ → ℤ → ℕ → Place
up font code h v = Glyph font code h (negsuc v)

-- displays of several lines, and their line
abbrev cases : List (Lines × Lines)
cases =
    -- the number at the right
    (
      equation_lines (equation (letter 97) (equals 98) one ∷ []) false (pos 4000000),
      line 4000000 (pos 327680) (pos 0) (at 3 97 1326440 ∷ at 0 61 1836160 ∷ at 3 98 2345880 ∷ at 0 40 3016960 ∷ at 0 49 3344640 ∷ at 0 41 3672320 ∷ []),
    )
    -- and at the left: it is still the last in order
    ∷ (
      equation_lines (equation (letter 97) (equals 98) one ∷ []) true (pos 4000000),
      line 4000000 (pos 327680) (pos 0) (at 3 97 1326440 ∷ at 0 61 1836160 ∷ at 3 98 2345880 ∷ at 0 40 0 ∷ at 0 49 327680 ∷ at 0 41 655360 ∷ []),
    )
    -- the columns go over all rows, and an odd rest gives its half and a half to the left
    ∷ (
      equation_lines (equation (letter 97) (equals 98) one
          ∷ equation (row 655360 (at 3 99 0 ∷ at 3 99 327680 ∷ [])) (equals 100) empty
          ∷ equation empty (row 1674800 (at 0 61 182040 ∷ at 3 101 691760 ∷ at 3 101 1019440 ∷ at 3 101 1347120 ∷ [])) two ∷ []) false (pos 4000001),
      line 4000001 (pos 2293760) (pos 0) (up 3 97 (pos 1162601) 1966079 ∷ up 0 61 (pos 1672321) 1966079 ∷ up 3 98 (pos 2182041) 1966079
          ∷ up 0 40 (pos 3016961) 1966079 ∷ up 0 49 (pos 3344641) 1966079 ∷ up 0 41 (pos 3672321) 1966079
          ∷ up 3 99 (pos 834921) 983039 ∷ up 3 99 (pos 1162601) 983039 ∷ up 0 61 (pos 1672321) 983039 ∷ up 3 100 (pos 2182041) 983039
          ∷ at 0 61 1672321 ∷ at 3 101 2182041 ∷ at 3 101 2509721 ∷ at 3 101 2837401 ∷ at 0 40 3016961 ∷ at 0 50 3344641 ∷ at 0 41 3672321 ∷ []),
    )
    -- wider than the line: from its left end on, and the number over it
    ∷ (
      equation_lines (equation (letter 97) (equals 98) one
          ∷ equation (row 655360 (at 3 99 0 ∷ at 3 99 327680 ∷ [])) (equals 100) empty ∷ []) false (pos 100000),
      line 100000 (pos 1310720) (pos 0) (up 3 97 (pos 327680) 983039 ∷ up 0 61 (pos 837400) 983039 ∷ up 3 98 (pos 1347120) 983039
          ∷ up 0 40 (negsuc 883039) 983039 ∷ up 0 49 (negsuc 555359) 983039 ∷ up 0 41 (negsuc 227679) 983039
          ∷ at 3 99 0 ∷ at 3 99 327680 ∷ at 0 61 837400 ∷ at 3 100 1347120 ∷ []),
    )
    -- an equation without sides
    ∷ (
      equation_lines (equation empty empty one ∷ []) false (pos 2000000),
      line 2000000 (pos 327680) (pos 0) (at 0 40 1016960 ∷ at 0 49 1344640 ∷ at 0 41 1672320 ∷ []),
    )
    -- a column may have a negative width
    ∷ (
      equation_lines (equation (layout (negsuc 589823) (pos 0) (pos 0) (at 3 97 0 ∷ [])) empty empty
          ∷ equation (layout (negsuc 786431) (pos 0) (pos 0) []) (letter 98) empty ∷ []) false (pos 2000000),
      line 2000000 (pos 983040) (pos 0) (up 3 97 (pos 1131072) 983039 ∷ at 3 98 541248 ∷ []),
    )
    -- but an absent cell has the width 0
    ∷ (
      equation_lines (equation (layout (negsuc 589823) (pos 0) (pos 0) []) empty empty ∷ equation empty (letter 98) empty ∷ []) false (pos 2000000),
      line 2000000 (pos 983040) (pos 0) (at 3 98 836160 ∷ []),
    )
    -- a row is as high and as deep as its highest and deepest cell; the depth is that of the last row
    ∷ (
      equation_lines (equation (layout (pos 2) (pos 5) (pos 100) []) (layout (pos 4) (pos 9) (negsuc 0) []) (layout (pos 6) (pos 7) (pos 30) [])
          ∷ equation (layout (pos 2) (pos 1) (pos 3) (at 3 97 0 ∷ [])) (layout (pos 4) (pos 2) (pos 2) (Rule (pos 0) (pos 0) (pos 7) (pos 8) ∷ [])) (layout (pos 6) (pos 8) (pos 4) []) ∷ []) false (pos 20),
      line 20 (pos 983049) (pos 4) (at 3 97 7 ∷ Rule (pos 9) (pos 0) (pos 7) (pos 8) ∷ []),
    )
    -- columns that are too wide together are no fault
    ∷ (
      equation_lines (equation (layout (pos 1073676288) (pos 0) (pos 0) []) (layout (pos 1073676288) (pos 0) (pos 0) []) (layout (pos 1073676288) (pos 0) (pos 0) []) ∷ []) true (pos 1073741823),
      line 1073741823 (pos 0) (pos 0) [],
    )
    -- no equation
    ∷ (equation_lines [] false (pos 30785863), line 30785863 (pos 0) (pos 0) [])
    -- two rows in the middle
    ∷ (row_lines (letter 97 ∷ letter 98 ∷ []) (pos 1000000), line 1000000 (pos 1310720) (pos 0) (up 3 97 (pos 336160) 983039 ∷ at 3 98 336160 ∷ []))
    -- each row by itself, an odd rest, and a row wider than the line
    ∷ (
      row_lines (row 1310720 (at 3 97 0 ∷ at 3 97 983040 ∷ []) ∷ letter 98 ∷ []) (pos 327681),
      line 327681 (pos 1310720) (pos 0) (up 3 97 (pos 0) 983039 ∷ up 3 97 (pos 983040) 983039 ∷ at 3 98 1 ∷ []),
    )
    -- a gap of 3pt stays
    ∷ (row_lines (layout (pos 0) (pos 10) (pos 458752) [] ∷ letter 97 ∷ []) (pos 327680), line 327680 (pos 983050) (pos 0) (at 3 97 0 ∷ []))
    -- 1sp less becomes 4pt
    ∷ (row_lines (layout (pos 0) (pos 10) (pos 458753) (at 3 98 0 ∷ []) ∷ letter 97 ∷ []) (pos 327680), line 327680 (pos 1048587) (pos 0) (up 3 98 (pos 163840) 1048576 ∷ at 3 97 0 ∷ []))
    -- a negative height and a negative depth count as 0
    ∷ (row_lines (layout (pos 2) (negsuc 9) (negsuc 19) (at 3 97 0 ∷ []) ∷ layout (pos 2) (negsuc 4) (negsuc 0) [] ∷ []) (pos 2), line 2 (pos 983040) (pos 0) (up 3 97 (pos 0) 983039 ∷ []))
    -- a row that is below its baseline alone
    ∷ (row_lines (letter 97 ∷ layout (pos 2) (pos 327680) (pos 139264) [] ∷ []) (pos 2), line 2 (pos 1310720) (pos 139264) (up 3 97 (pos 0) 983039 ∷ []))
    -- no row
    ∷ (row_lines [] (pos 1), line 1 (pos 0) (pos 0) [])
    -- a height exactly in range
    ∷ (row_lines (layout (pos 0) (pos 1072758783) (pos 0) [] ∷ letter 97 ∷ []) (pos 327680), line 327680 (pos 1073741823) (pos 0) (at 3 97 0 ∷ []))
    -- and 1sp more
    ∷ (row_lines (layout (pos 0) (pos 1072758784) (pos 0) [] ∷ letter 97 ∷ []) (pos 327680), Err (Overflow (pos 1073741824)))
    -- rows of equations too, the first one down to the last one's baseline
    ∷ (
      equation_lines (equation (layout (pos 0) (pos 1073741823) (pos 0) []) empty empty ∷ equation empty empty (layout (pos 0) (pos 1073741823) (pos 9) []) ∷ []) true (pos 1),
      Err (Overflow (pos 2147745790)),
    )
    ∷ []

cases_agree : map (λ (c : Lines × Lines). c.0) cases ≡ map (λ (c : Lines × Lines). c.1) cases
unfolding equations_line rows_line
cases_agree = refl
