-- The definitions on worked rows and lines.
use Rattle.std.proofs.Common.{◌≡◌, ℤ, pos, negsuc, List, [], ◌∷◌, map, Result, Ok, Err, refl}
use Rattle.mt_display.proofs.Common.{Place, Glyph, Rule, PieceGlyph, PieceKern, Setting, Overflow, LineValue, inline_lines, stacked_lines}
use Rattle.mt_display.specs.declared.error.StackError.{StackError}
use Rattle.mt_display.specs.declared.error.StackError.TheVariants.{OutOfRange, TooMany}

-- a line with this shift, width, height, depth and these places
abbrev line : ℤ → ℤ → ℤ → ℤ → List Place → LineValue
line shift width height depth places = record {
  shift = shift;
  body = record { extents = record { width = width; height = height; depth = depth }; places = places };
}

abbrev letter : ℤ → ℤ → Place
letter h v = Glyph 3 97 h v

-- ---- a formula in the text

abbrev Lines : Type 0
Lines = Setting (List LineValue)

-- rows, and their line
abbrev rows : List (Lines × Lines)
rows =
    -- a letter, a kern, a letter
    (inline_lines (PieceGlyph 3 97 record { width = pos 5; height = pos 7; depth = negsuc 2 } ∷ PieceKern (pos 3) ∷ PieceGlyph 3 97 record { width = pos 4; height = pos 9; depth = pos 1 } ∷ []), Ok (line (pos 0) (pos 12) (pos 9) (pos 1) (letter (pos 0) (pos 0) ∷ letter (pos 8) (pos 0) ∷ []) ∷ []))
    -- no piece
    ∷ (inline_lines [], Ok (line (pos 0) (pos 0) (pos 0) (pos 0) [] ∷ []))
    -- one scaled point too wide
    ∷ (inline_lines (PieceKern (pos 1073741823) ∷ PieceKern (pos 1) ∷ []), Err (Overflow (pos 1073741824)))
    ∷ []

rows_agree : map (λ (c : Lines × Lines). c.0) rows ≡ map (λ (c : Lines × Lines). c.1) rows
rows_agree = refl

-- ---- lines on a page

abbrev Places : Type 0
Places = Result (List Place) StackError

-- lines one below another, and their places
abbrev pages : List (Places × Places)
pages =
    -- no line
    (stacked_lines 5 [], Ok [])
    -- 12pt from baseline to baseline
    ∷ (
      stacked_lines 5 (line (pos 0) (pos 327680) (pos 327680) (pos 0) (letter (pos 0) (pos 0) ∷ [])
          ∷ line (pos 7) (pos 327680) (pos 327680) (pos 0) (letter (pos 1) (negsuc 1) ∷ []) ∷ []),
      Ok (letter (pos 0) (pos 327680) ∷ letter (pos 8) (pos 1114110) ∷ []),
    )
    -- a gap of 0
    ∷ (
      stacked_lines 5 (line (pos 0) (pos 1) (pos 0) (pos 400000) (letter (pos 0) (pos 0) ∷ [])
          ∷ line (pos 0) (pos 1) (pos 386432) (pos 0) (letter (pos 0) (pos 0) ∷ []) ∷ []),
      Ok (letter (pos 0) (pos 0) ∷ letter (pos 0) (pos 786432) ∷ []),
    )
    -- 12pt is 1sp too little: 1pt is left between
    ∷ (
      stacked_lines 5 (line (pos 0) (pos 1) (pos 0) (pos 400000) (letter (pos 0) (pos 0) ∷ [])
          ∷ line (pos 0) (pos 1) (pos 386433) (pos 0) (letter (pos 0) (pos 0) ∷ []) ∷ []),
      Ok (letter (pos 0) (pos 0) ∷ letter (pos 0) (pos 851969) ∷ []),
    )
    -- three lines, each gap from its own neighbours
    ∷ (
      stacked_lines 9 (line (pos 0) (pos 1) (pos 900000) (pos 100000) (letter (pos 0) (negsuc 4) ∷ [])
          ∷ line (negsuc 2) (pos 1) (pos 700000) (pos 50000) (Rule (pos 0) (pos 10) (pos 40960) (pos 5) ∷ [])
          ∷ line (pos 0) (pos 1) (pos 100000) (pos 0) (letter (pos 0) (pos 0) ∷ []) ∷ []),
      Ok (letter (pos 0) (pos 899995) ∷ Rule (negsuc 2) (pos 1765546) (pos 40960) (pos 5) ∷ letter (pos 0) (pos 2551968) ∷ []),
    )
    -- negative heights and depths
    ∷ (
      stacked_lines 5 (line (pos 0) (pos 1) (negsuc 99) (negsuc 199) (letter (pos 0) (pos 0) ∷ [])
          ∷ line (pos 0) (pos 1) (negsuc 299) (pos 5) (letter (pos 0) (pos 0) ∷ []) ∷ []),
      Ok (letter (pos 0) (negsuc 99) ∷ letter (pos 0) (pos 786332) ∷ []),
    )
    -- lines without places take their room
    ∷ (
      stacked_lines 5 (line (pos 0) (pos 0) (pos 0) (pos 0) []
          ∷ line (pos 0) (pos 0) (pos 0) (pos 0) []
          ∷ line (pos 0) (pos 1) (pos 10) (pos 0) (letter (pos 0) (pos 0) ∷ []) ∷ []),
      Ok (letter (pos 0) (pos 1572864) ∷ []),
    )
    -- h and v out of range in one place: h is said
    ∷ (stacked_lines 5 (line (pos 1073741823) (pos 1) (pos 0) (pos 0) (letter (pos 1) (pos 1073741828) ∷ []) ∷ []), Err (OutOfRange 0 (pos 1073741824)))
    -- v out of range in the second line
    ∷ (
      stacked_lines 5 (line (pos 0) (pos 1) (pos 1073741823) (pos 0) (letter (pos 0) (pos 0) ∷ [])
          ∷ line (pos 0) (pos 1) (pos 0) (pos 0) (letter (pos 5) (pos 0) ∷ []) ∷ []),
      Err (OutOfRange 1 (pos 1074528255)),
    )
    -- v exactly in range
    ∷ (
      stacked_lines 5 (line (pos 0) (pos 1) (pos 1072955391) (pos 0) (letter (pos 0) (pos 0) ∷ [])
          ∷ line (pos 0) (pos 1) (pos 0) (pos 0) (letter (pos 5) (pos 0) ∷ []) ∷ []),
      Ok (letter (pos 0) (pos 1072955391) ∷ letter (pos 5) (pos 1073741823) ∷ []),
    )
    -- h out of range below 0
    ∷ (stacked_lines 5 (line (negsuc 1073741822) (pos 1) (pos 0) (pos 0) (letter (pos 0) (pos 0) ∷ letter (negsuc 0) (pos 0) ∷ []) ∷ []), Err (OutOfRange 0 (negsuc 1073741823)))
    -- as many places as there is room for
    ∷ (
      stacked_lines 2 (line (pos 0) (pos 1) (pos 0) (pos 0) (letter (pos 0) (pos 0) ∷ letter (pos 1) (pos 0) ∷ [])
          ∷ line (pos 0) (pos 1) (pos 0) (pos 0) [] ∷ []),
      Ok (letter (pos 0) (pos 0) ∷ letter (pos 1) (pos 0) ∷ []),
    )
    -- one more
    ∷ (
      stacked_lines 2 (line (pos 0) (pos 1) (pos 0) (pos 0) (letter (pos 0) (pos 0) ∷ letter (pos 1) (pos 0) ∷ [])
          ∷ line (pos 0) (pos 1) (pos 0) (pos 0) (letter (pos 2) (pos 0) ∷ []) ∷ []),
      Err (TooMany 1),
    )
    -- out of range at the place for which there is no room
    ∷ (
      stacked_lines 2 (line (pos 0) (pos 1) (pos 0) (pos 0) (letter (pos 0) (pos 0) ∷ letter (pos 1) (pos 0) ∷ [])
          ∷ line (pos 0) (pos 1) (pos 1073741823) (pos 0) (letter (pos 2) (pos 0) ∷ []) ∷ []),
      Err (OutOfRange 1 (pos 1073807359)),
    )
    -- no room for an earlier place
    ∷ (stacked_lines 1 (line (pos 0) (pos 1) (pos 0) (pos 0) (letter (pos 0) (pos 0) ∷ letter (pos 1) (pos 0) ∷ letter (pos 1073741824) (pos 0) ∷ []) ∷ []), Err (TooMany 0))
    -- no room and no places
    ∷ (stacked_lines 0 (line (pos 5) (pos 1) (pos 0) (pos 0) [] ∷ []), Ok [])
    ∷ []

pages_agree : map (λ (c : Places × Places). c.0) pages ≡ map (λ (c : Places × Places). c.1) pages
unfolding stacked_lines
pages_agree = refl
