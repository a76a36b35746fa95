-- Worked files that are lean.
use Rattle.std.proofs.Common.{◌≡◌, ℕ, List, [], ◌∷◌, refl}
use Rattle.std.specs.Prelude.{true}
use Rattle.mt_dvi.specs.Codes.{operand_size, operation}
use Rattle.mt_dvi.specs.Lean.{Lean}
use Rattle.mt_dvi.specs.Trace.{traced, tracing}
use Rattle.mt_dvi.proofs.Sentences.{fonts, lean_of, sentences}

-- $a+b$
abbrev a_plus_b : List ℕ
a_plus_b =
    247 ∷ 2 ∷ 1 ∷ 131 ∷ 146 ∷ 192 ∷ 28 ∷ 59 ∷ 0 ∷ 0 ∷ 0 ∷ 0 ∷ 3 ∷ 232 ∷ 0 ∷ 139 ∷ 0 ∷ 0 ∷ 0 ∷ 1 ∷ 0 ∷
    0 ∷ 0 ∷ 0 ∷ 0 ∷ 0 ∷ 0 ∷ 0 ∷ 0 ∷ 0 ∷ 0 ∷ 0 ∷ 0 ∷ 0 ∷ 0 ∷ 0 ∷ 0 ∷ 0 ∷ 0 ∷ 0 ∷ 0 ∷ 0 ∷ 0 ∷ 0 ∷ 0 ∷ 0 ∷
    0 ∷ 0 ∷ 0 ∷ 0 ∷ 0 ∷ 0 ∷ 0 ∷ 0 ∷ 0 ∷ 0 ∷ 255 ∷ 255 ∷ 255 ∷ 255 ∷ 164 ∷ 5 ∷ 0 ∷ 0 ∷ 243 ∷ 3 ∷ 0 ∷ 0 ∷
    0 ∷ 0 ∷ 0 ∷ 10 ∷ 0 ∷ 0 ∷ 0 ∷ 10 ∷ 0 ∷ 0 ∷ 0 ∷ 4 ∷ 116 ∷ 111 ∷ 121 ∷ 109 ∷ 174 ∷ 97 ∷ 150 ∷ 2 ∷ 56 ∷
    224 ∷ 243 ∷ 0 ∷ 0 ∷ 0 ∷ 0 ∷ 0 ∷ 0 ∷ 10 ∷ 0 ∷ 0 ∷ 0 ∷ 10 ∷ 0 ∷ 0 ∷ 0 ∷ 4 ∷ 116 ∷ 111 ∷ 121 ∷ 114 ∷
    171 ∷ 43 ∷ 147 ∷ 174 ∷ 98 ∷ 140 ∷ 248 ∷ 0 ∷ 0 ∷ 0 ∷ 15 ∷ 1 ∷ 131 ∷ 146 ∷ 192 ∷ 28 ∷ 59 ∷ 0 ∷ 0 ∷
    0 ∷ 0 ∷ 3 ∷ 232 ∷ 0 ∷ 5 ∷ 0 ∷ 0 ∷ 0 ∷ 19 ∷ 113 ∷ 192 ∷ 0 ∷ 0 ∷ 0 ∷ 1 ∷ 243 ∷ 0 ∷ 0 ∷ 0 ∷ 0 ∷ 0 ∷
    0 ∷ 10 ∷ 0 ∷ 0 ∷ 0 ∷ 10 ∷ 0 ∷ 0 ∷ 0 ∷ 4 ∷ 116 ∷ 111 ∷ 121 ∷ 114 ∷ 243 ∷ 3 ∷ 0 ∷ 0 ∷ 0 ∷ 0 ∷ 0 ∷
    10 ∷ 0 ∷ 0 ∷ 0 ∷ 10 ∷ 0 ∷ 0 ∷ 0 ∷ 4 ∷ 116 ∷ 111 ∷ 121 ∷ 109 ∷ 249 ∷ 0 ∷ 0 ∷ 0 ∷ 116 ∷ 2 ∷ 223 ∷
    223 ∷ 223 ∷ 223 ∷ 223 ∷ []

a_plus_b_is : sentences (traced fonts a_plus_b) ≡ true ∷ true ∷ true ∷ true ∷ true ∷ true ∷ true ∷ true ∷ true ∷ []
unfolding traced tracing operation operand_size
a_plus_b_is = refl

a_plus_b_lean : Lean fonts a_plus_b
a_plus_b_lean = lean_of a_plus_b a_plus_b_is

-- $a$ $b$
abbrev two_lines : List ℕ
two_lines =
    247 ∷ 2 ∷ 1 ∷ 131 ∷ 146 ∷ 192 ∷ 28 ∷ 59 ∷ 0 ∷ 0 ∷ 0 ∷ 0 ∷ 3 ∷ 232 ∷ 0 ∷ 139 ∷ 0 ∷ 0 ∷ 0 ∷ 1 ∷ 0 ∷
    0 ∷ 0 ∷ 0 ∷ 0 ∷ 0 ∷ 0 ∷ 0 ∷ 0 ∷ 0 ∷ 0 ∷ 0 ∷ 0 ∷ 0 ∷ 0 ∷ 0 ∷ 0 ∷ 0 ∷ 0 ∷ 0 ∷ 0 ∷ 0 ∷ 0 ∷ 0 ∷ 0 ∷ 0 ∷
    0 ∷ 0 ∷ 0 ∷ 0 ∷ 0 ∷ 0 ∷ 0 ∷ 0 ∷ 0 ∷ 0 ∷ 255 ∷ 255 ∷ 255 ∷ 255 ∷ 164 ∷ 5 ∷ 0 ∷ 0 ∷ 243 ∷ 3 ∷ 0 ∷ 0 ∷
    0 ∷ 0 ∷ 0 ∷ 10 ∷ 0 ∷ 0 ∷ 0 ∷ 10 ∷ 0 ∷ 0 ∷ 0 ∷ 4 ∷ 116 ∷ 111 ∷ 121 ∷ 109 ∷ 174 ∷ 97 ∷ 150 ∷ 251 ∷
    0 ∷ 0 ∷ 169 ∷ 12 ∷ 0 ∷ 0 ∷ 98 ∷ 140 ∷ 248 ∷ 0 ∷ 0 ∷ 0 ∷ 15 ∷ 1 ∷ 131 ∷ 146 ∷ 192 ∷ 28 ∷ 59 ∷ 0 ∷
    0 ∷ 0 ∷ 0 ∷ 3 ∷ 232 ∷ 0 ∷ 17 ∷ 0 ∷ 0 ∷ 0 ∷ 5 ∷ 0 ∷ 0 ∷ 0 ∷ 0 ∷ 0 ∷ 1 ∷ 243 ∷ 3 ∷ 0 ∷ 0 ∷ 0 ∷ 0 ∷
    0 ∷ 10 ∷ 0 ∷ 0 ∷ 0 ∷ 10 ∷ 0 ∷ 0 ∷ 0 ∷ 4 ∷ 116 ∷ 111 ∷ 121 ∷ 109 ∷ 249 ∷ 0 ∷ 0 ∷ 0 ∷ 96 ∷ 2 ∷ 223 ∷
    223 ∷ 223 ∷ 223 ∷ 223 ∷ []

two_lines_is : sentences (traced fonts two_lines) ≡ true ∷ true ∷ true ∷ true ∷ true ∷ true ∷ true ∷ true ∷ true ∷ []
unfolding traced tracing operation operand_size
two_lines_is = refl

two_lines_lean : Lean fonts two_lines
two_lines_lean = lean_of two_lines two_lines_is

-- a rule that goes by put_rule, since the glyph after it is too far away
abbrev far_apart : List ℕ
far_apart =
    247 ∷ 2 ∷ 1 ∷ 131 ∷ 146 ∷ 192 ∷ 28 ∷ 59 ∷ 0 ∷ 0 ∷ 0 ∷ 0 ∷ 3 ∷ 232 ∷ 0 ∷ 139 ∷ 0 ∷ 0 ∷ 0 ∷ 1 ∷ 0 ∷
    0 ∷ 0 ∷ 0 ∷ 0 ∷ 0 ∷ 0 ∷ 0 ∷ 0 ∷ 0 ∷ 0 ∷ 0 ∷ 0 ∷ 0 ∷ 0 ∷ 0 ∷ 0 ∷ 0 ∷ 0 ∷ 0 ∷ 0 ∷ 0 ∷ 0 ∷ 0 ∷ 0 ∷ 0 ∷
    0 ∷ 0 ∷ 0 ∷ 0 ∷ 0 ∷ 0 ∷ 0 ∷ 0 ∷ 0 ∷ 0 ∷ 255 ∷ 255 ∷ 255 ∷ 255 ∷ 151 ∷ 63 ∷ 255 ∷ 0 ∷ 0 ∷ 164 ∷ 3 ∷
    32 ∷ 0 ∷ 137 ∷ 0 ∷ 0 ∷ 160 ∷ 0 ∷ 63 ∷ 255 ∷ 0 ∷ 0 ∷ 156 ∷ 128 ∷ 2 ∷ 0 ∷ 0 ∷ 169 ∷ 1 ∷ 224 ∷ 0 ∷
    243 ∷ 3 ∷ 0 ∷ 0 ∷ 0 ∷ 0 ∷ 0 ∷ 10 ∷ 0 ∷ 0 ∷ 0 ∷ 10 ∷ 0 ∷ 0 ∷ 0 ∷ 4 ∷ 116 ∷ 111 ∷ 121 ∷ 109 ∷ 174 ∷
    97 ∷ 140 ∷ 248 ∷ 0 ∷ 0 ∷ 0 ∷ 15 ∷ 1 ∷ 131 ∷ 146 ∷ 192 ∷ 28 ∷ 59 ∷ 0 ∷ 0 ∷ 0 ∷ 0 ∷ 3 ∷ 232 ∷ 0 ∷ 5 ∷
    0 ∷ 0 ∷ 127 ∷ 254 ∷ 0 ∷ 0 ∷ 0 ∷ 0 ∷ 0 ∷ 1 ∷ 243 ∷ 3 ∷ 0 ∷ 0 ∷ 0 ∷ 0 ∷ 0 ∷ 10 ∷ 0 ∷ 0 ∷ 0 ∷ 10 ∷ 0 ∷
    0 ∷ 0 ∷ 4 ∷ 116 ∷ 111 ∷ 121 ∷ 109 ∷ 249 ∷ 0 ∷ 0 ∷ 0 ∷ 110 ∷ 2 ∷ 223 ∷ 223 ∷ 223 ∷ 223 ∷ 223 ∷ 223 ∷
    223 ∷ []

far_apart_is : sentences (traced fonts far_apart) ≡ true ∷ true ∷ true ∷ true ∷ true ∷ true ∷ true ∷ true ∷ true ∷ []
unfolding traced tracing operation operand_size
far_apart_is = refl

far_apart_lean : Lean fonts far_apart
far_apart_lean = lean_of far_apart far_apart_is

-- three pages, the second without places
abbrev three_pages : List ℕ
three_pages =
    247 ∷ 2 ∷ 1 ∷ 131 ∷ 146 ∷ 192 ∷ 28 ∷ 59 ∷ 0 ∷ 0 ∷ 0 ∷ 0 ∷ 3 ∷ 232 ∷ 0 ∷ 139 ∷ 0 ∷ 0 ∷ 0 ∷ 1 ∷ 0 ∷
    0 ∷ 0 ∷ 0 ∷ 0 ∷ 0 ∷ 0 ∷ 0 ∷ 0 ∷ 0 ∷ 0 ∷ 0 ∷ 0 ∷ 0 ∷ 0 ∷ 0 ∷ 0 ∷ 0 ∷ 0 ∷ 0 ∷ 0 ∷ 0 ∷ 0 ∷ 0 ∷ 0 ∷ 0 ∷
    0 ∷ 0 ∷ 0 ∷ 0 ∷ 0 ∷ 0 ∷ 0 ∷ 0 ∷ 0 ∷ 0 ∷ 255 ∷ 255 ∷ 255 ∷ 255 ∷ 148 ∷ 5 ∷ 162 ∷ 7 ∷ 243 ∷ 3 ∷ 0 ∷
    0 ∷ 0 ∷ 0 ∷ 0 ∷ 10 ∷ 0 ∷ 0 ∷ 0 ∷ 10 ∷ 0 ∷ 0 ∷ 0 ∷ 4 ∷ 116 ∷ 111 ∷ 121 ∷ 109 ∷ 174 ∷ 97 ∷ 147 ∷ 97 ∷
    155 ∷ 245 ∷ 255 ∷ 255 ∷ 97 ∷ 150 ∷ 251 ∷ 0 ∷ 0 ∷ 161 ∷ 132 ∷ 0 ∷ 0 ∷ 0 ∷ 3 ∷ 0 ∷ 0 ∷ 0 ∷ 3 ∷ 153 ∷
    253 ∷ 161 ∷ 97 ∷ 140 ∷ 139 ∷ 0 ∷ 0 ∷ 0 ∷ 2 ∷ 0 ∷ 0 ∷ 0 ∷ 0 ∷ 0 ∷ 0 ∷ 0 ∷ 0 ∷ 0 ∷ 0 ∷ 0 ∷ 0 ∷ 0 ∷
    0 ∷ 0 ∷ 0 ∷ 0 ∷ 0 ∷ 0 ∷ 0 ∷ 0 ∷ 0 ∷ 0 ∷ 0 ∷ 0 ∷ 0 ∷ 0 ∷ 0 ∷ 0 ∷ 0 ∷ 0 ∷ 0 ∷ 0 ∷ 0 ∷ 0 ∷ 0 ∷ 0 ∷ 0 ∷
    0 ∷ 15 ∷ 140 ∷ 139 ∷ 0 ∷ 0 ∷ 0 ∷ 3 ∷ 0 ∷ 0 ∷ 0 ∷ 0 ∷ 0 ∷ 0 ∷ 0 ∷ 0 ∷ 0 ∷ 0 ∷ 0 ∷ 0 ∷ 0 ∷ 0 ∷ 0 ∷
    0 ∷ 0 ∷ 0 ∷ 0 ∷ 0 ∷ 0 ∷ 0 ∷ 0 ∷ 0 ∷ 0 ∷ 0 ∷ 0 ∷ 0 ∷ 0 ∷ 0 ∷ 0 ∷ 0 ∷ 0 ∷ 0 ∷ 0 ∷ 0 ∷ 0 ∷ 0 ∷ 0 ∷
    112 ∷ 148 ∷ 5 ∷ 162 ∷ 7 ∷ 243 ∷ 0 ∷ 0 ∷ 0 ∷ 0 ∷ 0 ∷ 0 ∷ 10 ∷ 0 ∷ 0 ∷ 0 ∷ 10 ∷ 0 ∷ 0 ∷ 0 ∷ 4 ∷ 116 ∷
    111 ∷ 121 ∷ 114 ∷ 171 ∷ 97 ∷ 140 ∷ 248 ∷ 0 ∷ 0 ∷ 0 ∷ 158 ∷ 1 ∷ 131 ∷ 146 ∷ 192 ∷ 28 ∷ 59 ∷ 0 ∷ 0 ∷
    0 ∷ 0 ∷ 3 ∷ 232 ∷ 0 ∷ 0 ∷ 0 ∷ 21 ∷ 0 ∷ 10 ∷ 0 ∷ 10 ∷ 0 ∷ 0 ∷ 0 ∷ 3 ∷ 243 ∷ 0 ∷ 0 ∷ 0 ∷ 0 ∷ 0 ∷ 0 ∷
    10 ∷ 0 ∷ 0 ∷ 0 ∷ 10 ∷ 0 ∷ 0 ∷ 0 ∷ 4 ∷ 116 ∷ 111 ∷ 121 ∷ 114 ∷ 243 ∷ 3 ∷ 0 ∷ 0 ∷ 0 ∷ 0 ∷ 0 ∷ 10 ∷
    0 ∷ 0 ∷ 0 ∷ 10 ∷ 0 ∷ 0 ∷ 0 ∷ 4 ∷ 116 ∷ 111 ∷ 121 ∷ 109 ∷ 249 ∷ 0 ∷ 0 ∷ 0 ∷ 230 ∷ 2 ∷ 223 ∷ 223 ∷
    223 ∷ 223 ∷ 223 ∷ 223 ∷ 223 ∷ []

three_pages_is : sentences (traced fonts three_pages) ≡ true ∷ true ∷ true ∷ true ∷ true ∷ true ∷ true ∷ true ∷ true ∷ []
unfolding traced tracing operation operand_size
three_pages_is = refl

three_pages_lean : Lean fonts three_pages
three_pages_lean = lean_of three_pages three_pages_is

-- operands of two and of three bytes
abbrev longer_operands : List ℕ
longer_operands =
    247 ∷ 2 ∷ 1 ∷ 131 ∷ 146 ∷ 192 ∷ 28 ∷ 59 ∷ 0 ∷ 0 ∷ 0 ∷ 0 ∷ 3 ∷ 232 ∷ 0 ∷ 139 ∷ 0 ∷ 0 ∷ 0 ∷ 1 ∷ 0 ∷
    0 ∷ 0 ∷ 0 ∷ 0 ∷ 0 ∷ 0 ∷ 0 ∷ 0 ∷ 0 ∷ 0 ∷ 0 ∷ 0 ∷ 0 ∷ 0 ∷ 0 ∷ 0 ∷ 0 ∷ 0 ∷ 0 ∷ 0 ∷ 0 ∷ 0 ∷ 0 ∷ 0 ∷ 0 ∷
    0 ∷ 0 ∷ 0 ∷ 0 ∷ 0 ∷ 0 ∷ 0 ∷ 0 ∷ 0 ∷ 0 ∷ 255 ∷ 255 ∷ 255 ∷ 255 ∷ 243 ∷ 3 ∷ 0 ∷ 0 ∷ 0 ∷ 0 ∷ 0 ∷ 10 ∷
    0 ∷ 0 ∷ 0 ∷ 10 ∷ 0 ∷ 0 ∷ 0 ∷ 4 ∷ 116 ∷ 111 ∷ 121 ∷ 109 ∷ 174 ∷ 97 ∷ 149 ∷ 1 ∷ 44 ∷ 164 ∷ 255 ∷ 99 ∷
    192 ∷ 97 ∷ 140 ∷ 248 ∷ 0 ∷ 0 ∷ 0 ∷ 15 ∷ 1 ∷ 131 ∷ 146 ∷ 192 ∷ 28 ∷ 59 ∷ 0 ∷ 0 ∷ 0 ∷ 0 ∷ 3 ∷ 232 ∷
    0 ∷ 0 ∷ 0 ∷ 0 ∷ 0 ∷ 0 ∷ 0 ∷ 0 ∷ 0 ∷ 0 ∷ 0 ∷ 1 ∷ 243 ∷ 3 ∷ 0 ∷ 0 ∷ 0 ∷ 0 ∷ 0 ∷ 10 ∷ 0 ∷ 0 ∷ 0 ∷ 10 ∷
    0 ∷ 0 ∷ 0 ∷ 4 ∷ 116 ∷ 111 ∷ 121 ∷ 109 ∷ 249 ∷ 0 ∷ 0 ∷ 0 ∷ 91 ∷ 2 ∷ 223 ∷ 223 ∷ 223 ∷ 223 ∷ 223 ∷
    223 ∷ []

longer_operands_is : sentences (traced fonts longer_operands) ≡ true ∷ true ∷ true ∷ true ∷ true ∷ true ∷ true ∷ true ∷ true ∷ []
unfolding traced tracing operation operand_size
longer_operands_is = refl

longer_operands_lean : Lean fonts longer_operands
longer_operands_lean = lean_of longer_operands longer_operands_is
