-- Files of chosen pages, byte for byte, and refusals (`one_picked` and the others).
use Rattle.std.specs.Prelude.{ℕ, pos, List, [], ◌∷◌, ◌++◌, take, drop, replicate, None, Ok, Err, refl, ◌≡◌}
use Rattle.mt_family.specs.declared.list.FontLine.{FontLine}
use Rattle.mt_tfm.specs.declared.wanted.Wanted.TheVariants.{At}
use Rattle.mt_family.specs.SetValue.{SetValue}
use Rattle.mt_tfm.specs.Font.{Metrics}
use Rattle.mt_dvi.specs.Codes.{operand_size, operation, bytes_from}
use Rattle.mt_dvi.specs.File.{read, reading}
use Rattle.mt_dvi.specs.Machine.{Truncated, BadOpcode}
use Rattle.mt_dviops.specs.Walk.{walked, walking}
use Rattle.mt_dviops.specs.Source.{source_file_of}
use Rattle.mt_dviops.specs.Result.{copied_bytes}
use Rattle.mt_dviops.specs.Copied.{Numbered, Every, BadFile, PageOutOfRange, MagClash, TooManyPages, copied}

-- two characters, of codes 97 and 98; the second has a depth
abbrev metrics : ℕ → ℕ → Metrics
metrics size checksum = record {
  first = 97;
  chars =
      record { width = 1; height = 0; depth = 0; italic = 0; tag = 0; remainder = 0 }
      ∷ record { width = 2; height = 0; depth = 1; italic = 0; tag = 0; remainder = 0 }
      ∷ [];
  widths = pos 0 ∷ pos 327680 ∷ pos 100 ∷ [];
  heights = pos 0 ∷ [];
  depths = pos 0 ∷ pos 50 ∷ [];
  italics = pos 0 ∷ [];
  program = [];
  kerns = [];
  recipes = [];
  params = [];
  skew = None;
  checksum = checksum;
  design = 655360;
  at = pos size;
}

abbrev line : List ℕ → ℕ → FontLine
line name size = record { name = name; wanted = At (pos size); skew = None }

-- fonts 0 and 2 have one name and two sizes; font 3 is toym
abbrev fonts : SetValue
fonts = record {
  lines = line (1 ∷ []) 655360 ∷ line (2 ∷ []) 655360 ∷ line (1 ∷ []) 327680 ∷ line (116 ∷ 111 ∷ 121 ∷ 109 ∷ []) 655360 ∷ [];
  families = [];
  fonts = metrics 655360 0 ∷ metrics 655360 4026531841 ∷ metrics 327680 7 ∷ metrics 655360 0 ∷ [];
}

abbrev pub one : List ℕ
one =
    247 ∷ 2 ∷ 1 ∷ 131 ∷ 146 ∷ 192 ∷ 28 ∷ 59 ∷ 0 ∷ 0 ∷ 0 ∷ 0 ∷ 3 ∷ 232 ∷ 0 ∷ 139 ∷ 0 ∷ 0 ∷ 0 ∷ 1 ∷ 0 ∷ 0 ∷ 0 ∷ 0 ∷
    0 ∷ 0 ∷ 0 ∷ 0 ∷ 0 ∷ 0 ∷ 0 ∷ 0 ∷ 0 ∷ 0 ∷ 0 ∷ 0 ∷ 0 ∷ 0 ∷ 0 ∷ 0 ∷ 0 ∷ 0 ∷ 0 ∷ 0 ∷ 0 ∷ 0 ∷ 0 ∷ 0 ∷ 0 ∷ 0 ∷ 0 ∷ 0
    ∷ 0 ∷ 0 ∷ 0 ∷ 0 ∷ 255 ∷ 255 ∷ 255 ∷ 255 ∷ 243 ∷ 3 ∷ 0 ∷ 0 ∷ 0 ∷ 0 ∷ 0 ∷ 10 ∷ 0 ∷ 0 ∷ 0 ∷ 10 ∷ 0 ∷ 0 ∷ 0 ∷ 4 ∷
    116 ∷ 111 ∷ 121 ∷ 109 ∷ 174 ∷ 160 ∷ 0 ∷ 5 ∷ 0 ∷ 0 ∷ 97 ∷ 140 ∷ 248 ∷ 0 ∷ 0 ∷ 0 ∷ 15 ∷ 1 ∷ 131 ∷ 146 ∷ 192 ∷ 28
    ∷ 59 ∷ 0 ∷ 0 ∷ 0 ∷ 0 ∷ 3 ∷ 232 ∷ 0 ∷ 5 ∷ 0 ∷ 0 ∷ 0 ∷ 5 ∷ 0 ∷ 0 ∷ 0 ∷ 0 ∷ 0 ∷ 1 ∷ 243 ∷ 3 ∷ 0 ∷ 0 ∷ 0 ∷ 0 ∷ 0 ∷
    10 ∷ 0 ∷ 0 ∷ 0 ∷ 10 ∷ 0 ∷ 0 ∷ 0 ∷ 4 ∷ 116 ∷ 111 ∷ 121 ∷ 109 ∷ 249 ∷ 0 ∷ 0 ∷ 0 ∷ 88 ∷ 2 ∷ 223 ∷ 223 ∷ 223 ∷ 223
    ∷ 223 ∷ []

abbrev pub two : List ℕ
two =
    247 ∷ 2 ∷ 1 ∷ 131 ∷ 146 ∷ 192 ∷ 28 ∷ 59 ∷ 0 ∷ 0 ∷ 0 ∷ 0 ∷ 7 ∷ 208 ∷ 2 ∷ 104 ∷ 105 ∷ 243 ∷ 3 ∷ 0 ∷ 0 ∷ 0 ∷ 5 ∷
    0 ∷ 10 ∷ 0 ∷ 0 ∷ 0 ∷ 0 ∷ 0 ∷ 9 ∷ 0 ∷ 4 ∷ 116 ∷ 111 ∷ 121 ∷ 109 ∷ 139 ∷ 0 ∷ 0 ∷ 0 ∷ 7 ∷ 255 ∷ 255 ∷ 255 ∷ 255 ∷
    0 ∷ 0 ∷ 0 ∷ 0 ∷ 0 ∷ 0 ∷ 0 ∷ 0 ∷ 0 ∷ 0 ∷ 0 ∷ 0 ∷ 0 ∷ 0 ∷ 0 ∷ 0 ∷ 0 ∷ 0 ∷ 0 ∷ 0 ∷ 0 ∷ 0 ∷ 0 ∷ 0 ∷ 0 ∷ 0 ∷ 0 ∷ 0
    ∷ 0 ∷ 0 ∷ 0 ∷ 0 ∷ 255 ∷ 255 ∷ 255 ∷ 255 ∷ 174 ∷ 97 ∷ 239 ∷ 2 ∷ 140 ∷ 139 ∷ 132 ∷ 0 ∷ 0 ∷ 0 ∷ 3 ∷ 0 ∷ 0 ∷ 0 ∷ 9
    ∷ 138 ∷ 98 ∷ 140 ∷ 138 ∷ 139 ∷ 0 ∷ 0 ∷ 0 ∷ 8 ∷ 0 ∷ 0 ∷ 0 ∷ 0 ∷ 0 ∷ 0 ∷ 0 ∷ 0 ∷ 0 ∷ 0 ∷ 0 ∷ 0 ∷ 0 ∷ 0 ∷ 0 ∷ 0 ∷
    0 ∷ 0 ∷ 0 ∷ 0 ∷ 0 ∷ 0 ∷ 0 ∷ 0 ∷ 0 ∷ 0 ∷ 0 ∷ 0 ∷ 0 ∷ 0 ∷ 0 ∷ 0 ∷ 0 ∷ 0 ∷ 0 ∷ 0 ∷ 0 ∷ 0 ∷ 0 ∷ 37 ∷ 244 ∷ 1 ∷ 44
    ∷ 0 ∷ 0 ∷ 0 ∷ 5 ∷ 0 ∷ 10 ∷ 0 ∷ 0 ∷ 0 ∷ 0 ∷ 0 ∷ 9 ∷ 0 ∷ 1 ∷ 1 ∷ 236 ∷ 1 ∷ 44 ∷ 141 ∷ 141 ∷ 98 ∷ 142 ∷ 142 ∷ 243
    ∷ 7 ∷ 0 ∷ 0 ∷ 0 ∷ 11 ∷ 0 ∷ 10 ∷ 0 ∷ 0 ∷ 0 ∷ 0 ∷ 0 ∷ 9 ∷ 0 ∷ 1 ∷ 1 ∷ 178 ∷ 97 ∷ 244 ∷ 1 ∷ 44 ∷ 0 ∷ 0 ∷ 0 ∷ 5 ∷
    0 ∷ 10 ∷ 0 ∷ 0 ∷ 0 ∷ 0 ∷ 0 ∷ 9 ∷ 3 ∷ 1 ∷ 120 ∷ 121 ∷ 122 ∷ 1 ∷ 236 ∷ 1 ∷ 44 ∷ 160 ∷ 255 ∷ 255 ∷ 0 ∷ 0 ∷ 97 ∷
    140 ∷ 248 ∷ 0 ∷ 0 ∷ 0 ∷ 101 ∷ 1 ∷ 131 ∷ 146 ∷ 192 ∷ 28 ∷ 59 ∷ 0 ∷ 0 ∷ 0 ∷ 0 ∷ 7 ∷ 208 ∷ 0 ∷ 0 ∷ 0 ∷ 0 ∷ 0 ∷ 0
    ∷ 0 ∷ 0 ∷ 0 ∷ 9 ∷ 0 ∷ 2 ∷ 249 ∷ 0 ∷ 0 ∷ 0 ∷ 222 ∷ 2 ∷ 223 ∷ 223 ∷ 223 ∷ 223 ∷ 223 ∷ 223 ∷ []

abbrev pub regs : List ℕ
regs =
    247 ∷ 2 ∷ 1 ∷ 131 ∷ 146 ∷ 192 ∷ 28 ∷ 59 ∷ 0 ∷ 0 ∷ 0 ∷ 0 ∷ 7 ∷ 208 ∷ 0 ∷ 243 ∷ 3 ∷ 0 ∷ 0 ∷ 0 ∷ 5 ∷ 0 ∷ 10 ∷ 0 ∷
    0 ∷ 0 ∷ 0 ∷ 0 ∷ 9 ∷ 0 ∷ 4 ∷ 116 ∷ 111 ∷ 121 ∷ 109 ∷ 243 ∷ 4 ∷ 0 ∷ 0 ∷ 0 ∷ 5 ∷ 0 ∷ 5 ∷ 0 ∷ 0 ∷ 0 ∷ 0 ∷ 0 ∷ 9 ∷
    0 ∷ 1 ∷ 1 ∷ 243 ∷ 200 ∷ 0 ∷ 0 ∷ 0 ∷ 5 ∷ 0 ∷ 10 ∷ 0 ∷ 0 ∷ 0 ∷ 0 ∷ 0 ∷ 9 ∷ 0 ∷ 1 ∷ 2 ∷ 139 ∷ 0 ∷ 0 ∷ 0 ∷ 1 ∷ 0 ∷
    0 ∷ 0 ∷ 0 ∷ 0 ∷ 0 ∷ 0 ∷ 0 ∷ 0 ∷ 0 ∷ 0 ∷ 0 ∷ 0 ∷ 0 ∷ 0 ∷ 0 ∷ 0 ∷ 0 ∷ 0 ∷ 0 ∷ 0 ∷ 0 ∷ 0 ∷ 0 ∷ 0 ∷ 0 ∷ 0 ∷ 0 ∷ 0
    ∷ 0 ∷ 0 ∷ 0 ∷ 0 ∷ 0 ∷ 0 ∷ 0 ∷ 255 ∷ 255 ∷ 255 ∷ 255 ∷ 174 ∷ 148 ∷ 100 ∷ 147 ∷ 161 ∷ 97 ∷ 154 ∷ 255 ∷ 156 ∷ 152
    ∷ 157 ∷ 5 ∷ 162 ∷ 1 ∷ 166 ∷ 137 ∷ 0 ∷ 0 ∷ 0 ∷ 7 ∷ 0 ∷ 0 ∷ 0 ∷ 9 ∷ 133 ∷ 97 ∷ 141 ∷ 151 ∷ 255 ∷ 255 ∷ 255 ∷ 0 ∷
    97 ∷ 142 ∷ 147 ∷ 97 ∷ 169 ∷ 0 ∷ 2 ∷ 0 ∷ 166 ∷ 235 ∷ 200 ∷ 98 ∷ 140 ∷ 139 ∷ 0 ∷ 0 ∷ 0 ∷ 2 ∷ 0 ∷ 0 ∷ 0 ∷ 0 ∷ 0 ∷
    0 ∷ 0 ∷ 0 ∷ 0 ∷ 0 ∷ 0 ∷ 0 ∷ 0 ∷ 0 ∷ 0 ∷ 0 ∷ 0 ∷ 0 ∷ 0 ∷ 0 ∷ 0 ∷ 0 ∷ 0 ∷ 0 ∷ 0 ∷ 0 ∷ 0 ∷ 0 ∷ 0 ∷ 0 ∷ 0 ∷ 0 ∷ 0
    ∷ 0 ∷ 0 ∷ 0 ∷ 0 ∷ 0 ∷ 0 ∷ 69 ∷ 175 ∷ 242 ∷ 0 ∷ 0 ∷ 0 ∷ 1 ∷ 250 ∷ 138 ∷ 140 ∷ 139 ∷ 0 ∷ 0 ∷ 0 ∷ 3 ∷ 0 ∷ 0 ∷ 0 ∷
    0 ∷ 0 ∷ 0 ∷ 0 ∷ 0 ∷ 0 ∷ 0 ∷ 0 ∷ 0 ∷ 0 ∷ 0 ∷ 0 ∷ 0 ∷ 0 ∷ 0 ∷ 0 ∷ 0 ∷ 0 ∷ 0 ∷ 0 ∷ 0 ∷ 0 ∷ 0 ∷ 0 ∷ 0 ∷ 0 ∷ 0 ∷ 0
    ∷ 0 ∷ 0 ∷ 0 ∷ 0 ∷ 0 ∷ 0 ∷ 0 ∷ 0 ∷ 159 ∷ 141 ∷ 142 ∷ 235 ∷ 3 ∷ 140 ∷ 248 ∷ 0 ∷ 0 ∷ 0 ∷ 213 ∷ 1 ∷ 131 ∷ 146 ∷
    192 ∷ 28 ∷ 59 ∷ 0 ∷ 0 ∷ 0 ∷ 0 ∷ 7 ∷ 208 ∷ 0 ∷ 0 ∷ 0 ∷ 0 ∷ 0 ∷ 0 ∷ 0 ∷ 0 ∷ 0 ∷ 1 ∷ 0 ∷ 3 ∷ 249 ∷ 0 ∷ 0 ∷ 1 ∷ 7
    ∷ 2 ∷ 223 ∷ 223 ∷ 223 ∷ 223 ∷ []

abbrev pub other : List ℕ
other =
    247 ∷ 2 ∷ 1 ∷ 131 ∷ 146 ∷ 192 ∷ 28 ∷ 59 ∷ 0 ∷ 0 ∷ 0 ∷ 0 ∷ 3 ∷ 232 ∷ 0 ∷ 139 ∷ 0 ∷ 0 ∷ 0 ∷ 1 ∷ 0 ∷ 0 ∷ 0 ∷ 0 ∷
    0 ∷ 0 ∷ 0 ∷ 0 ∷ 0 ∷ 0 ∷ 0 ∷ 0 ∷ 0 ∷ 0 ∷ 0 ∷ 0 ∷ 0 ∷ 0 ∷ 0 ∷ 0 ∷ 0 ∷ 0 ∷ 0 ∷ 0 ∷ 0 ∷ 0 ∷ 0 ∷ 0 ∷ 0 ∷ 0 ∷ 0 ∷ 0
    ∷ 0 ∷ 0 ∷ 0 ∷ 0 ∷ 255 ∷ 255 ∷ 255 ∷ 255 ∷ 140 ∷ 248 ∷ 0 ∷ 0 ∷ 0 ∷ 15 ∷ 1 ∷ 131 ∷ 146 ∷ 192 ∷ 28 ∷ 59 ∷ 0 ∷ 0 ∷
    0 ∷ 0 ∷ 3 ∷ 232 ∷ 0 ∷ 0 ∷ 0 ∷ 0 ∷ 0 ∷ 0 ∷ 0 ∷ 0 ∷ 0 ∷ 0 ∷ 0 ∷ 1 ∷ 249 ∷ 0 ∷ 0 ∷ 0 ∷ 61 ∷ 2 ∷ 223 ∷ 223 ∷ 223 ∷
    223 ∷ []

abbrev pub empty : List ℕ
empty =
    247 ∷ 2 ∷ 1 ∷ 131 ∷ 146 ∷ 192 ∷ 28 ∷ 59 ∷ 0 ∷ 0 ∷ 0 ∷ 0 ∷ 0 ∷ 3 ∷ 0 ∷ 248 ∷ 255 ∷ 255 ∷ 255 ∷ 255 ∷ 1 ∷ 131 ∷
    146 ∷ 192 ∷ 28 ∷ 59 ∷ 0 ∷ 0 ∷ 0 ∷ 0 ∷ 0 ∷ 3 ∷ 0 ∷ 0 ∷ 0 ∷ 0 ∷ 0 ∷ 0 ∷ 0 ∷ 0 ∷ 0 ∷ 0 ∷ 0 ∷ 0 ∷ 249 ∷ 0 ∷ 0 ∷ 0
    ∷ 15 ∷ 2 ∷ 223 ∷ 223 ∷ 223 ∷ 223 ∷ 223 ∷ 223 ∷ 223 ∷ 223 ∷ 223 ∷ []

abbrev pub cut : List ℕ
cut =
    247 ∷ 2 ∷ 1 ∷ 131 ∷ 146 ∷ 192 ∷ 28 ∷ 59 ∷ 0 ∷ 0 ∷ 0 ∷ 0 ∷ 7 ∷ 208 ∷ 2 ∷ 104 ∷ 105 ∷ 243 ∷ 3 ∷ 0 ∷ 0 ∷ 0 ∷ 5 ∷
    0 ∷ 10 ∷ 0 ∷ 0 ∷ 0 ∷ 0 ∷ 0 ∷ 9 ∷ 0 ∷ 4 ∷ 116 ∷ 111 ∷ 121 ∷ 109 ∷ 139 ∷ 0 ∷ 0 ∷ 0 ∷ 7 ∷ 255 ∷ 255 ∷ 255 ∷ 255 ∷
    0 ∷ 0 ∷ 0 ∷ 0 ∷ 0 ∷ 0 ∷ 0 ∷ 0 ∷ 0 ∷ 0 ∷ 0 ∷ 0 ∷ 0 ∷ 0 ∷ 0 ∷ 0 ∷ 0 ∷ 0 ∷ 0 ∷ 0 ∷ 0 ∷ 0 ∷ 0 ∷ 0 ∷ 0 ∷ 0 ∷ 0 ∷ 0
    ∷ 0 ∷ 0 ∷ 0 ∷ 0 ∷ 255 ∷ 255 ∷ 255 ∷ 255 ∷ 174 ∷ 97 ∷ 239 ∷ 2 ∷ 140 ∷ 139 ∷ 132 ∷ 0 ∷ 0 ∷ 0 ∷ 3 ∷ 0 ∷ 0 ∷ 0 ∷ 9
    ∷ 138 ∷ 98 ∷ 140 ∷ 138 ∷ 139 ∷ 0 ∷ 0 ∷ 0 ∷ 8 ∷ 0 ∷ 0 ∷ 0 ∷ 0 ∷ 0 ∷ 0 ∷ 0 ∷ 0 ∷ 0 ∷ 0 ∷ 0 ∷ 0 ∷ 0 ∷ 0 ∷ []

abbrev pub bad : List ℕ
bad =
    247 ∷ 2 ∷ 1 ∷ 131 ∷ 146 ∷ 192 ∷ 28 ∷ 59 ∷ 0 ∷ 0 ∷ 0 ∷ 0 ∷ 7 ∷ 208 ∷ 2 ∷ 104 ∷ 105 ∷ 243 ∷ 3 ∷ 0 ∷ 0 ∷ 0 ∷ 5 ∷
    0 ∷ 10 ∷ 0 ∷ 0 ∷ 0 ∷ 0 ∷ 0 ∷ 9 ∷ 0 ∷ 4 ∷ 116 ∷ 111 ∷ 121 ∷ 109 ∷ 139 ∷ 0 ∷ 0 ∷ 0 ∷ 7 ∷ 255 ∷ 255 ∷ 255 ∷ 255 ∷
    0 ∷ 0 ∷ 0 ∷ 0 ∷ 0 ∷ 0 ∷ 0 ∷ 0 ∷ 0 ∷ 0 ∷ 0 ∷ 0 ∷ 0 ∷ 0 ∷ 0 ∷ 0 ∷ 0 ∷ 0 ∷ 0 ∷ 0 ∷ 0 ∷ 0 ∷ 0 ∷ 0 ∷ 0 ∷ 0 ∷ 0 ∷ 0
    ∷ 0 ∷ 0 ∷ 0 ∷ 0 ∷ 255 ∷ 255 ∷ 255 ∷ 255 ∷ 174 ∷ 97 ∷ 239 ∷ 2 ∷ 140 ∷ 139 ∷ 132 ∷ 0 ∷ 0 ∷ 0 ∷ 3 ∷ 0 ∷ 0 ∷ 0 ∷ 9
    ∷ 138 ∷ 98 ∷ 140 ∷ 138 ∷ 139 ∷ 0 ∷ 0 ∷ 0 ∷ 8 ∷ 0 ∷ 0 ∷ 0 ∷ 0 ∷ 0 ∷ 0 ∷ 0 ∷ 0 ∷ 0 ∷ 0 ∷ 0 ∷ 0 ∷ 0 ∷ 0 ∷ 0 ∷ 0 ∷
    0 ∷ 0 ∷ 0 ∷ 0 ∷ 0 ∷ 0 ∷ 0 ∷ 0 ∷ 0 ∷ 0 ∷ 0 ∷ 0 ∷ 0 ∷ 0 ∷ 0 ∷ 0 ∷ 0 ∷ 0 ∷ 0 ∷ 0 ∷ 0 ∷ 0 ∷ 0 ∷ 37 ∷ 244 ∷ 1 ∷ 44
    ∷ 0 ∷ 0 ∷ 0 ∷ 5 ∷ 0 ∷ 10 ∷ 0 ∷ 0 ∷ 0 ∷ 0 ∷ 0 ∷ 9 ∷ 0 ∷ 1 ∷ 1 ∷ 236 ∷ 1 ∷ 44 ∷ 141 ∷ 250 ∷ 98 ∷ 142 ∷ 142 ∷ 243
    ∷ 7 ∷ 0 ∷ 0 ∷ 0 ∷ 11 ∷ 0 ∷ 10 ∷ 0 ∷ 0 ∷ 0 ∷ 0 ∷ 0 ∷ 9 ∷ 0 ∷ 1 ∷ 1 ∷ 178 ∷ 97 ∷ 244 ∷ 1 ∷ 44 ∷ 0 ∷ 0 ∷ 0 ∷ 5 ∷
    0 ∷ 10 ∷ 0 ∷ 0 ∷ 0 ∷ 0 ∷ 0 ∷ 9 ∷ 3 ∷ 1 ∷ 120 ∷ 121 ∷ 122 ∷ 1 ∷ 236 ∷ 1 ∷ 44 ∷ 160 ∷ 255 ∷ 255 ∷ 0 ∷ 0 ∷ 97 ∷
    140 ∷ 248 ∷ 0 ∷ 0 ∷ 0 ∷ 101 ∷ 1 ∷ 131 ∷ 146 ∷ 192 ∷ 28 ∷ 59 ∷ 0 ∷ 0 ∷ 0 ∷ 0 ∷ 7 ∷ 208 ∷ 0 ∷ 0 ∷ 0 ∷ 0 ∷ 0 ∷ 0
    ∷ 0 ∷ 0 ∷ 0 ∷ 9 ∷ 0 ∷ 2 ∷ 249 ∷ 0 ∷ 0 ∷ 0 ∷ 222 ∷ 2 ∷ 223 ∷ 223 ∷ 223 ∷ 223 ∷ 223 ∷ 223 ∷ []

abbrev pub one_picked_bytes : List ℕ
one_picked_bytes =
    247 ∷ 2 ∷ 1 ∷ 131 ∷ 146 ∷ 192 ∷ 28 ∷ 59 ∷ 0 ∷ 0 ∷ 0 ∷ 0 ∷ 3 ∷ 232 ∷ 0 ∷ 243 ∷ 3 ∷ 0 ∷ 0 ∷ 0 ∷ 0 ∷ 0 ∷ 10 ∷ 0 ∷
    0 ∷ 0 ∷ 10 ∷ 0 ∷ 0 ∷ 0 ∷ 4 ∷ 116 ∷ 111 ∷ 121 ∷ 109 ∷ 139 ∷ 0 ∷ 0 ∷ 0 ∷ 1 ∷ 0 ∷ 0 ∷ 0 ∷ 0 ∷ 0 ∷ 0 ∷ 0 ∷ 0 ∷ 0 ∷
    0 ∷ 0 ∷ 0 ∷ 0 ∷ 0 ∷ 0 ∷ 0 ∷ 0 ∷ 0 ∷ 0 ∷ 0 ∷ 0 ∷ 0 ∷ 0 ∷ 0 ∷ 0 ∷ 0 ∷ 0 ∷ 0 ∷ 0 ∷ 0 ∷ 0 ∷ 0 ∷ 0 ∷ 0 ∷ 0 ∷ 0 ∷
    255 ∷ 255 ∷ 255 ∷ 255 ∷ 174 ∷ 160 ∷ 0 ∷ 5 ∷ 0 ∷ 0 ∷ 97 ∷ 140 ∷ 248 ∷ 0 ∷ 0 ∷ 0 ∷ 35 ∷ 1 ∷ 131 ∷ 146 ∷ 192 ∷ 28
    ∷ 59 ∷ 0 ∷ 0 ∷ 0 ∷ 0 ∷ 3 ∷ 232 ∷ 0 ∷ 5 ∷ 0 ∷ 0 ∷ 0 ∷ 5 ∷ 0 ∷ 0 ∷ 0 ∷ 0 ∷ 0 ∷ 1 ∷ 243 ∷ 3 ∷ 0 ∷ 0 ∷ 0 ∷ 0 ∷ 0 ∷
    10 ∷ 0 ∷ 0 ∷ 0 ∷ 10 ∷ 0 ∷ 0 ∷ 0 ∷ 4 ∷ 116 ∷ 111 ∷ 121 ∷ 109 ∷ 249 ∷ 0 ∷ 0 ∷ 0 ∷ 88 ∷ 2 ∷ 223 ∷ 223 ∷ 223 ∷ 223
    ∷ 223 ∷ []

one_picked : copied fonts (one ∷ []) (Numbered (1 ∷ [])) ≡ Ok one_picked_bytes
unfolding copied copied_bytes source_file_of walked walking read reading operation operand_size
one_picked = refl

abbrev pub second_page_bytes : List ℕ
second_page_bytes =
    247 ∷ 2 ∷ 1 ∷ 131 ∷ 146 ∷ 192 ∷ 28 ∷ 59 ∷ 0 ∷ 0 ∷ 0 ∷ 0 ∷ 7 ∷ 208 ∷ 0 ∷ 243 ∷ 0 ∷ 0 ∷ 0 ∷ 0 ∷ 0 ∷ 0 ∷ 10 ∷ 0 ∷
    0 ∷ 0 ∷ 10 ∷ 0 ∷ 0 ∷ 0 ∷ 1 ∷ 1 ∷ 139 ∷ 0 ∷ 0 ∷ 0 ∷ 8 ∷ 0 ∷ 0 ∷ 0 ∷ 0 ∷ 0 ∷ 0 ∷ 0 ∷ 0 ∷ 0 ∷ 0 ∷ 0 ∷ 0 ∷ 0 ∷ 0 ∷
    0 ∷ 0 ∷ 0 ∷ 0 ∷ 0 ∷ 0 ∷ 0 ∷ 0 ∷ 0 ∷ 0 ∷ 0 ∷ 0 ∷ 0 ∷ 0 ∷ 0 ∷ 0 ∷ 0 ∷ 0 ∷ 0 ∷ 0 ∷ 0 ∷ 0 ∷ 255 ∷ 255 ∷ 255 ∷ 255
    ∷ 171 ∷ 141 ∷ 141 ∷ 98 ∷ 142 ∷ 142 ∷ 171 ∷ 97 ∷ 171 ∷ 160 ∷ 255 ∷ 255 ∷ 0 ∷ 0 ∷ 97 ∷ 140 ∷ 248 ∷ 0 ∷ 0 ∷ 0 ∷
    32 ∷ 1 ∷ 131 ∷ 146 ∷ 192 ∷ 28 ∷ 59 ∷ 0 ∷ 0 ∷ 0 ∷ 0 ∷ 7 ∷ 208 ∷ 0 ∷ 0 ∷ 0 ∷ 50 ∷ 0 ∷ 10 ∷ 0 ∷ 0 ∷ 0 ∷ 2 ∷ 0 ∷ 1
    ∷ 243 ∷ 0 ∷ 0 ∷ 0 ∷ 0 ∷ 0 ∷ 0 ∷ 10 ∷ 0 ∷ 0 ∷ 0 ∷ 10 ∷ 0 ∷ 0 ∷ 0 ∷ 1 ∷ 1 ∷ 249 ∷ 0 ∷ 0 ∷ 0 ∷ 93 ∷ 2 ∷ 223 ∷ 223
    ∷ 223 ∷ 223 ∷ 223 ∷ 223 ∷ 223 ∷ []

second_page : copied fonts (two ∷ []) (Numbered (2 ∷ [])) ≡ Ok second_page_bytes
unfolding copied copied_bytes source_file_of walked walking read reading operation operand_size
second_page = refl

abbrev pub downward_bytes : List ℕ
downward_bytes =
    247 ∷ 2 ∷ 1 ∷ 131 ∷ 146 ∷ 192 ∷ 28 ∷ 59 ∷ 0 ∷ 0 ∷ 0 ∷ 0 ∷ 7 ∷ 208 ∷ 0 ∷ 243 ∷ 0 ∷ 0 ∷ 0 ∷ 0 ∷ 0 ∷ 0 ∷ 10 ∷ 0 ∷
    0 ∷ 0 ∷ 10 ∷ 0 ∷ 0 ∷ 0 ∷ 1 ∷ 1 ∷ 243 ∷ 3 ∷ 0 ∷ 0 ∷ 0 ∷ 0 ∷ 0 ∷ 10 ∷ 0 ∷ 0 ∷ 0 ∷ 10 ∷ 0 ∷ 0 ∷ 0 ∷ 4 ∷ 116 ∷ 111
    ∷ 121 ∷ 109 ∷ 139 ∷ 0 ∷ 0 ∷ 0 ∷ 8 ∷ 0 ∷ 0 ∷ 0 ∷ 0 ∷ 0 ∷ 0 ∷ 0 ∷ 0 ∷ 0 ∷ 0 ∷ 0 ∷ 0 ∷ 0 ∷ 0 ∷ 0 ∷ 0 ∷ 0 ∷ 0 ∷ 0
    ∷ 0 ∷ 0 ∷ 0 ∷ 0 ∷ 0 ∷ 0 ∷ 0 ∷ 0 ∷ 0 ∷ 0 ∷ 0 ∷ 0 ∷ 0 ∷ 0 ∷ 0 ∷ 0 ∷ 0 ∷ 255 ∷ 255 ∷ 255 ∷ 255 ∷ 171 ∷ 141 ∷ 141
    ∷ 98 ∷ 142 ∷ 142 ∷ 171 ∷ 97 ∷ 171 ∷ 160 ∷ 255 ∷ 255 ∷ 0 ∷ 0 ∷ 97 ∷ 140 ∷ 139 ∷ 0 ∷ 0 ∷ 0 ∷ 7 ∷ 255 ∷ 255 ∷ 255
    ∷ 255 ∷ 0 ∷ 0 ∷ 0 ∷ 0 ∷ 0 ∷ 0 ∷ 0 ∷ 0 ∷ 0 ∷ 0 ∷ 0 ∷ 0 ∷ 0 ∷ 0 ∷ 0 ∷ 0 ∷ 0 ∷ 0 ∷ 0 ∷ 0 ∷ 0 ∷ 0 ∷ 0 ∷ 0 ∷ 0 ∷ 0
    ∷ 0 ∷ 0 ∷ 0 ∷ 0 ∷ 0 ∷ 0 ∷ 0 ∷ 0 ∷ 0 ∷ 52 ∷ 174 ∷ 97 ∷ 239 ∷ 2 ∷ 140 ∷ 139 ∷ 132 ∷ 0 ∷ 0 ∷ 0 ∷ 3 ∷ 0 ∷ 0 ∷ 0 ∷
    9 ∷ 138 ∷ 98 ∷ 140 ∷ 248 ∷ 0 ∷ 0 ∷ 0 ∷ 113 ∷ 1 ∷ 131 ∷ 146 ∷ 192 ∷ 28 ∷ 59 ∷ 0 ∷ 0 ∷ 0 ∷ 0 ∷ 7 ∷ 208 ∷ 0 ∷ 0 ∷
    0 ∷ 50 ∷ 0 ∷ 10 ∷ 0 ∷ 0 ∷ 0 ∷ 2 ∷ 0 ∷ 2 ∷ 243 ∷ 0 ∷ 0 ∷ 0 ∷ 0 ∷ 0 ∷ 0 ∷ 10 ∷ 0 ∷ 0 ∷ 0 ∷ 10 ∷ 0 ∷ 0 ∷ 0 ∷ 1 ∷
    1 ∷ 243 ∷ 3 ∷ 0 ∷ 0 ∷ 0 ∷ 0 ∷ 0 ∷ 10 ∷ 0 ∷ 0 ∷ 0 ∷ 10 ∷ 0 ∷ 0 ∷ 0 ∷ 4 ∷ 116 ∷ 111 ∷ 121 ∷ 109 ∷ 249 ∷ 0 ∷ 0 ∷
    0 ∷ 176 ∷ 2 ∷ 223 ∷ 223 ∷ 223 ∷ 223 ∷ []

downward : copied fonts (two ∷ []) (Numbered (2 ∷ 1 ∷ [])) ≡ Ok downward_bytes
unfolding copied copied_bytes source_file_of walked walking read reading operation operand_size
downward = refl

abbrev pub twice_bytes : List ℕ
twice_bytes =
    247 ∷ 2 ∷ 1 ∷ 131 ∷ 146 ∷ 192 ∷ 28 ∷ 59 ∷ 0 ∷ 0 ∷ 0 ∷ 0 ∷ 7 ∷ 208 ∷ 0 ∷ 243 ∷ 3 ∷ 0 ∷ 0 ∷ 0 ∷ 0 ∷ 0 ∷ 10 ∷ 0 ∷
    0 ∷ 0 ∷ 10 ∷ 0 ∷ 0 ∷ 0 ∷ 4 ∷ 116 ∷ 111 ∷ 121 ∷ 109 ∷ 139 ∷ 0 ∷ 0 ∷ 0 ∷ 7 ∷ 255 ∷ 255 ∷ 255 ∷ 255 ∷ 0 ∷ 0 ∷ 0 ∷
    0 ∷ 0 ∷ 0 ∷ 0 ∷ 0 ∷ 0 ∷ 0 ∷ 0 ∷ 0 ∷ 0 ∷ 0 ∷ 0 ∷ 0 ∷ 0 ∷ 0 ∷ 0 ∷ 0 ∷ 0 ∷ 0 ∷ 0 ∷ 0 ∷ 0 ∷ 0 ∷ 0 ∷ 0 ∷ 0 ∷ 0 ∷ 0
    ∷ 0 ∷ 255 ∷ 255 ∷ 255 ∷ 255 ∷ 174 ∷ 97 ∷ 239 ∷ 2 ∷ 140 ∷ 139 ∷ 132 ∷ 0 ∷ 0 ∷ 0 ∷ 3 ∷ 0 ∷ 0 ∷ 0 ∷ 9 ∷ 138 ∷ 98
    ∷ 140 ∷ 139 ∷ 0 ∷ 0 ∷ 0 ∷ 7 ∷ 255 ∷ 255 ∷ 255 ∷ 255 ∷ 0 ∷ 0 ∷ 0 ∷ 0 ∷ 0 ∷ 0 ∷ 0 ∷ 0 ∷ 0 ∷ 0 ∷ 0 ∷ 0 ∷ 0 ∷ 0 ∷
    0 ∷ 0 ∷ 0 ∷ 0 ∷ 0 ∷ 0 ∷ 0 ∷ 0 ∷ 0 ∷ 0 ∷ 0 ∷ 0 ∷ 0 ∷ 0 ∷ 0 ∷ 0 ∷ 0 ∷ 0 ∷ 0 ∷ 0 ∷ 0 ∷ 35 ∷ 174 ∷ 97 ∷ 239 ∷ 2 ∷
    140 ∷ 139 ∷ 132 ∷ 0 ∷ 0 ∷ 0 ∷ 3 ∷ 0 ∷ 0 ∷ 0 ∷ 9 ∷ 138 ∷ 98 ∷ 140 ∷ 248 ∷ 0 ∷ 0 ∷ 0 ∷ 98 ∷ 1 ∷ 131 ∷ 146 ∷ 192
    ∷ 28 ∷ 59 ∷ 0 ∷ 0 ∷ 0 ∷ 0 ∷ 7 ∷ 208 ∷ 0 ∷ 0 ∷ 0 ∷ 50 ∷ 0 ∷ 5 ∷ 0 ∷ 109 ∷ 0 ∷ 0 ∷ 0 ∷ 2 ∷ 243 ∷ 3 ∷ 0 ∷ 0 ∷ 0 ∷
    0 ∷ 0 ∷ 10 ∷ 0 ∷ 0 ∷ 0 ∷ 10 ∷ 0 ∷ 0 ∷ 0 ∷ 4 ∷ 116 ∷ 111 ∷ 121 ∷ 109 ∷ 249 ∷ 0 ∷ 0 ∷ 0 ∷ 161 ∷ 2 ∷ 223 ∷ 223 ∷
    223 ∷ 223 ∷ []

twice : copied fonts (two ∷ []) (Numbered (1 ∷ 1 ∷ [])) ≡ Ok twice_bytes
unfolding copied copied_bytes source_file_of walked walking read reading operation operand_size
twice = refl

abbrev pub none_picked_bytes : List ℕ
none_picked_bytes =
    247 ∷ 2 ∷ 1 ∷ 131 ∷ 146 ∷ 192 ∷ 28 ∷ 59 ∷ 0 ∷ 0 ∷ 0 ∷ 0 ∷ 7 ∷ 208 ∷ 0 ∷ 248 ∷ 255 ∷ 255 ∷ 255 ∷ 255 ∷ 1 ∷ 131
    ∷ 146 ∷ 192 ∷ 28 ∷ 59 ∷ 0 ∷ 0 ∷ 0 ∷ 0 ∷ 7 ∷ 208 ∷ 0 ∷ 0 ∷ 0 ∷ 0 ∷ 0 ∷ 0 ∷ 0 ∷ 0 ∷ 0 ∷ 0 ∷ 0 ∷ 0 ∷ 249 ∷ 0 ∷ 0
    ∷ 0 ∷ 15 ∷ 2 ∷ 223 ∷ 223 ∷ 223 ∷ 223 ∷ 223 ∷ 223 ∷ []

none_picked : copied fonts (two ∷ []) (Numbered ([])) ≡ Ok none_picked_bytes
unfolding copied copied_bytes source_file_of walked walking read reading operation operand_size
none_picked = refl

abbrev pub registers_bytes : List ℕ
registers_bytes =
    247 ∷ 2 ∷ 1 ∷ 131 ∷ 146 ∷ 192 ∷ 28 ∷ 59 ∷ 0 ∷ 0 ∷ 0 ∷ 0 ∷ 7 ∷ 208 ∷ 0 ∷ 243 ∷ 1 ∷ 240 ∷ 0 ∷ 0 ∷ 1 ∷ 0 ∷ 10 ∷ 0
    ∷ 0 ∷ 0 ∷ 10 ∷ 0 ∷ 0 ∷ 0 ∷ 1 ∷ 2 ∷ 243 ∷ 3 ∷ 0 ∷ 0 ∷ 0 ∷ 0 ∷ 0 ∷ 10 ∷ 0 ∷ 0 ∷ 0 ∷ 10 ∷ 0 ∷ 0 ∷ 0 ∷ 4 ∷ 116 ∷
    111 ∷ 121 ∷ 109 ∷ 139 ∷ 0 ∷ 0 ∷ 0 ∷ 1 ∷ 0 ∷ 0 ∷ 0 ∷ 0 ∷ 0 ∷ 0 ∷ 0 ∷ 0 ∷ 0 ∷ 0 ∷ 0 ∷ 0 ∷ 0 ∷ 0 ∷ 0 ∷ 0 ∷ 0 ∷ 0
    ∷ 0 ∷ 0 ∷ 0 ∷ 0 ∷ 0 ∷ 0 ∷ 0 ∷ 0 ∷ 0 ∷ 0 ∷ 0 ∷ 0 ∷ 0 ∷ 0 ∷ 0 ∷ 0 ∷ 0 ∷ 0 ∷ 255 ∷ 255 ∷ 255 ∷ 255 ∷ 174 ∷ 148 ∷
    100 ∷ 147 ∷ 161 ∷ 97 ∷ 154 ∷ 255 ∷ 156 ∷ 152 ∷ 157 ∷ 5 ∷ 162 ∷ 1 ∷ 166 ∷ 137 ∷ 0 ∷ 0 ∷ 0 ∷ 7 ∷ 0 ∷ 0 ∷ 0 ∷ 9 ∷
    133 ∷ 97 ∷ 141 ∷ 151 ∷ 255 ∷ 255 ∷ 255 ∷ 0 ∷ 97 ∷ 142 ∷ 147 ∷ 97 ∷ 169 ∷ 0 ∷ 2 ∷ 0 ∷ 166 ∷ 172 ∷ 98 ∷ 140 ∷
    248 ∷ 0 ∷ 0 ∷ 0 ∷ 52 ∷ 1 ∷ 131 ∷ 146 ∷ 192 ∷ 28 ∷ 59 ∷ 0 ∷ 0 ∷ 0 ∷ 0 ∷ 7 ∷ 208 ∷ 0 ∷ 0 ∷ 4 ∷ 56 ∷ 0 ∷ 10 ∷ 0 ∷
    200 ∷ 0 ∷ 1 ∷ 0 ∷ 1 ∷ 243 ∷ 1 ∷ 240 ∷ 0 ∷ 0 ∷ 1 ∷ 0 ∷ 10 ∷ 0 ∷ 0 ∷ 0 ∷ 10 ∷ 0 ∷ 0 ∷ 0 ∷ 1 ∷ 2 ∷ 243 ∷ 3 ∷ 0 ∷
    0 ∷ 0 ∷ 0 ∷ 0 ∷ 10 ∷ 0 ∷ 0 ∷ 0 ∷ 10 ∷ 0 ∷ 0 ∷ 0 ∷ 4 ∷ 116 ∷ 111 ∷ 121 ∷ 109 ∷ 249 ∷ 0 ∷ 0 ∷ 0 ∷ 141 ∷ 2 ∷ 223
    ∷ 223 ∷ 223 ∷ 223 ∷ 223 ∷ 223 ∷ 223 ∷ []

registers : copied fonts (regs ∷ []) (Numbered (1 ∷ [])) ≡ Ok registers_bytes
unfolding copied copied_bytes source_file_of walked walking read reading operation operand_size
registers = refl

abbrev pub without_places_bytes : List ℕ
without_places_bytes =
    247 ∷ 2 ∷ 1 ∷ 131 ∷ 146 ∷ 192 ∷ 28 ∷ 59 ∷ 0 ∷ 0 ∷ 0 ∷ 0 ∷ 7 ∷ 208 ∷ 0 ∷ 243 ∷ 2 ∷ 0 ∷ 0 ∷ 0 ∷ 7 ∷ 0 ∷ 5 ∷ 0 ∷
    0 ∷ 0 ∷ 10 ∷ 0 ∷ 0 ∷ 0 ∷ 1 ∷ 1 ∷ 243 ∷ 3 ∷ 0 ∷ 0 ∷ 0 ∷ 0 ∷ 0 ∷ 10 ∷ 0 ∷ 0 ∷ 0 ∷ 10 ∷ 0 ∷ 0 ∷ 0 ∷ 4 ∷ 116 ∷ 111
    ∷ 121 ∷ 109 ∷ 139 ∷ 0 ∷ 0 ∷ 0 ∷ 3 ∷ 0 ∷ 0 ∷ 0 ∷ 0 ∷ 0 ∷ 0 ∷ 0 ∷ 0 ∷ 0 ∷ 0 ∷ 0 ∷ 0 ∷ 0 ∷ 0 ∷ 0 ∷ 0 ∷ 0 ∷ 0 ∷ 0
    ∷ 0 ∷ 0 ∷ 0 ∷ 0 ∷ 0 ∷ 0 ∷ 0 ∷ 0 ∷ 0 ∷ 0 ∷ 0 ∷ 0 ∷ 0 ∷ 0 ∷ 0 ∷ 0 ∷ 0 ∷ 255 ∷ 255 ∷ 255 ∷ 255 ∷ 141 ∷ 142 ∷ 174
    ∷ 140 ∷ 139 ∷ 0 ∷ 0 ∷ 0 ∷ 2 ∷ 0 ∷ 0 ∷ 0 ∷ 0 ∷ 0 ∷ 0 ∷ 0 ∷ 0 ∷ 0 ∷ 0 ∷ 0 ∷ 0 ∷ 0 ∷ 0 ∷ 0 ∷ 0 ∷ 0 ∷ 0 ∷ 0 ∷ 0 ∷
    0 ∷ 0 ∷ 0 ∷ 0 ∷ 0 ∷ 0 ∷ 0 ∷ 0 ∷ 0 ∷ 0 ∷ 0 ∷ 0 ∷ 0 ∷ 0 ∷ 0 ∷ 0 ∷ 0 ∷ 0 ∷ 0 ∷ 52 ∷ 173 ∷ 242 ∷ 0 ∷ 0 ∷ 0 ∷ 1 ∷
    250 ∷ 138 ∷ 140 ∷ 248 ∷ 0 ∷ 0 ∷ 0 ∷ 101 ∷ 1 ∷ 131 ∷ 146 ∷ 192 ∷ 28 ∷ 59 ∷ 0 ∷ 0 ∷ 0 ∷ 0 ∷ 7 ∷ 208 ∷ 0 ∷ 0 ∷ 0
    ∷ 0 ∷ 0 ∷ 0 ∷ 0 ∷ 0 ∷ 0 ∷ 1 ∷ 0 ∷ 2 ∷ 243 ∷ 2 ∷ 0 ∷ 0 ∷ 0 ∷ 7 ∷ 0 ∷ 5 ∷ 0 ∷ 0 ∷ 0 ∷ 10 ∷ 0 ∷ 0 ∷ 0 ∷ 1 ∷ 1 ∷
    243 ∷ 3 ∷ 0 ∷ 0 ∷ 0 ∷ 0 ∷ 0 ∷ 10 ∷ 0 ∷ 0 ∷ 0 ∷ 10 ∷ 0 ∷ 0 ∷ 0 ∷ 4 ∷ 116 ∷ 111 ∷ 121 ∷ 109 ∷ 249 ∷ 0 ∷ 0 ∷ 0 ∷
    155 ∷ 2 ∷ 223 ∷ 223 ∷ 223 ∷ 223 ∷ 223 ∷ []

without_places : copied fonts (regs ∷ []) (Numbered (3 ∷ 2 ∷ [])) ≡ Ok without_places_bytes
unfolding copied copied_bytes source_file_of walked walking read reading operation operand_size
without_places = refl

abbrev pub of_none_bytes : List ℕ
of_none_bytes =
    247 ∷ 2 ∷ 1 ∷ 131 ∷ 146 ∷ 192 ∷ 28 ∷ 59 ∷ 0 ∷ 0 ∷ 0 ∷ 0 ∷ 0 ∷ 3 ∷ 0 ∷ 248 ∷ 255 ∷ 255 ∷ 255 ∷ 255 ∷ 1 ∷ 131 ∷
    146 ∷ 192 ∷ 28 ∷ 59 ∷ 0 ∷ 0 ∷ 0 ∷ 0 ∷ 0 ∷ 3 ∷ 0 ∷ 0 ∷ 0 ∷ 0 ∷ 0 ∷ 0 ∷ 0 ∷ 0 ∷ 0 ∷ 0 ∷ 0 ∷ 0 ∷ 249 ∷ 0 ∷ 0 ∷ 0
    ∷ 15 ∷ 2 ∷ 223 ∷ 223 ∷ 223 ∷ 223 ∷ 223 ∷ 223 ∷ []

of_none : copied fonts (empty ∷ []) (Numbered ([])) ≡ Ok of_none_bytes
unfolding copied copied_bytes source_file_of walked walking read reading operation operand_size
of_none = refl

page_0 : copied fonts (two ∷ []) (Numbered (1 ∷ 3 ∷ 0 ∷ [])) ≡ Err (PageOutOfRange 3)
unfolding copied copied_bytes source_file_of walked walking read reading operation operand_size
page_0 = refl

page_1_of_none : copied fonts (empty ∷ []) (Numbered (1 ∷ [])) ≡ Err (PageOutOfRange 1)
unfolding copied copied_bytes source_file_of walked walking read reading operation operand_size
page_1_of_none = refl

cut_file : copied fonts (cut ∷ []) (Numbered (9 ∷ [])) ≡ Err (BadFile 0 (record { cause = Truncated; at = 101 }))
unfolding copied copied_bytes source_file_of walked walking read reading operation operand_size
cut_file = refl

bad_file : copied fonts (one ∷ bad ∷ cut ∷ []) Every ≡ Err (BadFile 1 (record { cause = BadOpcode; at = 168 }))
unfolding copied copied_bytes source_file_of walked walking read reading operation operand_size
bad_file = refl

abbrev pub joined_bytes : List ℕ
joined_bytes =
    247 ∷ 2 ∷ 1 ∷ 131 ∷ 146 ∷ 192 ∷ 28 ∷ 59 ∷ 0 ∷ 0 ∷ 0 ∷ 0 ∷ 7 ∷ 208 ∷ 0 ∷ 243 ∷ 0 ∷ 0 ∷ 0 ∷ 0 ∷ 0 ∷ 0 ∷ 10 ∷ 0 ∷
    0 ∷ 0 ∷ 10 ∷ 0 ∷ 0 ∷ 0 ∷ 1 ∷ 1 ∷ 243 ∷ 1 ∷ 240 ∷ 0 ∷ 0 ∷ 1 ∷ 0 ∷ 10 ∷ 0 ∷ 0 ∷ 0 ∷ 10 ∷ 0 ∷ 0 ∷ 0 ∷ 1 ∷ 2 ∷ 243
    ∷ 2 ∷ 0 ∷ 0 ∷ 0 ∷ 7 ∷ 0 ∷ 5 ∷ 0 ∷ 0 ∷ 0 ∷ 10 ∷ 0 ∷ 0 ∷ 0 ∷ 1 ∷ 1 ∷ 243 ∷ 3 ∷ 0 ∷ 0 ∷ 0 ∷ 0 ∷ 0 ∷ 10 ∷ 0 ∷ 0 ∷
    0 ∷ 10 ∷ 0 ∷ 0 ∷ 0 ∷ 4 ∷ 116 ∷ 111 ∷ 121 ∷ 109 ∷ 139 ∷ 0 ∷ 0 ∷ 0 ∷ 7 ∷ 255 ∷ 255 ∷ 255 ∷ 255 ∷ 0 ∷ 0 ∷ 0 ∷ 0 ∷
    0 ∷ 0 ∷ 0 ∷ 0 ∷ 0 ∷ 0 ∷ 0 ∷ 0 ∷ 0 ∷ 0 ∷ 0 ∷ 0 ∷ 0 ∷ 0 ∷ 0 ∷ 0 ∷ 0 ∷ 0 ∷ 0 ∷ 0 ∷ 0 ∷ 0 ∷ 0 ∷ 0 ∷ 0 ∷ 0 ∷ 0 ∷ 0
    ∷ 255 ∷ 255 ∷ 255 ∷ 255 ∷ 174 ∷ 97 ∷ 239 ∷ 2 ∷ 140 ∷ 139 ∷ 132 ∷ 0 ∷ 0 ∷ 0 ∷ 3 ∷ 0 ∷ 0 ∷ 0 ∷ 9 ∷ 138 ∷ 98 ∷
    140 ∷ 139 ∷ 0 ∷ 0 ∷ 0 ∷ 8 ∷ 0 ∷ 0 ∷ 0 ∷ 0 ∷ 0 ∷ 0 ∷ 0 ∷ 0 ∷ 0 ∷ 0 ∷ 0 ∷ 0 ∷ 0 ∷ 0 ∷ 0 ∷ 0 ∷ 0 ∷ 0 ∷ 0 ∷ 0 ∷ 0
    ∷ 0 ∷ 0 ∷ 0 ∷ 0 ∷ 0 ∷ 0 ∷ 0 ∷ 0 ∷ 0 ∷ 0 ∷ 0 ∷ 0 ∷ 0 ∷ 0 ∷ 0 ∷ 0 ∷ 0 ∷ 0 ∷ 86 ∷ 171 ∷ 141 ∷ 141 ∷ 98 ∷ 142 ∷
    142 ∷ 171 ∷ 97 ∷ 171 ∷ 160 ∷ 255 ∷ 255 ∷ 0 ∷ 0 ∷ 97 ∷ 140 ∷ 139 ∷ 0 ∷ 0 ∷ 0 ∷ 1 ∷ 0 ∷ 0 ∷ 0 ∷ 0 ∷ 0 ∷ 0 ∷ 0 ∷
    0 ∷ 0 ∷ 0 ∷ 0 ∷ 0 ∷ 0 ∷ 0 ∷ 0 ∷ 0 ∷ 0 ∷ 0 ∷ 0 ∷ 0 ∷ 0 ∷ 0 ∷ 0 ∷ 0 ∷ 0 ∷ 0 ∷ 0 ∷ 0 ∷ 0 ∷ 0 ∷ 0 ∷ 0 ∷ 0 ∷ 0 ∷ 0
    ∷ 0 ∷ 0 ∷ 0 ∷ 0 ∷ 149 ∷ 174 ∷ 148 ∷ 100 ∷ 147 ∷ 161 ∷ 97 ∷ 154 ∷ 255 ∷ 156 ∷ 152 ∷ 157 ∷ 5 ∷ 162 ∷ 1 ∷ 166 ∷
    137 ∷ 0 ∷ 0 ∷ 0 ∷ 7 ∷ 0 ∷ 0 ∷ 0 ∷ 9 ∷ 133 ∷ 97 ∷ 141 ∷ 151 ∷ 255 ∷ 255 ∷ 255 ∷ 0 ∷ 97 ∷ 142 ∷ 147 ∷ 97 ∷ 169 ∷
    0 ∷ 2 ∷ 0 ∷ 166 ∷ 172 ∷ 98 ∷ 140 ∷ 139 ∷ 0 ∷ 0 ∷ 0 ∷ 2 ∷ 0 ∷ 0 ∷ 0 ∷ 0 ∷ 0 ∷ 0 ∷ 0 ∷ 0 ∷ 0 ∷ 0 ∷ 0 ∷ 0 ∷ 0 ∷ 0
    ∷ 0 ∷ 0 ∷ 0 ∷ 0 ∷ 0 ∷ 0 ∷ 0 ∷ 0 ∷ 0 ∷ 0 ∷ 0 ∷ 0 ∷ 0 ∷ 0 ∷ 0 ∷ 0 ∷ 0 ∷ 0 ∷ 0 ∷ 0 ∷ 0 ∷ 0 ∷ 0 ∷ 0 ∷ 0 ∷ 210 ∷
    173 ∷ 242 ∷ 0 ∷ 0 ∷ 0 ∷ 1 ∷ 250 ∷ 138 ∷ 140 ∷ 139 ∷ 0 ∷ 0 ∷ 0 ∷ 3 ∷ 0 ∷ 0 ∷ 0 ∷ 0 ∷ 0 ∷ 0 ∷ 0 ∷ 0 ∷ 0 ∷ 0 ∷ 0
    ∷ 0 ∷ 0 ∷ 0 ∷ 0 ∷ 0 ∷ 0 ∷ 0 ∷ 0 ∷ 0 ∷ 0 ∷ 0 ∷ 0 ∷ 0 ∷ 0 ∷ 0 ∷ 0 ∷ 0 ∷ 0 ∷ 0 ∷ 0 ∷ 0 ∷ 0 ∷ 0 ∷ 0 ∷ 0 ∷ 0 ∷ 0 ∷
    1 ∷ 43 ∷ 141 ∷ 142 ∷ 174 ∷ 140 ∷ 248 ∷ 0 ∷ 0 ∷ 1 ∷ 97 ∷ 1 ∷ 131 ∷ 146 ∷ 192 ∷ 28 ∷ 59 ∷ 0 ∷ 0 ∷ 0 ∷ 0 ∷ 7 ∷
    208 ∷ 0 ∷ 0 ∷ 4 ∷ 56 ∷ 0 ∷ 10 ∷ 0 ∷ 200 ∷ 0 ∷ 2 ∷ 0 ∷ 5 ∷ 243 ∷ 0 ∷ 0 ∷ 0 ∷ 0 ∷ 0 ∷ 0 ∷ 10 ∷ 0 ∷ 0 ∷ 0 ∷ 10 ∷
    0 ∷ 0 ∷ 0 ∷ 1 ∷ 1 ∷ 243 ∷ 1 ∷ 240 ∷ 0 ∷ 0 ∷ 1 ∷ 0 ∷ 10 ∷ 0 ∷ 0 ∷ 0 ∷ 10 ∷ 0 ∷ 0 ∷ 0 ∷ 1 ∷ 2 ∷ 243 ∷ 2 ∷ 0 ∷ 0
    ∷ 0 ∷ 7 ∷ 0 ∷ 5 ∷ 0 ∷ 0 ∷ 0 ∷ 10 ∷ 0 ∷ 0 ∷ 0 ∷ 1 ∷ 1 ∷ 243 ∷ 3 ∷ 0 ∷ 0 ∷ 0 ∷ 0 ∷ 0 ∷ 10 ∷ 0 ∷ 0 ∷ 0 ∷ 10 ∷ 0 ∷
    0 ∷ 0 ∷ 4 ∷ 116 ∷ 111 ∷ 121 ∷ 109 ∷ 249 ∷ 0 ∷ 0 ∷ 1 ∷ 146 ∷ 2 ∷ 223 ∷ 223 ∷ 223 ∷ 223 ∷ []

joined : copied fonts (two ∷ regs ∷ []) Every ≡ Ok joined_bytes
unfolding copied copied_bytes source_file_of walked walking read reading operation operand_size
joined = refl

mag_clash : copied fonts (one ∷ other ∷ two ∷ []) Every ≡ Err (MagClash 2)
unfolding copied copied_bytes source_file_of walked walking read reading operation operand_size
mag_clash = refl

bad_before_clash : copied fonts (one ∷ two ∷ cut ∷ []) Every ≡ Err (BadFile 2 (record { cause = Truncated; at = 101 }))
unfolding copied copied_bytes source_file_of walked walking read reading operation operand_size
bad_before_clash = refl

abbrev pub joined_one_bytes : List ℕ
joined_one_bytes =
    247 ∷ 2 ∷ 1 ∷ 131 ∷ 146 ∷ 192 ∷ 28 ∷ 59 ∷ 0 ∷ 0 ∷ 0 ∷ 0 ∷ 3 ∷ 232 ∷ 0 ∷ 243 ∷ 3 ∷ 0 ∷ 0 ∷ 0 ∷ 0 ∷ 0 ∷ 10 ∷ 0 ∷
    0 ∷ 0 ∷ 10 ∷ 0 ∷ 0 ∷ 0 ∷ 4 ∷ 116 ∷ 111 ∷ 121 ∷ 109 ∷ 139 ∷ 0 ∷ 0 ∷ 0 ∷ 1 ∷ 0 ∷ 0 ∷ 0 ∷ 0 ∷ 0 ∷ 0 ∷ 0 ∷ 0 ∷ 0 ∷
    0 ∷ 0 ∷ 0 ∷ 0 ∷ 0 ∷ 0 ∷ 0 ∷ 0 ∷ 0 ∷ 0 ∷ 0 ∷ 0 ∷ 0 ∷ 0 ∷ 0 ∷ 0 ∷ 0 ∷ 0 ∷ 0 ∷ 0 ∷ 0 ∷ 0 ∷ 0 ∷ 0 ∷ 0 ∷ 0 ∷ 0 ∷
    255 ∷ 255 ∷ 255 ∷ 255 ∷ 174 ∷ 160 ∷ 0 ∷ 5 ∷ 0 ∷ 0 ∷ 97 ∷ 140 ∷ 248 ∷ 0 ∷ 0 ∷ 0 ∷ 35 ∷ 1 ∷ 131 ∷ 146 ∷ 192 ∷ 28
    ∷ 59 ∷ 0 ∷ 0 ∷ 0 ∷ 0 ∷ 3 ∷ 232 ∷ 0 ∷ 5 ∷ 0 ∷ 0 ∷ 0 ∷ 5 ∷ 0 ∷ 0 ∷ 0 ∷ 0 ∷ 0 ∷ 1 ∷ 243 ∷ 3 ∷ 0 ∷ 0 ∷ 0 ∷ 0 ∷ 0 ∷
    10 ∷ 0 ∷ 0 ∷ 0 ∷ 10 ∷ 0 ∷ 0 ∷ 0 ∷ 4 ∷ 116 ∷ 111 ∷ 121 ∷ 109 ∷ 249 ∷ 0 ∷ 0 ∷ 0 ∷ 88 ∷ 2 ∷ 223 ∷ 223 ∷ 223 ∷ 223
    ∷ 223 ∷ []

joined_one : copied fonts (one ∷ []) Every ≡ Ok joined_one_bytes
unfolding copied copied_bytes source_file_of walked walking read reading operation operand_size
joined_one = refl

abbrev pub joined_empty_bytes : List ℕ
joined_empty_bytes =
    247 ∷ 2 ∷ 1 ∷ 131 ∷ 146 ∷ 192 ∷ 28 ∷ 59 ∷ 0 ∷ 0 ∷ 0 ∷ 0 ∷ 0 ∷ 3 ∷ 0 ∷ 248 ∷ 255 ∷ 255 ∷ 255 ∷ 255 ∷ 1 ∷ 131 ∷
    146 ∷ 192 ∷ 28 ∷ 59 ∷ 0 ∷ 0 ∷ 0 ∷ 0 ∷ 0 ∷ 3 ∷ 0 ∷ 0 ∷ 0 ∷ 0 ∷ 0 ∷ 0 ∷ 0 ∷ 0 ∷ 0 ∷ 0 ∷ 0 ∷ 0 ∷ 249 ∷ 0 ∷ 0 ∷ 0
    ∷ 15 ∷ 2 ∷ 223 ∷ 223 ∷ 223 ∷ 223 ∷ 223 ∷ 223 ∷ []

joined_empty : copied fonts (empty ∷ []) Every ≡ Ok joined_empty_bytes
unfolding copied copied_bytes source_file_of walked walking read reading operation operand_size
joined_empty = refl

abbrev pub joined_three_bytes : List ℕ
joined_three_bytes =
    247 ∷ 2 ∷ 1 ∷ 131 ∷ 146 ∷ 192 ∷ 28 ∷ 59 ∷ 0 ∷ 0 ∷ 0 ∷ 0 ∷ 3 ∷ 232 ∷ 0 ∷ 243 ∷ 3 ∷ 0 ∷ 0 ∷ 0 ∷ 0 ∷ 0 ∷ 10 ∷ 0 ∷
    0 ∷ 0 ∷ 10 ∷ 0 ∷ 0 ∷ 0 ∷ 4 ∷ 116 ∷ 111 ∷ 121 ∷ 109 ∷ 139 ∷ 0 ∷ 0 ∷ 0 ∷ 1 ∷ 0 ∷ 0 ∷ 0 ∷ 0 ∷ 0 ∷ 0 ∷ 0 ∷ 0 ∷ 0 ∷
    0 ∷ 0 ∷ 0 ∷ 0 ∷ 0 ∷ 0 ∷ 0 ∷ 0 ∷ 0 ∷ 0 ∷ 0 ∷ 0 ∷ 0 ∷ 0 ∷ 0 ∷ 0 ∷ 0 ∷ 0 ∷ 0 ∷ 0 ∷ 0 ∷ 0 ∷ 0 ∷ 0 ∷ 0 ∷ 0 ∷ 0 ∷
    255 ∷ 255 ∷ 255 ∷ 255 ∷ 174 ∷ 160 ∷ 0 ∷ 5 ∷ 0 ∷ 0 ∷ 97 ∷ 140 ∷ 139 ∷ 0 ∷ 0 ∷ 0 ∷ 1 ∷ 0 ∷ 0 ∷ 0 ∷ 0 ∷ 0 ∷ 0 ∷ 0
    ∷ 0 ∷ 0 ∷ 0 ∷ 0 ∷ 0 ∷ 0 ∷ 0 ∷ 0 ∷ 0 ∷ 0 ∷ 0 ∷ 0 ∷ 0 ∷ 0 ∷ 0 ∷ 0 ∷ 0 ∷ 0 ∷ 0 ∷ 0 ∷ 0 ∷ 0 ∷ 0 ∷ 0 ∷ 0 ∷ 0 ∷ 0 ∷
    0 ∷ 0 ∷ 0 ∷ 0 ∷ 0 ∷ 35 ∷ 140 ∷ 139 ∷ 0 ∷ 0 ∷ 0 ∷ 1 ∷ 0 ∷ 0 ∷ 0 ∷ 0 ∷ 0 ∷ 0 ∷ 0 ∷ 0 ∷ 0 ∷ 0 ∷ 0 ∷ 0 ∷ 0 ∷ 0 ∷ 0
    ∷ 0 ∷ 0 ∷ 0 ∷ 0 ∷ 0 ∷ 0 ∷ 0 ∷ 0 ∷ 0 ∷ 0 ∷ 0 ∷ 0 ∷ 0 ∷ 0 ∷ 0 ∷ 0 ∷ 0 ∷ 0 ∷ 0 ∷ 0 ∷ 0 ∷ 0 ∷ 0 ∷ 0 ∷ 88 ∷ 174 ∷
    160 ∷ 0 ∷ 5 ∷ 0 ∷ 0 ∷ 97 ∷ 140 ∷ 248 ∷ 0 ∷ 0 ∷ 0 ∷ 134 ∷ 1 ∷ 131 ∷ 146 ∷ 192 ∷ 28 ∷ 59 ∷ 0 ∷ 0 ∷ 0 ∷ 0 ∷ 3 ∷
    232 ∷ 0 ∷ 5 ∷ 0 ∷ 0 ∷ 0 ∷ 5 ∷ 0 ∷ 0 ∷ 0 ∷ 0 ∷ 0 ∷ 3 ∷ 243 ∷ 3 ∷ 0 ∷ 0 ∷ 0 ∷ 0 ∷ 0 ∷ 10 ∷ 0 ∷ 0 ∷ 0 ∷ 10 ∷ 0 ∷
    0 ∷ 0 ∷ 4 ∷ 116 ∷ 111 ∷ 121 ∷ 109 ∷ 249 ∷ 0 ∷ 0 ∷ 0 ∷ 187 ∷ 2 ∷ 223 ∷ 223 ∷ 223 ∷ 223 ∷ 223 ∷ 223 ∷ []

joined_three : copied fonts (one ∷ other ∷ one ∷ []) Every ≡ Ok joined_three_bytes
unfolding copied copied_bytes source_file_of walked walking read reading operation operand_size
joined_three = refl

-- the same in other words: its first 15 bytes, the 20 bytes of offset 60, the 45 bytes of offset 15, and its bytes from
-- 80 on with another offset of the last bop
one_picked_in_parts : one_picked_bytes ≡ take 15 one ++ bytes_from 60 20 one ++ bytes_from 15 45 one ++ bytes_from 80 9 one ++ 0 ∷ 0 ∷ 0 ∷ 35 ∷ drop 93 one
one_picked_in_parts = refl

too_many_pages : copied fonts (other ∷ []) (Numbered (replicate 65536 1)) ≡ Err (TooManyPages 65536)
unfolding copied copied_bytes source_file_of walked walking read reading operation operand_size
too_many_pages = refl

out_of_range_first : copied fonts (other ∷ []) (Numbered (replicate 65536 1 ++ 2 ∷ [])) ≡ Err (PageOutOfRange 2)
unfolding copied copied_bytes source_file_of walked walking read reading operation operand_size
out_of_range_first = refl
