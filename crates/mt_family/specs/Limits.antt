-- The most that a font list may have, and what formulas need of its fonts.
use Rattle.std.specs.Prelude.{ℕ}

-- bytes of a font list
abbrev pub max_list_bytes : ℕ
max_list_bytes = 65536

-- font lines
abbrev pub max_fonts : ℕ
max_fonts = 48

-- bytes of the name of a font
abbrev pub max_font_name : ℕ
max_font_name = 64

-- the size of a font in sp, 2^27 - 1 (tex.web, section 1259)
abbrev pub max_font_size : ℕ
max_font_size = 134217727

-- the parameters that a font of family 2 has at least (tex.web, section 700)
abbrev pub symbol_parameters : ℕ
symbol_parameters = 22

-- the parameters that a font of family 3 has at least (tex.web, section 701)
abbrev pub extension_parameters : ℕ
extension_parameters = 13
