-- Characters that are found exist in a font of the set, and their glyphs are tested.
use Rattle.std.proofs.Common.{◌≡◌, ℕ, zero, suc, ℤ, refl, Option, Some, None, Bool, true, false, if◌then◌else◌, slice_get, unwrap_or, nat_le, Ok, Err, IfOk, ◌&&◌, int_le, ◌==◌, not}
use Rattle.mt_convert.proofs.Common.{Metrics, exists, width_of, larger_of, param_of, Size, SetValue, number_in, Extents, ExtentsInRange, Layout, glyph_layout, Symbol, Setting, MissingChar, make_box, empty_font, font_of_number, font_with_symbol, find_symbol, extents_without_italic, extents_with_italic, character_layout, widest_within, accent_code, accent_layout, accent_by_code, GlyphHolds, LayoutHolds}
use Rattle.mt_tfm.specs.Chars.{blank}
use Rattle.mt_convert.proofs.holds.Steps.{after_extents, box_made}
use Rattle.mt_rules.specs.Accents.{accent}

-- the font that a number stands for has this character
abbrev pub ExistsIn : SetValue → ℕ → ℕ → Type 0
ExistsIn fonts font code = exists (font_of_number fonts font) code ≡ true

-- the font without characters has none
none_by : (b : Bool) → not ((if b then blank else blank).width == 0) ≡ true → ⊥
none_by true e = absurd (cc)
none_by false e = absurd (cc)

none_exists : (code : ℕ) → exists empty_font code ≡ true → ⊥
none_exists code e = none_by (nat_le 0 code) e

module _ (fonts : SetValue) where
  number_holds : (font code : ℕ) (found : Option Metrics) → slice_get fonts.fonts font ≡ found → exists (unwrap_or found empty_font) code ≡ true → ExtentsInRange (extents_without_italic (unwrap_or found empty_font) code) → GlyphHolds fonts font code
  number_holds font code (Some m) is there extents = record { metrics = m; is = is; there = there; extents = extents }
  number_holds font code None is there extents = absurd (none_exists code there)

  pub glyph_holds : (font code : ℕ) → ExistsIn fonts font code → ExtentsInRange (extents_without_italic (font_of_number fonts font) code) → GlyphHolds fonts font code
  glyph_holds font code there extents = number_holds font code (slice_get fonts.fonts font) refl there extents

  -- ---- a symbol

  found_if : (b : Bool) (symbol : Symbol) (size : Size) (font : ℕ) → exists (font_of_number fonts font) symbol.code ≡ b → IfOk (let s : Setting ℕ = if b then Ok font else Err (MissingChar symbol.fam size symbol.code) in s) (λ n. ExistsIn fonts n symbol.code)
  found_if true symbol size font e = e
  found_if false symbol size font e = tt

  found_with : (symbol : Symbol) (size : Size) (number : Option ℕ) → IfOk (font_with_symbol fonts size symbol number) (λ n. ExistsIn fonts n symbol.code)
  found_with symbol size None = tt
  found_with symbol size (Some font) = found_if (exists (font_of_number fonts font) symbol.code) symbol size font refl

  -- the font in which it is found has it
  pub symbol_found : (symbol : Symbol) (size : Size) → IfOk (find_symbol fonts size symbol) (λ n. ExistsIn fonts n symbol.code)
  symbol_found symbol size = found_with symbol size (number_in fonts.families symbol.fam size)

  -- ---- the box of a character

  pub character_holds : (font code : ℕ) → ExistsIn fonts font code → IfOk (character_layout font (font_of_number fonts font) code) (LayoutHolds fonts)
  character_holds font code there =
      let m = font_of_number fonts font in
      after_extents (LayoutHolds fonts) (extents_without_italic m code) (make_box (glyph_layout font code (extents_with_italic m code)))
      (λ extents. box_made (LayoutHolds fonts) (glyph_layout font code (extents_with_italic m code)) (glyph_holds font code there extents, tt))

  -- ---- accents

  wider_by : (m : Metrics) (c d further : ℕ) (a b : Bool) → exists m d ≡ a → exists m c ≡ true → (exists m d ≡ true → exists m further ≡ true) → exists m (if a && b then further else c) ≡ true
  wider_by m c d further true true e there next = next e
  wider_by m c d further true false e there next = there
  wider_by m c d further false b e there next = there

  widest_there : (turns : ℕ) (m : Metrics) (width : ℤ) (c : ℕ) (next : Option ℕ) → exists m c ≡ true → exists m (widest_within turns m width c next) ≡ true
  widest_there zero m width c next there = there
  widest_there (suc turns) m width c None there = there
  widest_there (suc turns) m width c (Some d) there =
      wider_by m c d (widest_within turns m width d (larger_of m d)) (exists m d) (int_le (width_of m d) width) refl there
      (λ e. widest_there turns m width d (larger_of m d) e)

  accent_by_code_holds : (font code : ℕ) (skew : ℤ) (plain : Extents) (body : Layout) → ExistsIn fonts font code → LayoutHolds fonts body → IfOk (accent_by_code font (font_of_number fonts font) code skew plain body) (LayoutHolds fonts)
  accent_by_code_holds font code skew plain body there h =
      let m = font_of_number fonts font in
      let l = accent_layout font code (extents_with_italic m code) skew (param_of m 5) plain body in
      after_extents (LayoutHolds fonts) (extents_without_italic m code) (make_box l)
      (λ extents. box_made (LayoutHolds fonts) l (glyph_holds font code there extents, h))

  pub accent_holds : (font code : ℕ) (skew : ℤ) (plain : Extents) (body : Layout) → ExistsIn fonts font code → LayoutHolds fonts body → IfOk (accent fonts font code skew plain body) (LayoutHolds fonts)
  unfolding accent
  accent_holds font code skew plain body there h =
      let m = font_of_number fonts font in
      accent_by_code_holds font (accent_code m plain.width code) skew plain body (widest_there 256 m plain.width code (larger_of m code) there) h
