-- Clean boxes, nuclei and large operators hold where the rows of the lists inside them do.
use Rattle.std.proofs.Common.{ℕ, ℤ, pos, List, [], ◌∷◌, Bool, true, false, if◌then◌else◌, IfOk, Ok}
use Rattle.mt_convert.proofs.Common.{int_eq, Metrics, italic_of, Size, SetValue, Layout, PieceValue, PieceGlyph, PieceBox, PieceKern, Symbol, Delim, Style, size_of, ◌>>=◌, ◌>>◌, make_box, make_row, pack_row, font_of_number, find_symbol, extents_without_italic, piece_on_axis, big_delimiter, RowByStyle, Content, NoContent, SymbolContent, ListContent, RowsContent, TableContent, RootContent, BigContent, SymbolRole, OrdinarySymbol, Nucleus, test_role, role_italic, nucleus_with_italic, glyph_nucleus, symbol_nucleus, make_clean, clean_symbol, clean_list, packed_list, big_nucleus, operator_code, box_without_italic, nucleus_on_axis, LayoutHolds, RowHolds}
use Rattle.std.specs.Prelude.{⊤}
use Rattle.mt_convert.proofs.holds.Steps.{step_holds, next_holds, after_extents, box_made, row_made}
use Rattle.mt_convert.proofs.holds.Boxes.{packed_row, clean_box}
use Rattle.mt_convert.proofs.holds.Delimiters.{AreSound, big_holds}
use Rattle.mt_convert.proofs.holds.Glyphs.{ExistsIn, glyph_holds, symbol_found}
use Rattle.mt_rules.specs.Operators.{operator_nucleus}
use Rattle.mt_rules.specs.Nuclei.{clean_field, nucleus_row}

module _ (fonts : SetValue) where
  -- ---- what holds of a field

  -- in each style
  abbrev pub ListHolds : RowByStyle → Type 0
  ListHolds list = (style : Style) → IfOk (list style) (RowHolds fonts)

  abbrev pub ListsHold : List RowByStyle → Type 0
  ListsHold [] = ⊤
  ListsHold (list ∷ lists) = ListHolds list × ListsHold lists

  -- of each row of a table
  abbrev pub CellListsHold : List (List RowByStyle) → Type 0
  CellListsHold [] = ⊤
  CellListsHold (row ∷ rows) = ListsHold row × CellListsHold rows

  abbrev pub ContentHolds : Content → Type 0
  ContentHolds NoContent = ⊤
  ContentHolds (SymbolContent symbol) = ⊤
  ContentHolds (ListContent list) = ListHolds list
  ContentHolds (RowsContent rows) = ListsHold rows
  ContentHolds (TableContent look rows) = CellListsHold rows
  ContentHolds (RootContent degree body) = ListHolds degree × ContentHolds body
  ContentHolds (BigContent delim level) = ⊤

  abbrev pub NucleusHolds : Nucleus → Type 0
  NucleusHolds n = RowHolds fonts n.row

  -- ---- a symbol

  kern_by : (glyph : PieceValue) (italic : ℤ) (b : Bool) → RowHolds fonts (glyph ∷ []) → NucleusHolds (if b then record { row = glyph ∷ []; delta = pos 0 } else record { row = glyph ∷ PieceKern italic ∷ []; delta = pos 0 })
  kern_by glyph italic true h = h
  kern_by glyph italic false h = (h.0, (tt, tt))

  italic_holds : (glyph : PieceValue) (italic : ℤ) (subscript : Bool) → RowHolds fonts (glyph ∷ []) → NucleusHolds (nucleus_with_italic glyph italic subscript)
  italic_holds glyph italic true h = h
  italic_holds glyph italic false h = kern_by glyph italic (int_eq italic (pos 0)) h

  glyph_nucleus_holds : (font code : ℕ) (role : SymbolRole) (subscript : Bool) → ExistsIn fonts font code → IfOk (glyph_nucleus font (font_of_number fonts font) code role subscript) NucleusHolds
  glyph_nucleus_holds font code role subscript there =
      let m = font_of_number fonts font in
      let e = extents_without_italic m code in
      let italic = role_italic role m code in
      after_extents NucleusHolds e (Ok (nucleus_with_italic (PieceGlyph font code e) italic subscript))
      (λ extents. italic_holds (PieceGlyph font code e) italic subscript ((glyph_holds fonts font code there extents, extents), tt))

  pub symbol_nucleus_holds : (size : Size) (symbol : Symbol) (role : SymbolRole) (subscript : Bool) → IfOk (symbol_nucleus fonts size symbol role subscript) NucleusHolds
  symbol_nucleus_holds size symbol role subscript =
      step_holds (λ font. ExistsIn fonts font symbol.code) NucleusHolds (find_symbol fonts size symbol)
      (λ font. test_role symbol size role >> glyph_nucleus font (font_of_number fonts font) symbol.code role subscript)
      (symbol_found fonts symbol size)
      (λ font there. next_holds NucleusHolds (test_role symbol size role)
      (λ _. glyph_nucleus font (font_of_number fonts font) symbol.code role subscript)
      (λ _. glyph_nucleus_holds font symbol.code role subscript there))

  -- ---- clean boxes

  pub clean_symbol_holds : (style : Style) (symbol : Symbol) → IfOk (clean_symbol fonts style symbol) (LayoutHolds fonts)
  clean_symbol_holds style symbol =
      step_holds NucleusHolds (LayoutHolds fonts) (symbol_nucleus fonts (size_of style) symbol OrdinarySymbol false)
      (λ (nucleus : Nucleus). make_row nucleus.row >>= (λ row. make_clean row))
      (symbol_nucleus_holds (size_of style) symbol OrdinarySymbol false)
      (λ (nucleus : Nucleus) h. step_holds (RowHolds fonts) (LayoutHolds fonts) (make_row nucleus.row) (λ row. make_clean row)
      (row_made (RowHolds fonts) nucleus.row h) (λ row k. clean_box fonts row k))

  pub clean_list_holds : (list : RowByStyle) (style : Style) → ListHolds list → IfOk (clean_list list style) (LayoutHolds fonts)
  clean_list_holds list style h =
      step_holds (RowHolds fonts) (LayoutHolds fonts) (list style) (λ row. make_clean row) (h style) (λ row k. clean_box fonts row k)

  pub clean_field_holds : (style : Style) (field : Content) → ContentHolds field → IfOk (clean_field fonts style field) (LayoutHolds fonts)
  unfolding clean_field
  clean_field_holds style (SymbolContent symbol) h = clean_symbol_holds style symbol
  clean_field_holds style (ListContent list) h = clean_list_holds list style h
  clean_field_holds style _ h = tt

  -- ---- nuclei

  pub packed_list_holds : (list : RowByStyle) (style : Style) → ListHolds list → IfOk (packed_list list style) NucleusHolds
  packed_list_holds list style h =
      step_holds (RowHolds fonts) NucleusHolds (list style)
      (λ row. pack_row row >>= (λ box. Ok (record { row = PieceBox (pos 0) box ∷ []; delta = pos 0 })))
      (h style)
      (λ row k. step_holds (LayoutHolds fonts) NucleusHolds (pack_row row) (λ box. Ok (record { row = PieceBox (pos 0) box ∷ []; delta = pos 0 }))
      (packed_row fonts row k) (λ box b. (b, tt)))

  pub big_nucleus_holds : (delim : Delim) (level : ℕ) → AreSound fonts → IfOk (big_nucleus fonts delim level) NucleusHolds
  big_nucleus_holds delim level sound =
      step_holds (LayoutHolds fonts) NucleusHolds (big_delimiter fonts delim level) (λ box. Ok (record { row = PieceBox (pos 0) box ∷ []; delta = pos 0 }))
      (big_holds fonts delim level sound) (λ box h. (h, tt))

  pub nucleus_row_holds : (style : Style) (field : Content) (role : SymbolRole) (subscript : Bool) → AreSound fonts → ContentHolds field → IfOk (nucleus_row fonts style field role subscript) NucleusHolds
  unfolding nucleus_row
  nucleus_row_holds style (SymbolContent symbol) role subscript sound h = symbol_nucleus_holds (size_of style) symbol role subscript
  nucleus_row_holds style (ListContent list) role subscript sound h = packed_list_holds list style h
  nucleus_row_holds style (BigContent delim level) role subscript sound h = big_nucleus_holds delim level sound
  nucleus_row_holds style _ role subscript sound h = tt

  -- ---- large operators

  without_italic_by : (b : Bool) (l : Layout) (italic : ℤ) → LayoutHolds fonts l → LayoutHolds fonts (if b then box_without_italic l italic else l)
  without_italic_by true l italic h = h
  without_italic_by false l italic h = h

  on_axis_holds : (style : Style) (symbol : Symbol) (m : Metrics) (subscript : Bool) → IfOk (nucleus_on_axis fonts style symbol m subscript) NucleusHolds
  on_axis_holds style symbol m subscript =
      let c = operator_code m style symbol.code in
      let italic = italic_of m c in
      step_holds (LayoutHolds fonts) NucleusHolds (clean_symbol fonts style (record { fam = symbol.fam; code = c }))
      (λ box. make_box (if subscript then box_without_italic box italic else box) >>= (λ final. Ok (record { row = piece_on_axis fonts (size_of style) final ∷ []; delta = italic })))
      (clean_symbol_holds style (record { fam = symbol.fam; code = c }))
      (λ box h. step_holds (LayoutHolds fonts) NucleusHolds (make_box (if subscript then box_without_italic box italic else box))
      (λ final. Ok (record { row = piece_on_axis fonts (size_of style) final ∷ []; delta = italic }))
      (box_made (LayoutHolds fonts) (if subscript then box_without_italic box italic else box) (without_italic_by subscript box italic h))
      (λ final k. (k, tt)))

  pub operator_nucleus_holds : (style : Style) (symbol : Symbol) (subscript : Bool) → IfOk (operator_nucleus fonts style symbol subscript) NucleusHolds
  unfolding operator_nucleus
  operator_nucleus_holds style symbol subscript =
      next_holds NucleusHolds (find_symbol fonts (size_of style) symbol)
      (λ font. nucleus_on_axis fonts style symbol (font_of_number fonts font) subscript)
      (λ font. on_axis_holds style symbol (font_of_number fonts font) subscript)
