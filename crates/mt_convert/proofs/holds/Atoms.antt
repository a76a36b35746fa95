-- The row of an atom, and that of a fraction, hold where the rows of the lists inside them do.
use Rattle.std.proofs.Common.{pos, List, [], ◌∷◌, Some, None, unwrap_or, Bool, true, false, if◌then◌else◌, IfOk, Ok, not, ◌&&◌}
use Rattle.mt_convert.proofs.Common.{SetValue, Layout, PieceBox, Class, Kind, Plain, Radical, Accent, Over, Under, Vcenter, Veil, Look, Matrix, Equations, Symbol, Delim, Style, T, Ss, size_of, sup_of, sub_of, cramped_of, uncramped_of, num_of, den_of, Setting, ◌>>=◌, make_row, pack_row, default_rule_thickness, find_symbol, row_with_scripts, limits, fraction, vcenter, matrix_table, equations_table, root_row, veil_layout, accent, RowByStyle, Content, NoContent, SymbolContent, ListContent, RowsContent, TableContent, RootContent, BigContent, is_empty, SymbolRole, OrdinarySymbol, Nucleus, nucleus_row, make_clean, clean_field, clean_list, uses_limits, AtomContent, script_box, some_box, nucleus_with_scripts, box_nucleus, part_with_scripts, row_of_list, nucleus_under_limits, operator_with_limits, nucleus_beside_scripts, operator_without_limits, operator_by_limits, ordinary_row, class_row, radical_part, packed_field, radical_with_degree, radical_row, veil_part, overline_part, underline_part, pack_rows, vcenter_rows, cells_in_columns, pack_cells, table_strut, table_part, vcenter_part, content_skew, accent_outside, accent_inside, accent_by_scripts, is_symbol, accent_row, kind_row, FractionContent, LayoutHolds, RowHolds}
use Rattle.mt_rules.specs.declared.class.Class.TheVariants as classes
use Rattle.mt_rules.specs.Radicals.{radical}
use Rattle.mt_rules.specs.Lines.{overline, underline}
use Rattle.mt_convert.proofs.holds.Steps.{step_holds, next_holds, row_made}
use Rattle.mt_convert.proofs.holds.Boxes.{packed_row, clean_box, SomeLayoutHolds, LayoutsHold}
use Rattle.mt_convert.proofs.holds.Glyphs.{ExistsIn, symbol_found, accent_holds}
use Rattle.mt_convert.proofs.holds.Delimiters.{AreSound}
use Rattle.mt_convert.proofs.holds.Nuclei.{ListHolds, ListsHold, CellListsHold, ContentHolds, NucleusHolds, clean_list_holds, clean_field_holds, packed_list_holds, big_nucleus_holds, nucleus_row_holds, operator_nucleus_holds}
use Rattle.mt_convert.proofs.holds.Scripts.{scripts_hold, limits_hold}
use Rattle.mt_convert.proofs.holds.Parts.{fraction_holds, radical_holds, root_row_holds, veil_holds, overline_holds, underline_holds, vcenter_holds}
use Rattle.mt_convert.proofs.holds.Tables.{CellsHold, matrix_holds, equations_hold}
use Rattle.mt_rules.specs.AtomRow.{atom_row, fraction_row}

module _ (fonts : SetValue) where
  -- ---- scripts

  some_box_holds : (setting : Setting Layout) → IfOk setting (LayoutHolds fonts) → IfOk (some_box setting) (SomeLayoutHolds fonts)
  some_box_holds setting h = step_holds (LayoutHolds fonts) (SomeLayoutHolds fonts) setting (λ box. Ok (Some box)) h (λ box k. k)

  script_by : (b : Bool) (setting : Setting Layout) → IfOk setting (LayoutHolds fonts) → IfOk (if b then Ok None else some_box setting) (SomeLayoutHolds fonts)
  script_by true setting h = tt
  script_by false setting h = some_box_holds setting h

  script_holds : (style : Style) (field : Content) → ContentHolds fonts field → IfOk (script_box fonts style field) (SomeLayoutHolds fonts)
  script_holds style field h = script_by (is_empty field) (clean_field fonts style field) (clean_field_holds fonts style field h)

  with_scripts : (style : Style) (nucleus : Nucleus) (sup sub : Content) → NucleusHolds fonts nucleus → ContentHolds fonts sup → ContentHolds fonts sub → IfOk (nucleus_with_scripts fonts style nucleus sup sub) (RowHolds fonts)
  with_scripts style nucleus sup sub h a b =
      step_holds (SomeLayoutHolds fonts) (RowHolds fonts) (script_box fonts (sup_of style) sup)
      (λ above. script_box fonts (sub_of style) sub >>= (λ below. row_with_scripts fonts style nucleus.row nucleus.delta above below >>= (λ row. make_row row)))
      (script_holds (sup_of style) sup a)
      (λ above x. step_holds (SomeLayoutHolds fonts) (RowHolds fonts) (script_box fonts (sub_of style) sub)
      (λ below. row_with_scripts fonts style nucleus.row nucleus.delta above below >>= (λ row. make_row row))
      (script_holds (sub_of style) sub b)
      (λ below y. step_holds (RowHolds fonts) (RowHolds fonts) (row_with_scripts fonts style nucleus.row nucleus.delta above below) (λ row. make_row row)
      (scripts_hold fonts style nucleus.row nucleus.delta above below h x y)
      (λ row z. row_made (RowHolds fonts) row z)))

  part_holds : (style : Style) (part : Setting Layout) (sup sub : Content) → IfOk part (LayoutHolds fonts) → ContentHolds fonts sup → ContentHolds fonts sub → IfOk (part_with_scripts fonts style part sup sub) (RowHolds fonts)
  part_holds style part sup sub h a b =
      step_holds (LayoutHolds fonts) (RowHolds fonts) part (λ box. nucleus_with_scripts fonts style (box_nucleus box) sup sub) h
      (λ box k. with_scripts style (box_nucleus box) sup sub (k, tt) a b)

  -- ---- operators

  list_nucleus : (list : RowByStyle) (style : Style) → ListHolds fonts list → IfOk (row_of_list list style) (NucleusHolds fonts)
  list_nucleus list style h =
      step_holds (RowHolds fonts) (NucleusHolds fonts) (list style) (λ row. Ok (record { row = row; delta = pos 0 })) (h style) (λ row k. k)

  under_limits : (style : Style) (field : Content) → AreSound fonts → ContentHolds fonts field → IfOk (nucleus_under_limits fonts style field) (NucleusHolds fonts)
  under_limits style (SymbolContent symbol) sound h = operator_nucleus_holds fonts style symbol false
  under_limits style (ListContent list) sound h = list_nucleus list style h
  under_limits style (BigContent delim level) sound h = big_nucleus_holds fonts delim level sound
  under_limits style _ sound h = tt

  limits_row_holds : (style : Style) (field sup sub : Content) → AreSound fonts → ContentHolds fonts field → ContentHolds fonts sup → ContentHolds fonts sub → IfOk (operator_with_limits fonts style field sup sub) (RowHolds fonts)
  limits_row_holds style field sup sub sound h a b =
      step_holds (NucleusHolds fonts) (RowHolds fonts) (nucleus_under_limits fonts style field)
      (λ (nucleus : Nucleus). make_clean nucleus.row >>= (λ box. script_box fonts (sup_of style) sup >>= (λ above. script_box fonts (sub_of style) sub >>= (λ below. limits fonts (size_of style) box nucleus.delta above below >>= (λ all. make_row (PieceBox (pos 0) all ∷ []))))))
      (under_limits style field sound h)
      (λ (nucleus : Nucleus) n. step_holds (LayoutHolds fonts) (RowHolds fonts) (make_clean nucleus.row)
      (λ box. script_box fonts (sup_of style) sup >>= (λ above. script_box fonts (sub_of style) sub >>= (λ below. limits fonts (size_of style) box nucleus.delta above below >>= (λ all. make_row (PieceBox (pos 0) all ∷ [])))))
      (clean_box fonts nucleus.row n)
      (λ box k. step_holds (SomeLayoutHolds fonts) (RowHolds fonts) (script_box fonts (sup_of style) sup)
      (λ above. script_box fonts (sub_of style) sub >>= (λ below. limits fonts (size_of style) box nucleus.delta above below >>= (λ all. make_row (PieceBox (pos 0) all ∷ []))))
      (script_holds (sup_of style) sup a)
      (λ above x. step_holds (SomeLayoutHolds fonts) (RowHolds fonts) (script_box fonts (sub_of style) sub)
      (λ below. limits fonts (size_of style) box nucleus.delta above below >>= (λ all. make_row (PieceBox (pos 0) all ∷ [])))
      (script_holds (sub_of style) sub b)
      (λ below y. step_holds (LayoutHolds fonts) (RowHolds fonts) (limits fonts (size_of style) box nucleus.delta above below)
      (λ all. make_row (PieceBox (pos 0) all ∷ []))
      (limits_hold fonts (size_of style) box nucleus.delta above below k x y)
      (λ all z. row_made (RowHolds fonts) (PieceBox (pos 0) all ∷ []) (z, tt))))))

  beside_scripts : (style : Style) (field : Content) (subscript : Bool) → AreSound fonts → ContentHolds fonts field → IfOk (nucleus_beside_scripts fonts style field subscript) (NucleusHolds fonts)
  beside_scripts style (SymbolContent symbol) subscript sound h = operator_nucleus_holds fonts style symbol subscript
  beside_scripts style (ListContent list) subscript sound h = packed_list_holds fonts list style h
  beside_scripts style (BigContent delim level) subscript sound h = big_nucleus_holds fonts delim level sound
  beside_scripts style _ subscript sound h = tt

  no_limits_row_holds : (style : Style) (field sup sub : Content) → AreSound fonts → ContentHolds fonts field → ContentHolds fonts sup → ContentHolds fonts sub → IfOk (operator_without_limits fonts style field sup sub) (RowHolds fonts)
  no_limits_row_holds style field sup sub sound h a b =
      step_holds (NucleusHolds fonts) (RowHolds fonts) (nucleus_beside_scripts fonts style field (not (is_empty sub)))
      (λ nucleus. nucleus_with_scripts fonts style nucleus sup sub)
      (beside_scripts style field (not (is_empty sub)) sound h)
      (λ nucleus n. with_scripts style nucleus sup sub n a b)

  operator_by : (limited : Bool) (style : Style) (nucleus sup sub : Content) → AreSound fonts → ContentHolds fonts nucleus → ContentHolds fonts sup → ContentHolds fonts sub → IfOk (operator_by_limits limited fonts style nucleus sup sub) (RowHolds fonts)
  operator_by true style nucleus sup sub sound h a b = limits_row_holds style nucleus sup sub sound h a b
  operator_by false style nucleus sup sub sound h a b = no_limits_row_holds style nucleus sup sub sound h a b

  -- ---- atoms of the plain kind

  ordinary_holds : (style : Style) (role : SymbolRole) (nucleus sup sub : Content) → AreSound fonts → ContentHolds fonts nucleus → ContentHolds fonts sup → ContentHolds fonts sub → IfOk (ordinary_row fonts style role nucleus sup sub) (RowHolds fonts)
  ordinary_holds style role nucleus sup sub sound h a b =
      step_holds (NucleusHolds fonts) (RowHolds fonts) (nucleus_row fonts style nucleus role (not (is_empty sub)))
      (λ n. nucleus_with_scripts fonts style n sup sub)
      (nucleus_row_holds fonts style nucleus role (not (is_empty sub)) sound h)
      (λ n k. with_scripts style n sup sub k a b)

  class_holds : (class : Class) (style : Style) (role : SymbolRole) (a : AtomContent) → AreSound fonts → ContentHolds fonts a.nucleus → ContentHolds fonts a.sup → ContentHolds fonts a.sub → IfOk (class_row class fonts style role a) (RowHolds fonts)
  class_holds classes.Op style role a sound h i j = operator_by (uses_limits a.limits style) style a.nucleus a.sup a.sub sound h i j
  class_holds _ style role a sound h i j = ordinary_holds style role a.nucleus a.sup a.sub sound h i j

  -- ---- parts round a nucleus

  clean_then : (style : Style) (nucleus : Content) (next : Layout → Setting Layout) → ContentHolds fonts nucleus → ((body : Layout) → LayoutHolds fonts body → IfOk (next body) (LayoutHolds fonts)) → IfOk (clean_field fonts style nucleus >>= next) (LayoutHolds fonts)
  clean_then style nucleus next h k =
      step_holds (LayoutHolds fonts) (LayoutHolds fonts) (clean_field fonts style nucleus) next (clean_field_holds fonts style nucleus h) k

  radical_part_holds : (style : Style) (sign : Delim) (nucleus : Content) → AreSound fonts → ContentHolds fonts nucleus → IfOk (radical_part fonts style sign nucleus) (LayoutHolds fonts)
  radical_part_holds style sign nucleus sound h =
      clean_then (cramped_of style) nucleus (λ body. radical fonts style sign body) h (λ body k. radical_holds fonts style sign body sound k)

  packed_field_holds : (style : Style) (field : Content) → AreSound fonts → ContentHolds fonts field → IfOk (packed_field fonts style field) (LayoutHolds fonts)
  packed_field_holds style field sound h =
      step_holds (RowHolds fonts) (LayoutHolds fonts) (ordinary_row fonts style OrdinarySymbol field NoContent NoContent) (λ row. pack_row row)
      (ordinary_holds style OrdinarySymbol field NoContent NoContent sound h tt tt) (λ row k. packed_row fonts row k)

  degree_holds : (style : Style) (sign : Delim) (degree : RowByStyle) (body : Content) → AreSound fonts → ListHolds fonts degree → ContentHolds fonts body → IfOk (radical_with_degree fonts style sign degree body) (RowHolds fonts)
  degree_holds style sign degree body sound h k =
      step_holds (LayoutHolds fonts) (RowHolds fonts) (packed_field fonts Ss (ListContent degree))
      (λ box. radical_part fonts (uncramped_of style) sign body >>= (λ radical. root_row fonts style box radical >>= (λ row. make_row row)))
      (packed_field_holds Ss (ListContent degree) sound h)
      (λ box x. step_holds (LayoutHolds fonts) (RowHolds fonts) (radical_part fonts (uncramped_of style) sign body)
      (λ radical. root_row fonts style box radical >>= (λ row. make_row row))
      (radical_part_holds (uncramped_of style) sign body sound k)
      (λ radical y. step_holds (RowHolds fonts) (RowHolds fonts) (root_row fonts style box radical) (λ row. make_row row)
      (root_row_holds fonts style box radical x y)
      (λ row z. row_made (RowHolds fonts) row z)))

  radical_row_holds : (style : Style) (sign : Delim) (nucleus sup sub : Content) → AreSound fonts → ContentHolds fonts nucleus → ContentHolds fonts sup → ContentHolds fonts sub → IfOk (radical_row fonts style sign nucleus sup sub) (RowHolds fonts)
  radical_row_holds style sign (RootContent degree body) sup sub sound h a b = degree_holds style sign degree body sound h.0 h.1
  radical_row_holds style sign other sup sub sound h a b = part_holds style (radical_part fonts style sign other) sup sub (radical_part_holds style sign other sound h) a b

  veil_part_holds : (style : Style) (width height marks : Bool) (nucleus : Content) → AreSound fonts → ContentHolds fonts nucleus → IfOk (veil_part fonts style width height marks nucleus) (LayoutHolds fonts)
  veil_part_holds style width height marks nucleus sound h =
      step_holds (LayoutHolds fonts) (LayoutHolds fonts) (packed_field fonts (uncramped_of style) nucleus) (λ box. Ok (veil_layout width height marks box))
      (packed_field_holds (uncramped_of style) nucleus sound h) (λ box k. veil_holds fonts width height marks box k)

  overline_part_holds : (style : Style) (nucleus : Content) → ContentHolds fonts nucleus → IfOk (overline_part fonts style nucleus) (LayoutHolds fonts)
  overline_part_holds style nucleus h =
      clean_then (cramped_of style) nucleus (λ body. overline fonts (size_of style) body) h (λ body k. overline_holds fonts (size_of style) body k)

  underline_part_holds : (style : Style) (nucleus : Content) → ContentHolds fonts nucleus → IfOk (underline_part fonts style nucleus) (LayoutHolds fonts)
  underline_part_holds style nucleus h =
      clean_then style nucleus (λ body. underline fonts (size_of style) body) h (λ body k. underline_holds fonts (size_of style) body k)

  rows_hold : (lists : List RowByStyle) → ListsHold fonts lists → IfOk (pack_rows lists) (LayoutsHold fonts)
  rows_hold [] h = tt
  rows_hold (list ∷ lists) h =
      step_holds (RowHolds fonts) (LayoutsHold fonts) (list T)
      (λ row. pack_row row >>= (λ box. pack_rows lists >>= (λ boxes. Ok (box ∷ boxes))))
      (h.0 T)
      (λ row x. step_holds (LayoutHolds fonts) (LayoutsHold fonts) (pack_row row)
      (λ box. pack_rows lists >>= (λ boxes. Ok (box ∷ boxes)))
      (packed_row fonts row x)
      (λ box y. step_holds (LayoutsHold fonts) (LayoutsHold fonts) (pack_rows lists) (λ boxes. Ok (box ∷ boxes))
      (rows_hold lists h.1) (λ boxes z. (y, z))))

  vcenter_rows_hold : (style : Style) (rows : List RowByStyle) → ListsHold fonts rows → IfOk (vcenter_rows fonts style rows) (LayoutHolds fonts)
  vcenter_rows_hold style rows h =
      step_holds (LayoutsHold fonts) (LayoutHolds fonts) (pack_rows rows) (λ boxes. vcenter fonts (size_of style) boxes)
      (rows_hold rows h) (λ boxes k. vcenter_holds fonts (size_of style) boxes k)

  columns_hold : (look : Look) (cells : List RowByStyle) → ListsHold fonts cells → ListsHold fonts (cells_in_columns look cells)
  columns_hold Matrix cells h = h
  columns_hold Equations [] h = tt
  columns_hold Equations (left ∷ []) h = h
  columns_hold Equations (left ∷ right ∷ more) h = (h.0, (h.1.0, tt))

  cells_hold : (look : Look) (rows : List (List RowByStyle)) → CellListsHold fonts rows → IfOk (pack_cells look rows) (CellsHold fonts)
  cells_hold look [] h = tt
  cells_hold look (row ∷ rows) h =
      step_holds (LayoutsHold fonts) (CellsHold fonts) (pack_rows (cells_in_columns look row))
      (λ cells. pack_cells look rows >>= (λ others. Ok (cells ∷ others)))
      (rows_hold (cells_in_columns look row) (columns_hold look row h.0))
      (λ cells x. step_holds (CellsHold fonts) (CellsHold fonts) (pack_cells look rows) (λ others. Ok (cells ∷ others))
      (cells_hold look rows h.1) (λ others y. (x, y)))

  table_part_holds : (style : Style) (look : Look) (rows : List (List RowByStyle)) → CellListsHold fonts rows → IfOk (table_part fonts style look rows) (LayoutHolds fonts)
  table_part_holds style Matrix rows h =
      next_holds (LayoutHolds fonts) (table_strut fonts) (λ strut. pack_cells Matrix rows >>= (λ cells. matrix_table fonts (size_of style) strut cells))
      (λ strut. step_holds (CellsHold fonts) (LayoutHolds fonts) (pack_cells Matrix rows) (λ cells. matrix_table fonts (size_of style) strut cells)
      (cells_hold Matrix rows h) (λ cells k. matrix_holds fonts (size_of style) strut cells k))
  table_part_holds style Equations rows h =
      step_holds (CellsHold fonts) (LayoutHolds fonts) (pack_cells Equations rows) (λ cells. equations_table fonts (size_of style) cells)
      (cells_hold Equations rows h) (λ cells k. equations_hold fonts (size_of style) cells k)

  vcenter_part_holds : (style : Style) (nucleus : Content) → ContentHolds fonts nucleus → IfOk (vcenter_part fonts style nucleus) (LayoutHolds fonts)
  vcenter_part_holds style (RowsContent rows) h = vcenter_rows_hold style rows h
  vcenter_part_holds style (TableContent look rows) h = table_part_holds style look rows h
  vcenter_part_holds style _ h = vcenter_rows_hold style [] tt

  -- ---- accents

  outside_holds : (style : Style) (symbol : Symbol) (nucleus sup sub : Content) → ContentHolds fonts nucleus → ContentHolds fonts sup → ContentHolds fonts sub → IfOk (accent_outside fonts style symbol nucleus sup sub) (RowHolds fonts)
  outside_holds style symbol nucleus sup sub h a b =
      let skew = content_skew fonts (size_of style) nucleus in
      step_holds (λ font. ExistsIn fonts font symbol.code) (RowHolds fonts) (find_symbol fonts (size_of style) symbol)
      (λ font. clean_field fonts (cramped_of style) nucleus >>= (λ (plain : Layout). accent fonts font symbol.code skew plain.extents plain >>= (λ box. nucleus_with_scripts fonts style (box_nucleus box) sup sub)))
      (symbol_found fonts symbol (size_of style))
      (λ font there. step_holds (LayoutHolds fonts) (RowHolds fonts) (clean_field fonts (cramped_of style) nucleus)
      (λ (plain : Layout). accent fonts font symbol.code skew plain.extents plain >>= (λ box. nucleus_with_scripts fonts style (box_nucleus box) sup sub))
      (clean_field_holds fonts (cramped_of style) nucleus h)
      (λ (plain : Layout) k. part_holds style (accent fonts font symbol.code skew plain.extents plain) sup sub (accent_holds fonts font symbol.code skew plain.extents plain there k) a b))

  inside_holds : (style : Style) (symbol : Symbol) (nucleus sup sub : Content) → AreSound fonts → ContentHolds fonts nucleus → ContentHolds fonts sup → ContentHolds fonts sub → IfOk (accent_inside fonts style symbol nucleus sup sub) (RowHolds fonts)
  inside_holds style symbol nucleus sup sub sound h a b =
      let skew = content_skew fonts (size_of style) nucleus in
      step_holds (λ font. ExistsIn fonts font symbol.code) (RowHolds fonts) (find_symbol fonts (size_of style) symbol)
      (λ font. clean_field fonts (cramped_of style) nucleus >>= (λ (plain : Layout). ordinary_row fonts style OrdinarySymbol nucleus sup sub >>= (λ row. pack_row row >>= (λ body. accent fonts font symbol.code skew plain.extents body >>= (λ box. make_row (PieceBox (pos 0) box ∷ []))))))
      (symbol_found fonts symbol (size_of style))
      (λ font there. step_holds (LayoutHolds fonts) (RowHolds fonts) (clean_field fonts (cramped_of style) nucleus)
      (λ (plain : Layout). ordinary_row fonts style OrdinarySymbol nucleus sup sub >>= (λ row. pack_row row >>= (λ body. accent fonts font symbol.code skew plain.extents body >>= (λ box. make_row (PieceBox (pos 0) box ∷ [])))))
      (clean_field_holds fonts (cramped_of style) nucleus h)
      (λ (plain : Layout) k. step_holds (RowHolds fonts) (RowHolds fonts) (ordinary_row fonts style OrdinarySymbol nucleus sup sub)
      (λ row. pack_row row >>= (λ body. accent fonts font symbol.code skew plain.extents body >>= (λ box. make_row (PieceBox (pos 0) box ∷ []))))
      (ordinary_holds style OrdinarySymbol nucleus sup sub sound h a b)
      (λ row x. step_holds (LayoutHolds fonts) (RowHolds fonts) (pack_row row)
      (λ body. accent fonts font symbol.code skew plain.extents body >>= (λ box. make_row (PieceBox (pos 0) box ∷ [])))
      (packed_row fonts row x)
      (λ body y. step_holds (LayoutHolds fonts) (RowHolds fonts) (accent fonts font symbol.code skew plain.extents body)
      (λ box. make_row (PieceBox (pos 0) box ∷ []))
      (accent_holds fonts font symbol.code skew plain.extents body there y)
      (λ box z. row_made (RowHolds fonts) (PieceBox (pos 0) box ∷ []) (z, tt))))))

  accent_by : (inside : Bool) (style : Style) (symbol : Symbol) (nucleus sup sub : Content) → AreSound fonts → ContentHolds fonts nucleus → ContentHolds fonts sup → ContentHolds fonts sub → IfOk (accent_by_scripts inside fonts style symbol nucleus sup sub) (RowHolds fonts)
  accent_by true style symbol nucleus sup sub sound h a b = inside_holds style symbol nucleus sup sub sound h a b
  accent_by false style symbol nucleus sup sub sound h a b = outside_holds style symbol nucleus sup sub h a b

  accent_row_holds : (style : Style) (symbol : Symbol) (nucleus sup sub : Content) → AreSound fonts → ContentHolds fonts nucleus → ContentHolds fonts sup → ContentHolds fonts sub → IfOk (accent_row fonts style symbol nucleus sup sub) (RowHolds fonts)
  accent_row_holds style symbol nucleus sup sub sound h a b = accent_by (is_symbol nucleus && not (is_empty sup && is_empty sub)) style symbol nucleus sup sub sound h a b

  -- ---- atoms of all kinds

  kind_holds : (kind : Kind) (style : Style) (role : SymbolRole) (a : AtomContent) → AreSound fonts → ContentHolds fonts a.nucleus → ContentHolds fonts a.sup → ContentHolds fonts a.sub → IfOk (kind_row kind fonts style role a) (RowHolds fonts)
  kind_holds (Plain class) style role a sound h i j = class_holds class style role a sound h i j
  kind_holds (Radical sign) style role a sound h i j =
      radical_row_holds style sign a.nucleus a.sup a.sub sound h i j
  kind_holds (Accent symbol) style role a sound h i j = accent_row_holds style symbol a.nucleus a.sup a.sub sound h i j
  kind_holds Over style role a sound h i j = part_holds style (overline_part fonts style a.nucleus) a.sup a.sub (overline_part_holds style a.nucleus h) i j
  kind_holds Under style role a sound h i j = part_holds style (underline_part fonts style a.nucleus) a.sup a.sub (underline_part_holds style a.nucleus h) i j
  kind_holds Vcenter style role a sound h i j = part_holds style (vcenter_part fonts style a.nucleus) a.sup a.sub (vcenter_part_holds style a.nucleus h) i j
  kind_holds (Veil width height marks) style role a sound h i j =
      part_holds style (veil_part fonts style width height marks a.nucleus) a.sup a.sub (veil_part_holds style width height marks a.nucleus sound h) i j

  -- the three fields of an atom
  abbrev pub AtomHolds : AtomContent → Type 0
  AtomHolds a = ContentHolds fonts a.nucleus × ContentHolds fonts a.sup × ContentHolds fonts a.sub

  pub atom_row_holds : (style : Style) (role : SymbolRole) (a : AtomContent) → AreSound fonts → AtomHolds a → IfOk (atom_row fonts style role a) (RowHolds fonts)
  unfolding atom_row
  atom_row_holds style role a sound h = kind_holds a.kind style role a sound h.0 h.1 h.2

  -- ---- fractions

  abbrev pub FractionHolds : FractionContent → Type 0
  FractionHolds f = ListHolds fonts f.num × ListHolds fonts f.den

  pub fraction_row_holds : (style : Style) (f : FractionContent) → AreSound fonts → FractionHolds f → IfOk (fraction_row fonts style f) (RowHolds fonts)
  unfolding fraction_row
  fraction_row_holds style f sound h =
      let t = unwrap_or f.thickness (default_rule_thickness fonts (size_of style)) in
      step_holds (LayoutHolds fonts) (RowHolds fonts) (clean_list f.num (num_of style))
      (λ num. clean_list f.den (den_of style) >>= (λ den. fraction fonts style t f.left f.right num den >>= (λ box. Ok (PieceBox (pos 0) box ∷ []))))
      (clean_list_holds fonts f.num (num_of style) h.0)
      (λ num x. step_holds (LayoutHolds fonts) (RowHolds fonts) (clean_list f.den (den_of style))
      (λ den. fraction fonts style t f.left f.right num den >>= (λ box. Ok (PieceBox (pos 0) box ∷ [])))
      (clean_list_holds fonts f.den (den_of style) h.1)
      (λ den y. step_holds (LayoutHolds fonts) (RowHolds fonts) (fraction fonts style t f.left f.right num den)
      (λ box. Ok (PieceBox (pos 0) box ∷ []))
      (fraction_holds fonts style t f.left f.right num den sound x y)
      (λ box z. (z, tt))))
