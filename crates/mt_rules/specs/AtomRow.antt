-- The row that an atom is set to (`atom_row`), and that of a fraction (`fraction_row`; The TeXbook, Appendix G, rules 8 to 18; tex.web,
-- sections 733 to 759).
use Rattle.std.specs.Prelude.{ℕ, ℤ, pos, List, [], ◌∷◌, Bool, true, false, ◌&&◌, not, Option, Some, None, unwrap_or, Ok, if◌then◌else◌}
use Rattle.mt_tfm.specs.Font.{skew_of}
use Rattle.mt_family.specs.declared.size.Size.{Size}
use Rattle.mt_family.specs.declared.size.Size.TheVariants.{Text}
use Rattle.mt_family.specs.SetValue.{SetValue, number_in}
use Rattle.mt_box.specs.declared.extents.Extents.{Extents}
use Rattle.mt_box.specs.Layout.{Layout}
use Rattle.mt_box.specs.Rows.{PieceValue, PieceBox}
use Rattle.mt_rules.specs.declared.class.Class.{Class}
use Rattle.mt_rules.specs.declared.class.Class.TheVariants.{Op}
use Rattle.mt_rules.specs.declared.kind.Kind.{Kind}
use Rattle.mt_rules.specs.declared.kind.Kind.TheVariants.{Plain, Radical, Accent, Over, Under, Vcenter, Veil}
use Rattle.mt_rules.specs.declared.kind.Limits.{Limits}
use Rattle.mt_rules.specs.declared.list.Look.{Look}
use Rattle.mt_rules.specs.declared.list.Look.TheVariants.{Matrix, Equations}
use Rattle.mt_rules.specs.declared.symbol.Symbol.{Symbol}
use Rattle.mt_rules.specs.declared.symbol.Delim.{Delim}
use Rattle.mt_rules.specs.declared.style.Style.{Style}
use Rattle.mt_rules.specs.declared.style.Style.TheVariants.{T, Ss}
use Rattle.mt_rules.specs.Styles.{size_of, sup_of, sub_of, cramped_of, uncramped_of, num_of, den_of}
use Rattle.mt_rules.specs.Setting.{Setting, ◌>>=◌, ◌>>◌, make_row, pack_row, test_extents}
use Rattle.mt_rules.specs.Parameters.{default_rule_thickness}
use Rattle.mt_rules.specs.Symbols.{font_of_number, find_symbol, extents_without_italic}
use Rattle.mt_rules.specs.Scripts.{row_with_scripts}
use Rattle.mt_rules.specs.Limits.{limits}
use Rattle.mt_rules.specs.Fractions.{fraction}
use Rattle.mt_rules.specs.Radicals.{radical}
use Rattle.mt_rules.specs.Roots.{root_row}
use Rattle.mt_rules.specs.Veils.{veil_layout}
use Rattle.mt_rules.specs.Lines.{overline, underline}
use Rattle.mt_rules.specs.Vcenter.{vcenter}
use Rattle.mt_rules.specs.Tables.{matrix_table, equations_table}
use Rattle.mt_rules.specs.Accents.{accent}
use Rattle.mt_rules.specs.Nuclei.{RowByStyle, Content, NoContent, SymbolContent, ListContent, RowsContent, TableContent, RootContent, BigContent, is_empty, SymbolRole, OrdinarySymbol, Nucleus, empty_nucleus, nucleus_row, packed_list, big_nucleus, make_clean, clean_field, clean_list}
use Rattle.mt_rules.specs.Operators.{uses_limits, operator_nucleus}

-- an atom whose fields are what they are set to, by style
pub record AtomContent : Type 0 where
  pub kind : Kind
  -- what is said of its limits, which concerns operators alone
  pub limits : Limits
  pub nucleus : Content
  pub sup : Content
  pub sub : Content

-- ---- scripts

abbrev pub some_box : Setting Layout → Setting (Option Layout)
some_box setting = do
  box ← setting
  Ok (Some box)

-- the clean box of a script, if it is there
abbrev pub script_box : SetValue → Style → Content → Setting (Option Layout)
script_box fonts style field = if is_empty field then Ok None else some_box (clean_field fonts style field)

-- superscript, subscript, both beside the nucleus, the whole row
abbrev pub nucleus_with_scripts : SetValue → Style → Nucleus → Content → Content → Setting (List PieceValue)
nucleus_with_scripts fonts style nucleus sup sub = do
  above ← script_box fonts (sup_of style) sup
  below ← script_box fonts (sub_of style) sub
  row ← row_with_scripts fonts style nucleus.row nucleus.delta above below
  make_row row

abbrev pub box_nucleus : Layout → Nucleus
box_nucleus box = record { row = PieceBox (pos 0) box ∷ []; delta = pos 0 }

abbrev pub part_with_scripts : SetValue → Style → Setting Layout → Content → Content → Setting (List PieceValue)
part_with_scripts fonts style part sup sub = do
  box ← part
  nucleus_with_scripts fonts style (box_nucleus box) sup sub

-- ---- operators

-- with limits, the row of a list is not packed by itself
abbrev pub row_of_list : RowByStyle → Style → Setting Nucleus
row_of_list list style = do
  row ← list style
  Ok (record { row = row; delta = pos 0 })

abbrev pub nucleus_under_limits : SetValue → Style → Content → Setting Nucleus
nucleus_under_limits fonts style (SymbolContent symbol) = operator_nucleus fonts style symbol false
nucleus_under_limits fonts style (ListContent list) = row_of_list list style
nucleus_under_limits fonts style (BigContent delim level) = big_nucleus fonts delim level
nucleus_under_limits fonts style _ = Ok empty_nucleus

-- the nucleus and its clean box, superscript, subscript, the three one above another, the whole row
abbrev pub operator_with_limits : SetValue → Style → Content → Content → Content → Setting (List PieceValue)
operator_with_limits fonts style field sup sub = do
  nucleus ← nucleus_under_limits fonts style field
  box ← make_clean nucleus.row
  above ← script_box fonts (sup_of style) sup
  below ← script_box fonts (sub_of style) sub
  all ← limits fonts (size_of style) box nucleus.delta above below
  make_row (PieceBox (pos 0) all ∷ [])

abbrev pub nucleus_beside_scripts : SetValue → Style → Content → Bool → Setting Nucleus
nucleus_beside_scripts fonts style (SymbolContent symbol) subscript = operator_nucleus fonts style symbol subscript
nucleus_beside_scripts fonts style (ListContent list) subscript = packed_list list style
nucleus_beside_scripts fonts style (BigContent delim level) subscript = big_nucleus fonts delim level
nucleus_beside_scripts fonts style _ subscript = Ok empty_nucleus

abbrev pub operator_without_limits : SetValue → Style → Content → Content → Content → Setting (List PieceValue)
operator_without_limits fonts style field sup sub = do
  nucleus ← nucleus_beside_scripts fonts style field (not (is_empty sub))
  nucleus_with_scripts fonts style nucleus sup sub

abbrev pub operator_by_limits : Bool → SetValue → Style → Content → Content → Content → Setting (List PieceValue)
operator_by_limits true fonts style nucleus sup sub = operator_with_limits fonts style nucleus sup sub
operator_by_limits false fonts style nucleus sup sub = operator_without_limits fonts style nucleus sup sub

abbrev pub operator_row : SetValue → Style → Limits → Content → Content → Content → Setting (List PieceValue)
operator_row fonts style choice nucleus sup sub = operator_by_limits (uses_limits choice style) fonts style nucleus sup sub

-- ---- atoms of the plain kind

abbrev pub ordinary_row : SetValue → Style → SymbolRole → Content → Content → Content → Setting (List PieceValue)
ordinary_row fonts style role field sup sub = do
  nucleus ← nucleus_row fonts style field role (not (is_empty sub))
  nucleus_with_scripts fonts style nucleus sup sub

abbrev pub class_row : Class → SetValue → Style → SymbolRole → AtomContent → Setting (List PieceValue)
class_row Op fonts style role a = operator_row fonts style a.limits a.nucleus a.sup a.sub
class_row _ fonts style role a = ordinary_row fonts style role a.nucleus a.sup a.sub

-- ---- parts round a nucleus: it comes first

abbrev pub radical_part : SetValue → Style → Delim → Content → Setting Layout
radical_part fonts style sign nucleus = do
  body ← clean_field fonts (cramped_of style) nucleus
  radical fonts style sign body

-- an ordinary atom of one field, packed
abbrev pub packed_field : SetValue → Style → Content → Setting Layout
packed_field fonts style field = do
  row ← ordinary_row fonts style OrdinarySymbol field NoContent NoContent
  pack_row row

-- the degree in scriptscript style, then the radical, uncramped, and the kerns round the degree; a root has no scripts
abbrev pub radical_with_degree : SetValue → Style → Delim → RowByStyle → Content → Setting (List PieceValue)
radical_with_degree fonts style sign degree body = do
  degree_box ← packed_field fonts Ss (ListContent degree)
  box ← radical_part fonts (uncramped_of style) sign body
  row ← root_row fonts style degree_box box
  make_row row

abbrev pub radical_row : SetValue → Style → Delim → Content → Content → Content → Setting (List PieceValue)
radical_row fonts style sign (RootContent degree body) sup sub = radical_with_degree fonts style sign degree body
radical_row fonts style sign nucleus sup sub = part_with_scripts fonts style (radical_part fonts style sign nucleus) sup sub

-- uncramped, as an ordinary atom
abbrev pub veil_part : SetValue → Style → Bool → Bool → Bool → Content → Setting Layout
veil_part fonts style width height marks nucleus = do
  box ← packed_field fonts (uncramped_of style) nucleus
  Ok (veil_layout width height marks box)

abbrev pub overline_part : SetValue → Style → Content → Setting Layout
overline_part fonts style nucleus = do
  body ← clean_field fonts (cramped_of style) nucleus
  overline fonts (size_of style) body

abbrev pub underline_part : SetValue → Style → Content → Setting Layout
underline_part fonts style nucleus = do
  body ← clean_field fonts style nucleus
  underline fonts (size_of style) body

-- each row is a formula in text style, packed
abbrev pub pack_rows : List RowByStyle → Setting (List Layout)
pack_rows [] = Ok []
pack_rows (list ∷ lists) = do
  row ← list T
  box ← pack_row row
  boxes ← pack_rows lists
  Ok (box ∷ boxes)

abbrev pub vcenter_rows : SetValue → Style → List RowByStyle → Setting Layout
vcenter_rows fonts style rows = do
  boxes ← pack_rows rows
  vcenter fonts (size_of style) boxes

-- the cells that have a column: equations have two, and what a row has behind its second cell is not set
abbrev pub cells_in_columns : Look → List RowByStyle → List RowByStyle
cells_in_columns Matrix cells = cells
cells_in_columns Equations [] = []
cells_in_columns Equations (left ∷ []) = left ∷ []
cells_in_columns Equations (left ∷ right ∷ more) = left ∷ right ∷ []

-- the cells of a table, row by row: each is a formula in text style, packed
abbrev pub pack_cells : Look → List (List RowByStyle) → Setting (List (List Layout))
pack_cells look [] = Ok []
pack_cells look (row ∷ rows) = do
  cells ← pack_rows (cells_in_columns look row)
  others ← pack_cells look rows
  Ok (cells ∷ others)

-- the extents of the left parenthesis of family 0 at text size (plain TeX's \mathstrut)
abbrev pub table_strut : SetValue → Setting Extents
table_strut fonts = do
  font ← find_symbol fonts Text (record { fam = 0; code = 40 })
  let strut = extents_without_italic (font_of_number fonts font) 40
  test_extents strut
  Ok strut

-- of a matrix the strut comes first; then the cells, the rows and the table
abbrev pub table_part : SetValue → Style → Look → List (List RowByStyle) → Setting Layout
table_part fonts style Matrix rows = do
  strut ← table_strut fonts
  cells ← pack_cells Matrix rows
  matrix_table fonts (size_of style) strut cells
table_part fonts style Equations rows = do
  cells ← pack_cells Equations rows
  equations_table fonts (size_of style) cells

-- what is centred on the axis is rows or a table; the other fields never come, and are set as no rows
abbrev pub vcenter_part : SetValue → Style → Content → Setting Layout
vcenter_part fonts style (RowsContent rows) = vcenter_rows fonts style rows
vcenter_part fonts style (TableContent look rows) = table_part fonts style look rows
vcenter_part fonts style NoContent = vcenter_rows fonts style []
vcenter_part fonts style (SymbolContent symbol) = vcenter_rows fonts style []
vcenter_part fonts style (ListContent list) = vcenter_rows fonts style []
vcenter_part fonts style (RootContent degree body) = vcenter_rows fonts style []
vcenter_part fonts style (BigContent delim level) = vcenter_rows fonts style []

-- ---- accents

-- the skew of a symbol, in the font that its family has at this size
abbrev pub skew_in : SetValue → Option ℕ → ℕ → ℤ
skew_in fonts None c = pos 0
skew_in fonts (Some font) c = skew_of (font_of_number fonts font) c

abbrev pub content_skew : SetValue → Size → Content → ℤ
content_skew fonts size (SymbolContent symbol) = skew_in fonts (number_in fonts.families symbol.fam size) symbol.code
content_skew fonts size _ = pos 0

-- the scripts belong to the atom
abbrev pub accent_outside : SetValue → Style → Symbol → Content → Content → Content → Setting (List PieceValue)
accent_outside fonts style symbol nucleus sup sub = do
  font ← find_symbol fonts (size_of style) symbol
  plain ← clean_field fonts (cramped_of style) nucleus
  box ← accent fonts font symbol.code (content_skew fonts (size_of style) nucleus) plain.extents plain
  nucleus_with_scripts fonts style (box_nucleus box) sup sub

-- the scripts belong to the symbol under the accent, which is set again with them
abbrev pub accent_inside : SetValue → Style → Symbol → Content → Content → Content → Setting (List PieceValue)
accent_inside fonts style symbol nucleus sup sub = do
  font ← find_symbol fonts (size_of style) symbol
  plain ← clean_field fonts (cramped_of style) nucleus
  row ← ordinary_row fonts style OrdinarySymbol nucleus sup sub
  body ← pack_row row
  box ← accent fonts font symbol.code (content_skew fonts (size_of style) nucleus) plain.extents body
  make_row (PieceBox (pos 0) box ∷ [])

abbrev pub accent_by_scripts : Bool → SetValue → Style → Symbol → Content → Content → Content → Setting (List PieceValue)
accent_by_scripts true fonts style symbol nucleus sup sub = accent_inside fonts style symbol nucleus sup sub
accent_by_scripts false fonts style symbol nucleus sup sub = accent_outside fonts style symbol nucleus sup sub

abbrev pub is_symbol : Content → Bool
is_symbol (SymbolContent symbol) = true
is_symbol _ = false

abbrev pub accent_row : SetValue → Style → Symbol → Content → Content → Content → Setting (List PieceValue)
accent_row fonts style symbol nucleus sup sub =
    accent_by_scripts (is_symbol nucleus && not (is_empty sup && is_empty sub)) fonts style symbol nucleus sup sub

-- ---- atoms of all kinds

-- the row of an atom by its kind: its limits concern operators alone, and its role is that of a symbol as its nucleus
abbrev pub kind_row : Kind → SetValue → Style → SymbolRole → AtomContent → Setting (List PieceValue)
kind_row (Plain class) fonts style role a = class_row class fonts style role a
kind_row (Radical sign) fonts style role a = radical_row fonts style sign a.nucleus a.sup a.sub
kind_row (Accent symbol) fonts style role a = accent_row fonts style symbol a.nucleus a.sup a.sub
kind_row Over fonts style role a = part_with_scripts fonts style (overline_part fonts style a.nucleus) a.sup a.sub
kind_row Under fonts style role a = part_with_scripts fonts style (underline_part fonts style a.nucleus) a.sup a.sub
kind_row Vcenter fonts style role a = part_with_scripts fonts style (vcenter_part fonts style a.nucleus) a.sup a.sub
kind_row (Veil width height marks) fonts style role a =
    part_with_scripts fonts style (veil_part fonts style width height marks a.nucleus) a.sup a.sub

unfoldable pub atom_row : SetValue → Style → SymbolRole → AtomContent → Setting (List PieceValue)
atom_row fonts style role a = kind_row a.kind fonts style role a

-- ---- fractions

pub record FractionContent : Type 0 where
  -- None is the thickness of the font's rules
  pub thickness : Option ℤ
  pub left : Delim
  pub right : Delim
  pub num : RowByStyle
  pub den : RowByStyle

-- numerator, denominator, then the fraction
unfoldable pub fraction_row : SetValue → Style → FractionContent → Setting (List PieceValue)
fraction_row fonts style f = do
  num ← clean_list f.num (num_of style)
  den ← clean_list f.den (den_of style)
  box ← fraction fonts style (unwrap_or f.thickness (default_rule_thickness fonts (size_of style))) f.left f.right num den
  Ok (PieceBox (pos 0) box ∷ [])
