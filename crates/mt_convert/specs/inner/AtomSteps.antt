-- The nucleus that an atom of each kind is set to, before its scripts (`kind_nucleus`), and the last steps of an atom.
use Rattle.std.specs.Prelude.{ℤ, pos, ◌∷◌, [], Bool, false, not, List, Option, Ok}
use Rattle.mt_family.specs.declared.size.Size.{Size}
use Rattle.mt_family.specs.SetValue.{SetValue}
use Rattle.mt_box.specs.Layout.{Layout}
use Rattle.mt_box.specs.Rows.{PieceValue, PieceBox}
use Rattle.mt_rules.specs.declared.class.Class.{Class}
use Rattle.mt_rules.specs.declared.class.Class.TheVariants.{Op}
use Rattle.mt_rules.specs.declared.kind.Kind.{Kind}
use Rattle.mt_rules.specs.declared.kind.Kind.TheVariants.{Plain, Radical, Accent, Over, Under, Vcenter, Veil}
use Rattle.mt_rules.specs.declared.style.Style.{Style}
use Rattle.mt_rules.specs.declared.symbol.Symbol.{Symbol}
use Rattle.mt_rules.specs.Styles.{size_of, cramped_of, sup_of, sub_of}
use Rattle.mt_rules.specs.Setting.{Setting, ◌>>=◌, empty_layout, make_row, pack_row}
use Rattle.mt_rules.specs.Symbols.{find_symbol}
use Rattle.mt_rules.specs.Scripts.{row_with_scripts}
use Rattle.mt_rules.specs.Limits.{limits}
use Rattle.mt_rules.specs.Accents.{accent}
use Rattle.mt_rules.specs.Roots.{root_row}
use Rattle.mt_rules.specs.Nuclei.{RowByStyle, Content, SymbolRole, OrdinarySymbol, Nucleus, is_empty, symbol_nucleus, nucleus_row, clean_field, make_clean}
use Rattle.mt_rules.specs.AtomRow.{box_nucleus, nucleus_beside_scripts, radical_part, overline_part, underline_part, vcenter_part, veil_part, content_skew, nucleus_under_limits, script_box}

abbrev pub as_nucleus : Setting Layout → Setting Nucleus
as_nucleus part = do
  box ← part
  Ok (box_nucleus box)

-- an accent over a nucleus whose scripts belong to the whole
abbrev pub accent_part : SetValue → Style → Symbol → Content → Setting Layout
accent_part fonts style symbol nucleus = do
  font ← find_symbol fonts (size_of style) symbol
  plain ← clean_field fonts (cramped_of style) nucleus
  accent fonts font symbol.code (content_skew fonts (size_of style) nucleus) plain.extents plain

abbrev pub class_nucleus : Class → SetValue → Style → SymbolRole → Content → Bool → Setting Nucleus
class_nucleus Op fonts style role nucleus subscript = nucleus_beside_scripts fonts style nucleus subscript
class_nucleus _ fonts style role nucleus subscript = nucleus_row fonts style nucleus role subscript

-- the last argument says whether the atom has a subscript
abbrev pub kind_nucleus : Kind → SetValue → Style → SymbolRole → Content → Bool → Setting Nucleus
kind_nucleus (Plain class) fonts style role nucleus subscript = class_nucleus class fonts style role nucleus subscript
kind_nucleus (Radical sign) fonts style role nucleus subscript = as_nucleus (radical_part fonts style sign nucleus)
kind_nucleus (Accent symbol) fonts style role nucleus subscript = as_nucleus (accent_part fonts style symbol nucleus)
kind_nucleus Over fonts style role nucleus subscript = as_nucleus (overline_part fonts style nucleus)
kind_nucleus Under fonts style role nucleus subscript = as_nucleus (underline_part fonts style nucleus)
kind_nucleus Vcenter fonts style role nucleus subscript = as_nucleus (vcenter_part fonts style nucleus)
kind_nucleus (Veil width height marks) fonts style role nucleus subscript =
    as_nucleus (veil_part fonts style width height marks nucleus)

-- the box of an atom of any kind but the plain one
abbrev pub part_box : Kind → SetValue → Style → Content → Setting Layout
part_box (Plain class) fonts style nucleus = Ok empty_layout
part_box (Radical sign) fonts style nucleus = radical_part fonts style sign nucleus
part_box (Accent symbol) fonts style nucleus = accent_part fonts style symbol nucleus
part_box Over fonts style nucleus = overline_part fonts style nucleus
part_box Under fonts style nucleus = underline_part fonts style nucleus
part_box Vcenter fonts style nucleus = vcenter_part fonts style nucleus
part_box (Veil width height marks) fonts style nucleus = veil_part fonts style width height marks nucleus

-- the row of a list, packed
abbrev pub list_box : RowByStyle → Style → Setting Layout
list_box list style = do
  row ← list style
  pack_row row

-- ---- an operator under limits

pub record BoxWithItalic : Type 0 where
  pub box : Layout
  pub delta : ℤ

-- the clean box of its nucleus
abbrev pub operator_box : SetValue → Style → Content → Setting BoxWithItalic
operator_box fonts style field = do
  nucleus ← nucleus_under_limits fonts style field
  box ← make_clean nucleus.row
  Ok (record { box = box; delta = nucleus.delta })

-- ---- what is made of parts that are set

abbrev pub row_beside : SetValue → Style → Nucleus → Option Layout → Option Layout → Setting (List PieceValue)
row_beside fonts style nucleus above below = do
  row ← row_with_scripts fonts style nucleus.row nucleus.delta above below
  make_row row

-- a symbol that is no operator, without scripts
abbrev pub symbol_row : SetValue → Style → SymbolRole → Symbol → Setting (List PieceValue)
symbol_row fonts style role symbol = symbol_nucleus fonts (size_of style) symbol role false >>= (λ nucleus. make_row nucleus.row)

abbrev pub row_between : SetValue → Size → Layout → ℤ → Option Layout → Option Layout → Setting (List PieceValue)
row_between fonts size box delta above below = do
  all ← limits fonts size box delta above below
  make_row (PieceBox (pos 0) all ∷ [])

abbrev pub row_of_box : Layout → Setting (List PieceValue)
row_of_box box = make_row (PieceBox (pos 0) box ∷ [])

-- a degree and its radical
abbrev pub row_of_root : SetValue → Style → Layout → Layout → Setting (List PieceValue)
row_of_root fonts style degree radical = do
  row ← root_row fonts style degree radical
  make_row row

-- scripts, which are set now
abbrev pub row_with_fields : SetValue → Style → Nucleus → Content → Content → Setting (List PieceValue)
row_with_fields fonts style nucleus sup sub = do
  above ← script_box fonts (sup_of style) sup
  below ← script_box fonts (sub_of style) sub
  row_beside fonts style nucleus above below

abbrev pub row_with_limits : SetValue → Style → BoxWithItalic → Content → Content → Setting (List PieceValue)
row_with_limits fonts style operator sup sub = do
  above ← script_box fonts (sup_of style) sup
  below ← script_box fonts (sub_of style) sub
  row_between fonts (size_of style) operator.box operator.delta above below

-- the box of an ordinary symbol with its scripts
abbrev pub symbol_with_scripts : SetValue → Style → Symbol → Content → Content → Setting Layout
symbol_with_scripts fonts style symbol sup sub = do
  nucleus ← symbol_nucleus fonts (size_of style) symbol OrdinarySymbol (not (is_empty sub))
  row ← row_with_fields fonts style nucleus sup sub
  pack_row row

-- an operator that is set now, with its scripts above and below it
abbrev pub under_limits : SetValue → Style → Content → Content → Content → Setting (List PieceValue)
under_limits fonts style nucleus sup sub = operator_box fonts style nucleus >>= (λ o. row_with_limits fonts style o sup sub)

abbrev pub lone_box : Setting Layout → Setting (List PieceValue)
lone_box part = do
  box ← part
  Ok (PieceBox (pos 0) box ∷ [])
