-- The fields of an atom (`atom_content`) and of a fraction, with each list in them as what it is set to.
use Rattle.std.specs.Prelude.{ℤ, List, Option}
use Rattle.mt_family.specs.SetValue.{SetValue}
use Rattle.mt_rules.specs.declared.kind.Kind.{Kind}
use Rattle.mt_rules.specs.declared.kind.Limits.{Limits}
use Rattle.mt_rules.specs.declared.symbol.Delim.{Delim}
use Rattle.mt_rules.specs.Sequence.{Sequence, Part, sequence_size}
use Rattle.mt_rules.specs.declared.style.Style.{Style}
use Rattle.mt_arena.specs.declared.thing.Cell.{Cell}
use Rattle.mt_arena.specs.declared.thing.Noad.{Noad}
use Rattle.mt_arena.specs.declared.thing.FractionNoad.{FractionNoad}
use Rattle.mt_arena.specs.Arena.{Held, cell_part, sequence_in}
use Rattle.mt_rules.specs.Setting.{Setting}
use Rattle.mt_box.specs.Rows.{PieceValue}
use Rattle.mt_rules.specs.Nuclei.{RowByStyle, Content, SymbolRole}
use Rattle.mt_rules.specs.AtomRow.{AtomContent, FractionContent, atom_row, fraction_row}
use Rattle.mt_convert.specs.ListRow.{row_of_items, items_of, content_of}

-- a list inside an item
abbrev pub list_content : SetValue → Sequence → RowByStyle
list_content fonts list = row_of_items fonts (sequence_size list) (items_of fonts list)

abbrev pub atom_content : SetValue → Kind → Limits → Part → Part → Part → AtomContent
atom_content fonts kind limits nucleus sup sub = record {
  kind = kind;
  limits = limits;
  nucleus = content_of fonts nucleus;
  sup = content_of fonts sup;
  sub = content_of fonts sub;
}

abbrev pub fraction_content : SetValue → Option ℤ → Delim → Delim → Sequence → Sequence → FractionContent
fraction_content fonts thickness left right num den = record {
  thickness = thickness;
  left = left;
  right = right;
  num = list_content fonts num;
  den = list_content fonts den;
}

-- ---- in an arena

abbrev pub field_content : SetValue → List Held → Cell → Content
field_content fonts es field = content_of fonts (cell_part es field)

abbrev pub atom_row_of : SetValue → List Held → Style → SymbolRole → Noad → Setting (List PieceValue)
atom_row_of fonts es style role a =
    atom_row fonts style role (atom_content fonts a.kind a.limits
    (cell_part es a.nucleus) (cell_part es a.sup) (cell_part es a.sub))

abbrev pub fraction_row_of : SetValue → List Held → Style → FractionNoad → Setting (List PieceValue)
fraction_row_of fonts es style f =
    fraction_row fonts style (fraction_content fonts f.thickness f.left f.right (sequence_in es f.num) (sequence_in es f.den))
