-- The first pass (`first_pass_of`): the items of the flat list are set in order, up to the first fault (The TeXbook,
-- Appendix G, rules 1 to 18; tex.web, sections 726 to 759).
use Rattle.std.specs.Prelude.{ℕ, ℤ, List, [], ◌∷◌, Ok}
use Rattle.mt_family.specs.SetValue.{SetValue}
use Rattle.mt_rules.specs.declared.class.Class.TheVariants.{Inner}
use Rattle.mt_rules.specs.declared.style.Style.{Style}
use Rattle.mt_rules.specs.declared.symbol.Glue.{Glue}
use Rattle.mt_rules.specs.Classes.{kind_class, forward_of}
use Rattle.mt_rules.specs.Setting.{Setting, ◌>>=◌, ◌>>◌, test_value}
use Rattle.mt_rules.specs.MathUnits.{in_points}
use Rattle.mt_rules.specs.AtomRow.{atom_row, fraction_row}
use Rattle.mt_convert.specs.declared.flat.current.Current.{Current}
use Rattle.mt_convert.specs.Current.{opening}
use Rattle.mt_convert.specs.Contents.{ItemContents}
use Rattle.mt_convert.specs.Flat.{FlatItem, FlatAtom, FlatFraction, FlatLeft, FlatMiddle, FlatRight, FlatStyle, FlatMuSpace, FlatSpace, FlatMuKern, FlatKern, current_after_item, flat}
use Rattle.mt_convert.specs.Halves.{HalfValue, HalfAtom, HalfLeft, HalfMiddle, HalfRight, HalfStyle, HalfKern, HalfSpace, Halves, settle}

-- ---- spaces and kerns

abbrev pub glue_in_points : SetValue → Style → Glue → Glue
glue_in_points fonts style glue =
    record { width = in_points fonts style glue.width; shrink = in_points fonts style glue.shrink }

-- width, then shrink
abbrev pub make_space : Glue → Setting HalfValue
make_space glue = do
  test_value glue.width
  test_value glue.shrink
  Ok (HalfSpace glue)

abbrev pub make_kern : ℤ → Setting HalfValue
make_kern amount = do
  test_value amount
  Ok (HalfKern amount)

-- ---- items in order

abbrev pub set_item : SetValue → Current → FlatItem → Setting HalfValue
set_item fonts current (FlatAtom role a) = do
  row ← atom_row fonts current.style role a
  Ok (HalfAtom (forward_of current.last (kind_class a.kind)) row)
set_item fonts current (FlatFraction f) = do
  row ← fraction_row fonts current.style f
  Ok (HalfAtom Inner row)
set_item fonts current (FlatLeft delim) = Ok (HalfLeft delim)
set_item fonts current (FlatMiddle delim) = Ok (HalfMiddle delim)
set_item fonts current (FlatRight delim) = Ok (HalfRight delim)
set_item fonts current (FlatStyle style) = Ok (HalfStyle style)
set_item fonts current (FlatMuSpace glue) = make_space (glue_in_points fonts current.style glue)
set_item fonts current (FlatSpace glue) = make_space glue
set_item fonts current (FlatMuKern amount) = make_kern (in_points fonts current.style amount)
set_item fonts current (FlatKern amount) = make_kern amount

abbrev pub set_items : SetValue → Current → List FlatItem → Setting (List HalfValue)
set_items fonts current [] = Ok []
set_items fonts current (item ∷ items) = do
  half ← set_item fonts current item
  halves ← set_items fonts (current_after_item current item) items
  Ok (half ∷ halves)

-- then the classes are settled, and the atoms measured
unfoldable pub first_pass_of : SetValue → ℕ → Style → ItemContents → Setting Halves
first_pass_of fonts turns style items = do
  halves ← set_items fonts (opening style) (flat fonts turns (opening style) items)
  Ok (settle halves)
