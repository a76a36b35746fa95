-- A radical with its degree, packed (`packed_root`).
use Rattle.mt_family.specs.SetValue.{SetValue}
use Rattle.mt_box.specs.Layout.{Layout}
use Rattle.mt_rules.specs.declared.style.Style.{Style}
use Rattle.mt_rules.specs.Setting.{Setting, ◌>>=◌, pack_row}
use Rattle.mt_rules.specs.Roots.{root_row}

abbrev pub packed_root : SetValue → Style → Layout → Layout → Setting Layout
packed_root fonts style degree radical = do
  row ← root_row fonts style degree radical
  pack_row row
