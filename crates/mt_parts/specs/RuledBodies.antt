-- A body under a rule, whose test comes first (`ruled_body`).
use Rattle.std.specs.Prelude.{ℤ, pos}
use Rattle.std.specs.Int.{int_max}
use Rattle.mt_box.specs.Layout.{Layout}
use Rattle.mt_rules.specs.Setting.{Setting, ◌>>◌, make_box, test_rule}
use Rattle.mt_rules.specs.Radicals.{under_rule}

abbrev pub ruled_body : ℤ → ℤ → Layout → Setting Layout
ruled_body height thickness body = do
  test_rule (int_max (pos 0) body.extents.width) thickness
  make_box (under_rule height thickness body)
