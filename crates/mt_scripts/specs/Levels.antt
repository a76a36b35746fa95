-- The level of a script.
use Rattle.std.specs.Prelude.{ℕ, Option, Some, None}
use Rattle.mt_box.specs.Layout.{BoxValue}

-- 0 where it is absent
abbrev pub script_level : Option BoxValue → ℕ
script_level None = 0
script_level (Some b) = b.level
