-- Which coordinates a page has (`in_reach`).
use Rattle.std.specs.Prelude.{ℤ, Option, Some, None, if◌then◌else◌}
use Rattle.mt_dvi.specs.Machine.{is_far}

-- a coordinate, if it is in range
abbrev pub in_reach : ℤ → Option ℤ
in_reach z = if is_far z then None else Some z
