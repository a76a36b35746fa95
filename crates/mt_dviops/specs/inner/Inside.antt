-- Where a page that is kept lies (`IsInside`).
use Rattle.std.specs.Prelude.{ℕ, ◌+◌, ◌-◌, ◌≤◌, List, length}
use Rattle.mt_dvi.specs.Codes.{bytes_from}
use Rattle.mt_dviops.specs.declared.copies.CopiedPage.{CopiedPage}

-- its counts in the bytes of its file, and its body in these bodies
pub record IsInside (bytes bodies : List ℕ) (kept : CopiedPage) : Type 0 where
  pub there : kept.counts + 40 ≤ length bytes
  pub ordered : kept.start ≤ kept.end
  pub inside : kept.end ≤ length bodies

-- the bytes from one offset to another
abbrev pub bytes_between : ℕ → ℕ → List ℕ → List ℕ
bytes_between from to bytes = bytes_from from (to - from) bytes
