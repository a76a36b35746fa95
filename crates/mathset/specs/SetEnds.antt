-- How a run of `set` ends (`SetsAs`), and what its output got then.
use Rattle.std.specs.Prelude.{◌≡◌, ℕ, List, Option, Result, Ok, Err}
use Rattle.mt_outside.specs.Appends.{Appends}
use Rattle.mt_dvi.specs.Lean.{Lean}
use Rattle.mt_dvi.specs.Written.{Written}
use Rattle.mt_pages.specs.Typeset.{TypesetValue}
use Rattle.mt_status.specs.declared.status.Status.{Status}
use Rattle.mt_status.specs.declared.status.Status.TheVariants.{Done}

-- a sink that told `before` and tells `now` got one DVI file of exactly these pages
pub record GotFile (typeset : TypesetValue) (before now : Option (List ℕ)) : Type 0 where
  pub bytes : List ℕ
  pub written : Written typeset.fonts bytes typeset.pages
  pub appended : Appends before now bytes

-- the same, and the file is lean
pub record GotLeanFile (typeset : TypesetValue) (before now : Option (List ℕ)) : Type 0 where
  pub bytes : List ℕ
  pub written : Written typeset.fonts bytes typeset.pages
  pub lean : Lean typeset.fonts bytes
  pub appended : Appends before now bytes

-- The headline, for a source to be set: the status is its first refusal and the output is as it was; or it is Done, and the output
-- got one DVI file of exactly these pages.
abbrev pub SetsAs : Result TypesetValue Status → Option (List ℕ) → Option (List ℕ) → Status → Type 0
SetsAs (Ok typeset) before now status = (status ≡ Done) × GotFile typeset before now
SetsAs (Err refusal) before now status = (status ≡ refusal) × (now ≡ before)

-- no step refused, and the output got one DVI file of exactly these pages, which is lean
abbrev pub WritesLean : Result TypesetValue Status → Option (List ℕ) → Option (List ℕ) → Type 0
WritesLean (Ok typeset) before now = GotLeanFile typeset before now
WritesLean (Err refusal) before now = ⊥
