-- A row whose extents are in range is refused only where memory runs out.
use Rattle.std.proofs.Common.{◌≡◌, refl, sym, ◌∙◌, IfErr, Some, None, ℤ, Result, Ok, Err}
use Rattle.mt_display.proofs.Common.{BoxValue, Layout, ExtentsInRange, PackError, OutOfMemory}
use Rattle.mt_box.specs.Packs.{Packs}
use Rattle.mt_box.specs.declared.error.PackError.TheVariants.{Overflow}
use Rattle.mt_rules.proofs.Answering.{first_out-none}

different : (value : ℤ) → None ≡ Some value → ⊥
different value e = cc

pub memory_alone : (l : Layout) (r : Result BoxValue PackError) → ExtentsInRange l.extents → Packs l r → IfErr r (λ e. e ≡ OutOfMemory)
memory_alone l (Ok b) h packs = tt
memory_alone l (Err (Overflow value)) h packs = absurd (different value (sym (first_out-none l.extents h) ∙ packs))
memory_alone l (Err OutOfMemory) h packs = refl
