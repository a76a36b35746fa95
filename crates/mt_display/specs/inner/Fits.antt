-- What the code's widths mean, and the rows that are placed.
use Rattle.std.specs.Prelude.{ℤ, ◌+◌, ◌^◌, Option, Some, None}
use Rattle.mt_scaled.specs.Number.{Within}
use Rattle.mt_scaled.specs.declared.length.Length.{Length}
use Rattle.mt_display.specs.declared.fit.Fit.{Fit as FitFields}
use Rattle.mt_display.specs.declared.fit.Widths.{Widths}
use Rattle.mt_display.specs.declared.slot.Slot.{Slot}
use Rattle.mt_display.specs.Displays.{Fit}

abbrev pub target_value : Option Length → Option ℤ
target_value None = None
target_value (Some t) = Some t.sp

abbrev pub fit_value : FitFields → Fit
fit_value f = record { target = target_value f.target; e = f.e.sp }

pub record AreWidths (m : Widths) : Type 0 where
  pub z : Within (2 ^ 30) m.z.sp
  pub w : Within (2 ^ 61) m.w.sp
  pub s : Within (2 ^ 61) m.s.sp
  pub e : Within (2 ^ 61) m.e.sp
  pub q : Within (2 ^ 61 + 2 ^ 31) m.q.sp

-- all are in range
pub record IsSmallSlot (slot : Slot) : Type 0 where
  pub z : Within (2 ^ 30) slot.z.sp
  pub w : Within (2 ^ 30) slot.w.sp
  pub e : Within (2 ^ 30) slot.e.sp
