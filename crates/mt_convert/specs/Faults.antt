-- The faults of boxes and of parts as faults of a math list (`FaultFromPacking`, `FaultFromPart`).
use Rattle.std.specs.Prelude.{◌≡◌}
use Rattle.mt_box.specs.declared.error.PackError.{PackError}
use Rattle.mt_box.specs.declared.error.PackError.TheVariants.{Overflow as PackOverflow, OutOfMemory as NoPackMemory}
use Rattle.mt_rules.specs.declared.part_error.PartError.{PartError}
use Rattle.mt_rules.specs.declared.part_error.PartError.TheVariants.{Overflow as PartOverflow, TooTall as PartTooTall, OutOfMemory as NoPartMemory}
use Rattle.mt_convert.specs.declared.fault.SetFault.{SetFault}
use Rattle.mt_convert.specs.declared.fault.SetFault.TheVariants.{Overflow, TooTall, OutOfMemory}

abbrev pub FaultFromPacking : PackError → SetFault → Type 0
FaultFromPacking (PackOverflow value) fault = fault ≡ Overflow value
FaultFromPacking NoPackMemory fault = fault ≡ OutOfMemory

abbrev pub FaultFromPart : PartError → SetFault → Type 0
FaultFromPart (PartOverflow value) fault = fault ≡ Overflow value
FaultFromPart (PartTooTall n) fault = fault ≡ TooTall n
FaultFromPart NoPartMemory fault = fault ≡ OutOfMemory
