use Rattle.std.proofs.Common.{refl}
use Rattle.mt_scan.specs.declared.role.FieldKind.TheVariants.{Class}
use Rattle.mt_rules.specs.declared.class.Class.TheVariants.{Ord}
use Rattle.mt_formula.proofs.Arenas.{field_noad}
use Rattle.mt_formula.proofs.reading.whole_list.group_noad.Goals as goal

pub returns-in_ok-nucleus_of-in_default-clause-kept : goal.returns-in_ok-nucleus_of-in_default-clause-kept
returns-in_ok-nucleus_of-in_default-clause-kept c =
    rw (c.plain_noad.ensures) (record { kept = field_noad _ (Class Ord) _ c.in_ok-nucleus_of-in_default.ensures.kept; takes = refl })
