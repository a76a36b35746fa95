-- The spaces as the code names them.
use Rattle.mt_rules.specs.Spaces.{Spacing, NoSpacing, ThinSpacing, MediumSpacing, ThickSpacing}
use Rattle.mt_spacing.specs.declared.gap.Gap.{Gap}
use Rattle.mt_spacing.specs.declared.gap.Gap.TheVariants.{None, Thin, Medium, Thick}

abbrev pub gap_of : Spacing → Gap
gap_of NoSpacing = None
gap_of ThinSpacing = Thin
gap_of MediumSpacing = Medium
gap_of ThickSpacing = Thick

abbrev pub spacing_of : Gap → Spacing
spacing_of None = NoSpacing
spacing_of Thin = ThinSpacing
spacing_of Medium = MediumSpacing
spacing_of Thick = ThickSpacing
