use Rattle.std.proofs.Common.{◌≡◌, map, take}
use Rattle.mt_samples.specs.FontSet.{toy_font}
use Rattle.mt_samples.proofs.font_set.read_fonts.Given as goal

abbrev pub invariant-loop-line : goal.invariant-loop-line
invariant-loop-line l = l.fonts.items ≡ map toy_font (take l.line-index l.lines)
