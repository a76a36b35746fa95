use Rattle.std.proofs.Common.{◌≡◌, None, rules, ◌∙◌, ap, map}
use Rattle.mt_family.specs.Sets.{set_fault}
use Rattle.mt_samples.specs.FontSet.{toy_set, toy_font}
use Rattle.mt_samples.proofs.SetReadings.{toy_loaded, toy_set_passes}
use Rattle.mt_samples.proofs.font_set.toy_fonts.Goals as goal

pub build-requires : goal.build-requires
build-requires c =
    let lines : c.list.inside.lines ≡ toy_set.lines = search rules in
    let fonts : c.in_ok-fonts.fonts ≡ toy_set.fonts = c.in_ok-fonts.ensures ∙ ap (map toy_font) (c.as_slice.ensures ∙ lines) in
    rw (fonts, c.in_ok-list.ensures) toy_loaded

pub unreachable-requires : goal.unreachable-requires
unreachable-requires c =
    let lines : c.list.inside.lines ≡ toy_set.lines = search rules in
    let fonts : c.in_ok-fonts.fonts ≡ toy_set.fonts = c.in_ok-fonts.ensures ∙ ap (map toy_font) (c.as_slice.ensures ∙ lines) in
    let passes : set_fault c.in_ok-list.list c.in_ok-fonts.fonts ≡ None = rw (fonts, c.in_ok-list.ensures) toy_set_passes in
    search (rules, passes)
