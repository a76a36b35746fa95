-- A rule over a body and under it, on marks.
use Rattle.std.proofs.Common.{◌≡◌, List, ℤ, pos, ◌+ℤ◌, ◌*ℤ◌, ◌++◌, refl, arith, ap, subst, Result}
use Rattle.std.proofs.lemmas.Int.{ints}
use Rattle.std.specs.Int.{int_max}
use Rattle.mt_family.specs.SetValue.{SetValue}
use Rattle.mt_family.specs.declared.size.Size.{Size}
use Rattle.mt_box.specs.declared.place.Place.{Place}
use Rattle.mt_box.specs.declared.extents.Extents.{Extents}
use Rattle.mt_box.specs.Layout.{Layout, rule_places}
use Rattle.mt_box.proofs.Equalities.{extents_eq, layout_eq}
use Rattle.mt_rules.specs.declared.part_error.PartError.{PartError}
use Rattle.mt_rules.specs.Setting.{◌>>◌, test_rule, make_box}
use Rattle.mt_rules.specs.OnMarks.{SetsOn}
use Rattle.mt_rules.specs.Parameters.{default_rule_thickness}
use Rattle.mt_rules.specs.Lines.{overline_layout, overline}
use Rattle.mt_rules.specs.Radicals.{under_rule}
use Rattle.mt_parts.specs.RuledBodies.{ruled_body}

over_layout : (t bottom : ℤ) (b : Layout) → bottom ≡ b.extents.height +ℤ (pos 3 *ℤ t) → under_rule bottom t b ≡ overline_layout t b
over_layout t bottom b e =
    let high : bottom +ℤ (pos 2 *ℤ t) ≡ b.extents.height +ℤ (pos 5 *ℤ t) = omega (arith, ints, e) in
    layout_eq (extents_eq refl high refl) (ap (λ z. rule_places (pos 0) z t (int_max (pos 0) b.extents.width) ++ b.places) e)

-- a body under a rule, with the gap of an overline
pub overlined : (fonts : SetValue) (size : Size) (t bottom : ℤ) (b : Layout) (r : Result Extents PartError) (ps : List Place)
    → t ≡ default_rule_thickness fonts size → bottom ≡ b.extents.height +ℤ (pos 3 *ℤ t)
    → SetsOn r ps (ruled_body bottom t b) → SetsOn r ps (overline fonts size b)
unfolding overline
overlined fonts size t bottom b r ps e f h =
    rw (← e) (subst (λ l. SetsOn r ps (test_rule (int_max (pos 0) b.extents.width) t >> make_box l)) (over_layout t bottom b f) h)
