-- Fractions on marks: numerator and denominator in the middle of one width.
use Rattle.std.proofs.Common.{◌≡◌, List, ℤ, pos, ◌∙◌, ap, subst, if◌then◌else◌, Result, int_eq}
use Rattle.std.specs.Int.{int_max}
use Rattle.mt_family.specs.SetValue.{SetValue}
use Rattle.mt_box.specs.declared.place.Place.{Place}
use Rattle.mt_box.specs.declared.extents.Extents.{Extents}
use Rattle.mt_box.specs.Layout.{Layout}
use Rattle.mt_box.specs.Boxes.{rebox}
use Rattle.mt_box.specs.marks.Recentred.{recentred_extents, recentred_places}
use Rattle.mt_box.proofs.layers.Centred.{recentred_is}
use Rattle.mt_rules.specs.declared.part_error.PartError.{PartError}
use Rattle.mt_rules.specs.declared.style.Style.{Style}
use Rattle.mt_rules.specs.Setting.{Setting, make_box}
use Rattle.mt_rules.specs.OnMarks.{SetsOn, layout_with}
use Rattle.mt_rules.specs.Fractions.{layout_without_rule, box_with_rule, fraction_body}

recentred_layout : (e e' : Extents) (width wide : ℤ) (ps : List Place) → e' ≡ recentred_extents e width → width ≡ wide → layout_with e' (recentred_places e width ps) ≡ rebox (layout_with e ps) wide
recentred_layout e e' width wide ps h w =
    ap (λ f. layout_with f (recentred_places e width ps)) h ∙ (recentred_is e width ps ∙ ap (λ z. rebox (layout_with e ps) z) w)

pub body_made : (fonts : SetValue) (style : Style) (t width : ℤ) (num den num' den' : Extents) (n d : List Place) (r : Result Extents PartError) (ps : List Place)
    → width ≡ int_max num.width den.width → num' ≡ recentred_extents num width → den' ≡ recentred_extents den width
    → SetsOn r ps (if int_eq t (pos 0) then make_box (layout_without_rule fonts style (layout_with num' (recentred_places num width n)) (layout_with den' (recentred_places den width d)))
    else box_with_rule fonts style t (layout_with num' (recentred_places num width n)) (layout_with den' (recentred_places den width d)))
    → SetsOn r ps (fraction_body fonts style t (layout_with num n) (layout_with den d))
body_made fonts style t width num den num' den' n d r ps w p q h =
    let wide = int_max num.width den.width in
    let body : Layout → Layout → Setting Layout = λ a b. if int_eq t (pos 0) then make_box (layout_without_rule fonts style a b) else box_with_rule fonts style t a b in
    subst (λ a. SetsOn r ps (body a (rebox (layout_with den d) wide))) (recentred_layout num num' width wide n p w)
    (subst (λ b. SetsOn r ps (body (layout_with num' (recentred_places num width n)) b)) (recentred_layout den den' width wide d q w) h)
