-- Limits on marks.
use Rattle.std.proofs.Common.{◌≡◌, List, ◌∷◌, ℤ, refl, ◌∙◌, ap, subst, Option, Some, None, Result, Err, option_map}
use Rattle.std.specs.Int.{int_max}
use Rattle.mt_family.specs.declared.size.Size.{Size}
use Rattle.mt_family.specs.SetValue.{SetValue}
use Rattle.mt_box.specs.declared.place.Place.{Place}
use Rattle.mt_box.specs.declared.extents.Extents.{Extents}
use Rattle.mt_box.specs.declared.error.PackError.{PackError}
use Rattle.mt_box.specs.declared.error.PackError.TheVariants.{Overflow as PackOverflow, OutOfMemory as NoPackMemory}
use Rattle.mt_box.specs.Layout.{Layout, BoxValue, layout_of}
use Rattle.mt_box.specs.Boxes.{rebox}
use Rattle.mt_box.specs.marks.Recentred.{recentred_extents, recentred_places}
use Rattle.mt_box.proofs.layers.Centred.{recentred_is}
use Rattle.mt_rules.specs.Calls.{BoxAnswers}
use Rattle.mt_rules.specs.Setting.{Setting, make_box, layout_or_empty}
use Rattle.mt_rules.specs.OnMarks.{BoxSetsOn, layout_with}
use Rattle.mt_rules.specs.Limits.{limits, limits_layout, rebox_some}
use Rattle.mt_scripts.specs.LimitMarks.{extents_in, limit_of, IsLimit, middle_extents, middle_places, middle_layer}

pub first_layer : (o : Option Extents) (w : ℤ) (l : List Place) (ls : List (List Place)) → middle_layer 0 o w (l ∷ ls) ≡ middle_places o w l ∷ ls
first_layer None w l ls = refl
first_layer (Some e) w l ls = refl

pub second_layer : (o : Option Extents) (w : ℤ) (k l : List Place) (ls : List (List Place)) → middle_layer 1 o w (k ∷ l ∷ ls) ≡ k ∷ middle_places o w l ∷ ls
second_layer None w k l ls = refl
second_layer (Some e) w k l ls = refl

pub still_limit : (o o' : Option Extents) (w : ℤ) (ps : List Place) → o' ≡ middle_extents o w → IsLimit o ps → IsLimit o' (middle_places o w ps)
still_limit None o' w ps h k = rw h k
still_limit (Some e) o' w ps h k = rw h tt

limit_middle : (o o' : Option Extents) (w : ℤ) (ps : List Place) → o' ≡ middle_extents o w → limit_of o' (middle_places o w ps) ≡ rebox_some (limit_of o ps) w
limit_middle None o' w ps h = ap (λ x. limit_of x ps) h
limit_middle (Some e) o' w ps h = ap (λ x. limit_of x (recentred_places e w ps)) h ∙ ap (λ (l : Layout). Some l) (recentred_is e w ps)

nucleus_middle : (e e' : Extents) (w : ℤ) (ps : List Place) → e' ≡ recentred_extents e w → layout_with e' (recentred_places e w ps) ≡ rebox (layout_with e ps) w
nucleus_middle e e' w ps h = ap (λ f. layout_with f (recentred_places e w ps)) h ∙ recentred_is e w ps

pub limits_made : (fonts : SetValue) (size : Size) (delta w : ℤ) (nucleus nucleus' : Extents) (sup sup' sub sub' : Option Extents) (n s b : List Place) (r : Result Extents PackError) (ps : List Place)
    → w ≡ int_max (layout_or_empty (limit_of sup s)).extents.width (int_max nucleus.width (layout_or_empty (limit_of sub b)).extents.width)
    → nucleus' ≡ recentred_extents nucleus w → sup' ≡ middle_extents sup w → sub' ≡ middle_extents sub w
    → BoxSetsOn r ps (make_box (limits_layout fonts size delta (limit_of sup' (middle_places sup w s)) (layout_with nucleus' (recentred_places nucleus w n)) (limit_of sub' (middle_places sub w b))))
    → BoxSetsOn r ps (limits fonts size (layout_with nucleus n) delta (limit_of sup s) (limit_of sub b))
unfolding limits
limits_made fonts size delta w nucleus nucleus' sup sup' sub sub' n s b r ps f p q k h =
    let one = subst (λ x. BoxSetsOn r ps (make_box (limits_layout fonts size delta x (layout_with nucleus' (recentred_places nucleus w n)) (limit_of sub' (middle_places sub w b))))) (limit_middle sup sup' w s q) h in
    let two = subst (λ x. BoxSetsOn r ps (make_box (limits_layout fonts size delta (rebox_some (limit_of sup s) w) x (limit_of sub' (middle_places sub w b))))) (nucleus_middle nucleus nucleus' w n p) one in
    let three = subst (λ x. BoxSetsOn r ps (make_box (limits_layout fonts size delta (rebox_some (limit_of sup s) w) (rebox (layout_with nucleus n) w) x))) (limit_middle sub sub' w b k) two in
    rw (← f) three

-- ---- limits as boxes

pub box_limit : (o : Option BoxValue) → limit_of (extents_in o) (layout_or_empty (option_map layout_of o)).places ≡ option_map layout_of o
box_limit None = refl
box_limit (Some b) = refl

pub box_is_limit : (o : Option BoxValue) (e : Option Extents) → e ≡ extents_in o → IsLimit e (layout_or_empty (option_map layout_of o)).places
box_is_limit None e h = rw h refl
box_is_limit (Some b) e h = rw h tt

pub box_fault : (e : PackError) (ps : List Place) (s : Setting Layout) → BoxSetsOn (Err e) ps s → BoxAnswers (Err e) s
box_fault (PackOverflow value) ps s h = h
box_fault NoPackMemory ps s h = tt
