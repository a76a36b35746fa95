-- Fractions, set step by step.
use Rattle.std.proofs.Common.{◌≡◌, ℤ, ap, sym, ◌∙◌, subst, refl, List, Option, Ok, unwrap_or}
use Rattle.mt_convert.proofs.Common.{SetValue, Layout, PieceValue, Style, Delim, size_of, num_of, den_of, default_rule_thickness, fraction, clean_list, Sequence, Setting, ◌>>=◌, SetFault, SetFails}
use Rattle.mt_convert.specs.inner.Fields.{fraction_content, list_content}
use Rattle.mt_convert.specs.inner.AtomSteps.{lone_box}
use Rattle.mt_convert.proofs.Appending.{fails_then}
use Rattle.mt_convert.proofs.kinds.Chains.{first_made}
use Rattle.mt_rules.specs.AtomRow.{fraction_row}

abbrev with_lists : SetValue → Style → Option ℤ → Delim → Delim → Layout → Layout → Setting (List PieceValue)
with_lists fonts style thickness left right num den = lone_box (fraction fonts style (unwrap_or thickness (default_rule_thickness fonts (size_of style))) left right num den)

abbrev after_num : SetValue → Style → Option ℤ → Delim → Delim → Sequence → Layout → Setting (List PieceValue)
after_num fonts style thickness left right den num = clean_list (list_content fonts den) (den_of style) >>= with_lists fonts style thickness left right num

fraction_is : (fonts : SetValue) (style : Style) (thickness : Option ℤ) (left right : Delim) (num den : Sequence) → fraction_row fonts style (fraction_content fonts thickness left right num den) ≡ (clean_list (list_content fonts num) (num_of style) >>= after_num fonts style thickness left right den)
unfolding fraction_row
fraction_is fonts style thickness left right num den = refl

pub num_fails : (fault : SetFault) (fonts : SetValue) (style up : Style) (thickness : Option ℤ) (left right : Delim) (num den : Sequence) → up ≡ num_of style → SetFails fault (clean_list (list_content fonts num) up) → SetFails fault (fraction_row fonts style (fraction_content fonts thickness left right num den))
num_fails fault fonts style up thickness left right num den e h =
    subst (SetFails fault) (sym (fraction_is fonts style thickness left right num den))
    (fails_then fault (clean_list (list_content fonts num) (num_of style)) (after_num fonts style thickness left right den) (subst (λ t. SetFails fault (clean_list (list_content fonts num) t)) e h))

num_here : (P : Setting (List PieceValue) → Type 0) (fonts : SetValue) (style up : Style) (thickness : Option ℤ) (left right : Delim) (num den : Sequence) (box : Layout) → up ≡ num_of style → clean_list (list_content fonts num) up ≡ Ok box → P (after_num fonts style thickness left right den box) → P (fraction_row fonts style (fraction_content fonts thickness left right num den))
num_here P fonts style up thickness left right num den box e f h =
    subst P (sym (fraction_is fonts style thickness left right num den))
    (first_made P (clean_list (list_content fonts num) (num_of style)) box (after_num fonts style thickness left right den) (ap (λ t. clean_list (list_content fonts num) t) (sym e) ∙ f) h)

pub den_fails : (fault : SetFault) (fonts : SetValue) (style up down : Style) (thickness : Option ℤ) (left right : Delim) (num den : Sequence) (box : Layout) → up ≡ num_of style → down ≡ den_of style → clean_list (list_content fonts num) up ≡ Ok box → SetFails fault (clean_list (list_content fonts den) down) → SetFails fault (fraction_row fonts style (fraction_content fonts thickness left right num den))
den_fails fault fonts style up down thickness left right num den box e g f h =
    num_here (SetFails fault) fonts style up thickness left right num den box e f
    (fails_then fault (clean_list (list_content fonts den) (den_of style)) (with_lists fonts style thickness left right box) (subst (λ t. SetFails fault (clean_list (list_content fonts den) t)) g h))

pub fraction_made : (P : Setting (List PieceValue) → Type 0) (fonts : SetValue) (style up down : Style) (thickness : Option ℤ) (left right : Delim) (num den : Sequence) (above below : Layout) → up ≡ num_of style → down ≡ den_of style → clean_list (list_content fonts num) up ≡ Ok above → clean_list (list_content fonts den) down ≡ Ok below → P (with_lists fonts style thickness left right above below) → P (fraction_row fonts style (fraction_content fonts thickness left right num den))
fraction_made P fonts style up down thickness left right num den above below e g f k h =
    num_here P fonts style up thickness left right num den above e f
    (first_made P (clean_list (list_content fonts den) (den_of style)) below (with_lists fonts style thickness left right above) (ap (λ t. clean_list (list_content fonts den) t) (sym g) ∙ k) h)
