-- Limits (rule 13a), worked.
use Rattle.std.proofs.Common.{◌≡◌, refl, Ok, Err, Some, None, pos, [], ◌∷◌}
use Rattle.mt_family.specs.declared.size.Size.TheVariants.{Text, Script, Scriptscript}
use Rattle.mt_box.specs.declared.place.Place.TheVariants.{Glyph}
use Rattle.mt_rules.specs.Setting.{Overflow}
use Rattle.mt_rules.specs.Limits.{limits}
use Rattle.mt_rules.proofs.cases.OddFonts.{odd}
use Rattle.mt_rules.proofs.cases.Writing.{neg, layout, evaluated}

-- both limits, delta 3: half of it is 2
both_limits : limits odd Text (layout (pos 30001) (pos 16001) (pos 7) (Glyph 7 19 (pos 0) (pos 0) ∷ [])) (pos 3) (Some (layout (pos 10000) (pos 7) (neg 5001) (Glyph 1 97 (pos 0) (pos 0) ∷ []))) (Some (layout (pos 10001) (pos 4001) (pos 5) (Glyph 1 98 (pos 0) (pos 0) ∷ []))) ≡ Ok (layout (pos 30001) (pos 26010) (pos 24014) (Glyph 1 97 (pos 10003) (neg 23002) ∷ Glyph 7 19 (pos 0) (pos 0) ∷ Glyph 1 98 (pos 9998) (pos 21008) ∷ []))
unfolding evaluated
both_limits = refl

-- the superscript is the widest, and the nucleus's negative depth becomes 0
wide_sup : limits odd Text (layout (pos 30001) (pos 16001) (neg 7) (Glyph 7 19 (pos 0) (pos 0) ∷ [])) (pos 7001) (Some (layout (pos 50000) (pos 7) (pos 5001) (Glyph 1 97 (pos 0) (pos 0) ∷ []))) None ≡ Ok (layout (pos 50000) (pos 28011) (pos 0) (Glyph 1 97 (pos 3501) (neg 25003) ∷ Glyph 7 19 (pos 10000) (pos 0) ∷ []))
unfolding evaluated
wide_sup = refl

-- a subscript alone, wider by 1, at script size
wide_sub : limits odd Script (layout (pos 30001) (neg 16001) (pos 7) (Glyph 7 19 (pos 0) (pos 0) ∷ [])) (neg 3) None (Some (layout (pos 30002) (neg 4001) (pos 5) (Glyph 1 98 (pos 0) (pos 0) ∷ []))) ≡ Ok (layout (pos 30002) (pos 0) (pos 24014) (Glyph 7 19 (pos 1) (pos 0) ∷ Glyph 1 98 (pos 1) (pos 21008) ∷ []))
unfolding evaluated
wide_sub = refl

-- no limits, the nucleus of negative width is reboxed to 0
no_limits : limits odd Text (layout (neg 3) (neg 5) (neg 7) (Glyph 7 19 (pos 0) (pos 0) ∷ [])) (pos 5) None None ≡ Ok (layout (pos 0) (pos 0) (pos 0) (Glyph 7 19 (pos 2) (pos 0) ∷ []))
unfolding evaluated
no_limits = refl

-- no limits, the nucleus stays as it is
no_limits_same : limits odd Text (layout (pos 3) (neg 5) (neg 7) (Glyph 7 19 (pos 0) (pos 0) ∷ [])) (pos 5) None None ≡ Ok (layout (pos 3) (neg 5) (neg 7) (Glyph 7 19 (pos 0) (pos 0) ∷ []))
unfolding evaluated
no_limits_same = refl

-- all three of negative width
all_negative : limits odd Scriptscript (layout (neg 7) (neg 5) (neg 7) (Glyph 7 19 (pos 0) (pos 0) ∷ [])) (pos 5) (Some (layout (neg 3) (neg 1) (neg 1) (Glyph 1 97 (pos 0) (pos 0) ∷ []))) (Some (layout (neg 9) (neg 1) (neg 1) (Glyph 1 98 (pos 0) (pos 0) ∷ []))) ≡ Ok (layout (neg 3) (pos 10001) (pos 24002) (Glyph 1 97 (pos 3) (neg 7001) ∷ Glyph 7 19 (pos 2) (pos 0) ∷ Glyph 1 98 (pos 0) (pos 21001) ∷ []))
unfolding evaluated
all_negative = refl

-- Overflow of the height, before that of the depth
limits_too_high : limits odd Text (layout (pos 30001) (pos 16001) (pos 7) (Glyph 7 19 (pos 0) (pos 0) ∷ [])) (pos 3) (Some (layout (pos 1) (pos 1073741823) (pos 5) [])) (Some (layout (pos 1) (pos 1073741823) (pos 5) [])) ≡ Err (Overflow (pos 1073767826))
unfolding evaluated
limits_too_high = refl

-- Overflow of the depth
limits_too_deep : limits odd Text (layout (pos 30001) (pos 16001) (pos 7) (Glyph 7 19 (pos 0) (pos 0) ∷ [])) (pos 3) (Some (layout (pos 1) (pos 5) (pos 5) [])) (Some (layout (pos 1) (pos 1073741823) (pos 5) [])) ≡ Err (Overflow (pos 1073749839))
unfolding evaluated
limits_too_deep = refl
