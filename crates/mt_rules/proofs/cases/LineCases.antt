-- Lines and centred rows (rules 8 to 10), worked.
use Rattle.std.proofs.Common.{◌≡◌, refl, Ok, Err, pos, [], ◌∷◌}
use Rattle.mt_family.specs.declared.size.Size.TheVariants.{Text, Script, Scriptscript}
use Rattle.mt_box.specs.declared.place.Place.TheVariants.{Glyph, Rule}
use Rattle.mt_rules.specs.Setting.{Overflow}
use Rattle.mt_rules.specs.Lines.{overline, underline}
use Rattle.mt_rules.specs.Vcenter.{vcenter}
use Rattle.mt_rules.proofs.cases.OddFonts.{odd, wild}
use Rattle.mt_rules.proofs.cases.Writing.{neg, layout, evaluated}

-- a body of negative depth
over_letter : overline odd Text (layout (pos 20000) (pos 30001) (neg 4001) (Glyph 0 97 (pos 0) (pos 0) ∷ [])) ≡ Ok (layout (pos 20000) (pos 37506) (neg 4001) (Rule (pos 0) (neg 34504) (pos 1501) (pos 20000) ∷ Glyph 0 97 (pos 0) (pos 0) ∷ []))
unfolding evaluated
over_letter = refl

-- a body of negative width: no rule has a place, the width is 0
over_narrow : overline odd Text (layout (neg 5) (pos 7) (pos 3) (Glyph 0 97 (pos 0) (pos 0) ∷ [])) ≡ Ok (layout (pos 0) (pos 7512) (pos 3) (Glyph 0 97 (pos 0) (pos 0) ∷ []))
unfolding evaluated
over_narrow = refl

-- a negative rule at the smallest size
over_negative_rule : overline odd Scriptscript (layout (pos 20000) (pos 30001) (neg 4001) (Glyph 0 97 (pos 0) (pos 0) ∷ [])) ≡ Ok (layout (pos 20000) (pos 28496) (neg 4001) (Glyph 0 97 (pos 0) (pos 0) ∷ []))
unfolding evaluated
over_negative_rule = refl

-- Overflow of the height
over_too_high : overline odd Text (layout (pos 5) (pos 1073734319) (pos 3) []) ≡ Err (Overflow (pos 1073741824))
unfolding evaluated
over_too_high = refl

-- a body of negative depth
under_letter : underline odd Text (layout (pos 20000) (pos 30001) (neg 4001) (Glyph 0 97 (pos 0) (pos 0) ∷ [])) ≡ Ok (layout (pos 20000) (pos 30001) (pos 3504) (Glyph 0 97 (pos 0) (pos 0) ∷ Rule (pos 0) (pos 2003) (pos 1501) (pos 20000) ∷ []))
unfolding evaluated
under_letter = refl

-- at script size
under_script : underline odd Script (layout (pos 5) (pos 7) (pos 3) (Glyph 0 97 (pos 0) (pos 0) ∷ [])) ≡ Ok (layout (pos 5) (pos 7) (pos 10018) (Glyph 0 97 (pos 0) (pos 0) ∷ Rule (pos 0) (pos 8015) (pos 2003) (pos 5) ∷ []))
unfolding evaluated
under_script = refl

-- Overflow of the depth
under_too_deep : underline odd Script (layout (pos 5) (pos 7) (pos 1073731809) []) ≡ Err (Overflow (pos 1073741824))
unfolding evaluated
under_too_deep = refl

-- no rows: half of 0 above the axis
no_rows : vcenter odd Text [] ≡ Ok (layout (pos 0) (pos 9003) (neg 9003) [])
unfolding evaluated
no_rows = refl

-- one row of an odd total is odd
one_row : vcenter odd Text (layout (pos 9) (pos 30002) (neg 4001) (Glyph 0 97 (pos 0) (pos 0) ∷ []) ∷ []) ≡ Ok (layout (pos 9) (pos 22004) (pos 3997) (Glyph 0 97 (pos 0) (pos 7998) ∷ []))
unfolding evaluated
one_row = refl

-- the gap between the second and the third is 1pt, since 12pt is too little
three_rows : vcenter odd Script (layout (pos 20000) (pos 30001) (neg 4001) (Glyph 0 97 (pos 0) (pos 0) ∷ []) ∷ layout (pos 9) (pos 500001) (pos 300000) (Glyph 0 98 (pos 0) (pos 0) ∷ []) ∷ layout (neg 5) (pos 400000) (pos 7) (Glyph 0 99 (pos 0) (pos 0) ∷ []) ∷ []) ≡ Ok (layout (pos 20000) (pos 807739) (pos 795133) (Glyph 0 97 (pos 0) (neg 777738) ∷ Glyph 0 98 (pos 0) (pos 8694) ∷ Glyph 0 99 (pos 0) (pos 795126) ∷ []))
unfolding evaluated
three_rows = refl

-- a gap of exactly 0
rows_exact : vcenter odd Text (layout (pos 9) (pos 5) (pos 386432) (Glyph 0 97 (pos 0) (pos 0) ∷ []) ∷ layout (neg 5) (pos 400000) (pos 7) (Glyph 0 99 (pos 0) (pos 0) ∷ []) ∷ []) ≡ Ok (layout (pos 9) (pos 402225) (pos 384219) (Glyph 0 97 (pos 0) (neg 402220) ∷ Glyph 0 99 (pos 0) (pos 384212) ∷ []))
unfolding evaluated
rows_exact = refl

-- Overflow of the height
rows_too_high : vcenter odd Text (layout (pos 9) (pos 1073741823) (pos 1073741823) [] ∷ []) ≡ Err (Overflow (pos 1073750826))
unfolding evaluated
rows_too_high = refl

-- Overflow of the rule comes before the layout's
over_thick : overline wild Text (layout (pos 5) (pos 1073741823) (pos 3) []) ≡ Err (Overflow (pos 1073741824))
unfolding evaluated
over_thick = refl

-- a rule of negative thickness that is out of range
over_thin : overline wild Scriptscript (layout (pos 20000) (pos 30001) (neg 4001) (Glyph 0 97 (pos 0) (pos 0) ∷ [])) ≡ Err (Overflow (neg 1073741824))
unfolding evaluated
over_thin = refl

-- the same of an underline
under_thick : underline wild Text (layout (pos 5) (pos 3) (pos 1073741823) []) ≡ Err (Overflow (pos 1073741824))
unfolding evaluated
under_thick = refl

-- Overflow of the height by the axis
rows_wide : vcenter wild Text (layout (pos 20000) (pos 30001) (neg 4001) (Glyph 0 97 (pos 0) (pos 0) ∷ []) ∷ []) ≡ Err (Overflow (pos 1073754823))
unfolding evaluated
rows_wide = refl
