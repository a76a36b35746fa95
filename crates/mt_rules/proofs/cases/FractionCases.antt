-- Fractions (rule 15), worked.
use Rattle.std.proofs.Common.{◌≡◌, refl, Ok, Err, pos, [], ◌∷◌}
use Rattle.mt_box.specs.declared.place.Place.TheVariants.{Glyph, Rule}
use Rattle.mt_rules.specs.declared.style.Style.TheVariants.{D, Dc, T, Tc, S}
use Rattle.mt_rules.specs.Setting.{Overflow, TooTall}
use Rattle.mt_rules.specs.Fractions.{fraction, fraction_shifts}
use Rattle.mt_rules.proofs.cases.OddFonts.{odd, wild}
use Rattle.mt_rules.proofs.cases.Writing.{neg, layout, extents, shifts, delim, no_delim, evaluated}

-- a rule of thickness 3 in text style; the denominator is centred with a difference that is odd, and its negative depth becomes 0
odd_rule : fraction odd T (pos 3) no_delim no_delim (layout (pos 20000) (pos 30001) (pos 7001) (Glyph 0 97 (pos 0) (pos 0) ∷ [])) (layout (pos 9) (pos 5) (neg 3) (Glyph 0 98 (pos 0) (pos 0) ∷ [])) ≡ Ok (layout (pos 177286) (pos 46010) (pos 13001) (Glyph 0 97 (pos 78643) (neg 16009) ∷ Rule (pos 78643) (neg 9002) (pos 3) (pos 20000) ∷ Glyph 0 98 (pos 88639) (pos 13000) ∷ []))
unfolding evaluated
odd_rule = refl

-- in display style
odd_rule_display : fraction odd D (pos 3) no_delim no_delim (layout (pos 20000) (pos 30001) (pos 7001) (Glyph 0 97 (pos 0) (pos 0) ∷ [])) (layout (pos 9) (pos 5) (neg 3) (Glyph 0 98 (pos 0) (pos 0) ∷ [])) ≡ Ok (layout (pos 177286) (pos 55002) (pos 27001) (Glyph 0 97 (pos 78643) (neg 25001) ∷ Rule (pos 78643) (neg 9002) (pos 3) (pos 20000) ∷ Glyph 0 98 (pos 88639) (pos 27000) ∷ []))
unfolding evaluated
odd_rule_display = refl

-- a rule of thickness 4 in script style, the numerator narrower
even_rule : fraction odd S (pos 4) no_delim no_delim (layout (pos 9) (pos 5) (neg 3) (Glyph 0 98 (pos 0) (pos 0) ∷ [])) (layout (pos 20000) (pos 30001) (pos 7001) (Glyph 0 97 (pos 0) (pos 0) ∷ [])) ≡ Ok (layout (pos 177286) (pos 10506) (pos 30705) (Glyph 0 98 (pos 88639) (neg 10501) ∷ Rule (pos 78643) (neg 6301) (pos 4) (pos 20000) ∷ Glyph 0 97 (pos 78643) (pos 23704) ∷ []))
unfolding evaluated
even_rule = refl

-- a thick rule: both grow
thick_rule : fraction odd Dc (pos 20001) no_delim no_delim (layout (pos 20000) (pos 30001) (pos 7001) (Glyph 0 97 (pos 0) (pos 0) ∷ [])) (layout (pos 20000) (pos 30001) (pos 7001) (Glyph 0 97 (pos 0) (pos 0) ∷ [])) ≡ Ok (layout (pos 177286) (pos 116009) (pos 98003) (Glyph 0 97 (pos 78643) (neg 86008) ∷ Rule (pos 78643) (pos 997) (pos 20001) (pos 20000) ∷ Glyph 0 97 (pos 78643) (pos 91001) ∷ []))
unfolding evaluated
thick_rule = refl

-- t = 0 in text style: num3 and three rules
no_rule : fraction odd Tc (pos 0) no_delim no_delim (layout (pos 20000) (pos 30001) (pos 7001) (Glyph 0 97 (pos 0) (pos 0) ∷ [])) (layout (pos 9) (pos 5) (neg 3) (Glyph 0 98 (pos 0) (pos 0) ∷ [])) ≡ Ok (layout (pos 177286) (pos 47004) (pos 13001) (Glyph 0 97 (pos 78643) (neg 17003) ∷ Glyph 0 98 (pos 88639) (pos 13001) ∷ []))
unfolding evaluated
no_rule = refl

-- t = 0 in display style, where the gap lacks an odd amount
no_rule_gap : fraction odd D (pos 0) no_delim no_delim (layout (pos 20000) (pos 30001) (pos 17001) (Glyph 0 97 (pos 0) (pos 0) ∷ [])) (layout (pos 9) (pos 31002) (neg 3) (Glyph 0 98 (pos 0) (pos 0) ∷ [])) ≡ Ok (layout (pos 177286) (pos 58256) (pos 30255) (Glyph 0 97 (pos 78643) (neg 28255) ∷ Glyph 0 98 (pos 88639) (pos 30255) ∷ []))
unfolding evaluated
no_rule_gap = refl

-- t = -5: no rule has a place, its half is -2
negative_rule : fraction odd T (neg 5) no_delim no_delim (layout (pos 20000) (pos 30001) (pos 7001) (Glyph 0 97 (pos 0) (pos 0) ∷ [])) (layout (pos 9) (pos 5) (neg 3) (Glyph 0 98 (pos 0) (pos 0) ∷ [])) ≡ Ok (layout (pos 177286) (pos 45998) (pos 13001) (Glyph 0 97 (pos 78643) (neg 15997) ∷ Glyph 0 98 (pos 88639) (pos 13000) ∷ []))
unfolding evaluated
negative_rule = refl

-- t = -5 in display style, tall parts
negative_rule_display : fraction odd D (neg 5) no_delim no_delim (layout (pos 9) (pos 5) (pos 20001) (Glyph 0 97 (pos 0) (pos 0) ∷ [])) (layout (pos 9) (pos 40001) (pos 5) (Glyph 0 98 (pos 0) (pos 0) ∷ [])) ≡ Ok (layout (pos 157295) (pos 28992) (pos 30986) (Glyph 0 97 (pos 78643) (neg 28987) ∷ Glyph 0 98 (pos 78643) (pos 30980) ∷ []))
unfolding evaluated
negative_rule_display = refl

-- both of negative width: the width stays negative, and the rule has no place
negative_widths : fraction odd T (pos 3) no_delim no_delim (layout (neg 9) (pos 5) (pos 1) (Glyph 0 97 (pos 0) (pos 0) ∷ [])) (layout (neg 4) (pos 5) (pos 1) (Glyph 0 98 (pos 0) (pos 0) ∷ [])) ≡ Ok (layout (pos 157282) (pos 15006) (pos 13002) (Glyph 0 97 (pos 78646) (neg 15001) ∷ Glyph 0 98 (pos 78643) (pos 13000) ∷ []))
unfolding evaluated
negative_widths = refl

-- with delimiters of size delim2
with_delimiters : fraction odd T (pos 3) (delim 3 1 0 0) (delim 2 33 3 6) (layout (pos 20000) (pos 30001) (pos 7001) (Glyph 0 97 (pos 0) (pos 0) ∷ [])) (layout (pos 9) (pos 5) (neg 3) (Glyph 0 98 (pos 0) (pos 0) ∷ [])) ≡ Ok (layout (pos 40079) (pos 46010) (pos 13001) (Glyph 7 3 (pos 0) (neg 30513) ∷ Glyph 7 5 (pos 0) (neg 21509) ∷ Glyph 7 5 (pos 0) (neg 17506) ∷ Glyph 7 5 (pos 0) (neg 13503) ∷ Glyph 7 5 (pos 0) (neg 9500) ∷ Glyph 7 5 (pos 0) (neg 5497) ∷ Glyph 7 5 (pos 0) (neg 1494) ∷ Glyph 7 4 (pos 0) (pos 3507) ∷ Glyph 0 97 (pos 13078) (neg 16009) ∷ Rule (pos 13078) (neg 9002) (pos 3) (pos 20000) ∷ Glyph 0 98 (pos 23074) (pos 13000) ∷ Glyph 7 7 (pos 33078) (neg 30017) ∷ Glyph 7 10 (pos 33078) (neg 25015) ∷ Glyph 7 10 (pos 33078) (neg 23014) ∷ Glyph 7 10 (pos 33078) (neg 21013) ∷ Glyph 7 10 (pos 33078) (neg 19012) ∷ Glyph 7 10 (pos 33078) (neg 17011) ∷ Glyph 7 10 (pos 33078) (neg 15010) ∷ Glyph 7 8 (pos 33078) (neg 12999) ∷ Glyph 7 10 (pos 33078) (neg 4997) ∷ Glyph 7 10 (pos 33078) (neg 2996) ∷ Glyph 7 10 (pos 33078) (neg 995) ∷ Glyph 7 10 (pos 33078) (pos 1006) ∷ Glyph 7 10 (pos 33078) (pos 3007) ∷ Glyph 7 10 (pos 33078) (pos 5008) ∷ Glyph 7 9 (pos 33078) (pos 7008) ∷ []))
unfolding evaluated
with_delimiters = refl

-- with delimiters of size delim1
with_delimiters_display : fraction odd D (pos 1501) (delim 3 1 0 0) (delim 2 33 3 6) (layout (pos 20000) (pos 30001) (pos 7001) (Glyph 0 97 (pos 0) (pos 0) ∷ [])) (layout (pos 9) (pos 5) (neg 3) (Glyph 0 98 (pos 0) (pos 0) ∷ [])) ≡ Ok (layout (pos 40079) (pos 55002) (pos 36526) (Glyph 7 3 (pos 0) (neg 54531) ∷ Glyph 7 5 (pos 0) (neg 45527) ∷ Glyph 7 5 (pos 0) (neg 41524) ∷ Glyph 7 5 (pos 0) (neg 37521) ∷ Glyph 7 5 (pos 0) (neg 33518) ∷ Glyph 7 5 (pos 0) (neg 29515) ∷ Glyph 7 5 (pos 0) (neg 25512) ∷ Glyph 7 5 (pos 0) (neg 21509) ∷ Glyph 7 5 (pos 0) (neg 17506) ∷ Glyph 7 5 (pos 0) (neg 13503) ∷ Glyph 7 5 (pos 0) (neg 9500) ∷ Glyph 7 5 (pos 0) (neg 5497) ∷ Glyph 7 5 (pos 0) (neg 1494) ∷ Glyph 7 5 (pos 0) (pos 2509) ∷ Glyph 7 5 (pos 0) (pos 6512) ∷ Glyph 7 5 (pos 0) (pos 10515) ∷ Glyph 7 5 (pos 0) (pos 14518) ∷ Glyph 7 5 (pos 0) (pos 18521) ∷ Glyph 7 5 (pos 0) (pos 22524) ∷ Glyph 7 4 (pos 0) (pos 27525) ∷ Glyph 0 97 (pos 13078) (neg 25001) ∷ Rule (pos 13078) (neg 8253) (pos 1501) (pos 20000) ∷ Glyph 0 98 (pos 23074) (pos 27000) ∷ Glyph 7 7 (pos 33078) (neg 54029) ∷ Glyph 7 10 (pos 33078) (neg 49027) ∷ Glyph 7 10 (pos 33078) (neg 47026) ∷ Glyph 7 10 (pos 33078) (neg 45025) ∷ Glyph 7 10 (pos 33078) (neg 43024) ∷ Glyph 7 10 (pos 33078) (neg 41023) ∷ Glyph 7 10 (pos 33078) (neg 39022) ∷ Glyph 7 10 (pos 33078) (neg 37021) ∷ Glyph 7 10 (pos 33078) (neg 35020) ∷ Glyph 7 10 (pos 33078) (neg 33019) ∷ Glyph 7 10 (pos 33078) (neg 31018) ∷ Glyph 7 10 (pos 33078) (neg 29017) ∷ Glyph 7 10 (pos 33078) (neg 27016) ∷ Glyph 7 10 (pos 33078) (neg 25015) ∷ Glyph 7 10 (pos 33078) (neg 23014) ∷ Glyph 7 10 (pos 33078) (neg 21013) ∷ Glyph 7 10 (pos 33078) (neg 19012) ∷ Glyph 7 10 (pos 33078) (neg 17011) ∷ Glyph 7 10 (pos 33078) (neg 15010) ∷ Glyph 7 8 (pos 33078) (neg 12999) ∷ Glyph 7 10 (pos 33078) (neg 4997) ∷ Glyph 7 10 (pos 33078) (neg 2996) ∷ Glyph 7 10 (pos 33078) (neg 995) ∷ Glyph 7 10 (pos 33078) (pos 1006) ∷ Glyph 7 10 (pos 33078) (pos 3007) ∷ Glyph 7 10 (pos 33078) (pos 5008) ∷ Glyph 7 10 (pos 33078) (pos 7009) ∷ Glyph 7 10 (pos 33078) (pos 9010) ∷ Glyph 7 10 (pos 33078) (pos 11011) ∷ Glyph 7 10 (pos 33078) (pos 13012) ∷ Glyph 7 10 (pos 33078) (pos 15013) ∷ Glyph 7 10 (pos 33078) (pos 17014) ∷ Glyph 7 10 (pos 33078) (pos 19015) ∷ Glyph 7 10 (pos 33078) (pos 21016) ∷ Glyph 7 10 (pos 33078) (pos 23017) ∷ Glyph 7 10 (pos 33078) (pos 25018) ∷ Glyph 7 10 (pos 33078) (pos 27019) ∷ Glyph 7 10 (pos 33078) (pos 29020) ∷ Glyph 7 9 (pos 33078) (pos 31020) ∷ []))
unfolding evaluated
with_delimiters_display = refl

-- a fault of the left delimiter comes before the rule's
left_before_rule : fraction odd T (pos 1073741825) (delim 3 27 0 0) (delim 3 3 0 0) (layout (pos 20000) (pos 30001) (pos 7001) (Glyph 0 97 (pos 0) (pos 0) ∷ [])) (layout (pos 9) (pos 5) (neg 3) (Glyph 0 98 (pos 0) (pos 0) ∷ [])) ≡ Err (Overflow (pos 1073741824))
unfolding evaluated
left_before_rule = refl

-- TooTall of the right one comes before the rule's
right_before_rule : fraction wild T (pos 1073741825) no_delim (delim 3 3 0 0) (layout (pos 20000) (pos 30001) (pos 7001) (Glyph 0 97 (pos 0) (pos 0) ∷ [])) (layout (pos 9) (pos 5) (neg 3) (Glyph 0 98 (pos 0) (pos 0) ∷ [])) ≡ Err (TooTall 2244)
unfolding evaluated
right_before_rule = refl

-- Overflow of the rule comes before the layout's
rule_before_layout : fraction odd T (pos 1073741824) no_delim no_delim (layout (pos 5) (pos 1073741823) (pos 0) []) (layout (pos 9) (pos 5) (neg 3) (Glyph 0 98 (pos 0) (pos 0) ∷ [])) ≡ Err (Overflow (pos 1073741824))
unfolding evaluated
rule_before_layout = refl

-- Overflow of the layout's height comes before the row's width
layout_before_row : fraction odd T (pos 3) no_delim no_delim (layout (pos 1073741823) (pos 1073741823) (pos 0) []) (layout (pos 9) (pos 5) (neg 3) (Glyph 0 98 (pos 0) (pos 0) ∷ [])) ≡ Err (Overflow (pos 1073756824))
unfolding evaluated
layout_before_row = refl

-- Overflow of the layout's depth
layout_depth : fraction odd T (pos 0) no_delim no_delim (layout (pos 20000) (pos 30001) (pos 7001) (Glyph 0 97 (pos 0) (pos 0) ∷ [])) (layout (pos 9) (pos 5) (pos 1073741816) []) ≡ Err (Overflow (pos 1073754817))
unfolding evaluated
layout_depth = refl

-- Overflow of the row's width: the null delimiters at both sides
row_width : fraction odd T (pos 3) no_delim no_delim (layout (pos 1073663180) (pos 5) (pos 0) []) (layout (pos 9) (pos 5) (neg 3) (Glyph 0 98 (pos 0) (pos 0) ∷ [])) ≡ Err (Overflow (pos 1073820466))
unfolding evaluated
row_width = refl

-- the narrower numerator's negative depth counts as 0
shifts_reboxed : fraction_shifts odd T (pos 20001) (extents (pos 8) (pos 5) (neg 30001)) (extents (pos 9) (neg 20001) (neg 5)) ≡ shifts (pos 39005) (pos 13001)
unfolding evaluated
shifts_reboxed = refl

-- with one width it counts as it is
shifts_not_reboxed : fraction_shifts odd T (pos 20001) (extents (pos 9) (pos 5) (neg 30001)) (extents (pos 9) (neg 20001) (neg 5)) ≡ shifts (pos 15001) (pos 13001)
unfolding evaluated
shifts_not_reboxed = refl

-- a negative rule
shifts_negative_rule : fraction_shifts odd Dc (neg 7) (extents (pos 9) (pos 5) (pos 20001)) (extents (pos 8) (pos 30001) (neg 5)) ≡ shifts (pos 28980) (pos 27001)
unfolding evaluated
shifts_negative_rule = refl

-- Overflow of the rule's thickness, where its width is in range, comes before the layout's
rule_thickness : fraction odd T (neg 1073741824) no_delim no_delim (layout (pos 5) (pos 1073741823) (pos 1073741823) []) (layout (pos 9) (pos 5) (neg 3) (Glyph 0 98 (pos 0) (pos 0) ∷ [])) ≡ Err (Overflow (neg 1073741824))
unfolding evaluated
rule_thickness = refl

-- Overflow of the row's height: a delimiter raised by the axis
row_height : fraction wild T (pos 0) (delim 3 17 0 0) no_delim (layout (pos 20000) (pos 30001) (pos 7001) (Glyph 0 97 (pos 0) (pos 0) ∷ [])) (layout (pos 9) (pos 5) (neg 3) (Glyph 0 98 (pos 0) (pos 0) ∷ [])) ≡ Err (Overflow (pos 1610648241))
unfolding evaluated
row_height = refl

-- the right delimiter alone
right_delimiter_row : fraction odd T (pos 4) no_delim (delim 3 25 0 0) (layout (pos 20000) (pos 30001) (pos 7001) (Glyph 0 97 (pos 0) (pos 0) ∷ [])) (layout (pos 9) (pos 5) (neg 3) (Glyph 0 98 (pos 0) (pos 0) ∷ [])) ≡ Ok (layout (pos 109644) (pos 46011) (pos 13001) (Glyph 0 97 (pos 78643) (neg 16010) ∷ Rule (pos 78643) (neg 9001) (pos 4) (pos 20000) ∷ Glyph 0 98 (pos 88639) (pos 13001) ∷ Glyph 7 26 (pos 98643) (neg 25753) ∷ []))
unfolding evaluated
right_delimiter_row = refl
