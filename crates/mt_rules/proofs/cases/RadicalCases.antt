-- Radicals (rule 11), worked.
use Rattle.std.proofs.Common.{◌≡◌, refl, Ok, Err, pos, [], ◌∷◌}
use Rattle.mt_box.specs.declared.place.Place.TheVariants.{Glyph, Rule}
use Rattle.mt_rules.specs.declared.style.Style.TheVariants.{D, T, Ss}
use Rattle.mt_rules.specs.Setting.{Overflow, TooTall}
use Rattle.mt_rules.specs.Radicals.{radical}
use Rattle.mt_rules.proofs.cases.OddFonts.{odd}
use Rattle.mt_rules.proofs.cases.Writing.{neg, layout, delim, no_delim, evaluated}

-- the sign is deeper than wanted: the clearance grows by half of an odd excess
sign_deeper : radical odd T (delim 3 25 0 0) (layout (pos 20000) (pos 30001) (neg 4001) (Glyph 0 97 (pos 0) (pos 0) ∷ [])) ≡ Ok (layout (pos 31001) (pos 38442) (pos 0) (Glyph 7 26 (pos 0) (neg 35440) ∷ Rule (pos 11001) (neg 35440) (pos 1501) (pos 20000) ∷ Glyph 0 97 (pos 11001) (pos 0) ∷ []))
unfolding evaluated
sign_deeper = refl

-- in display style a quarter of the x-height counts
sign_display : radical odd D (delim 3 25 0 0) (layout (pos 20000) (pos 5001) (pos 2001) (Glyph 0 97 (pos 0) (pos 0) ∷ [])) ≡ Ok (layout (pos 30001) (pos 18628) (pos 7375) (Glyph 7 25 (pos 0) (neg 15626) ∷ Rule (pos 10001) (neg 15626) (pos 1501) (pos 20000) ∷ Glyph 0 97 (pos 10001) (pos 0) ∷ []))
unfolding evaluated
sign_display = refl

-- an extensible sign: the rule of height 0 has no place
sign_extensible : radical odd T (delim 3 1 0 0) (layout (pos 20000) (pos 40001) (pos 20001) (Glyph 0 97 (pos 0) (pos 0) ∷ [])) ≡ Ok (layout (pos 33078) (pos 44458) (pos 22581) (Glyph 7 3 (pos 0) (neg 44458) ∷ Glyph 7 5 (pos 0) (neg 35454) ∷ Glyph 7 5 (pos 0) (neg 31451) ∷ Glyph 7 5 (pos 0) (neg 27448) ∷ Glyph 7 5 (pos 0) (neg 23445) ∷ Glyph 7 5 (pos 0) (neg 19442) ∷ Glyph 7 5 (pos 0) (neg 15439) ∷ Glyph 7 5 (pos 0) (neg 11436) ∷ Glyph 7 5 (pos 0) (neg 7433) ∷ Glyph 7 5 (pos 0) (neg 3430) ∷ Glyph 7 5 (pos 0) (pos 573) ∷ Glyph 7 5 (pos 0) (pos 4576) ∷ Glyph 7 5 (pos 0) (pos 8579) ∷ Glyph 7 4 (pos 0) (pos 13580) ∷ Glyph 0 97 (pos 13078) (pos 0) ∷ []))
unfolding evaluated
sign_extensible = refl

-- no sign
sign_null : radical odd T no_delim (layout (pos 20000) (pos 30001) (neg 4001) (Glyph 0 97 (pos 0) (pos 0) ∷ [])) ≡ Ok (layout (pos 98643) (pos 31877) (pos 0) (Glyph 0 97 (pos 78643) (pos 0) ∷ []))
unfolding evaluated
sign_null = refl

-- a sign of negative height: a rule of negative thickness
sign_negative : radical odd T (delim 3 29 0 0) (layout (pos 20000) (pos 30001) (neg 4001) (Glyph 0 97 (pos 0) (pos 0) ∷ [])) ≡ Ok (layout (pos 31003) (pos 61439) (pos 27061) (Glyph 7 29 (pos 0) (neg 62940) ∷ Glyph 0 97 (pos 11003) (pos 0) ∷ []))
unfolding evaluated
sign_negative = refl

-- in scriptscript style, where the rule is negative
sign_small_style : radical odd Ss (delim 3 25 0 0) (layout (neg 20001) (pos 5001) (pos 2001) (Glyph 0 97 (pos 0) (pos 0) ∷ [])) ≡ Ok (layout (pos 10001) (pos 15890) (pos 10113) (Glyph 9 25 (pos 0) (neg 12888) ∷ Glyph 0 97 (pos 10001) (pos 0) ∷ []))
unfolding evaluated
sign_small_style = refl

-- a fault of the sign
sign_fault : radical odd T (delim 3 27 0 0) (layout (pos 20000) (pos 30001) (neg 4001) (Glyph 0 97 (pos 0) (pos 0) ∷ [])) ≡ Err (Overflow (pos 1073741824))
unfolding evaluated
sign_fault = refl

-- TooTall of the sign
sign_too_tall : radical odd T (delim 3 1 0 0) (layout (pos 9) (pos 8100000) (pos 0) []) ≡ Err (TooTall 2020)
unfolding evaluated
sign_too_tall = refl

-- Overflow of the layout of rule and nucleus
radical_layout_high : radical odd T (delim 3 25 0 0) (layout (pos 9) (pos 1073741820) (neg 1073741823) []) ≡ Err (Overflow (pos 1073757262))
unfolding evaluated
radical_layout_high = refl

-- Overflow of the row of sign and layout: the width
radical_row : radical odd T (delim 3 25 0 0) (layout (pos 1073741816) (pos 5) (pos 5) []) ≡ Err (Overflow (pos 1073751817))
unfolding evaluated
radical_row = refl
