-- Scripts (rule 18), worked.
use Rattle.std.proofs.Common.{◌≡◌, refl, Ok, Err, Some, None, pos, [], ◌∷◌, true, false}
use Rattle.mt_box.specs.declared.place.Place.TheVariants.{Glyph}
use Rattle.mt_box.specs.Rows.{PieceGlyph, PieceBox, PieceKern}
use Rattle.mt_rules.specs.declared.style.Style.TheVariants.{D, T, Tc, S, Sc, Ss, Ssc}
use Rattle.mt_rules.specs.Setting.{Overflow}
use Rattle.mt_rules.specs.Scripts.{script_shifts, row_with_scripts}
use Rattle.mt_rules.proofs.cases.OddFonts.{odd}
use Rattle.mt_rules.proofs.cases.Writing.{neg, layout, extents, shifts, evaluated}

-- a superscript alone on a glyph, in display style: sup1
sup_on_glyph : script_shifts odd D true (extents (pos 20000) (pos 30001) (neg 4001)) (Some (extents (pos 5) (pos 7) (pos 3))) None ≡ shifts (pos 16001) (pos 0)
unfolding evaluated
sup_on_glyph = refl

-- on a box: its height less sup_drop of the script font counts
sup_on_box : script_shifts odd T false (extents (pos 100) (pos 50001) (pos 7)) (Some (extents (pos 5) (pos 7) (pos 3))) None ≡ shifts (pos 40198) (pos 1408)
unfolding evaluated
sup_on_box = refl

-- a deep superscript: its depth and a quarter of the x-height count
sup_deep : script_shifts odd Tc true (extents (pos 20000) (pos 30001) (neg 4001)) (Some (extents (pos 5) (pos 7) (pos 20001))) None ≡ shifts (pos 23751) (pos 0)
unfolding evaluated
sup_deep = refl

-- in scriptscript style, where the x-height is negative: -7503 counts as 7503
sup_small : script_shifts odd Ss false (extents (pos 9) (neg 5) (pos 3)) (Some (extents (pos 5) (pos 7) (pos 12001))) None ≡ shifts (pos 13876) (pos 1004)
unfolding evaluated
sup_small = refl

-- a subscript alone on a glyph: sub1
sub_alone : script_shifts odd T true (extents (pos 20000) (pos 30001) (neg 4001)) None (Some (extents (pos 5) (pos 7) (pos 3))) ≡ shifts (pos 0) (pos 6001)
unfolding evaluated
sub_alone = refl

-- a tall subscript: its height less four fifths of the x-height counts
sub_tall : script_shifts odd D true (extents (pos 20000) (pos 30001) (neg 4001)) None (Some (extents (pos 5) (pos 40001) (pos 3))) ≡ shifts (pos 0) (pos 27999)
unfolding evaluated
sub_tall = refl

-- on a box of negative depth in script style: sub_drop of the scriptscript font
sub_on_box : script_shifts odd S false (extents (pos 100) (pos 5) (neg 3)) None (Some (extents (pos 5) (neg 7) (pos 3))) ≡ shifts (neg 6997) (pos 4201)
unfolding evaluated
sub_on_box = refl

-- on a deep box
sub_on_deep_box : script_shifts odd Sc false (extents (pos 100) (pos 5) (pos 30001)) None (Some (extents (pos 5) (pos 7) (pos 3))) ≡ shifts (neg 6997) (pos 31002)
unfolding evaluated
sub_on_deep_box = refl

-- both, far enough apart already
both_far : script_shifts odd D true (extents (pos 20000) (pos 30001) (neg 4001)) (Some (extents (pos 5) (pos 7) (neg 9001))) (Some (extents (pos 5) (neg 9) (pos 3))) ≡ shifts (pos 16001) (pos 9001)
unfolding evaluated
both_far = refl

-- both, where the gap is too small: down grows
both_gap : script_shifts odd D true (extents (pos 20000) (pos 30001) (neg 4001)) (Some (extents (pos 5) (pos 7) (pos 3))) (Some (extents (pos 5) (pos 30001) (pos 3))) ≡ shifts (pos 16001) (pos 20007)
unfolding evaluated
both_gap = refl

-- both, where the superscript rises with the gap
both_gap_rise : script_shifts odd Tc true (extents (pos 20000) (pos 30001) (neg 4001)) (Some (extents (pos 5) (pos 7) (pos 3001))) (Some (extents (pos 5) (pos 30001) (pos 3))) ≡ shifts (pos 15003) (pos 24003)
unfolding evaluated
both_gap_rise = refl

-- both, where the gap is exactly four rules thick
both_exact : script_shifts odd T true (extents (pos 20000) (pos 30001) (neg 4001)) (Some (extents (pos 5) (pos 7) (pos 5001))) (Some (extents (pos 5) (pos 11997) (pos 3))) ≡ shifts (pos 14001) (pos 9001)
unfolding evaluated
both_exact = refl

-- both, where it is one less
both_one_less : script_shifts odd T true (extents (pos 20000) (pos 30001) (neg 4001)) (Some (extents (pos 5) (pos 7) (pos 5001))) (Some (extents (pos 5) (pos 11998) (pos 3))) ≡ shifts (pos 17003) (pos 6000)
unfolding evaluated
both_one_less = refl

-- both, where the rule has a negative thickness
both_negative_rule : script_shifts odd Ssc false (extents (pos 5) (pos 9) (pos 5)) (Some (extents (pos 5) (pos 7) (pos 1))) (Some (extents (pos 5) (pos 9) (pos 5))) ≡ shifts (pos 5501) (pos 4501)
unfolding evaluated
both_negative_rule = refl

-- both on a box
both_on_box : script_shifts odd T false (extents (pos 5) (pos 60001) (pos 40001)) (Some (extents (pos 5) (pos 7) (pos 1))) (Some (extents (pos 5) (pos 9) (pos 5))) ≡ shifts (pos 50198) (pos 41402)
unfolding evaluated
both_on_box = refl

-- a superscript after a glyph and its italic kern
attach_sup : row_with_scripts odd T (PieceGlyph 0 98 (extents (pos 25001) (pos 40000) (pos 7001)) ∷ PieceKern (pos 1501) ∷ []) (pos 0) (Some (layout (pos 15) (pos 23) (neg 3) (Glyph 1 97 (pos 0) (pos 0) ∷ []))) None ≡ Ok (PieceGlyph 0 98 (extents (pos 25001) (pos 40000) (pos 7001)) ∷ PieceKern (pos 1501) ∷ PieceBox (pos 14001) (layout (pos 32783) (pos 23) (neg 3) (Glyph 1 97 (pos 0) (pos 0) ∷ [])) ∷ [])
unfolding evaluated
attach_sup = refl

-- a subscript after a box
attach_sub : row_with_scripts odd T (PieceBox (pos 0) (layout (pos 70001) (pos 5) (neg 3) (Glyph 0 99 (pos 0) (pos 0) ∷ [])) ∷ []) (pos 0) None (Some (layout (pos 10) (pos 9) (pos 5) (Glyph 1 98 (pos 0) (pos 0) ∷ []))) ≡ Ok (PieceBox (pos 0) (layout (pos 70001) (pos 5) (neg 3) (Glyph 0 99 (pos 0) (pos 0) ∷ [])) ∷ PieceBox (neg 6001) (layout (pos 32778) (pos 9) (pos 5) (Glyph 1 98 (pos 0) (pos 0) ∷ [])) ∷ [])
unfolding evaluated
attach_sub = refl

-- both: the superscript is shifted right by delta
attach_both : row_with_scripts odd D (PieceGlyph 0 97 (extents (pos 20000) (pos 30001) (neg 4001)) ∷ []) (pos 1501) (Some (layout (pos 15) (pos 23) (neg 3) (Glyph 1 97 (pos 0) (pos 0) ∷ []))) (Some (layout (pos 10) (pos 9) (pos 5) (Glyph 1 98 (pos 0) (pos 0) ∷ []))) ≡ Ok (PieceGlyph 0 97 (extents (pos 20000) (pos 30001) (neg 4001)) ∷ PieceBox (neg 9001) (layout (pos 34284) (pos 25025) (pos 5) (Glyph 1 97 (pos 1501) (neg 25002) ∷ Glyph 1 98 (pos 0) (pos 0) ∷ [])) ∷ [])
unfolding evaluated
attach_both = refl

-- a negative delta, and a superscript of negative width: the width of both is the subscript's
attach_both_left : row_with_scripts odd S (PieceGlyph 0 97 (extents (pos 20000) (pos 30001) (neg 4001)) ∷ []) (neg 70001) (Some (layout (neg 32770) (pos 3) (pos 1) (Glyph 1 97 (pos 0) (pos 0) ∷ []))) (Some (layout (pos 10) (pos 9) (pos 5) (Glyph 1 98 (pos 0) (pos 0) ∷ []))) ≡ Ok (PieceGlyph 0 97 (extents (pos 20000) (pos 30001) (neg 4001)) ∷ PieceBox (neg 6301) (layout (pos 32778) (pos 16105) (pos 5) (Glyph 1 97 (neg 70001) (neg 16102) ∷ Glyph 1 98 (pos 0) (pos 0) ∷ [])) ∷ [])
unfolding evaluated
attach_both_left = refl

-- both so narrow that the width is 0
attach_both_nothing : row_with_scripts odd S (PieceGlyph 0 97 (extents (pos 20000) (pos 30001) (neg 4001)) ∷ []) (neg 70001) (Some (layout (neg 32770) (pos 3) (pos 1) [])) (Some (layout (neg 40000) (pos 3) (pos 1) [])) ≡ Ok (PieceGlyph 0 97 (extents (pos 20000) (pos 30001) (neg 4001)) ∷ PieceBox (neg 6301) (layout (pos 0) (pos 16105) (pos 1) []) ∷ [])
unfolding evaluated
attach_both_nothing = refl

-- Overflow of the widened superscript, before that of the subscript
sup_too_wide : row_with_scripts odd T (PieceGlyph 0 97 (extents (pos 20000) (pos 30001) (neg 4001)) ∷ []) (pos 0) (Some (layout (pos 1073709056) (pos 3) (pos 1) [])) (Some (layout (pos 1073741823) (pos 1073741823) (pos 1) [])) ≡ Err (Overflow (pos 1073741824))
unfolding evaluated
sup_too_wide = refl

-- Overflow of the widened subscript
sub_too_wide : row_with_scripts odd T (PieceGlyph 0 97 (extents (pos 20000) (pos 30001) (neg 4001)) ∷ []) (pos 0) (Some (layout (pos 1073709055) (pos 3) (pos 1) [])) (Some (layout (pos 1073741820) (pos 1073741823) (pos 1) [])) ≡ Err (Overflow (pos 1073774588))
unfolding evaluated
sub_too_wide = refl

-- Overflow of both: delta and the superscript
both_too_wide : row_with_scripts odd T (PieceGlyph 0 97 (extents (pos 20000) (pos 30001) (neg 4001)) ∷ []) (pos 1501) (Some (layout (pos 1073709055) (pos 3) (pos 1) [])) (Some (layout (pos 5) (pos 1073741823) (pos 1) [])) ≡ Err (Overflow (pos 1073743324))
unfolding evaluated
both_too_wide = refl

-- Overflow of both: the height
both_too_high : row_with_scripts odd T (PieceGlyph 0 97 (extents (pos 20000) (pos 30001) (neg 4001)) ∷ []) (pos 1501) (Some (layout (pos 5) (pos 1073741814) (pos 1) [])) (Some (layout (pos 5) (pos 6) (pos 1) [])) ≡ Err (Overflow (pos 1073764816))
unfolding evaluated
both_too_high = refl
