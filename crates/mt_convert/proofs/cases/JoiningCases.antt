-- Symbols that are joined, worked.
use Rattle.std.proofs.Common.{◌≡◌, refl, Ok, Err, pos, [], ◌∷◌}
use Rattle.mt_convert.proofs.Common.{Text, Glyph, T, SmartLigature, list_row, toy}
use Rattle.mt_convert.proofs.cases.Writing.{list, roman, from_top, evaluated}

-- f i: a ligature takes the place of both
f_i : from_top (list_row toy T (list (roman 102 ∷ roman 105 ∷ []))) ≡ Ok (Glyph 0 12 (pos 0) (pos 327680) ∷ [])
unfolding evaluated
f_i = refl

-- f f a: a kern between the two f
f_f_a : from_top (list_row toy T (list (roman 102 ∷ roman 102 ∷ roman 97 ∷ []))) ≡ Ok (Glyph 0 102 (pos 0) (pos 327680) ∷ Glyph 0 102 (pos 286720) (pos 327680) ∷ Glyph 0 97 (pos 614400) (pos 327680) ∷ [])
unfolding evaluated
f_f_a = refl

-- f l: a ligature of another kind is refused
f_l : from_top (list_row toy T (list (roman 102 ∷ roman 108 ∷ []))) ≡ Err (SmartLigature 0 Text 102 108)
unfolding evaluated
f_l = refl
