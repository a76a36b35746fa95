-- Lists with scripts, operators, fractions, roots, lines, accents and boundaries, worked.
use Rattle.std.proofs.Common.{◌≡◌, refl, Ok, Some, None, pos, [], ◌∷◌}
use Rattle.mt_convert.proofs.Common.{Glyph, Rule, D, T, Ord, Op, Bin, Inner, Plain, Radical, Accent, Over, Under, Vcenter, Never, Element, AtomElement, FractionElement, LeftElement, RightElement, EmptyPart, ListPart, RowsPart, NoRows, MoreRows, list_row, toy, delim, no_delim}
use Rattle.mt_convert.proofs.cases.Writing.{list, symbol, atom, plain, letter, roman, equals, group, from_top, evaluated}

-- the root of b squared - 4 a c
abbrev root_of_discriminant : Element
root_of_discriminant =
    atom (Radical (delim 2 112 3 112)) (ListPart (list (atom (Plain Ord) (symbol 1 98) (symbol 0 50) EmptyPart ∷ plain Bin 2 0 ∷ roman 52 ∷ letter 97 ∷ letter 99 ∷ []))) EmptyPart EmptyPart

-- x with the superscript 2
x_squared : from_top (list_row toy T (list (atom (Plain Ord) (symbol 1 120) (symbol 0 50) EmptyPart ∷ []))) ≡ Ok (Glyph 3 120 (pos 0) (pos 475136) ∷ Glyph 1 50 (pos 327680) (pos 229376) ∷ [])
unfolding evaluated
x_squared = refl

-- f with the subscript i and the superscript 2
f_both : from_top (list_row toy T (list (atom (Plain Ord) (symbol 1 102) (symbol 0 50) (symbol 1 105) ∷ []))) ≡ Ok (Glyph 3 102 (pos 0) (pos 475136) ∷ Glyph 1 50 (pos 409600) (pos 229376) ∷ Glyph 4 105 (pos 327680) (pos 638976) ∷ [])
unfolding evaluated
f_both = refl

-- a above b with a rule of 3sp
a_above_b : from_top (list_row toy T (list (FractionElement (Some (pos 3)) no_delim no_delim (list (letter 97 ∷ [])) (list (letter 98 ∷ [])) ∷ []))) ≡ Ok (Glyph 4 97 (pos 78643) (pos 229376) ∷ Rule (pos 78643) (pos 311297) (pos 3) (pos 229376) ∷ Glyph 4 98 (pos 78643) (pos 720895) ∷ [])
unfolding evaluated
a_above_b = refl

-- a root of a minus that is in a row centred on the axis: the body has a negative depth
root_of_rows : from_top (list_row toy T (list (atom (Radical (delim 2 112 3 112)) (ListPart (list (atom Vcenter (RowsPart (MoreRows (list (plain Bin 2 0 ∷ [])) NoRows)) EmptyPart EmptyPart ∷ []))) EmptyPart EmptyPart ∷ []))) ≡ Ok (Glyph 6 112 (pos 0) (pos 81920) ∷ Rule (pos 327680) (pos 81920) (pos 40960) (pos 327680) ∷ Glyph 6 0 (pos 327680) (pos 455680) ∷ [])
unfolding evaluated
root_of_rows = refl

-- a sum with limits in display style
sum_in_display : from_top (list_row toy D (list (atom (Plain Op) (symbol 3 80) (symbol 1 110) (symbol 1 105) ∷ []))) ≡ Ok (Glyph 4 110 (pos 294912) (pos 311296) ∷ Glyph 9 88 (pos 0) (pos 434176) ∷ Glyph 4 105 (pos 294912) (pos 1785856) ∷ [])
unfolding evaluated
sum_in_display = refl

-- and with scripts in text style
sum_in_text : from_top (list_row toy T (list (atom (Plain Op) (symbol 3 80) (symbol 1 110) (symbol 1 105) ∷ []))) ≡ Ok (Glyph 9 80 (pos 0) (pos 57344) ∷ Glyph 4 110 (pos 491520) (pos 229376) ∷ Glyph 4 105 (pos 491520) (pos 741376) ∷ [])
unfolding evaluated
sum_in_text = refl

-- an integral from a to b
integral : from_top (list_row toy T (list (AtomElement (Plain Op) Never (symbol 3 82) (symbol 1 98) (symbol 1 97) ∷ []))) ≡ Ok (Glyph 9 82 (pos 0) (pos 57344) ∷ Glyph 4 98 (pos 491520) (pos 229376) ∷ Glyph 4 97 (pos 327680) (pos 823296) ∷ [])
unfolding evaluated
integral = refl

-- a over b after a brace, which is extensible, without a right delimiter
brace : from_top (list_row toy T (list (atom (Plain Inner) (ListPart (list (LeftElement (delim 2 102 3 8) ∷ group (FractionElement None no_delim no_delim (list (letter 97 ∷ [])) (list (letter 98 ∷ [])) ∷ []) ∷ RightElement no_delim ∷ []))) EmptyPart EmptyPart ∷ []))) ≡ Ok (Glyph 9 56 (pos 0) (pos 0) ∷ Glyph 9 62 (pos 0) (pos 204800) ∷ Glyph 9 60 (pos 0) (pos 286720) ∷ Glyph 9 62 (pos 0) (pos 614400) ∷ Glyph 9 58 (pos 0) (pos 696320) ∷ Glyph 4 97 (pos 406323) (pos 368640) ∷ Rule (pos 406323) (pos 471040) (pos 40960) (pos 229376) ∷ Glyph 4 98 (pos 406323) (pos 860160) ∷ [])
unfolding evaluated
brace = refl

-- a over b after a slash: none is tall enough
slash : from_top (list_row toy T (list (atom (Plain Inner) (ListPart (list (LeftElement (delim 0 47 3 14) ∷ group (FractionElement None no_delim no_delim (list (letter 97 ∷ [])) (list (letter 98 ∷ [])) ∷ []) ∷ RightElement no_delim ∷ []))) EmptyPart EmptyPart ∷ []))) ≡ Ok (Glyph 9 14 (pos 0) (pos 106496) ∷ Glyph 4 97 (pos 406323) (pos 229376) ∷ Rule (pos 406323) (pos 331776) (pos 40960) (pos 229376) ∷ Glyph 4 98 (pos 406323) (pos 720896) ∷ [])
unfolding evaluated
slash = refl

-- f under a hat, squared
hat_f_squared : from_top (list_row toy T (list (atom (Accent (record { fam = 0; code = 94 })) (symbol 1 102) (symbol 0 50) EmptyPart ∷ []))) ≡ Ok (Glyph 0 94 (pos 81920) (pos 491520) ∷ Glyph 3 102 (pos 0) (pos 491520) ∷ Glyph 1 50 (pos 409600) (pos 245760) ∷ [])
unfolding evaluated
hat_f_squared = refl

-- a overlined
overlined : from_top (list_row toy T (list (atom Over (symbol 1 97) EmptyPart EmptyPart ∷ []))) ≡ Ok (Rule (pos 0) (pos 81920) (pos 40960) (pos 327680) ∷ Glyph 3 97 (pos 0) (pos 532480) ∷ [])
unfolding evaluated
overlined = refl

-- a underlined
underlined : from_top (list_row toy T (list (atom Under (symbol 1 97) EmptyPart EmptyPart ∷ []))) ≡ Ok (Glyph 3 97 (pos 0) (pos 327680) ∷ Rule (pos 0) (pos 491520) (pos 40960) (pos 327680) ∷ [])
unfolding evaluated
underlined = refl

-- the roots of a quadratic equation in display style
quadratic : from_top (list_row toy D (list (letter 120 ∷ equals ∷ group (FractionElement None no_delim no_delim (list (plain Bin 2 0 ∷ letter 98 ∷ plain Bin 2 6 ∷ root_of_discriminant ∷ [])) (list (roman 50 ∷ letter 97 ∷ [])) ∷ []) ∷ []))) ≡ Ok (Glyph 3 120 (pos 0) (pos 1082368) ∷ Glyph 0 61 (pos 509720) (pos 1082368) ∷ Glyph 6 0 (pos 1098083) (pos 631808) ∷ Glyph 3 98 (pos 1425763) (pos 631808) ∷ Glyph 6 6 (pos 1899075) (pos 631808) ∷ Glyph 6 112 (pos 2372387) (pos 81920) ∷ Rule (pos 2700067) (pos 81920) (pos 40960) (pos 2191808) ∷ Glyph 3 98 (pos 2700067) (pos 631808) ∷ Glyph 1 50 (pos 3027747) (pos 427008) ∷ Glyph 6 0 (pos 3435523) (pos 631808) ∷ Glyph 0 52 (pos 3908835) (pos 631808) ∷ Glyph 3 97 (pos 4236515) (pos 631808) ∷ Glyph 3 99 (pos 4564195) (pos 631808) ∷ Rule (pos 1098083) (pos 939008) (pos 40960) (pos 3793792) ∷ Glyph 0 50 (pos 2667299) (pos 1532928) ∷ Glyph 3 97 (pos 2994979) (pos 1532928) ∷ [])
unfolding evaluated
quadratic = refl
