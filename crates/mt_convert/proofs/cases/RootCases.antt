-- Roots, phantoms and big delimiters, worked.
use Rattle.std.proofs.Common.{◌≡◌, refl, ℕ, Bool, true, false, Ok, Err, None, pos, List, [], ◌∷◌}
use Rattle.mt_convert.proofs.Common.{Text, Scriptscript, Glyph, Rule, D, Dc, T, S, Sc, Class, Ord, Op, Rel, Open, Close, Inner, Plain, Radical, Over, Veil, Always, Delim, Element, Part, AtomElement, FractionElement, LeftElement, RightElement, KernElement, EmptyPart, ListPart, RootPart, BigPart, MissingFamily, Overflow, list_row, toy, neg, delim, no_delim}
use Rattle.mt_convert.proofs.cases.Writing.{list, symbol, atom, plain, letter, roman, plus, equals, group, from_top, evaluated}

abbrev root : List Element → Part → Element
root degree body = atom (Radical (delim 2 112 3 112)) (RootPart (list degree) body) EmptyPart EmptyPart

abbrev veil : Bool → Bool → Bool → Part → Element
veil width height marks nucleus = atom (Veil width height marks) nucleus EmptyPart EmptyPart

abbrev phantom : Part → Element
phantom nucleus = veil true true false nucleus

abbrev smash : Part → Element
smash nucleus = veil true false true nucleus

abbrev big : Class → Delim → ℕ → Element
big class d level = atom (Plain class) (BigPart d level) EmptyPart EmptyPart

abbrev parenthesis : Delim
parenthesis = delim 0 40 3 0

abbrev slash : Delim
slash = delim 0 47 3 14

abbrev x_squared : Element
x_squared = atom (Plain Ord) (symbol 1 120) (symbol 0 50) EmptyPart

abbrev a_over_b : Element
a_over_b = group (FractionElement None no_delim no_delim (list (letter 97 ∷ [])) (list (letter 98 ∷ [])) ∷ [])

-- a third root
a_third_root : from_top (list_row toy T (list (root (roman 51 ∷ []) (symbol 1 97) ∷ []))) ≡ Ok (Glyph 2 51 (pos 182040) (pos 302078) ∷ Glyph 6 112 (neg 18200) (pos 81920) ∷ Rule (pos 309480) (pos 81920) (pos 40960) (pos 327680) ∷ Glyph 3 97 (pos 309480) (pos 578560) ∷ [])
unfolding evaluated
a_third_root = refl

-- without a degree
no_degree : from_top (list_row toy T (list (root [] (symbol 1 97) ∷ []))) ≡ Ok (Glyph 6 112 (neg 182040) (pos 81920) ∷ Rule (pos 145640) (pos 81920) (pos 40960) (pos 327680) ∷ Glyph 3 97 (pos 145640) (pos 578560) ∷ [])
unfolding evaluated
no_degree = refl

-- the degree is in scriptscript style
degree_of_three : from_top (list_row toy D (list (root (letter 110 ∷ plus ∷ roman 49 ∷ []) (ListPart (list (letter 97 ∷ plus ∷ letter 98 ∷ []))) ∷ []))) ≡ Ok (Glyph 5 110 (pos 182040) (pos 294909) ∷ Glyph 2 43 (pos 345880) (pos 294909) ∷ Glyph 2 49 (pos 509720) (pos 294909) ∷ Glyph 6 112 (pos 309480) (pos 81920) ∷ Rule (pos 637160) (pos 81920) (pos 40960) (pos 1274304) ∷ Glyph 3 97 (pos 637160) (pos 614400) ∷ Glyph 0 43 (pos 1110472) (pos 614400) ∷ Glyph 3 98 (pos 1583784) (pos 614400) ∷ [])
unfolding evaluated
degree_of_three = refl

-- a root is not cramped, what is under it is
cramped_root : from_top (list_row toy Dc (list (root (roman 51 ∷ []) (ListPart (list (x_squared ∷ []))) ∷ []))) ≡ Ok (Glyph 2 51 (pos 182040) (pos 284259) ∷ Glyph 6 112 (neg 18200) (pos 81920) ∷ Rule (pos 309480) (pos 81920) (pos 40960) (pos 589824) ∷ Glyph 3 120 (pos 309480) (pos 667648) ∷ Glyph 1 50 (pos 637160) (pos 462848) ∷ [])
unfolding evaluated
cramped_root = refl

-- the math unit is that of the size of the place
root_in_a_script : from_top (list_row toy S (list (root (roman 51 ∷ []) (ListPart (list (x_squared ∷ []))) ∷ []))) ≡ Ok (Glyph 2 51 (pos 127430) (pos 202136) ∷ Glyph 7 112 (pos 36410) (pos 57344) ∷ Rule (pos 265786) (pos 57344) (pos 28672) (pos 425984) ∷ Glyph 4 120 (pos 265786) (pos 451584) ∷ Glyph 2 50 (pos 495162) (pos 308224) ∷ [])
unfolding evaluated
root_in_a_script = refl

-- the degree is raised by 0.6 of what the radical has more height than depth
root_of_a_fraction : from_top (list_row toy T (list (root (roman 51 ∷ []) (ListPart (list (a_over_b ∷ []))) ∷ []))) ≡ Ok (Glyph 2 51 (pos 182040) (pos 475749) ∷ Glyph 9 112 (neg 18200) (pos 81920) ∷ Rule (pos 391400) (pos 81920) (pos 40960) (pos 386662) ∷ Glyph 4 97 (pos 470043) (pos 447488) ∷ Rule (pos 470043) (pos 549888) (pos 40960) (pos 229376) ∷ Glyph 4 98 (pos 470043) (pos 939008) ∷ [])
unfolding evaluated
root_of_a_fraction = refl

-- a root in a degree
root_in_a_degree : from_top (list_row toy T (list (root (root (roman 50 ∷ []) (symbol 0 51) ∷ []) (symbol 0 52) ∷ []))) ≡ Ok (Glyph 2 50 (pos 273060) (pos 163840) ∷ Glyph 8 112 (pos 254860) (pos 56321) ∷ Rule (pos 418700) (pos 56321) (pos 20480) (pos 163840) ∷ Glyph 2 51 (pos 418700) (pos 317441) ∷ Glyph 6 112 (pos 218460) (pos 97283) ∷ Rule (pos 546140) (pos 97283) (pos 40960) (pos 327680) ∷ Glyph 0 52 (pos 546140) (pos 593923) ∷ [])
unfolding evaluated
root_in_a_degree = refl

-- a root under a root
root_under_a_root : from_top (list_row toy T (list (root (roman 50 ∷ []) (ListPart (list (root (roman 51 ∷ []) (symbol 1 120) ∷ []))) ∷ []))) ≡ Ok (Glyph 2 50 (pos 182040) (pos 452605) ∷ Glyph 9 112 (neg 18200) (pos 81920) ∷ Rule (pos 391400) (pos 81920) (pos 40960) (pos 637160) ∷ Glyph 2 51 (pos 573440) (pos 532478) ∷ Glyph 6 112 (pos 373200) (pos 312320) ∷ Rule (pos 700880) (pos 312320) (pos 40960) (pos 327680) ∷ Glyph 3 120 (pos 700880) (pos 808960) ∷ [])
unfolding evaluated
root_under_a_root = refl

-- a root counts as an ordinary atom
sum_of_roots : from_top (list_row toy T (list (letter 97 ∷ plus ∷ root (roman 51 ∷ []) (symbol 1 98) ∷ plus ∷ letter 99 ∷ []))) ≡ Ok (Glyph 3 97 (pos 0) (pos 578560) ∷ Glyph 0 43 (pos 473312) (pos 578560) ∷ Glyph 2 51 (pos 1128664) (pos 302078) ∷ Glyph 6 112 (pos 928424) (pos 81920) ∷ Rule (pos 1256104) (pos 81920) (pos 40960) (pos 327680) ∷ Glyph 3 98 (pos 1256104) (pos 578560) ∷ Glyph 0 43 (pos 1729416) (pos 578560) ∷ Glyph 3 99 (pos 2202728) (pos 578560) ∷ [])
unfolding evaluated
sum_of_roots = refl

-- the degree is set before the body
degree_first : from_top (list_row toy T (list (root (plain Ord 9 97 ∷ []) (symbol 8 98) ∷ []))) ≡ Err (MissingFamily 9 Scriptscript)
unfolding evaluated
degree_first = refl

-- its row is packed by itself
wide_degree : from_top (list_row toy T (list (root (KernElement (pos 1073676288) ∷ letter 97 ∷ []) (symbol 1 98) ∷ []))) ≡ Err (Overflow (pos 1073840128))
unfolding evaluated
wide_degree = refl

-- and so is the radical
wide_radical : from_top (list_row toy T (list (root (letter 97 ∷ []) (ListPart (list (KernElement (pos 1073676288) ∷ []))) ∷ []))) ≡ Err (Overflow (pos 1074003968))
unfolding evaluated
wide_radical = refl

-- all of them side by side
wide_root : from_top (list_row toy T (list (root (KernElement (pos 1073676288) ∷ []) (symbol 1 97) ∷ []))) ≡ Err (Overflow (pos 1074149608))
unfolding evaluated
wide_root = refl

-- a phantom
a_phantom : from_top (list_row toy T (list (phantom (symbol 1 97) ∷ letter 98 ∷ []))) ≡ Ok (Glyph 3 98 (pos 327680) (pos 327680) ∷ [])
unfolding evaluated
a_phantom = refl

-- of nothing
empty_phantom : from_top (list_row toy T (list (phantom EmptyPart ∷ []))) ≡ Ok []
unfolding evaluated
empty_phantom = refl

-- with the width alone
width_alone : from_top (list_row toy T (list (veil true false false (symbol 1 97) ∷ letter 98 ∷ []))) ≡ Ok (Glyph 3 98 (pos 327680) (pos 327680) ∷ [])
unfolding evaluated
width_alone = refl

-- with the height and depth alone
height_alone : from_top (list_row toy T (list (veil false true false (ListPart (list (atom (Plain Ord) (symbol 1 97) EmptyPart (symbol 0 50) ∷ []))) ∷ letter 98 ∷ []))) ≡ Ok (Glyph 3 98 (pos 0) (pos 327680) ∷ [])
unfolding evaluated
height_alone = refl

-- with the marks, but without height and depth
a_smashed_atom : from_top (list_row toy T (list (smash (ListPart (list (atom (Plain Ord) (symbol 1 97) (symbol 0 51) (symbol 0 50) ∷ []))) ∷ letter 98 ∷ []))) ≡ Ok (Glyph 3 97 (pos 0) (pos 327680) ∷ Glyph 1 51 (pos 327680) (pos 81920) ∷ Glyph 1 50 (pos 327680) (pos 491520) ∷ Glyph 3 98 (pos 589824) (pos 327680) ∷ [])
unfolding evaluated
a_smashed_atom = refl

-- a phantom counts as an ordinary atom
sum_with_a_phantom : from_top (list_row toy T (list (letter 97 ∷ plus ∷ phantom (symbol 1 98) ∷ equals ∷ letter 99 ∷ []))) ≡ Ok (Glyph 3 97 (pos 0) (pos 327680) ∷ Glyph 0 43 (pos 473312) (pos 327680) ∷ Glyph 0 61 (pos 1456344) (pos 327680) ∷ Glyph 3 99 (pos 1966064) (pos 327680) ∷ [])
unfolding evaluated
sum_with_a_phantom = refl

-- it is not joined with what is before it
no_ligature : from_top (list_row toy T (list (roman 102 ∷ phantom (symbol 0 105) ∷ []))) ≡ Ok (Glyph 0 102 (pos 0) (pos 327680) ∷ [])
unfolding evaluated
no_ligature = refl

-- it is not cramped
cramped_phantom : from_top (list_row toy Sc (list (phantom (ListPart (list (x_squared ∷ []))) ∷ letter 121 ∷ []))) ≡ Ok (Glyph 4 121 (pos 425984) (pos 335872) ∷ [])
unfolding evaluated
cramped_phantom = refl

-- marks that stick out of a rule
overlined_smash : from_top (list_row toy T (list (atom Over (ListPart (list (smash (ListPart (list (x_squared ∷ []))) ∷ []))) EmptyPart EmptyPart ∷ []))) ≡ Ok (Rule (pos 0) (pos 81920) (pos 40960) (pos 589824) ∷ Glyph 3 120 (pos 0) (pos 204800) ∷ Glyph 1 50 (pos 327680) (neg 40960) ∷ [])
unfolding evaluated
overlined_smash = refl

-- a box without height and depth stays so in the middle of a width
smashed_numerator : from_top (list_row toy T (list (group (FractionElement None no_delim no_delim (list (smash (ListPart (list (x_squared ∷ []))) ∷ [])) (list (letter 97 ∷ letter 98 ∷ letter 99 ∷ [])) ∷ []) ∷ []))) ≡ Ok (Glyph 4 120 (pos 209715) (pos 0) ∷ Glyph 2 50 (pos 439091) (neg 172032) ∷ Rule (pos 78643) (pos 102400) (pos 40960) (pos 688128) ∷ Glyph 4 97 (pos 78643) (pos 491520) ∷ Glyph 4 98 (pos 308019) (pos 491520) ∷ Glyph 4 99 (pos 537395) (pos 491520) ∷ [])
unfolding evaluated
smashed_numerator = refl

-- as the nucleus of an ordinary atom a symbol is no operator
phantom_of_a_sum : from_top (list_row toy D (list (phantom (symbol 3 80) ∷ []))) ≡ Ok []
unfolding evaluated
phantom_of_a_sum = refl

-- a fault under a phantom
fault_under_a_phantom : from_top (list_row toy T (list (phantom (symbol 9 97) ∷ letter 98 ∷ []))) ≡ Err (MissingFamily 9 Text)
unfolding evaluated
fault_under_a_phantom = refl

-- its nucleus is packed, also where its width alone is left
wide_phantom : from_top (list_row toy T (list (veil true false false (ListPart (list (KernElement (pos 1073676288) ∷ KernElement (pos 1073676288) ∷ []))) ∷ []))) ≡ Err (Overflow (pos 2147352576))
unfolding evaluated
wide_phantom = refl

-- big delimiters on both sides
big_parentheses : from_top (list_row toy T (list (big Open parenthesis 0 ∷ letter 97 ∷ big Close (delim 0 41 3 1) 0 ∷ []))) ≡ Ok (Glyph 9 0 (pos 0) (pos 40960) ∷ Glyph 3 97 (pos 327680) (pos 655360) ∷ Glyph 9 1 (pos 655360) (pos 40960) ∷ [])
unfolding evaluated
big_parentheses = refl

-- of all four sizes
four_sizes : from_top (list_row toy T (list (big Open parenthesis 0 ∷ big Open parenthesis 1 ∷ big Open parenthesis 2 ∷ big Open parenthesis 3 ∷ []))) ≡ Ok (Glyph 9 0 (pos 0) (pos 532480) ∷ Glyph 9 16 (pos 327680) (pos 286720) ∷ Glyph 9 16 (pos 737280) (pos 286720) ∷ Glyph 9 48 (pos 1146880) (pos 40960) ∷ Glyph 9 66 (pos 1146880) (pos 409600) ∷ Glyph 9 66 (pos 1146880) (pos 573440) ∷ Glyph 9 66 (pos 1146880) (pos 737280) ∷ Glyph 9 66 (pos 1146880) (pos 901120) ∷ Glyph 9 66 (pos 1146880) (pos 1064960) ∷ Glyph 9 66 (pos 1146880) (pos 1228800) ∷ Glyph 9 66 (pos 1146880) (pos 1392640) ∷ Glyph 9 64 (pos 1146880) (pos 1556480) ∷ [])
unfolding evaluated
four_sizes = refl

-- as a relation
big_relation : from_top (list_row toy T (list (letter 97 ∷ big Rel slash 0 ∷ letter 98 ∷ []))) ≡ Ok (Glyph 3 97 (pos 0) (pos 557056) ∷ Glyph 9 14 (pos 509720) (pos 188416) ∷ Glyph 3 98 (pos 1019440) (pos 557056) ∷ [])
unfolding evaluated
big_relation = refl

-- without a character it has no width
no_big_delimiter : from_top (list_row toy T (list (big Ord no_delim 0 ∷ letter 97 ∷ big Rel no_delim 0 ∷ letter 98 ∷ []))) ≡ Ok (Glyph 3 97 (pos 0) (pos 557056) ∷ Glyph 3 98 (pos 691760) (pos 557056) ∷ [])
unfolding evaluated
no_big_delimiter = refl

-- of text size also in a script
big_in_a_script : from_top (list_row toy S (list (big Ord slash 0 ∷ letter 97 ∷ []))) ≡ Ok (Glyph 9 14 (pos 0) (pos 188416) ∷ Glyph 4 97 (pos 327680) (pos 557056) ∷ [])
unfolding evaluated
big_in_a_script = refl

-- with scripts
big_with_scripts : from_top (list_row toy T (list (atom (Plain Ord) (BigPart slash 0) (symbol 0 50) (symbol 0 51) ∷ []))) ≡ Ok (Glyph 9 14 (pos 0) (pos 245760) ∷ Glyph 1 50 (pos 327680) (pos 229376) ∷ Glyph 1 51 (pos 327680) (pos 778240) ∷ [])
unfolding evaluated
big_with_scripts = refl

-- its height is at least that of its size
tall_boundaries : from_top (list_row toy T (list (atom (Plain Inner) (ListPart (list (LeftElement parenthesis ∷ big Ord slash 3 ∷ RightElement (delim 0 41 3 1) ∷ []))) EmptyPart EmptyPart ∷ []))) ≡ Ok (Glyph 9 48 (pos 0) (pos 40960) ∷ Glyph 9 66 (pos 0) (pos 409600) ∷ Glyph 9 66 (pos 0) (pos 573440) ∷ Glyph 9 66 (pos 0) (pos 737280) ∷ Glyph 9 66 (pos 0) (pos 901120) ∷ Glyph 9 66 (pos 0) (pos 1064960) ∷ Glyph 9 66 (pos 0) (pos 1228800) ∷ Glyph 9 66 (pos 0) (pos 1392640) ∷ Glyph 9 64 (pos 0) (pos 1556480) ∷ Glyph 9 14 (pos 573440) (pos 778240) ∷ Glyph 9 49 (pos 901120) (pos 40960) ∷ Glyph 9 67 (pos 901120) (pos 409600) ∷ Glyph 9 67 (pos 901120) (pos 573440) ∷ Glyph 9 67 (pos 901120) (pos 737280) ∷ Glyph 9 67 (pos 901120) (pos 901120) ∷ Glyph 9 67 (pos 901120) (pos 1064960) ∷ Glyph 9 67 (pos 901120) (pos 1228800) ∷ Glyph 9 67 (pos 901120) (pos 1392640) ∷ Glyph 9 65 (pos 901120) (pos 1556480) ∷ [])
unfolding evaluated
tall_boundaries = refl

-- as an operator under limits it is not centred
big_operator : from_top (list_row toy T (list (AtomElement (Plain Op) Always (BigPart slash 0) EmptyPart (symbol 1 97) ∷ []))) ≡ Ok (Glyph 9 14 (pos 0) (pos 188416) ∷ Glyph 4 97 (pos 49152) (pos 1007616) ∷ [])
unfolding evaluated
big_operator = refl
