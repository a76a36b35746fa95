-- Middles between boundaries, worked.
use Rattle.std.proofs.Common.{◌≡◌, refl, Ok, Err, Some, None, pos, List, [], ◌∷◌}
use Rattle.mt_convert.proofs.Common.{Text, Glyph, Rule, D, Dc, T, S, Ss, Ord, Op, Bin, Punct, Inner, Plain, Glue, Element, End, FractionElement, LeftElement, MiddleElement, RightElement, StyleElement, ChoiceElement, MuSpaceElement, KernElement, NonscriptElement, EmptyPart, ListPart, MissingFamily, Overflow, TooTall, list_row, toy, delim, no_delim}
use Rattle.mt_convert.proofs.cases.Writing.{list, symbol, atom, plain, letter, plus, equals, group, from_top, evaluated}

-- ( and / and )
abbrev left : Element
left = LeftElement (delim 0 40 3 0)

abbrev slash : Element
slash = MiddleElement (delim 0 47 3 14)

abbrev right : Element
right = RightElement (delim 0 41 3 1)

-- a bar, and a brace, which is extensible
abbrev bar : Element
bar = MiddleElement (delim 2 106 3 12)

abbrev brace : Element
brace = MiddleElement (delim 2 102 3 8)

abbrev minus : Element
minus = plain Bin 2 0

-- 3mu
abbrev thin : Glue
thin = record { width = pos 196608; shrink = pos 0 }

-- a list with its boundaries, as an atom
abbrev enclosed : List Element → Element
enclosed es = atom (Plain Inner) (ListPart (list es)) EmptyPart EmptyPart

-- + before a middle and - after it are ordinary
signs_beside : from_top (list_row toy T (list (enclosed (left ∷ letter 97 ∷ plus ∷ slash ∷ minus ∷ letter 98 ∷ right ∷ []) ∷ []))) ≡ Ok (Glyph 0 40 (pos 0) (pos 327680) ∷ Glyph 3 97 (pos 327680) (pos 327680) ∷ Glyph 0 43 (pos 655360) (pos 327680) ∷ Glyph 0 47 (pos 983040) (pos 327680) ∷ Glyph 6 0 (pos 1310720) (pos 327680) ∷ Glyph 3 98 (pos 1638400) (pos 327680) ∷ Glyph 0 41 (pos 1966080) (pos 327680) ∷ [])
unfolding evaluated
signs_beside = refl

-- the style ends at the middle
style_ends : from_top (list_row toy T (list (enclosed (left ∷ StyleElement S ∷ letter 97 ∷ slash ∷ letter 98 ∷ right ∷ []) ∷ []))) ≡ Ok (Glyph 0 40 (pos 0) (pos 327680) ∷ Glyph 4 97 (pos 327680) (pos 327680) ∷ Glyph 0 47 (pos 557056) (pos 327680) ∷ Glyph 3 98 (pos 884736) (pos 327680) ∷ Glyph 0 41 (pos 1212416) (pos 327680) ∷ [])
unfolding evaluated
style_ends = refl

-- the style in which the list begins is cramped
cramped_opening : from_top (list_row toy Dc (list (enclosed (left ∷ StyleElement S ∷ letter 97 ∷ slash ∷ StyleElement Ss ∷ letter 98 ∷ slash ∷ letter 99 ∷ right ∷ []) ∷ []))) ≡ Ok (Glyph 0 40 (pos 0) (pos 327680) ∷ Glyph 4 97 (pos 327680) (pos 327680) ∷ Glyph 0 47 (pos 557056) (pos 327680) ∷ Glyph 5 98 (pos 884736) (pos 327680) ∷ Glyph 0 47 (pos 1048576) (pos 327680) ∷ Glyph 3 99 (pos 1376256) (pos 327680) ∷ Glyph 0 41 (pos 1703936) (pos 327680) ∷ [])
unfolding evaluated
cramped_opening = refl

-- beside other atoms it is Inner
counts_as_inner : from_top (list_row toy T (list (letter 97 ∷ enclosed (left ∷ letter 98 ∷ slash ∷ letter 99 ∷ right ∷ []) ∷ letter 100 ∷ []))) ≡ Ok (Glyph 3 97 (pos 0) (pos 327680) ∷ Glyph 0 40 (pos 436904) (pos 327680) ∷ Glyph 3 98 (pos 764584) (pos 327680) ∷ Glyph 0 47 (pos 1092264) (pos 327680) ∷ Glyph 3 99 (pos 1419944) (pos 327680) ∷ Glyph 0 41 (pos 1747624) (pos 327680) ∷ Glyph 3 100 (pos 2184528) (pos 327680) ∷ [])
unfolding evaluated
counts_as_inner = refl

-- no space between a relation and a middle
relations_beside : from_top (list_row toy T (list (enclosed (left ∷ letter 97 ∷ equals ∷ slash ∷ equals ∷ letter 98 ∷ right ∷ []) ∷ []))) ≡ Ok (Glyph 0 40 (pos 0) (pos 327680) ∷ Glyph 3 97 (pos 327680) (pos 327680) ∷ Glyph 0 61 (pos 837400) (pos 327680) ∷ Glyph 0 47 (pos 1165080) (pos 327680) ∷ Glyph 0 61 (pos 1492760) (pos 327680) ∷ Glyph 3 98 (pos 2002480) (pos 327680) ∷ Glyph 0 41 (pos 2330160) (pos 327680) ∷ [])
unfolding evaluated
relations_beside = refl

-- nor in script style
relations_in_script : from_top (list_row toy S (list (enclosed (left ∷ letter 97 ∷ equals ∷ slash ∷ equals ∷ letter 98 ∷ right ∷ []) ∷ []))) ≡ Ok (Glyph 1 40 (pos 0) (pos 229376) ∷ Glyph 4 97 (pos 229376) (pos 229376) ∷ Glyph 1 61 (pos 458752) (pos 229376) ∷ Glyph 1 47 (pos 688128) (pos 229376) ∷ Glyph 1 61 (pos 917504) (pos 229376) ∷ Glyph 4 98 (pos 1146880) (pos 229376) ∷ Glyph 1 41 (pos 1376256) (pos 229376) ∷ [])
unfolding evaluated
relations_in_script = refl

-- a thin space after a punctuation mark, none after a middle
punctuation_beside : from_top (list_row toy T (list (enclosed (left ∷ letter 97 ∷ plain Punct 1 59 ∷ slash ∷ plain Punct 1 59 ∷ letter 98 ∷ right ∷ []) ∷ []))) ≡ Ok (Glyph 0 40 (pos 0) (pos 327680) ∷ Glyph 3 97 (pos 327680) (pos 327680) ∷ Glyph 3 59 (pos 655360) (pos 327680) ∷ Glyph 0 47 (pos 1092264) (pos 327680) ∷ Glyph 3 59 (pos 1419944) (pos 327680) ∷ Glyph 3 98 (pos 1856848) (pos 327680) ∷ Glyph 0 41 (pos 2184528) (pos 327680) ∷ [])
unfolding evaluated
punctuation_beside = refl

-- none after an inner atom: a middle is Close to its left
inner_beside : from_top (list_row toy T (list (enclosed (left ∷ plain Inner 1 97 ∷ slash ∷ plain Inner 1 98 ∷ right ∷ []) ∷ []))) ≡ Ok (Glyph 0 40 (pos 0) (pos 327680) ∷ Glyph 3 97 (pos 327680) (pos 327680) ∷ Glyph 0 47 (pos 655360) (pos 327680) ∷ Glyph 3 98 (pos 983040) (pos 327680) ∷ Glyph 0 41 (pos 1310720) (pos 327680) ∷ [])
unfolding evaluated
inner_beside = refl

-- no space beside operators
operators_beside : from_top (list_row toy T (list (enclosed (left ∷ plain Op 1 97 ∷ slash ∷ plain Op 1 98 ∷ right ∷ []) ∷ []))) ≡ Ok (Glyph 0 40 (pos 0) (pos 327680) ∷ Glyph 3 97 (pos 327680) (pos 327680) ∷ Glyph 0 47 (pos 655360) (pos 327680) ∷ Glyph 3 98 (pos 983040) (pos 327680) ∷ Glyph 0 41 (pos 1310720) (pos 327680) ∷ [])
unfolding evaluated
operators_beside = refl

-- signs between operands
sums_in_segments : from_top (list_row toy T (list (enclosed (left ∷ letter 97 ∷ plus ∷ letter 98 ∷ slash ∷ letter 99 ∷ minus ∷ letter 100 ∷ right ∷ []) ∷ []))) ≡ Ok (Glyph 0 40 (pos 0) (pos 327680) ∷ Glyph 3 97 (pos 327680) (pos 327680) ∷ Glyph 0 43 (pos 800992) (pos 327680) ∷ Glyph 3 98 (pos 1274304) (pos 327680) ∷ Glyph 0 47 (pos 1601984) (pos 327680) ∷ Glyph 3 99 (pos 1929664) (pos 327680) ∷ Glyph 6 0 (pos 2402976) (pos 327680) ∷ Glyph 3 100 (pos 2876288) (pos 327680) ∷ Glyph 0 41 (pos 3203968) (pos 327680) ∷ [])
unfolding evaluated
sums_in_segments = refl

-- the second of two signs has no left operand, the first one none at its right
two_signs_before : from_top (list_row toy T (list (enclosed (left ∷ letter 97 ∷ plus ∷ minus ∷ slash ∷ letter 98 ∷ right ∷ []) ∷ []))) ≡ Ok (Glyph 0 40 (pos 0) (pos 327680) ∷ Glyph 3 97 (pos 327680) (pos 327680) ∷ Glyph 0 43 (pos 800992) (pos 327680) ∷ Glyph 6 0 (pos 1274304) (pos 327680) ∷ Glyph 0 47 (pos 1601984) (pos 327680) ∷ Glyph 3 98 (pos 1929664) (pos 327680) ∷ Glyph 0 41 (pos 2257344) (pos 327680) ∷ [])
unfolding evaluated
two_signs_before = refl

-- Open and then Close
side_by_side : from_top (list_row toy T (list (enclosed (left ∷ slash ∷ slash ∷ right ∷ []) ∷ []))) ≡ Ok (Glyph 0 40 (pos 0) (pos 327680) ∷ Glyph 0 47 (pos 327680) (pos 327680) ∷ Glyph 0 47 (pos 655360) (pos 327680) ∷ Glyph 0 41 (pos 983040) (pos 327680) ∷ [])
unfolding evaluated
side_by_side = refl

-- spaces after a middle are those of the opening style again
spaces_in_the_opening_style : from_top (list_row toy T (list (enclosed (left ∷ StyleElement S ∷ letter 97 ∷ slash ∷ letter 98 ∷ equals ∷ letter 99 ∷ right ∷ []) ∷ []))) ≡ Ok (Glyph 0 40 (pos 0) (pos 327680) ∷ Glyph 4 97 (pos 327680) (pos 327680) ∷ Glyph 0 47 (pos 557056) (pos 327680) ∷ Glyph 3 98 (pos 884736) (pos 327680) ∷ Glyph 0 61 (pos 1394456) (pos 327680) ∷ Glyph 3 99 (pos 1904176) (pos 327680) ∷ Glyph 0 41 (pos 2231856) (pos 327680) ∷ [])
unfolding evaluated
spaces_in_the_opening_style = refl

-- styles and spaces of three segments
three_segments : from_top (list_row toy T (list (enclosed (left ∷ StyleElement S ∷ letter 97 ∷ equals ∷ letter 98 ∷ slash ∷ StyleElement S ∷ letter 99 ∷ slash ∷ letter 100 ∷ plus ∷ letter 101 ∷ plain Punct 1 59 ∷ letter 102 ∷ right ∷ []) ∷ []))) ≡ Ok (Glyph 0 40 (pos 0) (pos 327680) ∷ Glyph 4 97 (pos 327680) (pos 327680) ∷ Glyph 1 61 (pos 557056) (pos 327680) ∷ Glyph 4 98 (pos 786432) (pos 327680) ∷ Glyph 0 47 (pos 1015808) (pos 327680) ∷ Glyph 4 99 (pos 1343488) (pos 327680) ∷ Glyph 0 47 (pos 1572864) (pos 327680) ∷ Glyph 3 100 (pos 1900544) (pos 327680) ∷ Glyph 0 43 (pos 2373856) (pos 327680) ∷ Glyph 3 101 (pos 2847168) (pos 327680) ∷ Glyph 3 59 (pos 3174848) (pos 327680) ∷ Glyph 3 102 (pos 3611752) (pos 327680) ∷ Glyph 0 41 (pos 4021352) (pos 327680) ∷ [])
unfolding evaluated
three_segments = refl

-- a list in script style
smaller_opening_style : from_top (list_row toy S (list (enclosed (left ∷ StyleElement D ∷ letter 97 ∷ slash ∷ letter 98 ∷ equals ∷ letter 99 ∷ right ∷ []) ∷ []))) ≡ Ok (Glyph 9 0 (pos 0) (pos 40960) ∷ Glyph 3 97 (pos 327680) (pos 606208) ∷ Glyph 9 14 (pos 655360) (pos 286720) ∷ Glyph 4 98 (pos 983040) (pos 606208) ∷ Glyph 1 61 (pos 1212416) (pos 606208) ∷ Glyph 4 99 (pos 1441792) (pos 606208) ∷ Glyph 9 1 (pos 1671168) (pos 40960) ∷ [])
unfolding evaluated
smaller_opening_style = refl

-- kerns stay where they are
kerns_beside : from_top (list_row toy T (list (enclosed (left ∷ letter 97 ∷ KernElement (pos 65536) ∷ slash ∷ KernElement (pos 131072) ∷ letter 98 ∷ right ∷ []) ∷ []))) ≡ Ok (Glyph 0 40 (pos 0) (pos 327680) ∷ Glyph 3 97 (pos 327680) (pos 327680) ∷ Glyph 0 47 (pos 720896) (pos 327680) ∷ Glyph 3 98 (pos 1179648) (pos 327680) ∷ Glyph 0 41 (pos 1507328) (pos 327680) ∷ [])
unfolding evaluated
kerns_beside = refl

-- a conditional space by the style there
conditional_spaces_beside : from_top (list_row toy T (list (enclosed (left ∷ StyleElement S ∷ NonscriptElement ∷ MuSpaceElement thin ∷ letter 97 ∷ slash ∷ NonscriptElement ∷ MuSpaceElement thin ∷ letter 98 ∷ right ∷ []) ∷ []))) ≡ Ok (Glyph 0 40 (pos 0) (pos 327680) ∷ Glyph 4 97 (pos 327680) (pos 327680) ∷ Glyph 0 47 (pos 557056) (pos 327680) ∷ Glyph 3 98 (pos 993960) (pos 327680) ∷ Glyph 0 41 (pos 1321640) (pos 327680) ∷ [])
unfolding evaluated
conditional_spaces_beside = refl

-- a style out of a choice ends there as well
style_out_of_a_choice : from_top (list_row toy T (list (enclosed (left ∷ ChoiceElement End (list (StyleElement S ∷ [])) End End ∷ letter 97 ∷ slash ∷ letter 98 ∷ right ∷ []) ∷ []))) ≡ Ok (Glyph 0 40 (pos 0) (pos 327680) ∷ Glyph 4 97 (pos 327680) (pos 327680) ∷ Glyph 0 47 (pos 557056) (pos 327680) ∷ Glyph 3 98 (pos 884736) (pos 327680) ∷ Glyph 0 41 (pos 1212416) (pos 327680) ∷ [])
unfolding evaluated
style_out_of_a_choice = refl

-- symbols are not joined over a middle
not_joined_over : from_top (list_row toy T (list (enclosed (left ∷ letter 102 ∷ slash ∷ letter 102 ∷ right ∷ []) ∷ []))) ≡ Ok (Glyph 0 40 (pos 0) (pos 327680) ∷ Glyph 3 102 (pos 327680) (pos 327680) ∷ Glyph 0 47 (pos 737280) (pos 327680) ∷ Glyph 3 102 (pos 1064960) (pos 327680) ∷ Glyph 0 41 (pos 1474560) (pos 327680) ∷ [])
unfolding evaluated
not_joined_over = refl

-- all delimiters are of one size, by all segments
one_size : from_top (list_row toy T (list (enclosed (left ∷ group (FractionElement None no_delim no_delim (list (letter 97 ∷ [])) (list (letter 98 ∷ [])) ∷ []) ∷ bar ∷ letter 99 ∷ right ∷ []) ∷ []))) ≡ Ok (Glyph 9 0 (pos 0) (pos 40960) ∷ Glyph 4 97 (pos 406323) (pos 409600) ∷ Rule (pos 406323) (pos 512000) (pos 40960) (pos 229376) ∷ Glyph 4 98 (pos 406323) (pos 901120) ∷ Glyph 6 106 (pos 714342) (pos 655360) ∷ Glyph 3 99 (pos 1042022) (pos 655360) ∷ Glyph 9 1 (pos 1369702) (pos 40960) ∷ [])
unfolding evaluated
one_size = refl

-- an extensible one, of the same size
extensible : from_top (list_row toy T (list (enclosed (left ∷ group (FractionElement None no_delim no_delim (list (letter 97 ∷ [])) (list (letter 98 ∷ [])) ∷ []) ∷ brace ∷ letter 99 ∷ right ∷ []) ∷ []))) ≡ Ok (Glyph 9 0 (pos 0) (pos 40960) ∷ Glyph 4 97 (pos 406323) (pos 409600) ∷ Rule (pos 406323) (pos 512000) (pos 40960) (pos 229376) ∷ Glyph 4 98 (pos 406323) (pos 901120) ∷ Glyph 9 56 (pos 714342) (pos 40960) ∷ Glyph 9 62 (pos 714342) (pos 245760) ∷ Glyph 9 60 (pos 714342) (pos 327680) ∷ Glyph 9 62 (pos 714342) (pos 655360) ∷ Glyph 9 58 (pos 714342) (pos 737280) ∷ Glyph 3 99 (pos 1042022) (pos 655360) ∷ Glyph 9 1 (pos 1369702) (pos 40960) ∷ [])
unfolding evaluated
extensible = refl

-- of the size of the opening style
size_of_the_opening_style : from_top (list_row toy S (list (enclosed (left ∷ letter 97 ∷ slash ∷ StyleElement D ∷ group (FractionElement None no_delim no_delim (list (letter 98 ∷ [])) (list (letter 99 ∷ [])) ∷ []) ∷ right ∷ []) ∷ []))) ≡ Ok (Glyph 9 16 (pos 0) (pos 40960) ∷ Glyph 4 97 (pos 409600) (pos 851968) ∷ Glyph 9 14 (pos 638976) (pos 532480) ∷ Glyph 3 98 (pos 1045299) (pos 401408) ∷ Rule (pos 1045299) (pos 708608) (pos 40960) (pos 327680) ∷ Glyph 3 99 (pos 1045299) (pos 1302528) ∷ Glyph 9 17 (pos 1451622) (pos 40960) ∷ [])
unfolding evaluated
size_of_the_opening_style = refl

-- nested
nested : from_top (list_row toy T (list (enclosed (LeftElement (delim 0 91 3 2) ∷ enclosed (left ∷ letter 97 ∷ slash ∷ letter 98 ∷ right ∷ []) ∷ bar ∷ letter 99 ∷ RightElement (delim 0 93 3 3) ∷ []) ∷ []))) ≡ Ok (Glyph 0 91 (pos 0) (pos 327680) ∷ Glyph 0 40 (pos 327680) (pos 327680) ∷ Glyph 3 97 (pos 655360) (pos 327680) ∷ Glyph 0 47 (pos 983040) (pos 327680) ∷ Glyph 3 98 (pos 1310720) (pos 327680) ∷ Glyph 0 41 (pos 1638400) (pos 327680) ∷ Glyph 6 106 (pos 1966080) (pos 327680) ∷ Glyph 3 99 (pos 2293760) (pos 327680) ∷ Glyph 0 93 (pos 2621440) (pos 327680) ∷ [])
unfolding evaluated
nested = refl

-- in a superscript
in_a_superscript : from_top (list_row toy T (list (atom (Plain Ord) (symbol 1 120) (ListPart (list (enclosed (left ∷ letter 97 ∷ slash ∷ letter 98 ∷ right ∷ []) ∷ []))) EmptyPart ∷ []))) ≡ Ok (Glyph 3 120 (pos 0) (pos 475136) ∷ Glyph 1 40 (pos 327680) (pos 229376) ∷ Glyph 4 97 (pos 557056) (pos 229376) ∷ Glyph 1 47 (pos 786432) (pos 229376) ∷ Glyph 4 98 (pos 1015808) (pos 229376) ∷ Glyph 1 41 (pos 1245184) (pos 229376) ∷ [])
unfolding evaluated
in_a_superscript = refl

-- null delimiters
null_delimiters : from_top (list_row toy T (list (enclosed (LeftElement no_delim ∷ letter 97 ∷ MiddleElement no_delim ∷ letter 98 ∷ RightElement no_delim ∷ []) ∷ []))) ≡ Ok (Glyph 3 97 (pos 78643) (pos 327680) ∷ Glyph 3 98 (pos 484966) (pos 327680) ∷ [])
unfolding evaluated
null_delimiters = refl

-- the whole row
row_too_wide : from_top (list_row toy T (list (enclosed (left ∷ KernElement (pos 1073676288) ∷ slash ∷ KernElement (pos 1073676288) ∷ right ∷ []) ∷ []))) ≡ Err (Overflow (pos 2148335616))
unfolding evaluated
row_too_wide = refl

-- a middle that is too tall
middle_too_tall : from_top (list_row toy T (list (enclosed (LeftElement no_delim ∷ group (FractionElement (Some (pos 262144000)) no_delim no_delim (list (letter 97 ∷ [])) (list (letter 98 ∷ [])) ∷ []) ∷ brace ∷ RightElement no_delim ∷ []) ∷ []))) ≡ Err (TooTall 4797)
unfolding evaluated
middle_too_tall = refl

-- a middle before the whole row
middle_before_the_row : from_top (list_row toy T (list (enclosed (LeftElement no_delim ∷ group (FractionElement (Some (pos 262144000)) no_delim no_delim (list (letter 97 ∷ [])) (list (letter 98 ∷ [])) ∷ []) ∷ KernElement (pos 1073676288) ∷ KernElement (pos 1073676288) ∷ brace ∷ RightElement no_delim ∷ []) ∷ []))) ≡ Err (TooTall 4797)
unfolding evaluated
middle_before_the_row = refl

-- a fault of an item before the boundaries
items_before_all : from_top (list_row toy T (list (enclosed (left ∷ letter 97 ∷ slash ∷ plain Ord 9 98 ∷ right ∷ []) ∷ []))) ≡ Err (MissingFamily 9 Text)
unfolding evaluated
items_before_all = refl

-- also before the left boundary
items_before_the_left_one : from_top (list_row toy T (list (enclosed (LeftElement (delim 2 102 3 8) ∷ group (FractionElement (Some (pos 262144000)) no_delim no_delim (list (letter 97 ∷ [])) (list (letter 98 ∷ [])) ∷ []) ∷ slash ∷ KernElement (pos 1073676288) ∷ KernElement (pos 1073676288) ∷ plain Ord 9 99 ∷ RightElement no_delim ∷ []) ∷ []))) ≡ Err (MissingFamily 9 Text)
unfolding evaluated
items_before_the_left_one = refl

-- a comma, and a middle: the space is one in the style directly before the middle
space_in_the_style_there : from_top (list_row toy T (list (enclosed (left ∷ letter 97 ∷ plain Punct 1 59 ∷ StyleElement S ∷ slash ∷ letter 98 ∷ right ∷ []) ∷ []))) ≡ Ok (Glyph 0 40 (pos 0) (pos 327680) ∷ Glyph 3 97 (pos 327680) (pos 327680) ∷ Glyph 3 59 (pos 655360) (pos 327680) ∷ Glyph 0 47 (pos 983040) (pos 327680) ∷ Glyph 3 98 (pos 1310720) (pos 327680) ∷ Glyph 0 41 (pos 1638400) (pos 327680) ∷ [])
unfolding evaluated
space_in_the_style_there = refl
