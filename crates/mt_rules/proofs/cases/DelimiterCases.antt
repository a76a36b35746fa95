-- Delimiters (rule 19), worked.
use Rattle.std.proofs.Common.{◌≡◌, refl, Ok, Err, pos, [], ◌∷◌}
use Rattle.mt_family.specs.declared.size.Size.TheVariants.{Text, Script, Scriptscript}
use Rattle.mt_box.specs.declared.place.Place.TheVariants.{Glyph}
use Rattle.mt_rules.specs.Setting.{Overflow, TooTall}
use Rattle.mt_rules.specs.Delimiters.{delimiter_variant, delimiter, boundary_size, NoVariant, CharVariant, ExtensibleVariant}
use Rattle.mt_rules.proofs.cases.OddFonts.{odd}
use Rattle.mt_rules.proofs.cases.Writing.{neg, layout, extents, delim, no_delim, extents_in, count_in, evaluated}

-- the first one fits: 20502 is wanted and there
first_fits : delimiter_variant odd (delim 3 1 0 0) Text (pos 20502) ≡ CharVariant 7 1
unfolding evaluated
first_fits = refl

-- one more is wanted: the next larger one
second_fits : delimiter_variant odd (delim 3 1 0 0) Text (pos 20503) ≡ CharVariant 7 2
unfolding evaluated
second_fits = refl

-- an extensible one, 0 repeats are enough for what its pieces have
extensible_0 : delimiter_variant odd (delim 3 3 0 0) Text (pos 19003) ≡ ExtensibleVariant 7 3 0
unfolding evaluated
extensible_0 = refl

-- one more is wanted: 1 repeat
extensible_1 : delimiter_variant odd (delim 3 3 0 0) Text (pos 19004) ≡ ExtensibleVariant 7 3 1
unfolding evaluated
extensible_1 = refl

-- exactly 2000 repeats
extensible_2000 : delimiter_variant odd (delim 3 3 0 0) Text (pos 8025003) ≡ ExtensibleVariant 7 3 2000
unfolding evaluated
extensible_2000 = refl

-- 2001 repeats
extensible_2001 : delimiter_variant odd (delim 3 3 0 0) Text (pos 8025004) ≡ ExtensibleVariant 7 3 2001
unfolding evaluated
extensible_2001 = refl

-- a middle: each repeat counts twice
middle_repeats : delimiter_variant odd (delim 3 6 0 0) Text (pos 90001) ≡ ExtensibleVariant 7 7 18
unfolding evaluated
middle_repeats = refl

-- a negative size is wanted: what is extensible or positive fits
negative_wanted : delimiter_variant odd (delim 2 35 3 3) Text (neg 5) ≡ ExtensibleVariant 7 3 0
unfolding evaluated
negative_wanted = refl

-- none is tall enough: the first of the tallest
tallest_first : delimiter_variant odd (delim 3 17 3 18) Text (pos 90001) ≡ CharVariant 7 17
unfolding evaluated
tallest_first = refl

-- the large one is taller
tallest_second : delimiter_variant odd (delim 3 11 3 18) Text (pos 90001) ≡ CharVariant 7 18
unfolding evaluated
tallest_second = refl

-- none is positive
none_positive : delimiter_variant odd (delim 2 34 2 35) Text (pos 0) ≡ NoVariant
unfolding evaluated
none_positive = refl

-- at scriptscript size the larger sizes follow: the text size fits
sizes : delimiter_variant odd (delim 2 33 0 0) Scriptscript (pos 11001) ≡ CharVariant 4 33
unfolding evaluated
sizes = refl

-- families and characters that are not there are passed over
passed_over : delimiter_variant odd (delim 9 1 4 98) Script (pos 5) ≡ CharVariant 3 98
unfolding evaluated
passed_over = refl

-- a family without a font at script size: the text size
missing_size : delimiter_variant odd (delim 5 1 0 0) Script (pos 5) ≡ CharVariant 7 1
unfolding evaluated
missing_size = refl

-- nothing is there at all
not_even_one : delimiter_variant odd (delim 9 1 3 24) Text (pos 5) ≡ NoVariant
unfolding evaluated
not_even_one = refl

-- the chain ends where a character does not exist
chain_cut : delimiter_variant odd (delim 3 23 0 0) Text (pos 50000) ≡ CharVariant 7 23
unfolding evaluated
chain_cut = refl

-- a pair of zeros gives no candidates, family 0 character 90 does
zeros : delimiter_variant odd (delim 0 0 0 90) Text (pos 1) ≡ CharVariant 3 90
unfolding evaluated
zeros = refl

-- a repeat of negative total is used 0 times
repeat_not_positive : delimiter_variant odd (delim 3 13 0 0) Text (pos 90001) ≡ ExtensibleVariant 7 13 0
unfolding evaluated
repeat_not_positive = refl

-- a repeat of total 0 is used 0 times
repeat_of_nothing : delimiter_variant odd (delim 3 33 0 0) Text (pos 90001) ≡ ExtensibleVariant 7 33 0
unfolding evaluated
repeat_of_nothing = refl

-- a character: its box has the italic correction
box_char : delimiter odd (delim 3 17 0 0) Text (pos 5) ≡ Ok (layout (pos 8032) (pos 1001) (pos 11000) (Glyph 7 17 (pos 0) (pos 0) ∷ []))
unfolding evaluated
box_char = refl

-- an empty box, 1.2pt wide
box_null : delimiter odd no_delim Text (pos 5) ≡ Ok (layout (pos 78643) (pos 0) (pos 0) [])
unfolding evaluated
box_null = refl

-- top, 2 repeats, bottom
box_no_middle : delimiter odd (delim 3 3 0 0) Text (pos 23007) ≡ Ok (layout (pos 13078) (pos 0) (pos 27009) (Glyph 7 3 (pos 0) (pos 0) ∷ Glyph 7 5 (pos 0) (pos 9004) ∷ Glyph 7 5 (pos 0) (pos 13007) ∷ Glyph 7 4 (pos 0) (pos 18008) ∷ []))
unfolding evaluated
box_no_middle = refl

-- top and bottom alone
box_0_repeats : delimiter odd (delim 3 3 0 0) Text (pos 5) ≡ Ok (layout (pos 13078) (pos 0) (pos 19003) (Glyph 7 3 (pos 0) (pos 0) ∷ Glyph 7 4 (pos 0) (pos 10002) ∷ []))
unfolding evaluated
box_0_repeats = refl

-- top, 1 repeat, middle, 1 repeat, bottom
box_middle : delimiter odd (delim 3 7 0 0) Text (pos 18017) ≡ Ok (layout (pos 7001) (pos 0) (pos 22018) (Glyph 7 7 (pos 0) (pos 0) ∷ Glyph 7 10 (pos 0) (pos 5002) ∷ Glyph 7 8 (pos 0) (pos 7013) ∷ Glyph 7 10 (pos 0) (pos 15015) ∷ Glyph 7 9 (pos 0) (pos 17015) ∷ []))
unfolding evaluated
box_middle = refl

-- the repeat alone, 3 times
box_repeat_alone : delimiter odd (delim 3 12 0 0) Text (pos 1202) ≡ Ok (layout (pos 5010) (pos 101) (pos 1102) (Glyph 7 11 (pos 0) (pos 0) ∷ Glyph 7 11 (pos 0) (pos 401) ∷ Glyph 7 11 (pos 0) (pos 802) ∷ []))
unfolding evaluated
box_repeat_alone = refl

-- the repeat alone, 0 times: no pieces, the width is the repeat's
box_of_nothing : delimiter odd (delim 3 12 0 0) Text (pos 0) ≡ Ok (layout (pos 5010) (pos 0) (pos 0) [])
unfolding evaluated
box_of_nothing = refl

-- top alone, since the repeat is not positive; its width is the repeat's
box_negative_repeat : delimiter odd (delim 3 13 0 0) Text (pos 90001) ≡ Ok (layout (pos 5020) (pos 2001) (pos 9) (Glyph 7 14 (pos 0) (pos 0) ∷ []))
unfolding evaluated
box_negative_repeat = refl

-- the bottom alone
box_bottom_alone : delimiter odd (delim 3 33 0 0) Text (pos 90001) ≡ Ok (layout (pos 5017) (pos 1001) (pos 9001) (Glyph 7 4 (pos 0) (pos 0) ∷ []))
unfolding evaluated
box_bottom_alone = refl

-- no top: a repeat is the topmost piece
box_no_top : delimiter odd (delim 3 16 0 0) Text (pos 13017) ≡ Ok (layout (pos 7001) (pos 1) (pos 17016) (Glyph 7 10 (pos 0) (pos 0) ∷ Glyph 7 8 (pos 0) (pos 2011) ∷ Glyph 7 10 (pos 0) (pos 10013) ∷ Glyph 7 9 (pos 0) (pos 12013) ∷ []))
unfolding evaluated
box_no_top = refl

-- no top and no repeats: the middle is the topmost piece
box_no_top_0 : delimiter odd (delim 3 16 0 0) Text (pos 5) ≡ Ok (layout (pos 7001) (pos 11) (pos 13004) (Glyph 7 8 (pos 0) (pos 0) ∷ Glyph 7 9 (pos 0) (pos 8001) ∷ []))
unfolding evaluated
box_no_top_0 = refl

-- 2001 repeats are refused
box_too_tall : delimiter odd (delim 3 3 0 0) Text (pos 8025004) ≡ Err (TooTall 2001)
unfolding evaluated
box_too_tall = refl

-- TooTall comes before a fault of the pieces
box_too_tall_first : delimiter odd (delim 3 31 0 0) Text (pos 1081766828) ≡ Err (TooTall 2005)
unfolding evaluated
box_too_tall_first = refl

-- a piece that is out of range
box_piece : delimiter odd (delim 3 31 0 0) Text (pos 5) ≡ Err (Overflow (pos 1073741824))
unfolding evaluated
box_piece = refl

-- a repeat that is used 0 times is not tested
box_repeat_unused : delimiter odd (delim 3 30 0 0) Text (pos 12012) ≡ Ok (layout (pos 11) (pos 2001) (pos 10011) (Glyph 7 14 (pos 0) (pos 0) ∷ Glyph 7 4 (pos 0) (pos 1010) ∷ []))
unfolding evaluated
box_repeat_unused = refl

-- used once, it is
box_repeat_used : delimiter odd (delim 3 30 0 0) Text (pos 12013) ≡ Err (Overflow (pos 1073741824))
unfolding evaluated
box_repeat_used = refl

-- a glyph that is out of range
box_char_glyph : delimiter odd (delim 3 27 0 0) Text (pos 5) ≡ Err (Overflow (pos 1073741824))
unfolding evaluated
box_char_glyph = refl

-- a glyph in range with a box that is not
box_char_box : delimiter odd (delim 3 28 0 0) Text (pos 5) ≡ Err (Overflow (pos 1073741825))
unfolding evaluated
box_char_box = refl

-- 2000 repeats: the topmost piece is the height
box_2000 : extents_in (delimiter odd (delim 3 3 0 0) Text (pos 8025003)) ≡ Ok (extents (pos 13078) (pos 0) (pos 8025003))
unfolding evaluated
box_2000 = refl

-- 2000 repeats between top and bottom
box_2000_count : count_in (delimiter odd (delim 3 3 0 0) Text (pos 8025003)) ≡ Ok 2002
unfolding evaluated
box_2000_count = refl

-- 2000 repeats at each side of a middle
box_middle_2000 : extents_in (delimiter odd (delim 3 7 0 0) Text (pos 8022016)) ≡ Ok (extents (pos 7001) (pos 0) (pos 8022016))
unfolding evaluated
box_middle_2000 = refl

-- one sp more wants 2001
box_middle_2001 : delimiter odd (delim 3 7 0 0) Text (pos 8022017) ≡ Err (TooTall 2001)
unfolding evaluated
box_middle_2001 = refl

-- round a small row: 901 for each 500
boundary_small : boundary_size odd Text (pos 20001) (pos 7) ≡ pos 18921
unfolding evaluated
boundary_small = refl

-- round a large one: all but 5pt
boundary_large : boundary_size odd Text (pos 400001) (pos 1000003) ≡ pos 1818218
unfolding evaluated
boundary_large = refl

-- round an empty row the axis alone counts
boundary_negative : boundary_size odd Text (pos 0) (pos 0) ≡ pos 16218
unfolding evaluated
boundary_negative = refl
