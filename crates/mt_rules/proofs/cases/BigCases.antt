-- Delimiters of fixed sizes in the toy fonts, worked. The numbers come from a program in another language.
use Rattle.std.proofs.Common.{◌≡◌, refl, Ok, pos, [], ◌∷◌}
use Rattle.mt_box.specs.declared.place.Place.TheVariants.{Glyph, Rule}
use Rattle.mt_rules.specs.declared.style.Style.TheVariants.{D, T}
use Rattle.mt_rules.specs.declared.class.Class.TheVariants.{Ord, Op, Open}
use Rattle.mt_rules.specs.declared.kind.Kind.TheVariants.{Plain, Accent, Over}
use Rattle.mt_rules.specs.declared.kind.Limits.TheVariants.{Default, Always}
use Rattle.mt_rules.specs.declared.symbol.Delim.{Delim}
use Rattle.mt_rules.specs.Nuclei.{NoContent, SymbolContent, ListContent, BigContent}
use Rattle.mt_rules.specs.BigDelimiters.{big_delimiter}
use Rattle.mt_rules.proofs.cases.ToyFonts.{toy}
use Rattle.mt_rules.proofs.cases.Writing.{neg, layout, symbol, delim, no_delim, atom, one, packed, evaluated}

abbrev parenthesis : Delim
parenthesis = delim 0 40 3 0

abbrev bar : Delim
bar = delim 2 106 3 12

-- \big, \Big and \bigg of a parenthesis: the last one is the second's character in a higher box
big_parenthesis : big_delimiter toy parenthesis 0 ≡ Ok (layout (pos 327680) (pos 655360) (pos 327680) (Glyph 9 0 (pos 0) (neg 614400) ∷ []))
unfolding evaluated
big_parenthesis = refl

second_parenthesis : big_delimiter toy parenthesis 1 ≡ Ok (layout (pos 409600) (pos 901120) (pos 573440) (Glyph 9 16 (pos 0) (neg 860160) ∷ []))
unfolding evaluated
second_parenthesis = refl

third_parenthesis : big_delimiter toy parenthesis 2 ≡ Ok (layout (pos 409600) (pos 950272) (pos 573440) (Glyph 9 16 (pos 0) (neg 860160) ∷ []))
unfolding evaluated
third_parenthesis = refl

-- \Bigg: an extensible character
fourth_parenthesis : big_delimiter toy parenthesis 3 ≡ Ok (layout (pos 573440) (pos 1146880) (pos 778240) (Glyph 9 48 (pos 0) (neg 1105920) ∷ Glyph 9 66 (pos 0) (neg 737280) ∷ Glyph 9 66 (pos 0) (neg 573440) ∷ Glyph 9 66 (pos 0) (neg 409600) ∷ Glyph 9 66 (pos 0) (neg 245760) ∷ Glyph 9 66 (pos 0) (neg 81920) ∷ Glyph 9 66 (pos 0) (pos 81920) ∷ Glyph 9 66 (pos 0) (pos 245760) ∷ Glyph 9 64 (pos 0) (pos 409600) ∷ []))
unfolding evaluated
fourth_parenthesis = refl

-- a character that is not so high, in a box that is
big_bar : big_delimiter toy bar 0 ≡ Ok (layout (pos 327680) (pos 557056) (pos 0) (Glyph 6 106 (pos 0) (pos 0) ∷ []))
unfolding evaluated
big_bar = refl

highest_bar : big_delimiter toy bar 3 ≡ Ok (layout (pos 327680) (pos 1146880) (pos 0) (Glyph 6 106 (pos 0) (pos 0) ∷ []))
unfolding evaluated
highest_bar = refl

-- levels from 3 on are as 3
higher_bar : big_delimiter toy bar 255 ≡ Ok (layout (pos 327680) (pos 1146880) (pos 0) (Glyph 6 106 (pos 0) (pos 0) ∷ []))
unfolding evaluated
higher_bar = refl

-- without a character there is no width
no_character : big_delimiter toy no_delim 1 ≡ Ok (layout (pos 0) (pos 753664) (pos 0) [])
unfolding evaluated
no_character = refl

-- a slash, which the axis does not halve
big_slash : big_delimiter toy (delim 0 47 3 14) 0 ≡ Ok (layout (pos 327680) (pos 557056) (pos 81920) (Glyph 9 14 (pos 0) (neg 368640) ∷ []))
unfolding evaluated
big_slash = refl

-- with scripts
big_with_scripts : packed toy T (atom (Plain Ord) Default (BigContent (delim 0 47 3 14) 0) (SymbolContent (symbol 0 50)) (SymbolContent (symbol 0 51))) ≡ Ok (layout (pos 589824) (pos 614400) (pos 163840) (Glyph 9 14 (pos 0) (neg 368640) ∷ Glyph 1 50 (pos 327680) (neg 385024) ∷ Glyph 1 51 (pos 327680) (pos 163840) ∷ []))
unfolding evaluated
big_with_scripts = refl

-- as an opening, in display style
big_open_with_superscript : packed toy D (atom (Plain Open) Default (BigContent (delim 0 40 3 0) 0) (SymbolContent (symbol 0 50)) NoContent) ≡ Ok (layout (pos 589824) (pos 712704) (pos 327680) (Glyph 9 0 (pos 0) (neg 614400) ∷ Glyph 1 50 (pos 327680) (neg 483328) ∷ []))
unfolding evaluated
big_open_with_superscript = refl

-- in a group
big_in_group : packed toy T (atom (Plain Ord) Default (ListContent (one toy (atom (Plain Ord) Default (BigContent (delim 0 47 3 14) 0) NoContent NoContent))) NoContent (SymbolContent (symbol 0 50))) ≡ Ok (layout (pos 589824) (pos 557056) (pos 110592) (Glyph 9 14 (pos 0) (neg 368640) ∷ Glyph 1 50 (pos 327680) (pos 110592) ∷ []))
unfolding evaluated
big_in_group = refl

-- under a rule
over_big : packed toy T (atom Over Default (ListContent (one toy (atom (Plain Ord) Default (BigContent (delim 0 47 3 14) 0) NoContent NoContent))) NoContent NoContent) ≡ Ok (layout (pos 327680) (pos 761856) (pos 81920) (Rule (pos 0) (neg 679936) (pos 40960) (pos 327680) ∷ Glyph 9 14 (pos 0) (neg 368640) ∷ []))
unfolding evaluated
over_big = refl

-- in an operator with limits
big_operator : packed toy T (atom (Plain Op) Always (ListContent (one toy (atom (Plain Ord) Default (BigContent (delim 0 47 3 14) 0) NoContent NoContent))) NoContent (SymbolContent (symbol 1 97))) ≡ Ok (layout (pos 327680) (pos 557056) (pos 532480) (Glyph 9 14 (pos 0) (neg 368640) ∷ Glyph 4 97 (pos 49152) (pos 450560) ∷ []))
unfolding evaluated
big_operator = refl

-- under an accent
accent_on_big : packed toy T (atom (Accent (symbol 0 94)) Default (ListContent (one toy (atom (Plain Ord) Default (BigContent (delim 0 47 3 14) 0) NoContent NoContent))) NoContent NoContent) ≡ Ok (layout (pos 327680) (pos 720896) (pos 81920) (Glyph 0 94 (pos 0) (neg 229376) ∷ Glyph 9 14 (pos 0) (neg 368640) ∷ []))
unfolding evaluated
accent_on_big = refl

-- a character that no name has
unusual_character : packed toy T (atom (Plain Ord) Default (BigContent (delim 1 98 3 98) 0) NoContent NoContent) ≡ Ok (layout (pos 368640) (pos 557056) (pos 81920) (Glyph 9 98 (pos 0) (pos 81920) ∷ []))
unfolding evaluated
unusual_character = refl
