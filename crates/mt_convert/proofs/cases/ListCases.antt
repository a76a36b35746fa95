-- Lists of symbols, spaces, styles and choices, worked.
use Rattle.std.proofs.Common.{◌≡◌, refl, Ok, pos, [], ◌∷◌}
use Rattle.mt_convert.proofs.Common.{Glyph, T, S, Ord, Plain, Glue, End, StyleElement, ChoiceElement, MuSpaceElement, NonscriptElement, EmptyPart, ListPart, list_row, toy}
use Rattle.mt_convert.proofs.cases.Writing.{list, symbol, atom, letter, plus, equals, from_top, evaluated}

-- 3mu
abbrev thin : Glue
thin = record { width = pos 196608; shrink = pos 0 }

-- a + b: medium spaces round a binary operation
sum_of_letters : from_top (list_row toy T (list (letter 97 ∷ plus ∷ letter 98 ∷ []))) ≡ Ok (Glyph 3 97 (pos 0) (pos 327680) ∷ Glyph 0 43 (pos 473312) (pos 327680) ∷ Glyph 3 98 (pos 946624) (pos 327680) ∷ [])
unfolding evaluated
sum_of_letters = refl

-- a b
two_letters : from_top (list_row toy T (list (letter 97 ∷ letter 98 ∷ []))) ≡ Ok (Glyph 3 97 (pos 0) (pos 327680) ∷ Glyph 3 98 (pos 327680) (pos 327680) ∷ [])
unfolding evaluated
two_letters = refl

-- + b: a binary operation at the beginning is ordinary
sign_first : from_top (list_row toy T (list (plus ∷ letter 98 ∷ []))) ≡ Ok (Glyph 0 43 (pos 0) (pos 327680) ∷ Glyph 3 98 (pos 327680) (pos 327680) ∷ [])
unfolding evaluated
sign_first = refl

-- a + = b: so is one before a relation
sign_before_relation : from_top (list_row toy T (list (letter 97 ∷ plus ∷ equals ∷ letter 98 ∷ []))) ≡ Ok (Glyph 3 97 (pos 0) (pos 327680) ∷ Glyph 0 43 (pos 327680) (pos 327680) ∷ Glyph 0 61 (pos 837400) (pos 327680) ∷ Glyph 3 98 (pos 1347120) (pos 327680) ∷ [])
unfolding evaluated
sign_before_relation = refl

-- a, a choice whose list for text style is +, b: as a + b
choice_in_text : from_top (list_row toy T (list (letter 97 ∷ ChoiceElement End (list (plus ∷ [])) End End ∷ letter 98 ∷ []))) ≡ Ok (Glyph 3 97 (pos 0) (pos 327680) ∷ Glyph 0 43 (pos 473312) (pos 327680) ∷ Glyph 3 98 (pos 946624) (pos 327680) ∷ [])
unfolding evaluated
choice_in_text = refl

-- a, script style, + b: the spaces are those of the style at the right atom
style_inside : from_top (list_row toy T (list (letter 97 ∷ StyleElement S ∷ plus ∷ letter 98 ∷ []))) ≡ Ok (Glyph 3 97 (pos 0) (pos 327680) ∷ Glyph 1 43 (pos 327680) (pos 327680) ∷ Glyph 4 98 (pos 557056) (pos 327680) ∷ [])
unfolding evaluated
style_inside = refl

-- a, a conditional space, a thin space, b: in text style the space is there
nonscript_in_text : from_top (list_row toy T (list (letter 97 ∷ NonscriptElement ∷ MuSpaceElement thin ∷ letter 98 ∷ []))) ≡ Ok (Glyph 3 97 (pos 0) (pos 327680) ∷ Glyph 3 98 (pos 436904) (pos 327680) ∷ [])
unfolding evaluated
nonscript_in_text = refl

-- the same as a superscript: in script style it does not
nonscript_in_script : from_top (list_row toy T (list (atom (Plain Ord) (symbol 1 120) (ListPart (list (letter 97 ∷ NonscriptElement ∷ MuSpaceElement thin ∷ letter 98 ∷ []))) EmptyPart ∷ []))) ≡ Ok (Glyph 3 120 (pos 0) (pos 475136) ∷ Glyph 4 97 (pos 327680) (pos 229376) ∷ Glyph 4 98 (pos 557056) (pos 229376) ∷ [])
unfolding evaluated
nonscript_in_script = refl
