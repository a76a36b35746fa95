-- Atoms of one nucleus (rules 17 and 18), worked.
use Rattle.std.proofs.Common.{◌≡◌, refl, Ok, Err, pos, [], ◌∷◌}
use Rattle.mt_family.specs.declared.size.Size.TheVariants.{Text, Script}
use Rattle.mt_box.specs.declared.place.Place.TheVariants.{Glyph}
use Rattle.mt_box.specs.Rows.{PieceGlyph, PieceBox, PieceKern}
use Rattle.mt_rules.specs.declared.style.Style.TheVariants.{D, T, S}
use Rattle.mt_rules.specs.declared.class.Class.TheVariants.{Ord}
use Rattle.mt_rules.specs.declared.kind.Kind.TheVariants.{Plain}
use Rattle.mt_rules.specs.declared.kind.Limits.TheVariants.{Default}
use Rattle.mt_rules.specs.Setting.{MissingFamily, MissingChar, SmartLigature, Overflow}
use Rattle.mt_rules.specs.Nuclei.{NoContent, SymbolContent, ListContent, OrdinarySymbol, TextSymbol, SmartPair}
use Rattle.mt_rules.specs.AtomRow.{atom_row}
use Rattle.mt_rules.proofs.cases.OddFonts.{odd}
use Rattle.mt_rules.proofs.cases.Writing.{neg, layout, extents, symbol, atom, one, kern, empty_list, evaluated}

-- a symbol
letter : atom_row odd T OrdinarySymbol (atom (Plain Ord) Default (SymbolContent (symbol 1 97)) NoContent NoContent) ≡ Ok (PieceGlyph 0 97 (extents (pos 20000) (pos 30001) (neg 4001)) ∷ [])
unfolding evaluated
letter = refl

-- its italic correction follows as a kern
letter_italic : atom_row odd T OrdinarySymbol (atom (Plain Ord) Default (SymbolContent (symbol 1 98)) NoContent NoContent) ≡ Ok (PieceGlyph 0 98 (extents (pos 25001) (pos 40000) (pos 7001)) ∷ PieceKern (pos 1501) ∷ [])
unfolding evaluated
letter_italic = refl

-- a negative one too
letter_negative_italic : atom_row odd T OrdinarySymbol (atom (Plain Ord) Default (SymbolContent (symbol 1 99)) NoContent NoContent) ≡ Ok (PieceGlyph 0 99 (extents (pos 9) (pos 5) (pos 3)) ∷ PieceKern (neg 701) ∷ [])
unfolding evaluated
letter_negative_italic = refl

-- beside a subscript it is left to the scripts
letter_sub : atom_row odd T OrdinarySymbol (atom (Plain Ord) Default (SymbolContent (symbol 1 98)) NoContent (SymbolContent (symbol 1 97))) ≡ Ok (PieceGlyph 0 98 (extents (pos 25001) (pos 40000) (pos 7001)) ∷ PieceBox (neg 8999) (layout (pos 46769) (pos 21001) (pos 0) (Glyph 1 97 (pos 0) (pos 0) ∷ [])) ∷ [])
unfolding evaluated
letter_sub = refl

-- and shifts the superscript
letter_both : atom_row odd D OrdinarySymbol (atom (Plain Ord) Default (SymbolContent (symbol 1 98)) (SymbolContent (symbol 1 97)) (SymbolContent (symbol 1 97))) ≡ Ok (PieceGlyph 0 98 (extents (pos 25001) (pos 40000) (pos 7001)) ∷ PieceBox (neg 11004) (layout (pos 48270) (pos 48006) (pos 0) (Glyph 1 97 (pos 1501) (neg 27005) ∷ Glyph 1 97 (pos 0) (pos 0) ∷ [])) ∷ [])
unfolding evaluated
letter_both = refl

-- a text symbol in a font with spaces has none
text_symbol : atom_row odd T TextSymbol (atom (Plain Ord) Default (SymbolContent (symbol 0 98)) NoContent NoContent) ≡ Ok (PieceGlyph 3 98 (extents (pos 24001) (pos 31001) (pos 101)) ∷ [])
unfolding evaluated
text_symbol = refl

-- in a font without spaces it keeps it
text_symbol_math : atom_row odd T TextSymbol (atom (Plain Ord) Default (SymbolContent (symbol 1 98)) NoContent NoContent) ≡ Ok (PieceGlyph 0 98 (extents (pos 25001) (pos 40000) (pos 7001)) ∷ PieceKern (pos 1501) ∷ [])
unfolding evaluated
text_symbol_math = refl

-- a symbol of that font that is no text symbol keeps it
ordinary_symbol : atom_row odd T OrdinarySymbol (atom (Plain Ord) Default (SymbolContent (symbol 0 98)) NoContent NoContent) ≡ Ok (PieceGlyph 3 98 (extents (pos 24001) (pos 31001) (pos 101)) ∷ PieceKern (pos 1701) ∷ [])
unfolding evaluated
ordinary_symbol = refl

-- no font
missing_family : atom_row odd S OrdinarySymbol (atom (Plain Ord) Default (SymbolContent (symbol 4 98)) NoContent NoContent) ≡ Err (MissingFamily 4 Script)
unfolding evaluated
missing_family = refl

-- no character
missing_char : atom_row odd T OrdinarySymbol (atom (Plain Ord) Default (SymbolContent (symbol 0 94)) NoContent NoContent) ≡ Err (MissingChar 0 Text 94)
unfolding evaluated
missing_char = refl

-- a symbol is found before its pair is refused
missing_before_smart : atom_row odd T (SmartPair 94 97) (atom (Plain Ord) Default (SymbolContent (symbol 0 94)) NoContent NoContent) ≡ Err (MissingChar 0 Text 94)
unfolding evaluated
missing_before_smart = refl

-- its pair is refused before its glyph is tested
smart_before_glyph : atom_row odd T (SmartPair 103 97) (atom (Plain Ord) Default (SymbolContent (symbol 1 103)) NoContent NoContent) ≡ Err (SmartLigature 1 Text 103 97)
unfolding evaluated
smart_before_glyph = refl

-- Overflow of the glyph's width, without italic
glyph_width : atom_row odd T OrdinarySymbol (atom (Plain Ord) Default (SymbolContent (symbol 1 103)) NoContent NoContent) ≡ Err (Overflow (pos 1073741824))
unfolding evaluated
glyph_width = refl

-- Overflow of the height before that of the depth
glyph_height : atom_row odd T OrdinarySymbol (atom (Plain Ord) Default (SymbolContent (symbol 1 104)) NoContent NoContent) ≡ Err (Overflow (pos 1073741825))
unfolding evaluated
glyph_height = refl

-- Overflow of a negative depth
glyph_depth : atom_row odd T OrdinarySymbol (atom (Plain Ord) Default (SymbolContent (symbol 1 105)) NoContent NoContent) ≡ Err (Overflow (neg 1073741824))
unfolding evaluated
glyph_depth = refl

-- the glyph is in range, the row with its italic kern is not
row_italic : atom_row odd T OrdinarySymbol (atom (Plain Ord) Default (SymbolContent (symbol 1 102)) NoContent NoContent) ≡ Err (Overflow (pos 1073741824))
unfolding evaluated
row_italic = refl

-- beside a subscript the row is out of range with both
row_italic_sub : atom_row odd T OrdinarySymbol (atom (Plain Ord) Default (SymbolContent (symbol 1 102)) NoContent (SymbolContent (symbol 1 97))) ≡ Err (Overflow (pos 1073788592))
unfolding evaluated
row_italic_sub = refl

-- an empty atom
empty : atom_row odd T OrdinarySymbol (atom (Plain Ord) Default NoContent NoContent NoContent) ≡ Ok []
unfolding evaluated
empty = refl

-- an empty nucleus with both scripts
empty_both : atom_row odd T OrdinarySymbol (atom (Plain Ord) Default NoContent (SymbolContent (symbol 1 97)) (SymbolContent (symbol 1 98))) ≡ Ok (PieceBox (neg 20004) (layout (pos 51320) (pos 55006) (pos 4901) (Glyph 1 97 (pos 0) (neg 34005) ∷ Glyph 1 98 (pos 0) (pos 0) ∷ [])) ∷ [])
unfolding evaluated
empty_both = refl

-- a list is packed: a depth below 0 becomes 0
list_packed : atom_row odd T OrdinarySymbol (atom (Plain Ord) Default (ListContent (one odd (atom (Plain Ord) Default (SymbolContent (symbol 1 97)) NoContent NoContent))) NoContent NoContent) ≡ Ok (PieceBox (pos 0) (layout (pos 20000) (pos 30001) (pos 0) (Glyph 0 97 (pos 0) (pos 0) ∷ [])) ∷ [])
unfolding evaluated
list_packed = refl

-- a superscript that is a list of one box: its extents stay
list_script : atom_row odd T OrdinarySymbol (atom (Plain Ord) Default (SymbolContent (symbol 1 97)) (ListContent (one odd (atom (Plain Ord) Default (ListContent (one odd (atom (Plain Ord) Default (SymbolContent (symbol 1 97)) NoContent NoContent))) NoContent NoContent))) NoContent) ≡ Ok (PieceGlyph 0 97 (extents (pos 20000) (pos 30001) (neg 4001)) ∷ PieceBox (pos 14001) (layout (pos 46769) (pos 21001) (pos 0) (Glyph 1 97 (pos 0) (pos 0) ∷ [])) ∷ [])
unfolding evaluated
list_script = refl

-- a superscript of a superscript in text style
script_of_script : atom_row odd T OrdinarySymbol (atom (Plain Ord) Default (SymbolContent (symbol 1 97)) (ListContent (one odd (atom (Plain Ord) Default (SymbolContent (symbol 1 97)) (SymbolContent (symbol 1 97)) NoContent))) NoContent) ≡ Ok (PieceGlyph 0 97 (extents (pos 20000) (pos 30001) (neg 4001)) ∷ PieceBox (pos 14001) (layout (pos 89538) (pos 24802) (pos 0) (Glyph 1 97 (pos 0) (pos 0) ∷ Glyph 2 97 (pos 14001) (neg 9801) ∷ [])) ∷ [])
unfolding evaluated
script_of_script = refl

-- a superscript of a subscript is cramped
script_of_subscript : atom_row odd T OrdinarySymbol (atom (Plain Ord) Default (SymbolContent (symbol 1 97)) NoContent (ListContent (one odd (atom (Plain Ord) Default (SymbolContent (symbol 1 97)) (SymbolContent (symbol 1 97)) NoContent)))) ≡ Ok (PieceGlyph 0 97 (extents (pos 20000) (pos 30001) (neg 4001)) ∷ PieceBox (neg 10700) (layout (pos 89538) (pos 22702) (pos 0) (Glyph 1 97 (pos 0) (pos 0) ∷ Glyph 2 97 (pos 14001) (neg 7701) ∷ [])) ∷ [])
unfolding evaluated
script_of_subscript = refl

-- a list of a kern, and an empty subscript list
list_kern : atom_row odd T OrdinarySymbol (atom (Plain Ord) Default (ListContent (kern (neg 5))) NoContent (ListContent empty_list)) ≡ Ok (PieceBox (pos 0) (layout (neg 5) (pos 0) (pos 0) []) ∷ PieceBox (neg 6001) (layout (pos 32768) (pos 0) (pos 0) []) ∷ [])
unfolding evaluated
list_kern = refl

-- a list that begins with a glyph is a box: the shifts start from its extents
list_glyph_first : atom_row odd T OrdinarySymbol (atom (Plain Ord) Default (ListContent (one odd (atom (Plain Ord) Default (SymbolContent (symbol 1 98)) NoContent NoContent))) (SymbolContent (symbol 1 97)) NoContent) ≡ Ok (PieceBox (pos 0) (layout (pos 26502) (pos 40000) (pos 7001) (Glyph 0 98 (pos 0) (pos 0) ∷ [])) ∷ PieceBox (pos 30197) (layout (pos 46769) (pos 21001) (pos 0) (Glyph 1 97 (pos 0) (pos 0) ∷ [])) ∷ [])
unfolding evaluated
list_glyph_first = refl

-- a fault of the nucleus before one of the superscript
nucleus_before_scripts : atom_row odd T OrdinarySymbol (atom (Plain Ord) Default (SymbolContent (symbol 1 104)) (SymbolContent (symbol 9 5)) NoContent) ≡ Err (Overflow (pos 1073741825))
unfolding evaluated
nucleus_before_scripts = refl

-- a fault of the superscript before one of the subscript
sup_before_sub : atom_row odd T OrdinarySymbol (atom (Plain Ord) Default (SymbolContent (symbol 1 97)) (SymbolContent (symbol 9 5)) (SymbolContent (symbol 1 103))) ≡ Err (MissingFamily 9 Script)
unfolding evaluated
sup_before_sub = refl

-- a fault of the subscript before the widened superscript's
sub_before_widened : atom_row odd T OrdinarySymbol (atom (Plain Ord) Default (SymbolContent (symbol 1 97)) (SymbolContent (symbol 1 107)) (SymbolContent (symbol 1 103))) ≡ Err (Overflow (pos 1073741824))
unfolding evaluated
sub_before_widened = refl

-- the widened superscript
widened_sup : atom_row odd T OrdinarySymbol (atom (Plain Ord) Default (SymbolContent (symbol 1 97)) (SymbolContent (symbol 1 107)) NoContent) ≡ Err (Overflow (pos 1073774568))
unfolding evaluated
widened_sup = refl

-- a script's symbol is sought at script size
script_size_of : atom_row odd T OrdinarySymbol (atom (Plain Ord) Default (SymbolContent (symbol 1 97)) (SymbolContent (symbol 4 98)) NoContent) ≡ Err (MissingFamily 4 Script)
unfolding evaluated
script_size_of = refl

-- the whole row with its superscript
row_after_scripts : atom_row odd T OrdinarySymbol (atom (Plain Ord) Default (SymbolContent (symbol 1 107)) (SymbolContent (symbol 1 97)) NoContent) ≡ Err (Overflow (pos 1073788569))
unfolding evaluated
row_after_scripts = refl

-- the whole row comes after both scripts
row_last : atom_row odd T OrdinarySymbol (atom (Plain Ord) Default (SymbolContent (symbol 1 107)) (SymbolContent (symbol 1 97)) (SymbolContent (symbol 9 9))) ≡ Err (MissingFamily 9 Script)
unfolding evaluated
row_last = refl
