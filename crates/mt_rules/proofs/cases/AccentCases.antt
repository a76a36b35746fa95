-- Accents (rule 12), worked.
use Rattle.std.proofs.Common.{◌≡◌, refl, Ok, Err, pos, [], ◌∷◌}
use Rattle.mt_family.specs.declared.size.Size.TheVariants.{Text, Script}
use Rattle.mt_box.specs.declared.place.Place.TheVariants.{Glyph}
use Rattle.mt_box.specs.Rows.{PieceBox}
use Rattle.mt_rules.specs.declared.style.Style.TheVariants.{D, T, S}
use Rattle.mt_rules.specs.declared.class.Class.TheVariants.{Ord}
use Rattle.mt_rules.specs.declared.kind.Kind.TheVariants.{Plain, Accent}
use Rattle.mt_rules.specs.declared.kind.Limits.TheVariants.{Default}
use Rattle.mt_rules.specs.Setting.{MissingFamily, MissingChar, Overflow}
use Rattle.mt_rules.specs.Accents.{accent}
use Rattle.mt_rules.specs.Nuclei.{NoContent, SymbolContent, ListContent, OrdinarySymbol}
use Rattle.mt_rules.specs.AtomRow.{atom_row}
use Rattle.mt_rules.proofs.cases.OddFonts.{odd}
use Rattle.mt_rules.proofs.cases.Writing.{neg, layout, extents, symbol, atom, one, evaluated}

-- next larger while it is not wider: 20000 is as wide as the nucleus
accent_one_step : atom_row odd T OrdinarySymbol (atom (Accent (symbol 0 90)) Default (SymbolContent (symbol 1 97)) NoContent NoContent) ≡ Ok (PieceBox (pos 0) (layout (pos 20000) (pos 30001) (pos 0) (Glyph 3 91 (neg 150) (neg 1001) ∷ Glyph 0 97 (pos 0) (pos 0) ∷ [])) ∷ [])
unfolding evaluated
accent_one_step = refl

-- a skew, and the nucleus's width with italic; the height is above parameter 5
accent_skew : atom_row odd T OrdinarySymbol (atom (Accent (symbol 0 96)) Default (SymbolContent (symbol 1 98)) NoContent NoContent) ≡ Ok (PieceBox (pos 0) (layout (pos 26502) (pos 40000) (pos 7001) (Glyph 3 96 (pos 3159) (neg 13000) ∷ Glyph 0 98 (pos 0) (pos 0) ∷ [])) ∷ [])
unfolding evaluated
accent_skew = refl

-- an accent wider than its nucleus
accent_wider : atom_row odd T OrdinarySymbol (atom (Accent (symbol 0 90)) Default (SymbolContent (symbol 1 99)) NoContent NoContent) ≡ Ok (PieceBox (pos 0) (layout (neg 692) (pos 10002) (pos 3) (Glyph 3 90 (neg 6947) (neg 1001) ∷ Glyph 0 99 (pos 0) (pos 0) ∷ [])) ∷ [])
unfolding evaluated
accent_wider = refl

-- a next larger one that does not exist; the accent ends below the nucleus's height
accent_next_missing : atom_row odd T OrdinarySymbol (atom (Accent (symbol 0 93)) Default (SymbolContent (symbol 1 97)) NoContent NoContent) ≡ Ok (PieceBox (pos 0) (layout (pos 20000) (pos 30001) (pos 0) (Glyph 3 93 (pos 7500) (pos 30001) ∷ Glyph 0 97 (pos 0) (pos 0) ∷ [])) ∷ [])
unfolding evaluated
accent_next_missing = refl

-- over a list, without skew, in display style with a superscript
accent_list : atom_row odd D OrdinarySymbol (atom (Accent (symbol 0 90)) Default (ListContent (one odd (atom (Plain Ord) Default (SymbolContent (symbol 1 98)) NoContent NoContent))) (SymbolContent (symbol 1 97)) NoContent) ≡ Ok (PieceBox (pos 0) (layout (pos 26502) (pos 40000) (pos 7001) (Glyph 3 91 (pos 3101) (neg 8000) ∷ Glyph 0 98 (pos 0) (pos 0) ∷ [])) ∷ PieceBox (pos 30197) (layout (pos 46769) (pos 21001) (pos 0) (Glyph 1 97 (pos 0) (pos 0) ∷ [])) ∷ [])
unfolding evaluated
accent_list = refl

-- the nucleus under an accent is cramped
accent_cramped : atom_row odd D OrdinarySymbol (atom (Accent (symbol 0 90)) Default (ListContent (one odd (atom (Plain Ord) Default (SymbolContent (symbol 1 97)) (SymbolContent (symbol 1 97)) NoContent))) NoContent NoContent) ≡ Ok (PieceBox (pos 0) (layout (pos 66769) (pos 32002) (pos 0) (Glyph 3 92 (pos 18184) (neg 901) ∷ Glyph 0 97 (pos 0) (pos 0) ∷ Glyph 1 97 (pos 20000) (neg 11001) ∷ [])) ∷ [])
unfolding evaluated
accent_cramped = refl

-- over nothing
accent_empty : atom_row odd T OrdinarySymbol (atom (Accent (symbol 0 90)) Default NoContent NoContent NoContent) ≡ Ok (PieceBox (pos 0) (layout (pos 0) (pos 10002) (pos 0) (Glyph 3 90 (neg 6601) (neg 1001) ∷ [])) ∷ [])
unfolding evaluated
accent_empty = refl

-- over a symbol with both scripts: they belong to the symbol
accent_scripts : atom_row odd D OrdinarySymbol (atom (Accent (symbol 0 90)) Default (SymbolContent (symbol 1 98)) (SymbolContent (symbol 1 97)) (SymbolContent (symbol 1 97))) ≡ Ok (PieceBox (pos 0) (layout (pos 73271) (pos 40000) (pos 11004) (Glyph 3 91 (pos 4002) (neg 8000) ∷ Glyph 0 98 (pos 0) (pos 0) ∷ Glyph 1 97 (pos 26502) (neg 16001) ∷ Glyph 1 97 (pos 25001) (pos 11004) ∷ [])) ∷ [])
unfolding evaluated
accent_scripts = refl

-- over a symbol with a superscript that is higher: the accent is as much higher
accent_gain : atom_row odd T OrdinarySymbol (atom (Accent (symbol 0 90)) Default (SymbolContent (symbol 1 97)) (SymbolContent (symbol 1 97)) NoContent) ≡ Ok (PieceBox (pos 0) (layout (pos 66769) (pos 35002) (pos 0) (Glyph 3 91 (neg 150) (neg 1001) ∷ Glyph 0 97 (pos 0) (pos 0) ∷ Glyph 1 97 (pos 20000) (neg 14001) ∷ [])) ∷ [])
unfolding evaluated
accent_gain = refl

-- over a symbol with a subscript, where the atom is no higher
accent_sub : atom_row odd S OrdinarySymbol (atom (Accent (symbol 0 96)) Default (SymbolContent (symbol 1 98)) NoContent (SymbolContent (symbol 1 97))) ≡ Ok (PieceBox (pos 0) (layout (pos 60270) (pos 28001) (pos 6601) (Glyph 3 96 (neg 816) (neg 6001) ∷ Glyph 1 98 (pos 0) (pos 0) ∷ Glyph 2 97 (pos 17501) (pos 6601) ∷ [])) ∷ [])
unfolding evaluated
accent_sub = refl

-- over a nucleus of negative width
accent_negative : atom_row odd T OrdinarySymbol (atom (Accent (symbol 0 90)) Default (SymbolContent (symbol 1 101)) NoContent NoContent) ≡ Ok (PieceBox (pos 0) (layout (neg 6001) (pos 10002) (pos 2001) (Glyph 3 90 (neg 9601) (neg 1001) ∷ Glyph 0 101 (pos 0) (pos 0) ∷ [])) ∷ [])
unfolding evaluated
accent_negative = refl

-- the accent's symbol is not found, before the nucleus's
accent_missing : atom_row odd T OrdinarySymbol (atom (Accent (symbol 0 94)) Default (SymbolContent (symbol 9 9)) NoContent NoContent) ≡ Err (MissingChar 0 Text 94)
unfolding evaluated
accent_missing = refl

-- a fault of the nucleus before the accent's glyph
accent_nucleus_first : atom_row odd T OrdinarySymbol (atom (Accent (symbol 0 95)) Default (SymbolContent (symbol 9 9)) NoContent NoContent) ≡ Err (MissingFamily 9 Text)
unfolding evaluated
accent_nucleus_first = refl

-- a fault of the superscript before the accent's glyph
accent_scripts_first : atom_row odd T OrdinarySymbol (atom (Accent (symbol 0 95)) Default (SymbolContent (symbol 1 97)) (SymbolContent (symbol 9 9)) NoContent) ≡ Err (MissingFamily 9 Script)
unfolding evaluated
accent_scripts_first = refl

-- over a list, the accent's glyph before a fault of the superscript
accent_outer_script : atom_row odd T OrdinarySymbol (atom (Accent (symbol 0 95)) Default (ListContent (one odd (atom (Plain Ord) Default (SymbolContent (symbol 1 97)) NoContent NoContent))) (SymbolContent (symbol 9 9)) NoContent) ≡ Err (Overflow (pos 2000000000))
unfolding evaluated
accent_outer_script = refl

-- the accent's glyph is out of range
accent_glyph : atom_row odd T OrdinarySymbol (atom (Accent (symbol 0 95)) Default (SymbolContent (symbol 1 97)) NoContent NoContent) ≡ Err (Overflow (pos 2000000000))
unfolding evaluated
accent_glyph = refl

-- the row of the symbol with its scripts before the accent's glyph
accent_inner_row : atom_row odd T OrdinarySymbol (atom (Accent (symbol 0 95)) Default (SymbolContent (symbol 1 107)) (SymbolContent (symbol 1 97)) NoContent) ≡ Err (Overflow (pos 1073788569))
unfolding evaluated
accent_inner_row = refl

-- Overflow of the layout: the accent's top
accent_layout : accent odd 3 99 (pos 0) (extents (pos 9) (pos 1073741823) (pos 3)) (layout (pos 9) (pos 1073741823) (pos 3) []) ≡ Err (Overflow (pos 1073754824))
unfolding evaluated
accent_layout = refl

-- a body of negative height: delta is that height
accent_below : accent odd 3 99 (pos 0) (extents (pos 9) (neg 5001) (pos 6001)) (layout (pos 9) (neg 5001) (pos 6001) (Glyph 0 97 (pos 0) (pos 0) ∷ [])) ≡ Ok (layout (pos 9) (pos 46002) (pos 6001) (Glyph 3 99 (neg 10996) (neg 6001) ∷ Glyph 0 97 (pos 0) (pos 0) ∷ []))
unfolding evaluated
accent_below = refl
