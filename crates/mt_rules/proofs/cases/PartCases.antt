-- Atoms built of parts, and fractions, worked.
use Rattle.std.proofs.Common.{◌≡◌, refl, Ok, Err, Some, None, pos, [], ◌∷◌}
use Rattle.mt_box.specs.declared.place.Place.TheVariants.{Glyph, Rule}
use Rattle.mt_box.specs.Rows.{PieceGlyph, PieceBox, PieceKern}
use Rattle.mt_rules.specs.declared.style.Style.TheVariants.{D, Dc, T, S}
use Rattle.mt_rules.specs.declared.class.Class.TheVariants.{Ord, Inner}
use Rattle.mt_rules.specs.declared.kind.Kind.TheVariants.{Plain, Radical, Over, Under, Vcenter}
use Rattle.mt_rules.specs.declared.kind.Limits.TheVariants.{Default}
use Rattle.mt_rules.specs.Setting.{Overflow}
use Rattle.mt_rules.specs.Nuclei.{NoContent, SymbolContent, ListContent, RowsContent, OrdinarySymbol}
use Rattle.mt_rules.specs.AtomRow.{atom_row, fraction_row}
use Rattle.mt_rules.proofs.cases.OddFonts.{odd, wild}
use Rattle.mt_rules.proofs.cases.Writing.{neg, layout, extents, symbol, delim, no_delim, atom, one, kern, empty_list, given_fraction, evaluated}

-- a radical with both scripts
radical_atom : atom_row odd T OrdinarySymbol (atom (Radical (delim 3 25 0 0)) Default (SymbolContent (symbol 1 97)) (SymbolContent (symbol 1 97)) (SymbolContent (symbol 1 98))) ≡ Ok (PieceBox (pos 0) (layout (pos 31001) (pos 36441) (pos 1562) (Glyph 7 26 (pos 0) (neg 33439) ∷ Rule (pos 11001) (neg 33439) (pos 1501) (pos 20000) ∷ Glyph 0 97 (pos 11001) (pos 0) ∷ [])) ∷ PieceBox (neg 9001) (layout (pos 51320) (pos 56640) (pos 4901) (Glyph 1 97 (pos 0) (neg 35639) ∷ Glyph 1 98 (pos 0) (pos 0) ∷ [])) ∷ [])
unfolding evaluated
radical_atom = refl

-- the nucleus of a radical is cramped
radical_cramped : atom_row odd D OrdinarySymbol (atom (Radical (delim 3 25 0 0)) Default (ListContent (one odd (atom (Plain Ord) Default (SymbolContent (symbol 1 97)) (SymbolContent (symbol 1 97)) NoContent))) NoContent NoContent) ≡ Ok (PieceBox (pos 0) (layout (pos 77770) (pos 40255) (pos 0) (Glyph 7 26 (pos 0) (neg 37253) ∷ Rule (pos 11001) (neg 37253) (pos 1501) (pos 66769) ∷ Glyph 0 97 (pos 11001) (pos 0) ∷ Glyph 1 97 (pos 31001) (neg 11001) ∷ [])) ∷ [])
unfolding evaluated
radical_cramped = refl

-- in script style the sign is sought from script size on
radical_sign_size : atom_row odd S OrdinarySymbol (atom (Radical (delim 5 25 0 0)) Default (ListContent (one odd (atom (Plain Ord) Default (SymbolContent (symbol 1 97)) NoContent NoContent))) NoContent NoContent) ≡ Ok (PieceBox (pos 0) (layout (pos 25002) (pos 32255) (pos 5748) (Glyph 7 26 (pos 0) (neg 29253) ∷ Rule (pos 11001) (neg 29253) (pos 1501) (pos 14001) ∷ Glyph 1 97 (pos 11001) (pos 0) ∷ [])) ∷ [])
unfolding evaluated
radical_sign_size = refl

-- a fault of the nucleus before the sign's
radical_nucleus_first : atom_row odd T OrdinarySymbol (atom (Radical (delim 3 27 0 0)) Default (SymbolContent (symbol 1 104)) NoContent NoContent) ≡ Err (Overflow (pos 1073741825))
unfolding evaluated
radical_nucleus_first = refl

-- a fault of the sign before the script's
radical_sign_then_script : atom_row odd T OrdinarySymbol (atom (Radical (delim 3 27 0 0)) Default (SymbolContent (symbol 1 97)) (SymbolContent (symbol 9 9)) NoContent) ≡ Err (Overflow (pos 1073741824))
unfolding evaluated
radical_sign_then_script = refl

-- the nucleus of an overline is cramped
over_cramped : atom_row odd D OrdinarySymbol (atom Over Default (ListContent (one odd (atom (Plain Ord) Default (SymbolContent (symbol 1 97)) (SymbolContent (symbol 1 97)) NoContent))) NoContent NoContent) ≡ Ok (PieceBox (pos 0) (layout (pos 66769) (pos 39507) (pos 0) (Rule (pos 0) (neg 36505) (pos 1501) (pos 66769) ∷ Glyph 0 97 (pos 0) (pos 0) ∷ Glyph 1 97 (pos 20000) (neg 11001) ∷ [])) ∷ [])
unfolding evaluated
over_cramped = refl

-- that of an underline is not
under_not_cramped : atom_row odd D OrdinarySymbol (atom Under Default (ListContent (one odd (atom (Plain Ord) Default (SymbolContent (symbol 1 97)) (SymbolContent (symbol 1 97)) NoContent))) NoContent NoContent) ≡ Ok (PieceBox (pos 0) (layout (pos 66769) (pos 37002) (pos 7505) (Glyph 0 97 (pos 0) (pos 0) ∷ Glyph 1 97 (pos 20000) (neg 16001) ∷ Rule (pos 0) (pos 6004) (pos 1501) (pos 66769) ∷ [])) ∷ [])
unfolding evaluated
under_not_cramped = refl

-- an overlined symbol keeps its extents with italic
over_symbol : atom_row odd S OrdinarySymbol (atom Over Default (SymbolContent (symbol 1 98)) NoContent (SymbolContent (symbol 1 97))) ≡ Ok (PieceBox (pos 0) (layout (pos 18552) (pos 38016) (pos 4901) (Rule (pos 0) (neg 34010) (pos 2003) (pos 18552) ∷ Glyph 1 98 (pos 0) (pos 0) ∷ [])) ∷ PieceBox (neg 6601) (layout (pos 42769) (pos 15001) (pos 0) (Glyph 2 97 (pos 0) (pos 0) ∷ [])) ∷ [])
unfolding evaluated
over_symbol = refl

-- rows are set in text style, packed and stacked
vcenter_rows : atom_row odd S OrdinarySymbol (atom Vcenter Default (RowsContent ((one odd (atom (Plain Ord) Default (SymbolContent (symbol 1 97)) NoContent NoContent)) ∷ (one odd (atom (Plain Ord) Default (SymbolContent (symbol 1 98)) NoContent NoContent)) ∷ (kern (neg 7)) ∷ [])) (SymbolContent (symbol 1 97)) NoContent) ≡ Ok (PieceBox (pos 0) (layout (pos 26502) (pos 807736) (pos 795129) (Glyph 0 97 (pos 0) (neg 777735) ∷ Glyph 0 98 (pos 0) (pos 8697) ∷ [])) ∷ PieceBox (pos 800734) (layout (pos 42769) (pos 15001) (pos 0) (Glyph 2 97 (pos 0) (pos 0) ∷ [])) ∷ [])
unfolding evaluated
vcenter_rows = refl

-- a row is in text style, whatever the place
vcenter_not_cramped : atom_row odd Dc OrdinarySymbol (atom Vcenter Default (RowsContent ((one odd (atom (Plain Ord) Default (SymbolContent (symbol 1 97)) (SymbolContent (symbol 1 97)) NoContent)) ∷ [])) NoContent NoContent) ≡ Ok (PieceBox (pos 0) (layout (pos 66769) (pos 26504) (pos 8498) (Glyph 0 97 (pos 0) (pos 8498) ∷ Glyph 1 97 (pos 20000) (neg 5503) ∷ [])) ∷ [])
unfolding evaluated
vcenter_not_cramped = refl

-- no rows
vcenter_none : atom_row odd T OrdinarySymbol (atom Vcenter Default (RowsContent []) NoContent (SymbolContent (symbol 1 97))) ≡ Ok (PieceBox (pos 0) (layout (pos 0) (pos 9003) (neg 9003) []) ∷ PieceBox (neg 8999) (layout (pos 46769) (pos 21001) (pos 0) (Glyph 1 97 (pos 0) (pos 0) ∷ [])) ∷ [])
unfolding evaluated
vcenter_none = refl

-- a fault of the second row
vcenter_second : atom_row odd T OrdinarySymbol (atom Vcenter Default (RowsContent ((one odd (atom (Plain Ord) Default (SymbolContent (symbol 1 97)) NoContent NoContent)) ∷ (one odd (atom (Plain Ord) Default (SymbolContent (symbol 1 105)) NoContent NoContent)) ∷ [])) (SymbolContent (symbol 9 9)) NoContent) ≡ Err (Overflow (neg 1073741824))
unfolding evaluated
vcenter_second = refl

-- a fault of the overline's layout before the superscript's
over_layout_first : atom_row odd T OrdinarySymbol (atom Over Default (SymbolContent (symbol 1 108)) (SymbolContent (symbol 9 9)) NoContent) ≡ Err (Overflow (pos 1073749228))
unfolding evaluated
over_layout_first = refl

-- a fault of the underline's rule before the subscript's
under_rule_first : atom_row wild T OrdinarySymbol (atom Under Default (SymbolContent (symbol 1 97)) NoContent (SymbolContent (symbol 9 9))) ≡ Err (Overflow (pos 1073741824))
unfolding evaluated
under_rule_first = refl

-- an atom of another class is set like an ordinary one
inner_class : atom_row odd T OrdinarySymbol (atom (Plain Inner) Default (SymbolContent (symbol 1 98)) NoContent NoContent) ≡ Ok (PieceGlyph 0 98 (extents (pos 25001) (pos 40000) (pos 7001)) ∷ PieceKern (pos 1501) ∷ [])
unfolding evaluated
inner_class = refl

-- the default thickness 1501 in text style
frac_default : fraction_row odd T (given_fraction None no_delim no_delim (one odd (atom (Plain Ord) Default (SymbolContent (symbol 1 97)) NoContent NoContent)) (one odd (atom (Plain Ord) Default (SymbolContent (symbol 1 98)) NoContent NoContent))) ≡ Ok (PieceBox (pos 0) (layout (pos 175838) (pos 36002) (pos 26151) (Glyph 1 97 (pos 80919) (neg 15001) ∷ Rule (pos 78643) (neg 8253) (pos 1501) (pos 18552) ∷ Glyph 1 98 (pos 78643) (pos 21249) ∷ [])) ∷ [])
unfolding evaluated
frac_default = refl

-- in display style the parts are in text style, the denominator cramped
frac_styles : fraction_row odd D (given_fraction (Some (pos 3)) no_delim no_delim (one odd (atom (Plain Ord) Default (SymbolContent (symbol 1 97)) (SymbolContent (symbol 1 97)) NoContent)) (one odd (atom (Plain Ord) Default (SymbolContent (symbol 1 97)) (SymbolContent (symbol 1 97)) NoContent))) ≡ Ok (PieceBox (pos 0) (layout (pos 224055) (pos 60003) (pos 27001) (Glyph 0 97 (pos 78643) (neg 25001) ∷ Glyph 1 97 (pos 98643) (neg 39002) ∷ Rule (pos 78643) (neg 9002) (pos 3) (pos 66769) ∷ Glyph 0 97 (pos 78643) (pos 27000) ∷ Glyph 1 97 (pos 98643) (pos 15999) ∷ [])) ∷ [])
unfolding evaluated
frac_styles = refl

-- empty parts
frac_empty : fraction_row odd S (given_fraction (Some (pos 0)) no_delim no_delim empty_list empty_list) ≡ Ok (PieceBox (pos 0) (layout (pos 157286) (pos 11903) (pos 9101) []) ∷ [])
unfolding evaluated
frac_empty = refl

-- a fault of the numerator before the denominator's
frac_num_first : fraction_row odd T (given_fraction (Some (pos 3)) no_delim no_delim (one odd (atom (Plain Ord) Default (SymbolContent (symbol 1 103)) NoContent NoContent)) (one odd (atom (Plain Ord) Default (SymbolContent (symbol 1 104)) NoContent NoContent))) ≡ Err (Overflow (pos 1073741824))
unfolding evaluated
frac_num_first = refl

-- a fault of the denominator before the left delimiter's
frac_den_first : fraction_row odd T (given_fraction (Some (pos 3)) (delim 3 27 0 0) no_delim (one odd (atom (Plain Ord) Default (SymbolContent (symbol 1 97)) NoContent NoContent)) (one odd (atom (Plain Ord) Default (SymbolContent (symbol 1 104)) NoContent NoContent))) ≡ Err (Overflow (pos 1073741825))
unfolding evaluated
frac_den_first = refl
