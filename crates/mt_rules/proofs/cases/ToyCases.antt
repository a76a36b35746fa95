-- Atoms in the toy fonts, worked.
use Rattle.std.proofs.Common.{◌≡◌, refl, Ok, Some, None, pos, [], ◌∷◌}
use Rattle.mt_box.specs.declared.place.Place.TheVariants.{Glyph, Rule}
use Rattle.mt_box.specs.Rows.{PieceGlyph, PieceBox}
use Rattle.mt_rules.specs.declared.style.Style.TheVariants.{D, T}
use Rattle.mt_rules.specs.declared.class.Class.TheVariants.{Ord, Op}
use Rattle.mt_rules.specs.declared.kind.Kind.TheVariants.{Plain, Accent, Over}
use Rattle.mt_rules.specs.declared.kind.Limits.TheVariants.{Default, Never}
use Rattle.mt_rules.specs.Nuclei.{NoContent, SymbolContent, OrdinarySymbol}
use Rattle.mt_rules.specs.AtomRow.{atom_row, fraction_row}
use Rattle.mt_rules.proofs.cases.ToyFonts.{toy}
use Rattle.mt_rules.proofs.cases.Writing.{neg, layout, extents, symbol, no_delim, atom, one, given_fraction, evaluated}

-- x with the superscript 2
x_squared : atom_row toy T OrdinarySymbol (atom (Plain Ord) Default (SymbolContent (symbol 1 120)) (SymbolContent (symbol 0 50)) NoContent) ≡ Ok (PieceGlyph 3 120 (extents (pos 327680) (pos 327680) (pos 0)) ∷ PieceBox (pos 245760) (layout (pos 262144) (pos 229376) (pos 0) (Glyph 1 50 (pos 0) (pos 0) ∷ [])) ∷ [])
unfolding evaluated
x_squared = refl

-- f with i below and 2 above
f_both : atom_row toy T OrdinarySymbol (atom (Plain Ord) Default (SymbolContent (symbol 1 102)) (SymbolContent (symbol 0 50)) (SymbolContent (symbol 1 105))) ≡ Ok (PieceGlyph 3 102 (extents (pos 327680) (pos 327680) (pos 0)) ∷ PieceBox (neg 163840) (layout (pos 344064) (pos 638976) (pos 0) (Glyph 1 50 (pos 81920) (neg 409600) ∷ Glyph 4 105 (pos 0) (pos 0) ∷ [])) ∷ [])
unfolding evaluated
f_both = refl

-- the sum in display style
sum_display : atom_row toy D OrdinarySymbol (atom (Plain Op) Default (SymbolContent (symbol 3 80)) (SymbolContent (symbol 1 110)) (SymbolContent (symbol 1 105))) ≡ Ok (PieceBox (pos 0) (layout (pos 819200) (pos 1089536) (pos 778240) (Glyph 4 110 (pos 294912) (neg 778240) ∷ Glyph 9 88 (pos 0) (neg 655360) ∷ Glyph 4 105 (pos 294912) (pos 696320) ∷ [])) ∷ [])
unfolding evaluated
sum_display = refl

-- the integral in text style
integral : atom_row toy T OrdinarySymbol (atom (Plain Op) Never (SymbolContent (symbol 3 82)) (SymbolContent (symbol 1 98)) (SymbolContent (symbol 1 97))) ≡ Ok (PieceBox (pos 532480) (layout (pos 327680) (pos 0) (pos 737280) (Glyph 9 82 (pos 0) (pos 0) ∷ [])) ∷ PieceBox (neg 233472) (layout (pos 425984) (pos 823296) (pos 0) (Glyph 4 98 (pos 163840) (neg 593920) ∷ Glyph 4 97 (pos 0) (pos 0) ∷ [])) ∷ [])
unfolding evaluated
integral = refl

-- a hat over f, squared
hat_f : atom_row toy T OrdinarySymbol (atom (Accent (symbol 0 94)) Default (SymbolContent (symbol 1 102)) (SymbolContent (symbol 0 50)) NoContent) ≡ Ok (PieceBox (pos 0) (layout (pos 671744) (pos 491520) (pos 0) (Glyph 0 94 (pos 81920) (pos 0) ∷ Glyph 3 102 (pos 0) (pos 0) ∷ Glyph 1 50 (pos 409600) (neg 245760) ∷ [])) ∷ [])
unfolding evaluated
hat_f = refl

-- a over b in text style
a_over_b : fraction_row toy T (given_fraction None no_delim no_delim (one toy (atom (Plain Ord) Default (SymbolContent (symbol 1 97)) NoContent NoContent)) (one toy (atom (Plain Ord) Default (SymbolContent (symbol 1 98)) NoContent NoContent))) ≡ Ok (PieceBox (pos 0) (layout (pos 386662) (pos 475136) (pos 245760) (Glyph 4 97 (pos 78643) (neg 245760) ∷ Rule (pos 78643) (neg 143360) (pos 40960) (pos 229376) ∷ Glyph 4 98 (pos 78643) (pos 245760) ∷ [])) ∷ [])
unfolding evaluated
a_over_b = refl

-- a over b with a rule of 3sp
a_above_3sp : fraction_row toy T (given_fraction (Some (pos 3)) no_delim no_delim (one toy (atom (Plain Ord) Default (SymbolContent (symbol 1 97)) NoContent NoContent)) (one toy (atom (Plain Ord) Default (SymbolContent (symbol 1 98)) NoContent NoContent))) ≡ Ok (PieceBox (pos 0) (layout (pos 386662) (pos 475136) (pos 245760) (Glyph 4 97 (pos 78643) (neg 245760) ∷ Rule (pos 78643) (neg 163839) (pos 3) (pos 229376) ∷ Glyph 4 98 (pos 78643) (pos 245759) ∷ [])) ∷ [])
unfolding evaluated
a_above_3sp = refl

-- a overlined
overlined_a : atom_row toy T OrdinarySymbol (atom Over Default (SymbolContent (symbol 1 97)) NoContent NoContent) ≡ Ok (PieceBox (pos 0) (layout (pos 327680) (pos 532480) (pos 0) (Rule (pos 0) (neg 450560) (pos 40960) (pos 327680) ∷ Glyph 3 97 (pos 0) (pos 0) ∷ [])) ∷ [])
unfolding evaluated
overlined_a = refl
