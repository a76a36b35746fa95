-- Operators (rule 13), worked.
use Rattle.std.proofs.Common.{◌≡◌, refl, Ok, Err, pos, [], ◌∷◌}
use Rattle.mt_family.specs.declared.size.Size.TheVariants.{Text}
use Rattle.mt_box.specs.declared.place.Place.TheVariants.{Glyph}
use Rattle.mt_box.specs.Rows.{PieceBox}
use Rattle.mt_rules.specs.declared.style.Style.TheVariants.{D, Dc, T, S}
use Rattle.mt_rules.specs.declared.class.Class.TheVariants.{Ord, Op}
use Rattle.mt_rules.specs.declared.kind.Kind.TheVariants.{Plain, Vcenter}
use Rattle.mt_rules.specs.declared.kind.Limits.TheVariants.{Default, Always, Never}
use Rattle.mt_rules.specs.Setting.{MissingChar, Overflow}
use Rattle.mt_rules.specs.Nuclei.{NoContent, SymbolContent, ListContent, RowsContent, OrdinarySymbol}
use Rattle.mt_rules.specs.AtomRow.{atom_row}
use Rattle.mt_rules.proofs.cases.OddFonts.{odd, wild}
use Rattle.mt_rules.proofs.cases.Writing.{neg, layout, symbol, atom, one, kern, evaluated}

-- in text style the character itself, centred on the axis
op_text : atom_row odd T OrdinarySymbol (atom (Plain Op) Default (SymbolContent (symbol 3 19)) NoContent NoContent) ≡ Ok (PieceBox (pos 17003) (layout (pos 12001) (pos 0) (pos 16001) (Glyph 7 19 (pos 0) (pos 0) ∷ [])) ∷ [])
unfolding evaluated
op_text = refl

-- in display style the next larger one, under limits without scripts
op_display : atom_row odd D OrdinarySymbol (atom (Plain Op) Default (SymbolContent (symbol 3 19)) NoContent NoContent) ≡ Ok (PieceBox (pos 0) (layout (pos 20001) (pos 21004) (pos 2998) (Glyph 7 20 (pos 0) (neg 21003) ∷ [])) ∷ [])
unfolding evaluated
op_display = refl

-- with both limits
op_display_limits : atom_row odd Dc OrdinarySymbol (atom (Plain Op) Default (SymbolContent (symbol 3 21)) (SymbolContent (symbol 1 97)) (SymbolContent (symbol 1 98))) ≡ Ok (PieceBox (pos 0) (layout (pos 18552) (pos 58006) (pos 49904) (Glyph 1 97 (pos 5777) (neg 34004) ∷ Glyph 7 22 (pos 1275) (neg 27003) ∷ Glyph 1 98 (neg 3501) (pos 42002) ∷ [])) ∷ [])
unfolding evaluated
op_display_limits = refl

-- with scripts beside it: the box loses delta, which shifts the superscript
op_nolimits : atom_row odd D OrdinarySymbol (atom (Plain Op) Never (SymbolContent (symbol 3 21)) (SymbolContent (symbol 1 97)) (SymbolContent (symbol 1 98))) ≡ Ok (PieceBox (pos 27003) (layout (pos 9001) (pos 0) (pos 36001) (Glyph 7 22 (pos 0) (pos 0) ∷ [])) ∷ PieceBox (neg 16805) (layout (pos 53770) (pos 55006) (pos 4901) (Glyph 1 97 (pos 7001) (neg 34005) ∷ Glyph 1 98 (pos 0) (pos 0) ∷ [])) ∷ [])
unfolding evaluated
op_nolimits = refl

-- with a superscript alone the box keeps delta
op_sup_alone : atom_row odd D OrdinarySymbol (atom (Plain Op) Never (SymbolContent (symbol 3 21)) (SymbolContent (symbol 1 97)) NoContent) ≡ Ok (PieceBox (pos 27003) (layout (pos 16002) (pos 0) (pos 36001) (Glyph 7 22 (pos 0) (pos 0) ∷ [])) ∷ PieceBox (pos 17200) (layout (pos 46769) (pos 21001) (pos 0) (Glyph 1 97 (pos 0) (pos 0) ∷ [])) ∷ [])
unfolding evaluated
op_sup_alone = refl

-- a subscript in text style
op_sub_text : atom_row odd T OrdinarySymbol (atom (Plain Op) Default (SymbolContent (symbol 3 21)) NoContent (SymbolContent (symbol 1 98))) ≡ Ok (PieceBox (pos 18003) (layout (pos 8001) (pos 0) (pos 18001) (Glyph 7 21 (pos 0) (pos 0) ∷ [])) ∷ PieceBox (neg 15999) (layout (pos 51320) (pos 28001) (pos 4901) (Glyph 1 98 (pos 0) (pos 0) ∷ [])) ∷ [])
unfolding evaluated
op_sub_text = refl

-- limits in script style
op_always : atom_row odd S OrdinarySymbol (atom (Plain Op) Always (SymbolContent (symbol 3 21)) (SymbolContent (symbol 1 97)) (SymbolContent (symbol 1 98))) ≡ Ok (PieceBox (pos 0) (layout (pos 13252) (pos 40306) (pos 34204) (Glyph 2 97 (pos 3627) (neg 22304) ∷ Glyph 8 21 (pos 625) (neg 15303) ∷ Glyph 2 98 (neg 2001) (pos 27702) ∷ [])) ∷ [])
unfolding evaluated
op_always = refl

-- a next larger one that does not exist
op_larger_missing : atom_row odd D OrdinarySymbol (atom (Plain Op) Default (SymbolContent (symbol 3 23)) (SymbolContent (symbol 1 97)) NoContent) ≡ Ok (PieceBox (pos 0) (layout (pos 14001) (pos 58006) (pos 8998) (Glyph 1 97 (pos 0) (neg 34004) ∷ Glyph 7 23 (pos 2499) (neg 27003) ∷ [])) ∷ [])
unfolding evaluated
op_larger_missing = refl

-- a nucleus that is a list: not centred, delta 0; with limits its row is not packed by itself
op_list : atom_row odd D OrdinarySymbol (atom (Plain Op) Default (ListContent (one odd (atom (Plain Ord) Default (SymbolContent (symbol 1 98)) NoContent NoContent))) (SymbolContent (symbol 1 97)) NoContent) ≡ Ok (PieceBox (pos 0) (layout (pos 26502) (pos 71003) (pos 7001) (Glyph 1 97 (pos 6251) (neg 47001) ∷ Glyph 0 98 (pos 0) (pos 0) ∷ [])) ∷ [])
unfolding evaluated
op_list = refl

-- a list of one box: its clean box keeps its negative depth
op_list_clean : atom_row odd D OrdinarySymbol (atom (Plain Op) Default (ListContent (one odd (atom Vcenter Default (RowsContent []) NoContent NoContent))) NoContent NoContent) ≡ Ok (PieceBox (pos 0) (layout (pos 0) (pos 9003) (neg 9003) []) ∷ [])
unfolding evaluated
op_list_clean = refl

-- a list beside its script is packed
op_list_text : atom_row odd T OrdinarySymbol (atom (Plain Op) Default (ListContent (one odd (atom (Plain Ord) Default (SymbolContent (symbol 1 98)) NoContent NoContent))) NoContent (SymbolContent (symbol 1 97))) ≡ Ok (PieceBox (pos 0) (layout (pos 26502) (pos 40000) (pos 7001) (Glyph 0 98 (pos 0) (pos 0) ∷ [])) ∷ PieceBox (neg 8999) (layout (pos 46769) (pos 21001) (pos 0) (Glyph 1 97 (pos 0) (pos 0) ∷ [])) ∷ [])
unfolding evaluated
op_list_text = refl

-- an empty operator with a limit
op_empty : atom_row odd D OrdinarySymbol (atom (Plain Op) Default NoContent (SymbolContent (symbol 1 97)) NoContent) ≡ Ok (PieceBox (pos 0) (layout (pos 14001) (pos 31003) (pos 0) (Glyph 1 97 (pos 0) (neg 7001) ∷ [])) ∷ [])
unfolding evaluated
op_empty = refl

-- not found
op_missing : atom_row odd T OrdinarySymbol (atom (Plain Op) Default (SymbolContent (symbol 0 94)) (SymbolContent (symbol 9 9)) NoContent) ≡ Err (MissingChar 0 Text 94)
unfolding evaluated
op_missing = refl

-- a glyph out of range before the superscript's fault
op_glyph : atom_row odd T OrdinarySymbol (atom (Plain Op) Default (SymbolContent (symbol 3 27)) (SymbolContent (symbol 9 9)) NoContent) ≡ Err (Overflow (pos 1073741824))
unfolding evaluated
op_glyph = refl

-- the clean box with its italic out of range
op_row : atom_row odd T OrdinarySymbol (atom (Plain Op) Default (SymbolContent (symbol 3 28)) (SymbolContent (symbol 9 9)) (SymbolContent (symbol 1 97))) ≡ Err (Overflow (pos 1073741825))
unfolding evaluated
op_row = refl

-- the nucleus's row is tested before the superscript is set
op_limits_fault : atom_row odd D OrdinarySymbol (atom (Plain Op) Default (ListContent (kern (pos 1073741824))) (SymbolContent (symbol 9 9)) NoContent) ≡ Err (Overflow (pos 1073741824))
unfolding evaluated
op_limits_fault = refl

-- raised by a high axis: the row is out of range
op_raised : atom_row wild T OrdinarySymbol (atom (Plain Op) Default (SymbolContent (symbol 3 19)) NoContent NoContent) ≡ Err (Overflow (pos 1073749823))
unfolding evaluated
op_raised = refl

-- with limits its clean row is tested before the superscript is set
op_limits_raised : atom_row wild D OrdinarySymbol (atom (Plain Op) Default (SymbolContent (symbol 3 19)) (SymbolContent (symbol 9 9)) NoContent) ≡ Err (Overflow (pos 1073753824))
unfolding evaluated
op_limits_raised = refl
