-- Lists whose setting is refused, worked.
use Rattle.std.proofs.Common.{◌≡◌, refl, Err, Some, pos, [], ◌∷◌}
use Rattle.mt_convert.proofs.Common.{Text, T, Ord, Inner, Plain, FractionElement, LeftElement, RightElement, KernElement, EmptyPart, ListPart, MissingFamily, MissingChar, Overflow, TooTall, list_row, toy, delim, no_delim}
use Rattle.mt_convert.proofs.cases.Writing.{list, atom, plain, letter, roman, group, from_top, evaluated}

-- a character that its font does not have
missing_char : from_top (list_row toy T (list (roman 0 ∷ []))) ≡ Err (MissingChar 0 Text 0)
unfolding evaluated
missing_char = refl

-- a family without a font
missing_family : from_top (list_row toy T (list (plain Ord 4 120 ∷ []))) ≡ Err (MissingFamily 4 Text)
unfolding evaluated
missing_family = refl

-- two kerns of 16383pt and a: the row is too wide
wide_kerns : from_top (list_row toy T (list (KernElement (pos 1073676288) ∷ KernElement (pos 1073676288) ∷ letter 97 ∷ []))) ≡ Err (Overflow (pos 2147680256))
unfolding evaluated
wide_kerns = refl

-- a above b with a rule of 4000pt, after a brace: it wants too many repeats
tall_brace : from_top (list_row toy T (list (atom (Plain Inner) (ListPart (list (LeftElement (delim 2 102 3 8) ∷ group (FractionElement (Some (pos 262144000)) no_delim no_delim (list (letter 97 ∷ [])) (list (letter 98 ∷ [])) ∷ []) ∷ RightElement no_delim ∷ []))) EmptyPart EmptyPart ∷ []))) ≡ Err (TooTall 4797)
unfolding evaluated
tall_brace = refl
