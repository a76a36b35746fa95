-- Worked cases: classes, styles and spaces of known formulas.
use Rattle.std.proofs.Common.{◌≡◌, refl, true, Some, None}
use Rattle.mt_rules.specs.declared.class.Class.TheVariants.{Ord, Op, Bin, Rel, Open, Close}
use Rattle.mt_rules.specs.declared.kind.Kind.TheVariants.{Plain, Radical}
use Rattle.mt_rules.specs.declared.symbol.Delim.{Delim}
use Rattle.mt_rules.specs.declared.style.Style.TheVariants.{D, T, S, Sc, Ss}
use Rattle.mt_rules.specs.Classes.{forward_of, settled_of, kind_class}
use Rattle.mt_rules.specs.Styles.{sup_of, sub_of, num_of, den_of}
use Rattle.mt_rules.specs.Spaces.{never_meet, spacing, NoSpacing, ThinSpacing, MediumSpacing}

-- a + b keeps its sum
sum_after_a : forward_of (Some Ord) Bin ≡ Bin
sum_after_a = refl

sum_before_b : settled_of Bin (Some Ord) ≡ Bin
sum_before_b = refl

-- + b, (+ b and the second sign of a + - b have none at their left
sign_at_the_start : forward_of None Bin ≡ Ord
sign_at_the_start = refl

sign_after_an_opening : forward_of (Some Open) Bin ≡ Ord
sign_after_an_opening = refl

sign_after_a_sum : forward_of (Some Bin) Bin ≡ Ord
sign_after_a_sum = refl

-- a + = b, a +) and a + have none at their right
sign_before_a_relation : settled_of Bin (Some Rel) ≡ Ord
sign_before_a_relation = refl

sign_before_a_closing : settled_of Bin (Some Close) ≡ Ord
sign_before_a_closing = refl

sign_at_the_end : settled_of Bin None ≡ Ord
sign_at_the_end = refl

-- a square root is an ordinary atom, a sign a binary operation
square_root : (d : Delim) → kind_class (Radical d) ≡ Ord
square_root d = refl

sign : kind_class (Plain Bin) ≡ Bin
sign = refl

-- a fraction in display style has parts in text style, one in text style parts in script style
display_numerator : num_of D ≡ T
display_numerator = refl

text_denominator : den_of T ≡ Sc
text_denominator = refl

script_superscript : sup_of S ≡ Ss
script_superscript = refl

display_subscript : sub_of D ≡ Sc
display_subscript = refl

-- round a sum, in text style and in script style
sum_in_text : spacing Ord Bin T ≡ MediumSpacing
sum_in_text = refl

sum_in_script : spacing Ord Bin S ≡ NoSpacing
sum_in_script = refl

operator_in_script : spacing Ord Op S ≡ ThinSpacing
operator_in_script = refl

two_operations : never_meet Bin Bin ≡ true
two_operations = refl
