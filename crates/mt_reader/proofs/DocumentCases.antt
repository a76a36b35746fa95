-- Documents and their pages.
use Rattle.std.proofs.Common.{◌≡◌, refl, [], ◌∷◌, false, Some}
use Rattle.std.specs.Prelude.{codes, pos, neg_ℤ, Ok}
use Rattle.mt_macro.specs.Expansion.{run}
use Rattle.mt_rules.specs.declared.class.Class.TheVariants.{Op, Rel, Inner}
use Rattle.mt_rules.specs.declared.kind.Kind.TheVariants.{Plain, Radical, Accent}
use Rattle.mt_rules.specs.declared.kind.Limits.TheVariants.{Default, Never}
use Rattle.mt_rules.specs.Sequence.{AtomElement, FractionElement, LeftElement, RightElement, SpaceElement, KernElement}
use Rattle.mt_formula.proofs.Writing.{seq, sym, lst, no, symbol, delim, glue, bare, ord, scripted}
use Rattle.mt_reader.specs.Documents.{pages_from}
use Rattle.mt_reader.proofs.DocumentWriting.{read, entry, shown, shown_with}
use Rattle.mt_plain.specs.CodeTables.{plain_codes}
use Rattle.mt_plain.specs.Names.{control}
use Rattle.mt_plain.specs.MacroTexts.{macro_texts, accent_macros, delimiter_macros, other_macros, family_macros, function_macros, limit_macros}
use Rattle.mt_plain.specs.PlainMacros.{plain_table, body_of as plain_body}
use Rattle.mt_formula.specs.Rules.{item_run}

case_1 : read (codes "") ≡ Ok []
unfolding item_run run pages_from control plain_codes plain_table macro_texts accent_macros delimiter_macros other_macros family_macros function_macros limit_macros plain_body
case_1 = refl

case_2 : read (codes "$$$$") ≡ Ok ((shown 1 [] ∷ []) ∷ [])
unfolding item_run run pages_from control plain_codes plain_table macro_texts accent_macros delimiter_macros other_macros family_macros function_macros limit_macros plain_body
case_2 = refl

case_3 : read (codes "$a$ $b$") ≡ Ok ((entry 1 (ord (sym 1 97) ∷ []) ∷ entry 2 (ord (sym 1 98) ∷ []) ∷ []) ∷ [])
unfolding item_run run pages_from control plain_codes plain_table macro_texts accent_macros delimiter_macros other_macros family_macros function_macros limit_macros plain_body
case_3 = refl

case_4 : read (codes "$a$\\eject$b$") ≡ Ok ((entry 1 (ord (sym 1 97) ∷ []) ∷ []) ∷ (entry 2 (ord (sym 1 98) ∷ []) ∷ []) ∷ [])
unfolding item_run run pages_from control plain_codes plain_table macro_texts accent_macros delimiter_macros other_macros family_macros function_macros limit_macros plain_body
case_4 = refl

case_5 : read (codes "\\eject\\eject$a$\\eject") ≡ Ok ((entry 1 (ord (sym 1 97) ∷ []) ∷ []) ∷ [])
unfolding item_run run pages_from control plain_codes plain_table macro_texts accent_macros delimiter_macros other_macros family_macros function_macros limit_macros plain_body
case_5 = refl

case_6 : read (codes "$a$\\bye $") ≡ Ok ((entry 1 (ord (sym 1 97) ∷ []) ∷ []) ∷ [])
unfolding item_run run pages_from control plain_codes plain_table macro_texts accent_macros delimiter_macros other_macros family_macros function_macros limit_macros plain_body
case_6 = refl

case_7 : read (codes "$a$\\end\\foo") ≡ Ok ((entry 1 (ord (sym 1 97) ∷ []) ∷ []) ∷ [])
unfolding item_run run pages_from control plain_codes plain_table macro_texts accent_macros delimiter_macros other_macros family_macros function_macros limit_macros plain_body
case_7 = refl

case_8 : read (codes "\\par $a$\n\n$b$") ≡ Ok ((entry 1 (ord (sym 1 97) ∷ []) ∷ entry 2 (ord (sym 1 98) ∷ []) ∷ []) ∷ [])
unfolding item_run run pages_from control plain_codes plain_table macro_texts accent_macros delimiter_macros other_macros family_macros function_macros limit_macros plain_body
case_8 = refl

case_9 : read (codes "$a$$b$") ≡ Ok ((entry 1 (ord (sym 1 97) ∷ []) ∷ entry 2 (ord (sym 1 98) ∷ []) ∷ []) ∷ [])
unfolding item_run run pages_from control plain_codes plain_table macro_texts accent_macros delimiter_macros other_macros family_macros function_macros limit_macros plain_body
case_9 = refl

case_10 : read (codes "$$a$$$b$") ≡ Ok ((shown 1 (ord (sym 1 97) ∷ []) ∷ entry 2 (ord (sym 1 98) ∷ []) ∷ []) ∷ [])
unfolding item_run run pages_from control plain_codes plain_table macro_texts accent_macros delimiter_macros other_macros family_macros function_macros limit_macros plain_body
case_10 = refl

case_11 : read (codes "$$a\\eqno b$$$a$") ≡ Ok ((shown_with 1 false (ord (sym 1 97) ∷ []) (ord (sym 1 98) ∷ []) ∷ entry 2 (ord (sym 1 97) ∷ []) ∷ []) ∷ [])
unfolding item_run run pages_from control plain_codes plain_table macro_texts accent_macros delimiter_macros other_macros family_macros function_macros limit_macros plain_body
case_11 = refl

case_12 : read (codes "\\def\\x{b}$\\x\\x$") ≡ Ok ((entry 1 (ord (sym 1 98) ∷ ord (sym 1 98) ∷ []) ∷ []) ∷ [])
unfolding item_run run pages_from control plain_codes plain_table macro_texts accent_macros delimiter_macros other_macros family_macros function_macros limit_macros plain_body
case_12 = refl

case_13 : read (codes "\\def\\x#1#2{#2#1}$\\x a{bc}$") ≡ Ok ((entry 1 (ord (sym 1 98) ∷ ord (sym 1 99) ∷ ord (sym 1 97) ∷ []) ∷ []) ∷ [])
unfolding item_run run pages_from control plain_codes plain_table macro_texts accent_macros delimiter_macros other_macros family_macros function_macros limit_macros plain_body
case_13 = refl

case_14 : read (codes "\\def\\x{\\y}\\def\\y{a}$\\x$") ≡ Ok ((entry 1 (ord (sym 1 97) ∷ []) ∷ []) ∷ [])
unfolding item_run run pages_from control plain_codes plain_table macro_texts accent_macros delimiter_macros other_macros family_macros function_macros limit_macros plain_body
case_14 = refl

case_15 : read (codes "\\def\\alpha{b}$\\alpha$") ≡ Ok ((entry 1 (ord (sym 1 98) ∷ []) ∷ []) ∷ [])
unfolding item_run run pages_from control plain_codes plain_table macro_texts accent_macros delimiter_macros other_macros family_macros function_macros limit_macros plain_body
case_15 = refl

case_16 : read (codes "\\def\\def{a}\\def\\x{b}$\\def\\x$") ≡ Ok ((entry 1 (ord (sym 1 97) ∷ ord (sym 1 98) ∷ []) ∷ []) ∷ [])
unfolding item_run run pages_from control plain_codes plain_table macro_texts accent_macros delimiter_macros other_macros family_macros function_macros limit_macros plain_body
case_16 = refl

case_17 : read (codes "\\def\\bye{c}$\\bye$\\bye}") ≡ Ok ((entry 1 (ord (sym 1 99) ∷ []) ∷ []) ∷ [])
unfolding item_run run pages_from control plain_codes plain_table macro_texts accent_macros delimiter_macros other_macros family_macros function_macros limit_macros plain_body
case_17 = refl

case_18 : read (codes "\\def\\par{d}\\par$\\par$") ≡ Ok ((entry 1 (ord (sym 1 100) ∷ []) ∷ []) ∷ [])
unfolding item_run run pages_from control plain_codes plain_table macro_texts accent_macros delimiter_macros other_macros family_macros function_macros limit_macros plain_body
case_18 = refl

case_19 : read (codes "\\def\\sqrt#1{#1}$\\sqrt a$") ≡ Ok ((entry 1 (ord (sym 1 97) ∷ []) ∷ []) ∷ [])
unfolding item_run run pages_from control plain_codes plain_table macro_texts accent_macros delimiter_macros other_macros family_macros function_macros limit_macros plain_body
case_19 = refl

case_20 : read (codes "\\def\\x#1#2#3#4#5#6#7#8#9{#9#1}$\\x123456789$") ≡ Ok ((entry 1 (ord (sym 0 57) ∷ ord (sym 0 49) ∷ []) ∷ []) ∷ [])
unfolding item_run run pages_from control plain_codes plain_table macro_texts accent_macros delimiter_macros other_macros family_macros function_macros limit_macros plain_body
case_20 = refl

case_21 : read (codes "\\def\\x{{}}$\\x$") ≡ Ok ((entry 1 (ord (lst []) ∷ []) ∷ []) ∷ [])
unfolding item_run run pages_from control plain_codes plain_table macro_texts accent_macros delimiter_macros other_macros family_macros function_macros limit_macros plain_body
case_21 = refl

case_22 : read (codes "\\def\\x#1{}$\\x{a}b$") ≡ Ok ((entry 1 (ord (sym 1 98) ∷ []) ∷ []) ∷ [])
unfolding item_run run pages_from control plain_codes plain_table macro_texts accent_macros delimiter_macros other_macros family_macros function_macros limit_macros plain_body
case_22 = refl

case_23 : read (codes "\\def\\x#1{\\mathop#1a\\left#1(\\right#1)\\kern#1-#1 1pt}$\\x{ }$") ≡ Ok ((entry 1 (bare (Plain Op) (sym 1 97) ∷ bare (Plain Inner) (lst (LeftElement (delim 0 40 3 0) ∷ RightElement (delim 0 41 3 1) ∷ [])) ∷ KernElement (neg_ℤ (pos 65536)) ∷ []) ∷ []) ∷ [])
unfolding item_run run pages_from control plain_codes plain_table macro_texts accent_macros delimiter_macros other_macros family_macros function_macros limit_macros plain_body
case_23 = refl

case_24 : read (codes "\\def\\x#1{\\mathchar\"7161#1#1a#1#1^#1b}$\\x{ }$") ≡ Ok ((entry 1 (ord (sym 1 97) ∷ scripted (sym 1 97) (sym 1 98) no ∷ []) ∷ []) ∷ [])
unfolding item_run run pages_from control plain_codes plain_table macro_texts accent_macros delimiter_macros other_macros family_macros function_macros limit_macros plain_body
case_24 = refl

case_25 : read (codes "$\\sqrt a$") ≡ Ok ((entry 1 (bare (Radical (delim 2 112 3 112)) (sym 1 97) ∷ []) ∷ []) ∷ [])
unfolding item_run run pages_from control plain_codes plain_table macro_texts accent_macros delimiter_macros other_macros family_macros function_macros limit_macros plain_body
case_25 = refl

case_26 : read (codes "$\\hat f^2$") ≡ Ok ((entry 1 (AtomElement (Accent (symbol 0 94)) Default (sym 1 102) (sym 0 50) no ∷ []) ∷ []) ∷ [])
unfolding item_run run pages_from control plain_codes plain_table macro_texts accent_macros delimiter_macros other_macros family_macros function_macros limit_macros plain_body
case_26 = refl

case_27 : read (codes "$\\sin x$") ≡ Ok ((entry 1 (AtomElement (Plain Op) Never (lst (ord (sym 0 115) ∷ ord (sym 0 105) ∷ ord (sym 0 110) ∷ [])) no no ∷ ord (sym 1 120) ∷ []) ∷ []) ∷ [])
unfolding item_run run pages_from control plain_codes plain_table macro_texts accent_macros delimiter_macros other_macros family_macros function_macros limit_macros plain_body
case_27 = refl

case_28 : read (codes "$a\\ne b$") ≡ Ok ((entry 1 (ord (sym 1 97) ∷ bare (Plain Rel) (sym 2 54) ∷ bare (Plain Rel) (sym 0 61) ∷ ord (sym 1 98) ∷ []) ∷ []) ∷ [])
unfolding item_run run pages_from control plain_codes plain_table macro_texts accent_macros delimiter_macros other_macros family_macros function_macros limit_macros plain_body
case_28 = refl

case_29 : read (codes "$a\\choose b$") ≡ Ok ((entry 1 (FractionElement (Some (pos 0)) (delim 0 40 3 0) (delim 0 41 3 1) (seq (ord (sym 1 97) ∷ [])) (seq (ord (sym 1 98) ∷ [])) ∷ []) ∷ []) ∷ [])
unfolding item_run run pages_from control plain_codes plain_table macro_texts accent_macros delimiter_macros other_macros family_macros function_macros limit_macros plain_body
case_29 = refl

case_30 : read (codes "$\\quad$") ≡ Ok ((entry 1 (SpaceElement (glue (pos 655360) (pos 0)) ∷ []) ∷ []) ∷ [])
unfolding item_run run pages_from control plain_codes plain_table macro_texts accent_macros delimiter_macros other_macros family_macros function_macros limit_macros plain_body
case_30 = refl

case_31 : read (codes "$\\int_a^b$") ≡ Ok ((entry 1 (AtomElement (Plain Op) Never (sym 3 82) (sym 1 98) (sym 1 97) ∷ []) ∷ []) ∷ [])
unfolding item_run run pages_from control plain_codes plain_table macro_texts accent_macros delimiter_macros other_macros family_macros function_macros limit_macros plain_body
case_31 = refl

case_32 : read (codes "$\\left\\{a\\right\\|$") ≡ Ok ((entry 1 (bare (Plain Inner) (lst (LeftElement (delim 2 102 3 8) ∷ ord (sym 1 97) ∷ RightElement (delim 2 107 3 13) ∷ [])) ∷ []) ∷ []) ∷ [])
unfolding item_run run pages_from control plain_codes plain_table macro_texts accent_macros delimiter_macros other_macros family_macros function_macros limit_macros plain_body
case_32 = refl

case_33 : read (codes "$\\rm fi$") ≡ Ok ((entry 1 (ord (sym 0 102) ∷ ord (sym 0 105) ∷ []) ∷ []) ∷ [])
unfolding item_run run pages_from control plain_codes plain_table macro_texts accent_macros delimiter_macros other_macros family_macros function_macros limit_macros plain_body
case_33 = refl

case_34 : read (codes "\\mathcode`'=\"0230 $'$") ≡ Ok ((entry 1 (ord (sym 2 48) ∷ []) ∷ []) ∷ [])
unfolding item_run run pages_from control plain_codes plain_table macro_texts accent_macros delimiter_macros other_macros family_macros function_macros limit_macros plain_body
case_34 = refl

case_35 : read (codes "\\mathcode`\\!98$!$") ≡ Ok ((entry 1 (ord (sym 0 98) ∷ []) ∷ []) ∷ [])
unfolding item_run run pages_from control plain_codes plain_table macro_texts accent_macros delimiter_macros other_macros family_macros function_macros limit_macros plain_body
case_35 = refl

case_36 : read (codes "\\mathcode 97 = \"7162 $a$") ≡ Ok ((entry 1 (ord (sym 1 98) ∷ []) ∷ []) ∷ [])
unfolding item_run run pages_from control plain_codes plain_table macro_texts accent_macros delimiter_macros other_macros family_macros function_macros limit_macros plain_body
case_36 = refl

case_37 : read (codes "$a$\\mathcode`a=98 $a$") ≡ Ok ((entry 1 (ord (sym 1 97) ∷ []) ∷ entry 2 (ord (sym 0 98) ∷ []) ∷ []) ∷ [])
unfolding item_run run pages_from control plain_codes plain_table macro_texts accent_macros delimiter_macros other_macros family_macros function_macros limit_macros plain_body
case_37 = refl

case_38 : read (codes "\\delcode`a=\"028300 $\\left a\\right)$") ≡ Ok ((entry 1 (bare (Plain Inner) (lst (LeftElement (delim 0 40 3 0) ∷ RightElement (delim 0 41 3 1) ∷ [])) ∷ []) ∷ []) ∷ [])
unfolding item_run run pages_from control plain_codes plain_table macro_texts accent_macros delimiter_macros other_macros family_macros function_macros limit_macros plain_body
case_38 = refl

case_39 : read (codes "\\delcode`\\)=-1\\delcode40-1$a$") ≡ Ok ((entry 1 (ord (sym 1 97) ∷ []) ∷ []) ∷ [])
unfolding item_run run pages_from control plain_codes plain_table macro_texts accent_macros delimiter_macros other_macros family_macros function_macros limit_macros plain_body
case_39 = refl

case_40 : read (codes "\\mathcode`{=0\\mathcode`}=0$a$") ≡ Ok ((entry 1 (ord (sym 1 97) ∷ []) ∷ []) ∷ [])
unfolding item_run run pages_from control plain_codes plain_table macro_texts accent_macros delimiter_macros other_macros family_macros function_macros limit_macros plain_body
case_40 = refl
