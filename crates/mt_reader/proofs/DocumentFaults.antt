-- Documents that are refused.
use Rattle.std.proofs.Common.{◌≡◌, refl, [], ◌∷◌}
use Rattle.std.specs.Prelude.{codes, Err}
use Rattle.mt_macro.specs.Expansion.{run, OverBudget, NoArgument}
use Rattle.mt_formula.proofs.Writing.{times, sym, ord}
use Rattle.mt_scan.specs.declared.fault.ReadCause.TheVariants.{UnknownName, DoubleScript, TwoFractions, BadDelimiter, Unbalanced, MissingField, MisplacedNumber, TooDeep}
use Rattle.mt_reader.specs.Documents.{pages_from, Outside, NotExpanded, NotRead, TooManyTokens, TooManyPages}
use Rattle.mt_reader.proofs.DocumentWriting.{read, after_pages, after_tokens, after_definitions, entry}
use Rattle.mt_plain.specs.CodeTables.{plain_codes}
use Rattle.mt_plain.specs.Names.{control}
use Rattle.mt_plain.specs.MacroTexts.{macro_texts, accent_macros, delimiter_macros, other_macros, family_macros, function_macros, limit_macros}
use Rattle.mt_plain.specs.PlainMacros.{plain_table, body_of as plain_body}
use Rattle.mt_formula.specs.Rules.{item_run}
use Rattle.mt_reader.specs.declared.outside_cause.OutsideCause.TheVariants.{Misplaced, OpenFormula, BadDefinition, OpenBody, TooManyNames, BadAssignment}

-- cause 31
case_1 : read (codes "a") ≡ Err (Outside 1 Misplaced 0)
unfolding item_run run pages_from control plain_codes plain_table macro_texts accent_macros delimiter_macros other_macros family_macros function_macros limit_macros plain_body
case_1 = refl

case_2 : read (codes "\\foo") ≡ Err (Outside 1 Misplaced 0)
unfolding item_run run pages_from control plain_codes plain_table macro_texts accent_macros delimiter_macros other_macros family_macros function_macros limit_macros plain_body
case_2 = refl

case_3 : read (codes "$a$ b") ≡ Err (Outside 2 Misplaced 4)
unfolding item_run run pages_from control plain_codes plain_table macro_texts accent_macros delimiter_macros other_macros family_macros function_macros limit_macros plain_body
case_3 = refl

case_4 : read (codes "{") ≡ Err (Outside 1 Misplaced 0)
unfolding item_run run pages_from control plain_codes plain_table macro_texts accent_macros delimiter_macros other_macros family_macros function_macros limit_macros plain_body
case_4 = refl

case_5 : read (codes "\\alpha") ≡ Err (Outside 1 Misplaced 0)
unfolding item_run run pages_from control plain_codes plain_table macro_texts accent_macros delimiter_macros other_macros family_macros function_macros limit_macros plain_body
case_5 = refl

case_6 : read (codes "\\sqrt") ≡ Err (Outside 1 Misplaced 0)
unfolding item_run run pages_from control plain_codes plain_table macro_texts accent_macros delimiter_macros other_macros family_macros function_macros limit_macros plain_body
case_6 = refl

case_7 : read (codes "$a$}") ≡ Err (Outside 2 Misplaced 3)
unfolding item_run run pages_from control plain_codes plain_table macro_texts accent_macros delimiter_macros other_macros family_macros function_macros limit_macros plain_body
case_7 = refl

case_8 : read (codes "\\def\\x{}\\x") ≡ Err (Outside 1 Misplaced 4)
unfolding item_run run pages_from control plain_codes plain_table macro_texts accent_macros delimiter_macros other_macros family_macros function_macros limit_macros plain_body
case_8 = refl

case_9 : read (codes "#") ≡ Err (Outside 1 Misplaced 0)
unfolding item_run run pages_from control plain_codes plain_table macro_texts accent_macros delimiter_macros other_macros family_macros function_macros limit_macros plain_body
case_9 = refl

-- cause 32
case_10 : read (codes "$a") ≡ Err (Outside 1 OpenFormula 0)
unfolding item_run run pages_from control plain_codes plain_table macro_texts accent_macros delimiter_macros other_macros family_macros function_macros limit_macros plain_body
case_10 = refl

case_11 : read (codes "$a}$") ≡ Err (Outside 1 OpenFormula 0)
unfolding item_run run pages_from control plain_codes plain_table macro_texts accent_macros delimiter_macros other_macros family_macros function_macros limit_macros plain_body
case_11 = refl

case_12 : read (codes "$$a$") ≡ Err (Outside 1 OpenFormula 0)
unfolding item_run run pages_from control plain_codes plain_table macro_texts accent_macros delimiter_macros other_macros family_macros function_macros limit_macros plain_body
case_12 = refl

case_13 : read (codes "$a$ $$b") ≡ Err (Outside 2 OpenFormula 4)
unfolding item_run run pages_from control plain_codes plain_table macro_texts accent_macros delimiter_macros other_macros family_macros function_macros limit_macros plain_body
case_13 = refl

case_14 : read (codes "${$") ≡ Err (Outside 1 OpenFormula 0)
unfolding item_run run pages_from control plain_codes plain_table macro_texts accent_macros delimiter_macros other_macros family_macros function_macros limit_macros plain_body
case_14 = refl

case_15 : read (codes "$") ≡ Err (Outside 1 OpenFormula 0)
unfolding item_run run pages_from control plain_codes plain_table macro_texts accent_macros delimiter_macros other_macros family_macros function_macros limit_macros plain_body
case_15 = refl

case_16 : read (codes "$$") ≡ Err (Outside 1 OpenFormula 0)
unfolding item_run run pages_from control plain_codes plain_table macro_texts accent_macros delimiter_macros other_macros family_macros function_macros limit_macros plain_body
case_16 = refl

case_17 : read (codes "$\\hbox{$a}") ≡ Err (Outside 1 OpenFormula 0)
unfolding item_run run pages_from control plain_codes plain_table macro_texts accent_macros delimiter_macros other_macros family_macros function_macros limit_macros plain_body
case_17 = refl

-- cause 33
case_18 : read (codes "\\def") ≡ Err (Outside 1 BadDefinition 1)
unfolding item_run run pages_from control plain_codes plain_table macro_texts accent_macros delimiter_macros other_macros family_macros function_macros limit_macros plain_body
case_18 = refl

case_19 : read (codes "\\def a") ≡ Err (Outside 1 BadDefinition 1)
unfolding item_run run pages_from control plain_codes plain_table macro_texts accent_macros delimiter_macros other_macros family_macros function_macros limit_macros plain_body
case_19 = refl

case_20 : read (codes "$a$\\def{}") ≡ Err (Outside 2 BadDefinition 4)
unfolding item_run run pages_from control plain_codes plain_table macro_texts accent_macros delimiter_macros other_macros family_macros function_macros limit_macros plain_body
case_20 = refl

case_21 : read (codes "\\def\\x#2{}") ≡ Err (Outside 1 BadDefinition 3)
unfolding item_run run pages_from control plain_codes plain_table macro_texts accent_macros delimiter_macros other_macros family_macros function_macros limit_macros plain_body
case_21 = refl

case_22 : read (codes "\\def\\x#") ≡ Err (Outside 1 BadDefinition 3)
unfolding item_run run pages_from control plain_codes plain_table macro_texts accent_macros delimiter_macros other_macros family_macros function_macros limit_macros plain_body
case_22 = refl

case_23 : read (codes "\\def\\x a{}") ≡ Err (Outside 1 BadDefinition 2)
unfolding item_run run pages_from control plain_codes plain_table macro_texts accent_macros delimiter_macros other_macros family_macros function_macros limit_macros plain_body
case_23 = refl

case_24 : read (codes "\\def\\x#1 {}") ≡ Err (Outside 1 BadDefinition 4)
unfolding item_run run pages_from control plain_codes plain_table macro_texts accent_macros delimiter_macros other_macros family_macros function_macros limit_macros plain_body
case_24 = refl

case_25 : read (codes "\\def\\x#1#2#3#4#5#6#7#8#9#{}") ≡ Err (Outside 1 BadDefinition 20)
unfolding item_run run pages_from control plain_codes plain_table macro_texts accent_macros delimiter_macros other_macros family_macros function_macros limit_macros plain_body
case_25 = refl

case_26 : read (codes "\\def\\x") ≡ Err (Outside 1 BadDefinition 2)
unfolding item_run run pages_from control plain_codes plain_table macro_texts accent_macros delimiter_macros other_macros family_macros function_macros limit_macros plain_body
case_26 = refl

case_27 : read (codes "\\def\\x#1") ≡ Err (Outside 1 BadDefinition 4)
unfolding item_run run pages_from control plain_codes plain_table macro_texts accent_macros delimiter_macros other_macros family_macros function_macros limit_macros plain_body
case_27 = refl

case_28 : read (codes "\\def\\x#1#1{}") ≡ Err (Outside 1 BadDefinition 5)
unfolding item_run run pages_from control plain_codes plain_table macro_texts accent_macros delimiter_macros other_macros family_macros function_macros limit_macros plain_body
case_28 = refl

case_29 : read (codes "\\def\\x{#1}") ≡ Err (Outside 1 BadDefinition 3)
unfolding item_run run pages_from control plain_codes plain_table macro_texts accent_macros delimiter_macros other_macros family_macros function_macros limit_macros plain_body
case_29 = refl

case_30 : read (codes "\\def\\x#1{#2}") ≡ Err (Outside 1 BadDefinition 5)
unfolding item_run run pages_from control plain_codes plain_table macro_texts accent_macros delimiter_macros other_macros family_macros function_macros limit_macros plain_body
case_30 = refl

case_31 : read (codes "\\def\\x#1{a#}") ≡ Err (Outside 1 BadDefinition 6)
unfolding item_run run pages_from control plain_codes plain_table macro_texts accent_macros delimiter_macros other_macros family_macros function_macros limit_macros plain_body
case_31 = refl

case_32 : read (codes "\\def\\x#1{a##1}") ≡ Err (Outside 1 BadDefinition 6)
unfolding item_run run pages_from control plain_codes plain_table macro_texts accent_macros delimiter_macros other_macros family_macros function_macros limit_macros plain_body
case_32 = refl

case_33 : read (codes "\\def\\x}") ≡ Err (Outside 1 BadDefinition 2)
unfolding item_run run pages_from control plain_codes plain_table macro_texts accent_macros delimiter_macros other_macros family_macros function_macros limit_macros plain_body
case_33 = refl

-- cause 34
case_34 : read (codes "\\def\\x{a") ≡ Err (Outside 1 OpenBody 2)
unfolding item_run run pages_from control plain_codes plain_table macro_texts accent_macros delimiter_macros other_macros family_macros function_macros limit_macros plain_body
case_34 = refl

case_35 : read (codes "\\def\\x{{}") ≡ Err (Outside 1 OpenBody 2)
unfolding item_run run pages_from control plain_codes plain_table macro_texts accent_macros delimiter_macros other_macros family_macros function_macros limit_macros plain_body
case_35 = refl

case_36 : read (codes "\\def\\x#1{#2{") ≡ Err (Outside 1 OpenBody 4)
unfolding item_run run pages_from control plain_codes plain_table macro_texts accent_macros delimiter_macros other_macros family_macros function_macros limit_macros plain_body
case_36 = refl

case_37 : read (codes "$a$\\def\\y#1{") ≡ Err (Outside 2 OpenBody 7)
unfolding item_run run pages_from control plain_codes plain_table macro_texts accent_macros delimiter_macros other_macros family_macros function_macros limit_macros plain_body
case_37 = refl

-- cause 36
case_38 : read (codes "\\mathcode128=0") ≡ Err (Outside 1 BadAssignment 0)
unfolding item_run run pages_from control plain_codes plain_table macro_texts accent_macros delimiter_macros other_macros family_macros function_macros limit_macros plain_body
case_38 = refl

case_39 : read (codes "\\mathcode`a=-1 ") ≡ Err (Outside 1 BadAssignment 0)
unfolding item_run run pages_from control plain_codes plain_table macro_texts accent_macros delimiter_macros other_macros family_macros function_macros limit_macros plain_body
case_39 = refl

case_40 : read (codes "\\mathcode`a=32769 ") ≡ Err (Outside 1 BadAssignment 0)
unfolding item_run run pages_from control plain_codes plain_table macro_texts accent_macros delimiter_macros other_macros family_macros function_macros limit_macros plain_body
case_40 = refl

case_41 : read (codes "$a$\\mathcode") ≡ Err (Outside 2 BadAssignment 3)
unfolding item_run run pages_from control plain_codes plain_table macro_texts accent_macros delimiter_macros other_macros family_macros function_macros limit_macros plain_body
case_41 = refl

case_42 : read (codes "\\mathcode`a=") ≡ Err (Outside 1 BadAssignment 0)
unfolding item_run run pages_from control plain_codes plain_table macro_texts accent_macros delimiter_macros other_macros family_macros function_macros limit_macros plain_body
case_42 = refl

case_43 : read (codes "\\mathcode`a==1") ≡ Err (Outside 1 BadAssignment 0)
unfolding item_run run pages_from control plain_codes plain_table macro_texts accent_macros delimiter_macros other_macros family_macros function_macros limit_macros plain_body
case_43 = refl

case_44 : read (codes "\\delcode`a=16777216 ") ≡ Err (Outside 1 BadAssignment 0)
unfolding item_run run pages_from control plain_codes plain_table macro_texts accent_macros delimiter_macros other_macros family_macros function_macros limit_macros plain_body
case_44 = refl

case_45 : read (codes "\\delcode-1=0 ") ≡ Err (Outside 1 BadAssignment 0)
unfolding item_run run pages_from control plain_codes plain_table macro_texts accent_macros delimiter_macros other_macros family_macros function_macros limit_macros plain_body
case_45 = refl

case_46 : read (codes "\\delcode`a==\"0") ≡ Err (Outside 1 BadAssignment 0)
unfolding item_run run pages_from control plain_codes plain_table macro_texts accent_macros delimiter_macros other_macros family_macros function_macros limit_macros plain_body
case_46 = refl

case_47 : read (codes "\\mathcode\\alpha=0") ≡ Err (Outside 1 BadAssignment 0)
unfolding item_run run pages_from control plain_codes plain_table macro_texts accent_macros delimiter_macros other_macros family_macros function_macros limit_macros plain_body
case_47 = refl

-- of formulas
case_48 : read (codes "$\\x$") ≡ Err (NotRead 1 UnknownName 0)
unfolding item_run run pages_from control plain_codes plain_table macro_texts accent_macros delimiter_macros other_macros family_macros function_macros limit_macros plain_body
case_48 = refl

case_49 : read (codes "\\def\\x#1{a}$\\x$") ≡ Err (NotExpanded 1 (NoArgument 0))
unfolding item_run run pages_from control plain_codes plain_table macro_texts accent_macros delimiter_macros other_macros family_macros function_macros limit_macros plain_body
case_49 = refl

case_50 : read (codes "\\def\\x#1{a}$a{b\\x}$") ≡ Err (NotExpanded 1 (NoArgument 3))
unfolding item_run run pages_from control plain_codes plain_table macro_texts accent_macros delimiter_macros other_macros family_macros function_macros limit_macros plain_body
case_50 = refl

case_51 : read (codes "\\mathcode`a=32768 $a$") ≡ Err (NotRead 1 UnknownName 0)
unfolding item_run run pages_from control plain_codes plain_table macro_texts accent_macros delimiter_macros other_macros family_macros function_macros limit_macros plain_body
case_51 = refl

case_52 : read (codes "\\delcode`(=-1 $\\left($") ≡ Err (NotRead 1 BadDelimiter 1)
unfolding item_run run pages_from control plain_codes plain_table macro_texts accent_macros delimiter_macros other_macros family_macros function_macros limit_macros plain_body
case_52 = refl

case_53 : read (codes "$a^b^c$") ≡ Err (NotRead 1 DoubleScript 3)
unfolding item_run run pages_from control plain_codes plain_table macro_texts accent_macros delimiter_macros other_macros family_macros function_macros limit_macros plain_body
case_53 = refl

case_54 : read (codes "$a$ $\\left a$") ≡ Err (NotRead 2 BadDelimiter 1)
unfolding item_run run pages_from control plain_codes plain_table macro_texts accent_macros delimiter_macros other_macros family_macros function_macros limit_macros plain_body
case_54 = refl

case_55 : read (codes "$\\hat a^b^c$") ≡ Err (NotRead 1 DoubleScript 10)
unfolding item_run run pages_from control plain_codes plain_table macro_texts accent_macros delimiter_macros other_macros family_macros function_macros limit_macros plain_body
case_55 = refl

case_56 : read (codes "$$a$b$$") ≡ Err (NotRead 1 Unbalanced 1)
unfolding item_run run pages_from control plain_codes plain_table macro_texts accent_macros delimiter_macros other_macros family_macros function_macros limit_macros plain_body
case_56 = refl

case_57 : read (codes "$a\\over b\\over c$") ≡ Err (NotRead 1 TwoFractions 3)
unfolding item_run run pages_from control plain_codes plain_table macro_texts accent_macros delimiter_macros other_macros family_macros function_macros limit_macros plain_body
case_57 = refl

case_58 : read (codes "$a$\\eject $a\\eqno b$") ≡ Err (NotRead 2 MisplacedNumber 1)
unfolding item_run run pages_from control plain_codes plain_table macro_texts accent_macros delimiter_macros other_macros family_macros function_macros limit_macros plain_body
case_58 = refl

case_59 : read (times 1 (codes "$") (times 151 (codes "{") (times 1 (codes "a") (times 151 (codes "}") (times 1 (codes "$") []))))) ≡ Err (NotRead 1 TooDeep 150)
unfolding item_run run pages_from control plain_codes plain_table macro_texts accent_macros delimiter_macros other_macros family_macros function_macros limit_macros plain_body
case_59 = refl

case_60 : read (codes "\\mathcode`a=32768 $b$ $\\def a$") ≡ Err (NotRead 2 UnknownName 0)
unfolding item_run run pages_from control plain_codes plain_table macro_texts accent_macros delimiter_macros other_macros family_macros function_macros limit_macros plain_body
case_60 = refl

case_61 : read (codes "$a$ $\\sqrt$ \\foo") ≡ Err (NotRead 2 MissingField 9)
unfolding item_run run pages_from control plain_codes plain_table macro_texts accent_macros delimiter_macros other_macros family_macros function_macros limit_macros plain_body
case_61 = refl

-- a Space that expansion puts where none is passed over
case_62 : read (codes "\\def\\x#1{\\mathchoice#1{a}{b}{c}{d}}$\\x{ }$") ≡ Err (NotRead 1 MissingField 1)
unfolding item_run run pages_from control plain_codes plain_table macro_texts accent_macros delimiter_macros other_macros family_macros function_macros limit_macros plain_body
case_62 = refl

case_63 : read (codes "\\def\\x#1{\\vcenter#1{}}$\\x{ }$") ≡ Err (NotRead 1 MissingField 1)
unfolding item_run run pages_from control plain_codes plain_table macro_texts accent_macros delimiter_macros other_macros family_macros function_macros limit_macros plain_body
case_63 = refl

case_64 : read (codes "\\def\\x#1{\\vcenter{\\hbox#1{$a$}}}$\\x{ }$") ≡ Err (NotRead 1 MissingField 3)
unfolding item_run run pages_from control plain_codes plain_table macro_texts accent_macros delimiter_macros other_macros family_macros function_macros limit_macros plain_body
case_64 = refl

-- 20,000 steps
case_65 : read (codes "\\def\\x{\\x}$\\x$") ≡ Err (NotExpanded 1 (OverBudget 20000 1))
unfolding item_run run pages_from control plain_codes plain_table macro_texts accent_macros delimiter_macros other_macros family_macros function_macros limit_macros plain_body
case_65 = refl

-- page 5,001, also where the formula has no end
case_66 : after_pages 5000 [] (codes "\\par $a") ≡ Err (TooManyPages 5001)
unfolding item_run run pages_from control plain_codes plain_table macro_texts accent_macros delimiter_macros other_macros family_macros function_macros limit_macros plain_body
case_66 = refl

case_67 : after_pages 4999 (entry 7 (ord (sym 1 97) ∷ []) ∷ []) (codes "\\eject $b$") ≡ Err (TooManyPages 5001)
unfolding item_run run pages_from control plain_codes plain_table macro_texts accent_macros delimiter_macros other_macros family_macros function_macros limit_macros plain_body
case_67 = refl

-- page 5,000 may have more formulas
case_68 : after_pages 4999 (entry 7 (ord (sym 1 97) ∷ []) ∷ []) (codes "$a") ≡ Err (Outside 8 OpenFormula 0)
unfolding item_run run pages_from control plain_codes plain_table macro_texts accent_macros delimiter_macros other_macros family_macros function_macros limit_macros plain_body
case_68 = refl

-- the expanded tokens of all formulas
case_69 : after_tokens (codes "$abc$") ≡ Err (TooManyTokens 8 1000001)
unfolding item_run run pages_from control plain_codes plain_table macro_texts accent_macros delimiter_macros other_macros family_macros function_macros limit_macros plain_body
case_69 = refl

-- before the formula is read
case_70 : after_tokens (codes "$ab$$^$") ≡ Err (TooManyTokens 9 1000001)
unfolding item_run run pages_from control plain_codes plain_table macro_texts accent_macros delimiter_macros other_macros family_macros function_macros limit_macros plain_body
case_70 = refl

-- one million may be
case_71 : after_tokens (codes "$a$$b$\\foo") ≡ Err (Outside 10 Misplaced 6)
unfolding item_run run pages_from control plain_codes plain_table macro_texts accent_macros delimiter_macros other_macros family_macros function_macros limit_macros plain_body
case_71 = refl

-- cause 35: name 1,001
case_72 : after_definitions 1000 (codes "\\def\\xy{}") ≡ Err (Outside 8 TooManyNames 0)
unfolding item_run run pages_from control plain_codes plain_table macro_texts accent_macros delimiter_macros other_macros family_macros function_macros limit_macros plain_body
case_72 = refl

case_73 : after_definitions 1000 (codes "$a$\\def\\xy{}") ≡ Err (Outside 9 TooManyNames 3)
unfolding item_run run pages_from control plain_codes plain_table macro_texts accent_macros delimiter_macros other_macros family_macros function_macros limit_macros plain_body
case_73 = refl

-- a name that is there may be defined anew; a bad body comes first
case_74 : after_definitions 1000 (codes " \\def\\x{}\\def\\xy{#1}") ≡ Err (Outside 8 BadDefinition 7)
unfolding item_run run pages_from control plain_codes plain_table macro_texts accent_macros delimiter_macros other_macros family_macros function_macros limit_macros plain_body
case_74 = refl

case_75 : after_definitions 999 (codes "\\def\\xy{}\\def\\xz{}") ≡ Err (Outside 8 TooManyNames 4)
unfolding item_run run pages_from control plain_codes plain_table macro_texts accent_macros delimiter_macros other_macros family_macros function_macros limit_macros plain_body
case_75 = refl
