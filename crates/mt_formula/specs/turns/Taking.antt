-- What an action takes of the tokens (`action_here_takes`).
use Rattle.std.proofs.Common.{◌≡◌, ℕ, ◌+◌, ◌*◌, ◌/◌, true, false, List, [], ◌∷◌, length, Option, refl, arith}
use Rattle.std.specs.Prelude.{⊤}
use Rattle.mt_token.specs.declared.token.Token.{Token}
use Rattle.mt_scaled.specs.declared.unit.Units.{Units}
use Rattle.mt_rules.specs.declared.class.Class.{Class as AtomClass}
use Rattle.mt_plain.specs.CodeTables.{CodeTables, delcode_of}
use Rattle.mt_scan.specs.Limits.{max_math_char, max_delimiter}
use Rattle.mt_scan.specs.declared.fault.ReadCause.TheVariants.{DoubleScript, MisplacedLimits}
use Rattle.mt_scan.specs.declared.role.Side.{Side}
use Rattle.mt_scan.specs.declared.role.Side.TheVariants.{Up}
use Rattle.mt_scan.specs.declared.role.FieldKind.{FieldKind}
use Rattle.mt_scan.specs.declared.role.FieldKind.TheVariants.{Radical, Accent}
use Rattle.mt_scan.specs.declared.role.Amount.{Amount}
use Rattle.mt_scan.specs.declared.role.Amount.TheVariants.{MuSkip, MuKern, Skip, Kern}
use Rattle.mt_scan.specs.declared.role.Role.{Role}
use Rattle.mt_scan.specs.declared.role.Role.TheVariants.{Blank, MathCode, CharWord, DelimiterWord, Prime as PrimeRole, Script as ScriptRole, OpenBrace, Nucleus, RadicalWord, AccentWord, RootWord, BigWord, VcenterWord, HboxWord, TableWord, PmatrixWord, LeftWord, LimitsWord, ChoiceWord, AmountWord, ItemWord, FamilyWord, Unknown}
use Rattle.mt_formula.specs.declared.actions.action.FieldStart.{FieldStart}
use Rattle.mt_formula.specs.declared.actions.action.FieldStart.TheVariants.{Symbol as SymbolStart, Group as GroupStart}
use Rattle.mt_formula.specs.declared.actions.action.Action.{Action}
use Rattle.mt_formula.specs.declared.actions.action.Action.TheVariants.{Prime as PrimeAction, Limits as LimitsAction, Stop}
use Rattle.mt_scan.specs.Role.{role_of, is_open_brace, is_left, is_pmatrix, is_root}
use Rattle.mt_scan.specs.Parts.{Got, Fault, after_blanks, opening}
use Rattle.mt_scan.specs.Numbers.{math_code, delimiter_number, whole_number}
use Rattle.mt_scan.specs.Dimensions.{dimension, glue}
use Rattle.mt_scan.specs.Symbols.{code_symbol, delim_of}
use Rattle.mt_scan.specs.Delimiters.{character_delimiter, scan_delimiter}
use Rattle.mt_formula.specs.Atoms.{AtomValue, is_free, is_op}
use Rattle.mt_formula.specs.Fields.{field_start_at, field_start_here, field_start}
use Rattle.mt_formula.specs.Items.{filled, script_filled, nucleus_action, script_action, amount_action, left_action, pmatrix_action, big_action, action, action_here}
use Rattle.mt_scan.specs.turns.Short.{Within, within_next, within_if, within_more, none, blanks_short, whole_number_short, number_to_short, by_code_short, delimiter_short, opening_takes, dimension_short, glue_short}

-- what a token counts for that an action takes: four items
abbrev pub action_four : Action → ℕ
action_four Stop = 0
action_four _ = 4

filled_four : (kind : FieldKind) (start : FieldStart) → action_four (filled kind start) ≡ 4
filled_four kind (SymbolStart symbol) = refl
filled_four kind GroupStart = refl

script_filled_four : (side : Side) (start : FieldStart) → action_four (script_filled side start) ≡ 4
script_filled_four side (SymbolStart symbol) = refl
script_filled_four side GroupStart = refl

module _ (tables : CodeTables) where
  module _ (level : ℕ) (family : Option ℕ) where
    -- how a field begins
    field_start_at_short : (t : Token) (rest : List Token) (role : Role) → Within none (4 * length rest + 4) (field_start_at tables level family t rest role)
    field_start_at_short t rest (MathCode code) = omega arith
    field_start_at_short t rest CharWord = within_next none none (4 * length rest) (4 * length rest + 4) (math_code rest) (λ (code : ℕ) (after : List Token). Got (SymbolStart (code_symbol family code)) after) (number_to_short max_math_char rest) (λ code after w. omega (arith, w))
    field_start_at_short t rest DelimiterWord = within_next none none (4 * length rest) (4 * length rest + 4) (delimiter_number rest) (λ (code : ℕ) (after : List Token). Got (SymbolStart (code_symbol family (code / 4096))) after) (number_to_short max_delimiter rest) (λ code after w. omega (arith, w))
    field_start_at_short t rest OpenBrace = within_next (λ (here : ⊤). 4) none (4 * length (t ∷ rest)) (4 * length rest + 4) (opening tables is_open_brace level (t ∷ rest)) (λ (here : ⊤) (inside : List Token). Got GroupStart inside) (opening_takes tables is_open_brace level (t ∷ rest)) (λ here inside w. omega (arith, w))
    field_start_at_short t rest _ = tt

    field_start_here_short : (ts : List Token) → Within none (4 * length ts) (field_start_here tables level family ts)
    field_start_here_short [] = tt
    field_start_here_short (t ∷ rest) = within_more none (4 * length rest + 4) (4 * length (t ∷ rest)) (field_start_at tables level family t rest (role_of tables t)) (omega arith) (field_start_at_short t rest (role_of tables t))

    pub field_start_short : (ts : List Token) → Within none (4 * length ts) (field_start tables level family ts)
    field_start_short ts = within_more none (4 * length (after_blanks tables ts)) (4 * length ts) (field_start tables level family ts) (omega (arith, blanks_short tables ts)) (field_start_here_short (after_blanks tables ts))

    -- fields
    nucleus_takes : (kind : FieldKind) (ts : List Token) → Within action_four (4 * length ts + 4) (nucleus_action tables level family kind ts)
    nucleus_takes kind ts = within_next none action_four (4 * length ts) (4 * length ts + 4) (field_start tables level family ts) (λ (start : FieldStart) (after : List Token). Got (filled kind start) after) (field_start_short ts) (λ start after w. omega (arith, w, filled_four kind start))

    script_takes : (side : Side) (ts : List Token) → Within action_four (4 * length ts + 4) (script_action tables level family side ts)
    script_takes side ts = within_next none action_four (4 * length ts) (4 * length ts + 4) (field_start tables level family ts) (λ (start : FieldStart) (after : List Token). Got (script_filled side start) after) (field_start_short ts) (λ start after w. omega (arith, w, script_filled_four side start))

    left_takes : (ts : List Token) → Within action_four (4 * length ts + 4) (left_action tables ts)
    left_takes ts = within_next none action_four (4 * length ts) (4 * length ts + 4) (scan_delimiter tables ts) _ (delimiter_short tables ts) (λ left inside w. omega (arith, w))

    pmatrix_takes : (ts : List Token) → Within action_four (4 * length ts + 4) (pmatrix_action tables ts)
    pmatrix_takes ts =
        within_next none action_four (4 * length ts) (4 * length ts + 4) (character_delimiter tables 40 ts) _ (by_code_short (delcode_of tables 40) ts (4 * length ts) (omega arith))
        (λ left same w. within_next none action_four (4 * length same) (4 * length ts + 4) (character_delimiter tables 41 same) _ (by_code_short (delcode_of tables 41) same (4 * length same) (omega arith)) (λ right after v. omega (arith, w, v)))

    big_takes : (class : AtomClass) (size : ℕ) (ts : List Token) → Within action_four (4 * length ts + 4) (big_action tables class size ts)
    big_takes class size ts = within_next none action_four (4 * length ts) (4 * length ts + 4) (scan_delimiter tables ts) _ (delimiter_short tables ts) (λ delim after w. omega (arith, w))

    module _ (units : Units) where
      amount_takes : (amount : Amount) (ts : List Token) → Within action_four (4 * length ts + 4) (amount_action units amount ts)
      amount_takes MuSkip ts = within_next none action_four (4 * length ts) (4 * length ts + 4) (glue units true ts) _ (glue_short units true ts) (λ g rest w. omega (arith, w))
      amount_takes Skip ts = within_next none action_four (4 * length ts) (4 * length ts + 4) (glue units false ts) _ (glue_short units false ts) (λ g rest w. omega (arith, w))
      amount_takes MuKern ts = within_next none action_four (4 * length ts) (4 * length ts + 4) (dimension units true ts) _ (dimension_short units true true ts) (λ k rest w. omega (arith, w))
      amount_takes Kern ts = within_next none action_four (4 * length ts) (4 * length ts + 4) (dimension units false ts) _ (dimension_short units false true ts) (λ k rest w. omega (arith, w))

      module _ (last : Option AtomValue) where
        -- an action takes a token, if there is an item
        action_takes : (t : Token) (rest : List Token) (role : Role) → Within action_four (4 * length rest + 4) (action tables units level family last t rest role)
        action_takes t rest Blank = omega arith
        action_takes t rest (MathCode code) = omega arith
        action_takes t rest CharWord = within_next none action_four (4 * length rest) (4 * length rest + 4) (math_code rest) _ (number_to_short max_math_char rest) (λ code after w. omega (arith, w))
        action_takes t rest DelimiterWord = within_next none action_four (4 * length rest) (4 * length rest + 4) (delimiter_number rest) _ (number_to_short max_delimiter rest) (λ code after w. omega (arith, w))
        action_takes t rest OpenBrace = within_next (λ (here : ⊤). 4) action_four (4 * length (t ∷ rest)) (4 * length rest + 4) (opening tables is_open_brace level (t ∷ rest)) _ (opening_takes tables is_open_brace level (t ∷ rest)) (λ here inside w. omega (arith, w))
        action_takes t rest (Nucleus kind) = nucleus_takes kind rest
        action_takes t rest RadicalWord = within_next none action_four (4 * length rest) (4 * length rest + 4) (delimiter_number rest) _ (number_to_short max_delimiter rest) (λ code after w. within_more action_four (4 * length after + 4) (4 * length rest + 4) (nucleus_action tables level family (Radical (delim_of code)) after) (omega (arith, w)) (nucleus_takes (Radical (delim_of code)) after))
        action_takes t rest AccentWord = within_next none action_four (4 * length rest) (4 * length rest + 4) (math_code rest) _ (number_to_short max_math_char rest) (λ code after w. within_more action_four (4 * length after + 4) (4 * length rest + 4) (nucleus_action tables level family (Accent (code_symbol family code)) after) (omega (arith, w)) (nucleus_takes (Accent (code_symbol family code)) after))
        action_takes t rest RootWord = within_next (λ (here : ⊤). 4) action_four (4 * length (t ∷ rest)) (4 * length rest + 4) (opening tables is_root level (t ∷ rest)) _ (opening_takes tables is_root level (t ∷ rest)) (λ here inside w. omega (arith, w))
        action_takes t rest (BigWord class size) = big_takes class size rest
        action_takes t rest VcenterWord = within_next (λ (here : ⊤). 4) action_four (4 * length rest) (4 * length rest + 4) (opening tables is_open_brace level rest) _ (opening_takes tables is_open_brace level rest) (λ here inside w. omega (arith, w))
        action_takes t rest LeftWord = within_next (λ (here : ⊤). 4) action_four (4 * length (t ∷ rest)) (4 * length rest + 4) (opening tables is_left level (t ∷ rest)) _ (opening_takes tables is_left level (t ∷ rest)) (λ here after w. within_more action_four (4 * length after + 4) (4 * length rest + 4) (left_action tables after) (omega (arith, w)) (left_takes after))
        action_takes t rest (TableWord preamble) = omega arith
        action_takes t rest PmatrixWord = within_next (λ (here : ⊤). 4) action_four (4 * length (t ∷ rest)) (4 * length rest + 4) (opening tables is_pmatrix level (t ∷ rest)) _ (opening_takes tables is_pmatrix level (t ∷ rest)) (λ here after w. within_more action_four (4 * length after + 4) (4 * length rest + 4) (pmatrix_action tables after) (omega (arith, w)) (pmatrix_takes after))
        action_takes t rest (ScriptRole side) = within_if action_four (4 * length rest + 4) (is_free side last) (script_action tables level family side rest) (Fault DoubleScript (length rest + 1)) (script_takes side rest) tt
        action_takes t rest PrimeRole = within_if action_four (4 * length rest + 4) (is_free Up last) (Got PrimeAction rest) (Fault DoubleScript (length rest + 1)) (omega arith) tt
        action_takes t rest (LimitsWord limits) = within_if action_four (4 * length rest + 4) (is_op last) (Got (LimitsAction limits) rest) (Fault MisplacedLimits (length rest + 1)) (omega arith) tt
        action_takes t rest ChoiceWord = within_next (λ (here : ⊤). 4) action_four (4 * length rest) (4 * length rest + 4) (opening tables is_open_brace level rest) _ (opening_takes tables is_open_brace level rest) (λ here inside w. omega (arith, w))
        action_takes t rest (AmountWord amount) = amount_takes amount rest
        action_takes t rest (ItemWord item) = omega arith
        action_takes t rest FamilyWord = within_next none action_four (4 * length rest) (4 * length rest + 4) (whole_number rest) _ (whole_number_short rest) (λ n after w. omega (arith, w))
        action_takes t rest HboxWord = tt
        action_takes t rest Unknown = tt
        action_takes t rest _ = omega arith

        pub action_here_takes : (ts : List Token) → Within action_four (4 * length ts) (action_here tables units level family last ts)
        action_here_takes [] = omega arith
        action_here_takes (t ∷ rest) = within_more action_four (4 * length rest + 4) (4 * length (t ∷ rest)) (action tables units level family last t rest (role_of tables t)) (omega arith) (action_takes t rest (role_of tables t))
