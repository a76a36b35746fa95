-- The heads of fractions, the beginnings of fields and actions count no turns: they are read or at fault.
use Rattle.std.proofs.Common.{ℕ, ◌+◌, Bool, true, false, List, [], ◌∷◌, length, Option}
use Rattle.mt_token.specs.declared.token.Token.{Token}
use Rattle.mt_scaled.specs.declared.unit.Units.{Units}
use Rattle.mt_rules.specs.declared.class.Class.{Class as AtomClass}
use Rattle.mt_rules.specs.declared.symbol.Delim.{Delim}
use Rattle.mt_plain.specs.CodeTables.{CodeTables, delcode_of}
use Rattle.mt_scan.specs.Limits.{max_math_char, max_delimiter}
use Rattle.mt_scan.specs.declared.fault.ReadCause.TheVariants.{DoubleScript, MisplacedLimits}
use Rattle.mt_scan.specs.declared.role.Amount.{Amount}
use Rattle.mt_scan.specs.declared.role.Amount.TheVariants.{MuSkip, MuKern, Skip, Kern}
use Rattle.mt_scan.specs.declared.role.Bar.{Bar}
use Rattle.mt_scan.specs.declared.role.Bar.TheVariants.{Own as OwnBar, None as NoBar, Given as GivenBar}
use Rattle.mt_scan.specs.declared.role.FieldKind.{FieldKind}
use Rattle.mt_scan.specs.declared.role.FieldKind.TheVariants.{Radical, Accent}
use Rattle.mt_scan.specs.declared.role.Role.{Role}
use Rattle.mt_scan.specs.declared.role.Role.TheVariants.{Blank, MathCode, CharWord, DelimiterWord, Prime as PrimeRole, Script as ScriptRole, OpenBrace, Nucleus, RadicalWord, AccentWord, RootWord, BigWord, VcenterWord, HboxWord, TableWord, PmatrixWord, LeftWord, LimitsWord, ChoiceWord, AmountWord, ItemWord, FamilyWord, Unknown}
use Rattle.mt_scan.specs.declared.role.Side.{Side}
use Rattle.mt_scan.specs.declared.role.Side.TheVariants.{Up}
use Rattle.mt_scan.specs.Role.{role_of, is_open_brace, is_left, is_pmatrix, is_root}
use Rattle.mt_scan.specs.Parts.{Got, Fault, after_blanks, opening, IsAnswered}
use Rattle.mt_scan.specs.Numbers.{whole_number, math_code, delimiter_number}
use Rattle.mt_scan.specs.Dimensions.{dimension, amount, glue}
use Rattle.mt_scan.specs.Delimiters.{character_delimiter, scan_delimiter}
use Rattle.mt_scan.specs.Symbols.{null_delim, delim_of, code_symbol}
use Rattle.mt_formula.specs.declared.actions.action.Action.TheVariants.{Prime as PrimeAction, Limits as LimitsAction}
use Rattle.mt_formula.specs.Atoms.{AtomValue, is_free, is_op}
use Rattle.mt_formula.specs.Fields.{field_start_at, field_start_here, field_start}
use Rattle.mt_formula.specs.Items.{nucleus_action, script_action, amount_action, left_action, pmatrix_action, big_action, action, action_here}
use Rattle.mt_formula.specs.Lists.{bar_thickness, with_bar, fraction_head}
use Rattle.mt_scan.specs.turns.Answering.{answered_next, answered_if, whole_number_answered, number_to_answered, dimension_answered, glue_answered, by_code_answered, delimiter_answered, opening_answered}

module _ (tables : CodeTables) where
  -- fractions
  module _ (units : Units) where
    bar_answered : (bar : Bar) (ts : List Token) → IsAnswered (bar_thickness units bar ts)
    bar_answered OwnBar ts = tt
    bar_answered NoBar ts = tt
    bar_answered GivenBar ts = answered_next (dimension units false ts) _ (dimension_answered units false true ts) (λ amount rest. tt)

    with_bar_answered : (bar : Bar) (left right : Delim) (ts : List Token) → IsAnswered (with_bar units bar left right ts)
    with_bar_answered bar left right ts = answered_next (bar_thickness units bar ts) _ (bar_answered bar ts) (λ thickness rest. tt)

    pub fraction_head_answered : (delims : Bool) (bar : Bar) (ts : List Token) → IsAnswered (fraction_head tables units delims bar ts)
    fraction_head_answered false bar ts = with_bar_answered bar null_delim null_delim ts
    fraction_head_answered true bar ts =
        answered_next (scan_delimiter tables ts) _ (delimiter_answered tables ts)
        (λ left after. answered_next (scan_delimiter tables after) _ (delimiter_answered tables after) (λ right rest. with_bar_answered bar left right rest))

  module _ (level : ℕ) (family : Option ℕ) where
    -- how a field begins
    field_start_at_answered : (t : Token) (rest : List Token) (role : Role) → IsAnswered (field_start_at tables level family t rest role)
    field_start_at_answered t rest (MathCode code) = tt
    field_start_at_answered t rest CharWord = answered_next (math_code rest) _ (number_to_answered max_math_char rest) (λ code after. tt)
    field_start_at_answered t rest DelimiterWord = answered_next (delimiter_number rest) _ (number_to_answered max_delimiter rest) (λ code after. tt)
    field_start_at_answered t rest OpenBrace = answered_next (opening tables is_open_brace level (t ∷ rest)) _ (opening_answered tables is_open_brace level (t ∷ rest)) (λ here inside. tt)
    field_start_at_answered t rest _ = tt

    field_start_here_answered : (ts : List Token) → IsAnswered (field_start_here tables level family ts)
    field_start_here_answered [] = tt
    field_start_here_answered (t ∷ rest) = field_start_at_answered t rest (role_of tables t)

    pub field_start_answered : (ts : List Token) → IsAnswered (field_start tables level family ts)
    field_start_answered ts = field_start_here_answered (after_blanks tables ts)

    -- what a token does
    nucleus_answered : (kind : FieldKind) (ts : List Token) → IsAnswered (nucleus_action tables level family kind ts)
    nucleus_answered kind ts = answered_next (field_start tables level family ts) _ (field_start_answered ts) (λ start after. tt)

    script_answered : (side : Side) (ts : List Token) → IsAnswered (script_action tables level family side ts)
    script_answered side ts = answered_next (field_start tables level family ts) _ (field_start_answered ts) (λ start after. tt)

    left_answered : (ts : List Token) → IsAnswered (left_action tables ts)
    left_answered ts = answered_next (scan_delimiter tables ts) _ (delimiter_answered tables ts) (λ left inside. tt)

    pmatrix_answered : (ts : List Token) → IsAnswered (pmatrix_action tables ts)
    pmatrix_answered ts =
        answered_next (character_delimiter tables 40 ts) _ (by_code_answered (delcode_of tables 40) ts)
        (λ left same. answered_next (character_delimiter tables 41 same) _ (by_code_answered (delcode_of tables 41) same) (λ right after. tt))

    big_answered : (class : AtomClass) (size : ℕ) (ts : List Token) → IsAnswered (big_action tables class size ts)
    big_answered class size ts = answered_next (scan_delimiter tables ts) _ (delimiter_answered tables ts) (λ delim after. tt)

    module _ (units : Units) where
      amount_action_answered : (amount : Amount) (ts : List Token) → IsAnswered (amount_action units amount ts)
      amount_action_answered MuSkip ts = answered_next (glue units true ts) _ (glue_answered units true ts) (λ g rest. tt)
      amount_action_answered Skip ts = answered_next (glue units false ts) _ (glue_answered units false ts) (λ g rest. tt)
      amount_action_answered MuKern ts = answered_next (dimension units true ts) _ (dimension_answered units true true ts) (λ k rest. tt)
      amount_action_answered Kern ts = answered_next (dimension units false ts) _ (dimension_answered units false true ts) (λ k rest. tt)

      module _ (last : Option AtomValue) where
        action_answered : (t : Token) (rest : List Token) (role : Role) → IsAnswered (action tables units level family last t rest role)
        action_answered t rest Blank = tt
        action_answered t rest (MathCode code) = tt
        action_answered t rest CharWord = answered_next (math_code rest) _ (number_to_answered max_math_char rest) (λ code after. tt)
        action_answered t rest DelimiterWord = answered_next (delimiter_number rest) _ (number_to_answered max_delimiter rest) (λ code after. tt)
        action_answered t rest OpenBrace = answered_next (opening tables is_open_brace level (t ∷ rest)) _ (opening_answered tables is_open_brace level (t ∷ rest)) (λ here inside. tt)
        action_answered t rest (Nucleus kind) = nucleus_answered kind rest
        action_answered t rest RadicalWord = answered_next (delimiter_number rest) _ (number_to_answered max_delimiter rest) (λ code after. nucleus_answered (Radical (delim_of code)) after)
        action_answered t rest AccentWord = answered_next (math_code rest) _ (number_to_answered max_math_char rest) (λ code after. nucleus_answered (Accent (code_symbol family code)) after)
        action_answered t rest RootWord = answered_next (opening tables is_root level (t ∷ rest)) _ (opening_answered tables is_root level (t ∷ rest)) (λ here inside. tt)
        action_answered t rest (BigWord class size) = big_answered class size rest
        action_answered t rest VcenterWord = answered_next (opening tables is_open_brace level rest) _ (opening_answered tables is_open_brace level rest) (λ here inside. tt)
        action_answered t rest LeftWord = answered_next (opening tables is_left level (t ∷ rest)) _ (opening_answered tables is_left level (t ∷ rest)) (λ here after. left_answered after)
        action_answered t rest (TableWord preamble) = tt
        action_answered t rest PmatrixWord = answered_next (opening tables is_pmatrix level (t ∷ rest)) _ (opening_answered tables is_pmatrix level (t ∷ rest)) (λ here after. pmatrix_answered after)
        action_answered t rest (ScriptRole side) = answered_if (is_free side last) (script_action tables level family side rest) (Fault DoubleScript (length rest + 1)) (script_answered side rest) tt
        action_answered t rest PrimeRole = answered_if (is_free Up last) (Got PrimeAction rest) (Fault DoubleScript (length rest + 1)) tt tt
        action_answered t rest (LimitsWord limits) = answered_if (is_op last) (Got (LimitsAction limits) rest) (Fault MisplacedLimits (length rest + 1)) tt tt
        action_answered t rest ChoiceWord = answered_next (opening tables is_open_brace level rest) _ (opening_answered tables is_open_brace level rest) (λ here inside. tt)
        action_answered t rest (AmountWord amount) = amount_action_answered amount rest
        action_answered t rest (ItemWord item) = tt
        action_answered t rest FamilyWord = answered_next (whole_number rest) _ (whole_number_answered rest) (λ n after. tt)
        action_answered t rest HboxWord = tt
        action_answered t rest Unknown = tt
        action_answered t rest _ = tt

        pub action_here_answered : (ts : List Token) → IsAnswered (action_here tables units level family last ts)
        action_here_answered [] = tt
        action_here_answered (t ∷ rest) = action_answered t rest (role_of tables t)
