-- Definitions outside of formulas (The TeXbook, chapter 20).
use Rattle.std.specs.Prelude.{ℕ, ◌+◌, ◌-◌, ◌==◌, nat_lt, Bool, true, false, ◌&&◌, List, [], ◌∷◌, length, Option, Some, None, if◌then◌else◌}
use Rattle.mt_token.specs.declared.token.Token.{Token}
use Rattle.mt_token.specs.declared.token.TokenKind.{TokenKind}
use Rattle.mt_token.specs.declared.token.TokenKind.TheVariants.{Control}
use Rattle.mt_token.specs.Character.{character_code}
use Rattle.mt_macro.specs.Braces.{Taken, group, is_open}
use Rattle.mt_macro.specs.Parameters.{is_hash, first_bad_parameter}
use Rattle.mt_reader.specs.declared.outside_cause.OutsideCause.{OutsideCause}
use Rattle.mt_reader.specs.declared.outside_cause.OutsideCause.TheVariants.{BadDefinition, OpenBody}
use Rattle.mt_scan.specs.Parts.{ReadOr, Got, Fault, then_read}

pub record MacroDefinition : Type 0 where
  pub name : List ℕ
  pub params : ℕ
  pub body : List Token

-- a { must follow so many parameters; it is left
abbrev pub after_parameters : ℕ → List Token → ReadOr OutsideCause ℕ
after_parameters count [] = Fault BadDefinition 0
after_parameters count (t ∷ rest) =
    if is_open t then Got count (t ∷ rest) else Fault BadDefinition (length rest + 1)

-- # where fewer than nine parameters are before it
abbrev pub is_parameter : ℕ → Token → Bool
is_parameter count t = is_hash t && nat_lt count 9

-- #1#2 and so on in order, up to #9
abbrev pub parameters : ℕ → List Token → ReadOr OutsideCause ℕ
parameters count [] = Fault BadDefinition 0
parameters count (t ∷ []) = if is_parameter count t then Fault BadDefinition 0 else after_parameters count (t ∷ [])
parameters count (t ∷ u ∷ rest) =
    elim (is_parameter count t) [
      | true ↦ elim (character_code u.kind == 49 + count) [
        | true ↦ parameters (count + 1) rest
        | false ↦ Fault BadDefinition (length rest + 1)
      ]
      | false ↦ after_parameters count (t ∷ u ∷ rest)
    ]

abbrev pub checked_body : List ℕ → ℕ → ℕ → Taken → Option ℕ → ReadOr OutsideCause MacroDefinition
checked_body name params left taken None =
    Got (record { name = name; params = params; body = taken.argument }) taken.after
checked_body name params left taken (Some place) = Fault BadDefinition (left - place)

-- a body, after its { with so many tokens left
abbrev pub definition_body_in : List ℕ → ℕ → ℕ → Option Taken → ReadOr OutsideCause MacroDefinition
definition_body_in name params left None = Fault OpenBody (left + 1)
definition_body_in name params left (Some taken) =
    checked_body name params left taken (first_bad_parameter params taken.argument)

abbrev pub definition_body : List ℕ → ℕ → List Token → ReadOr OutsideCause MacroDefinition
definition_body name params [] = Fault BadDefinition 0
definition_body name params (t ∷ rest) = definition_body_in name params (length rest) (group 0 rest)

-- the definition of a name
abbrev pub definition_of_name : List ℕ → List Token → ReadOr OutsideCause MacroDefinition
definition_of_name name rest = then_read (parameters 0 rest) (definition_body name)

abbrev pub definition_by_kind : TokenKind → List Token → ReadOr OutsideCause MacroDefinition
definition_by_kind (Control name) rest = definition_of_name name rest
definition_by_kind _ rest = Fault BadDefinition (length rest + 1)

-- what follows \def: a control token, parameters, and a body between braces
abbrev pub macro_definition : List Token → ReadOr OutsideCause MacroDefinition
macro_definition [] = Fault BadDefinition 0
macro_definition (t ∷ rest) = definition_by_kind t.kind rest
