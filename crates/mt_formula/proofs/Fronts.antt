-- A symbol in front: what it does, and that it is a field and a script, by its math code alone.
use Rattle.std.proofs.Common.{◌≡◌, ◌≤◌, ◌+◌, ℕ, Bool, true, false, List, [], ◌∷◌, length, map, drop, Option, Some, ap, ◌∙◌, arith}
use Rattle.mt_token.specs.declared.token.Token.{Token}
use Rattle.mt_scaled.specs.declared.unit.Units.{Units}
use Rattle.mt_plain.specs.CodeTables.{CodeTables}
use Rattle.mt_scan.specs.declared.role.Role.{Role}
use Rattle.mt_scan.specs.declared.role.Side.{Side}
use Rattle.mt_scan.specs.declared.role.Role.TheVariants.{MathCode, Script as ScriptRole}
use Rattle.mt_scan.specs.Role.{means_nothing, role_code, role_of}
use Rattle.mt_scan.specs.Parts.{Read, Got, after_blanks}
use Rattle.mt_scan.specs.Symbols.{code_symbol}
use Rattle.mt_formula.specs.declared.actions.action.FieldStart.{FieldStart}
use Rattle.mt_formula.specs.declared.actions.action.FieldStart.TheVariants.{Symbol as SymbolStart}
use Rattle.mt_formula.specs.declared.actions.action.Action.TheVariants.{Script}
use Rattle.mt_formula.specs.Atoms.{AtomValue, is_free}
use Rattle.mt_formula.specs.Fields.{field_start, field_start_at, field_start_here}
use Rattle.mt_formula.specs.Items.{action, action_here, coded_action, free_action, script_action, script_filled}
use Rattle.mt_formula.specs.Lists.{then_give}
use Rattle.mt_formula.specs.reading.Ends.{front_code, front_role}

role_coded : (role : Role) (code : ℕ) → role_code role ≡ Some code → role ≡ MathCode code
role_coded (MathCode own) code e = ap MathCode (cc)
role_coded _ code e = absurd (cc)

pub code_in_front : {T : Type 0} (tables : CodeTables) (token : T → Token) (code : ℕ) (ts : List T) → front_code tables (map token ts) ≡ Some code → 1 ≤ length ts
code_in_front tables token code [] e = absurd (cc)
code_in_front tables token code (t ∷ rest) e = omega arith

-- what it does
pub code_action : (tables : CodeTables) (units : Units) (level : ℕ) (family : Option ℕ) (last : Option AtomValue) (code : ℕ) (ts : List Token) → front_code tables ts ≡ Some code
    → action_here tables units level family last ts ≡ Got (coded_action family code) (drop 1 ts)
code_action tables units level family last code [] e = absurd (cc)
code_action tables units level family last code (t ∷ rest) e = ap (action tables units level family last t rest) (role_coded (role_of tables t) code e)

-- no blank is before it
stays : (tables : CodeTables) (t : Token) (rest : List Token) (code : ℕ) → role_of tables t ≡ MathCode code → after_blanks tables (t ∷ rest) ≡ t ∷ rest
stays tables t rest code e = ap (λ (role : Role). elim (means_nothing role) [ true ↦ after_blanks tables rest | false ↦ t ∷ rest ]) e

-- it is a field
pub code_field : (tables : CodeTables) (level : ℕ) (family : Option ℕ) (code : ℕ) (ts : List Token) → front_code tables ts ≡ Some code
    → field_start tables level family ts ≡ Got (SymbolStart (code_symbol family code)) (drop 1 ts)
code_field tables level family code [] e = absurd (cc)
code_field tables level family code (t ∷ rest) e =
    let coded = role_coded (role_of tables t) code e in
    ap (field_start_here tables level family) (stays tables t rest code coded) ∙ ap (field_start_at tables level family t rest) coded

-- it is a script
pub script_of_code : (tables : CodeTables) (units : Units) (level : ℕ) (family : Option ℕ) (last : Option AtomValue) (side : Side) (code : ℕ) (ts : List Token) → front_role tables ts ≡ ScriptRole side → is_free side last ≡ true → front_code tables (drop 1 ts) ≡ Some code
    → action_here tables units level family last ts ≡ Got (Script side (code_symbol family code)) (drop 1 (drop 1 ts))
script_of_code tables units level family last side code [] e free c = absurd (cc)
script_of_code tables units level family last side code (t ∷ rest) e free c =
    ap (action tables units level family last t rest) e
    ∙ ap (λ (b : Bool). free_action b (length rest + 1) (script_action tables level family side rest)) free
    ∙ ap (λ (start : Read FieldStart). then_give start (script_filled side)) (code_field tables level family code rest c)
