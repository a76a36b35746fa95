-- What is taken and read from tokens outside of formulas is the same where more tokens are behind them.
use Rattle.std.proofs.Common.{◌≡◌, ℕ, ◌+◌, Bool, true, false, List, [], ◌∷◌, ◌++◌, length, drop, Option, Some, None, cond, refl, sym, ap, subst, ◌∙◌}
use Rattle.std.specs.Prelude.{◌==◌, ◌&&◌, not, nat_lt, Result, Ok, Err, ⊤}
use Rattle.std.proofs.lemmas.List.{append-nil}
use Rattle.mt_token.specs.declared.token.Token.{Token}
use Rattle.mt_token.specs.declared.token.TokenKind.{TokenKind}
use Rattle.mt_token.specs.declared.token.TokenKind.TheVariants.{Control, Char, Space}
use Rattle.mt_token.specs.Character.{character_code}
use Rattle.mt_scaled.specs.declared.unit.Units.{Units}
use Rattle.mt_macro.specs.declared.definition.MacroError.{MacroError}
use Rattle.mt_macro.specs.Braces.{Taken, onto, group, is_open, is_close, level_after}
use Rattle.mt_macro.specs.Table.{Table}
use Rattle.mt_macro.specs.Definition.{define}
use Rattle.mt_macro.specs.Parameters.{first_bad_parameter}
use Rattle.mt_macro.specs.Expansion.{Expansion, Expanded, OverBudget, NoArgument, NoPartner, ListTooLong, expansion}
use Rattle.mt_formula.specs.Formulas.{Reading, Reads, ReadFault, reading}
use Rattle.mt_scan.specs.Parts.{ReadOr, Got, Fault, NoTurn, then_read, IsAnswered}
use Rattle.mt_reader.specs.declared.outside_cause.OutsideCause.{OutsideCause}
use Rattle.mt_reader.specs.declared.outside_cause.OutsideCause.TheVariants.{BadDefinition}
use Rattle.mt_reader.specs.Definitions.{MacroDefinition, after_parameters, is_parameter, parameters, checked_body, definition_body_in, definition_body, definition_by_kind, macro_definition}
use Rattle.mt_reader.specs.Dollars.{is_math_shift_token, begins_with_dollar, ends_formula, after_end, up_to_end, begins_display, between_dollars}
use Rattle.mt_reader.specs.Answered.{definition_answered}

-- ---- what is taken

-- what is taken here is taken there too, with these tokens more behind it
abbrev pub TakesSame : List Token → Option Taken → Option Taken → Type 0
TakesSame more None there = ⊤
TakesSame more (Some t) there = there ≡ Some (record { argument = t.argument; after = t.after ++ more })

onto_same : (more : List Token) (t : Token) (here there : Option Taken) → TakesSame more here there → TakesSame more (onto t here) (onto t there)
onto_same more t None there h = tt
onto_same more t (Some taken) there h = ap (onto t) h

close_same : (more : List Token) (b : Bool) (t : Token) (rest : List Token) (here there : Option Taken) → TakesSame more here there
    → TakesSame more (cond b (Some (record { argument = []; after = rest })) (onto t here)) (cond b (Some (record { argument = []; after = rest ++ more })) (onto t there))
close_same more true t rest here there h = refl
close_same more false t rest here there h = onto_same more t here there h

pub group_same : (level : ℕ) (tokens more : List Token) → TakesSame more (group level tokens) (group level (tokens ++ more))
group_same level [] more = tt
group_same level (t ∷ rest) more =
    close_same more ((level == 0) && is_close t) t rest (group (level_after level t) rest) (group (level_after level t) (rest ++ more)) (group_same (level_after level t) rest more)

end_same : (more : List Token) (closes ends : Bool) (t : Token) (after : List Token) (here there : Option Taken) → TakesSame more here there
    → TakesSame more
    (elim closes [ true ↦ None | false ↦ elim ends [ true ↦ Some (record { argument = []; after = after }) | false ↦ onto t here ] ])
    (elim closes [ true ↦ None | false ↦ elim ends [ true ↦ Some (record { argument = []; after = after ++ more }) | false ↦ onto t there ] ])
end_same more true ends t after here there h = tt
end_same more false true t after here there h = refl
end_same more false false t after here there h = onto_same more t here there h

none_here : (more : List Token) (closes ends : Bool) (t : Token) (after : List Token) (there : Option Taken) → ends ≡ false
    → TakesSame more (elim closes [ true ↦ None | false ↦ elim ends [ true ↦ Some (record { argument = []; after = after }) | false ↦ onto t None ] ]) there
none_here more true ends t after there e = tt
none_here more false true t after there e = absurd (cc)
none_here more false false t after there e = tt

and_false : (a b : Bool) → a && (b && false) ≡ false
and_false true true = refl
and_false true false = refl
and_false false b = refl

text_same : (level : ℕ) (tokens more : List Token) → TakesSame more (up_to_end false level tokens) (up_to_end false level (tokens ++ more))
text_same level [] more = tt
text_same level (t ∷ rest) more =
    end_same more ((level == 0) && is_close t) ((level == 0) && ends_formula false t rest) t rest (up_to_end false (level_after level t) rest)
    (up_to_end false (level_after level t) (rest ++ more)) (text_same (level_after level t) rest more)

display_same : (level : ℕ) (tokens more : List Token) → TakesSame more (up_to_end true level tokens) (up_to_end true level (tokens ++ more))
display_same level [] more = tt
display_same level (t ∷ []) more =
    none_here more ((level == 0) && is_close t) ((level == 0) && ends_formula true t []) t [] _ (and_false (level == 0) (is_math_shift_token t))
display_same level (t ∷ u ∷ rest) more =
    end_same more ((level == 0) && is_close t) ((level == 0) && ends_formula true t (u ∷ rest)) t rest (up_to_end true (level_after level t) (u ∷ rest))
    (up_to_end true (level_after level t) (u ∷ rest ++ more)) (display_same (level_after level t) (u ∷ rest) more)

dollars_same : (b : Bool) (t : Token) (rest more : List Token)
    → TakesSame more (cond b (up_to_end true 0 rest) (up_to_end false 0 (t ∷ rest))) (cond b (up_to_end true 0 (rest ++ more)) (up_to_end false 0 (t ∷ rest ++ more)))
dollars_same true t rest more = display_same 0 rest more
dollars_same false t rest more = text_same 0 (t ∷ rest) more

-- a formula that ends among these tokens
pub between_same : (tokens more : List Token) → TakesSame more (between_dollars tokens) (between_dollars (tokens ++ more))
between_same [] more = tt
between_same (t ∷ rest) more = dollars_same (begins_display (t ∷ rest)) t rest more

-- ---- what is read

-- what is read here is read there too, with these tokens more behind it
abbrev pub ReadsSame : {C A : Type 0} → List Token → ReadOr C A → ReadOr C A → Type 0
ReadsSame more (Got part rest) there = there ≡ Got part (rest ++ more)
ReadsSame more (Fault cause left) there = ⊤
ReadsSame more NoTurn there = ⊤

then_same : {C A B : Type 0} (more : List Token) (here there : ReadOr C A) (then : A → List Token → ReadOr C B) → ReadsSame more here there
    → ((part : A) (rest : List Token) → ReadsSame more (then part rest) (then part (rest ++ more)))
    → ReadsSame more (then_read here then) (then_read there then)
then_same more (Got part rest) there then h k = subst (λ (r : ReadOr _ _). ReadsSame more (then part rest) (then_read r then)) (sym h) (k part rest)
then_same more (Fault cause left) there then h k = tt
then_same more NoTurn there then h k = tt

if_same : {C A : Type 0} (more : List Token) (b : Bool) (here there other : ReadOr C A) (cause : C) (left : ℕ) → ReadsSame more here there
    → ReadsSame more (cond b here (Fault cause left)) (cond b there other)
if_same more true here there other cause left h = h
if_same more false here there other cause left h = tt

parameters_end_same : (count : ℕ) (t : Token) (rest more : List Token) → ReadsSame more (after_parameters count (t ∷ rest)) (after_parameters count (t ∷ rest ++ more))
parameters_end_same count t rest more = if_same more (is_open t) (Got count (t ∷ rest)) (Got count (t ∷ rest ++ more)) _ BadDefinition (length rest + 1) refl

last_same : (more : List Token) (b : Bool) (here : ReadOr OutsideCause ℕ) (there other : ReadOr OutsideCause ℕ) → ReadsSame more here there
    → ReadsSame more (cond b (Fault BadDefinition 0) here) (elim b [ true ↦ other | false ↦ there ])
last_same more true here there other h = tt
last_same more false here there other h = h

digit_same : (more : List Token) (b c : Bool) (left left' : ℕ) (here there end end' : ReadOr OutsideCause ℕ) → ReadsSame more here there → ReadsSame more end end'
    → ReadsSame more
    (elim b [ true ↦ elim c [ true ↦ here | false ↦ Fault BadDefinition left ] | false ↦ end ])
    (elim b [ true ↦ elim c [ true ↦ there | false ↦ Fault BadDefinition left' ] | false ↦ end' ])
digit_same more true true left left' here there end end' h k = h
digit_same more true false left left' here there end end' h k = tt
digit_same more false c left left' here there end end' h k = k

itself_same : {C A : Type 0} (r : ReadOr C A) → ReadsSame [] r r
itself_same (Got part rest) = ap (Got part) (sym (append-nil rest))
itself_same (Fault cause left) = tt
itself_same NoTurn = tt

parameters_same : (count : ℕ) (tokens more : List Token) → ReadsSame more (parameters count tokens) (parameters count (tokens ++ more))
parameters_same count [] more = tt
parameters_same count (t ∷ []) [] = itself_same (parameters count (t ∷ []))
parameters_same count (t ∷ []) (m ∷ ms) =
    last_same (m ∷ ms) (is_parameter count t) (after_parameters count (t ∷ [])) (after_parameters count (t ∷ m ∷ ms)) _ (parameters_end_same count t [] (m ∷ ms))
parameters_same count (t ∷ u ∷ rest) more =
    digit_same more (is_parameter count t) (character_code u.kind == 49 + count) (length rest + 1) (length (rest ++ more) + 1) (parameters (count + 1) rest)
    (parameters (count + 1) (rest ++ more)) (after_parameters count (t ∷ u ∷ rest)) (after_parameters count (t ∷ u ∷ rest ++ more))
    (parameters_same (count + 1) rest more) (parameters_end_same count t (u ∷ rest) more)

checked_same : (name : List ℕ) (params left left' : ℕ) (taken : Taken) (more : List Token) (bad : Option ℕ)
    → ReadsSame more (checked_body name params left taken bad) (checked_body name params left' (record { argument = taken.argument; after = taken.after ++ more }) bad)
checked_same name params left left' taken more None = refl
checked_same name params left left' taken more (Some place) = tt

body_in_same : (name : List ℕ) (params left left' : ℕ) (more : List Token) (here there : Option Taken) → TakesSame more here there
    → ReadsSame more (definition_body_in name params left here) (definition_body_in name params left' there)
body_in_same name params left left' more None there h = tt
body_in_same name params left left' more (Some taken) there h =
    subst (λ (o : Option Taken). ReadsSame more (checked_body name params left taken (first_bad_parameter params taken.argument)) (definition_body_in name params left' o)) (sym h)
    (checked_same name params left left' taken more (first_bad_parameter params taken.argument))

body_same : (name : List ℕ) (params : ℕ) (tokens more : List Token) → ReadsSame more (definition_body name params tokens) (definition_body name params (tokens ++ more))
body_same name params [] more = tt
body_same name params (t ∷ rest) more =
    body_in_same name params (length rest) (length (rest ++ more)) more (group 0 rest) (group 0 (rest ++ more)) (group_same 0 rest more)

kind_same : (kind : TokenKind) (rest more : List Token) → ReadsSame more (definition_by_kind kind rest) (definition_by_kind kind (rest ++ more))
kind_same (Control name) rest more =
    then_same more (parameters 0 rest) (parameters 0 (rest ++ more)) (definition_body name) (parameters_same 0 rest more) (λ params after. body_same name params after more)
kind_same (Char c) rest more = tt
kind_same Space rest more = tt

-- a definition that ends among these tokens
pub definition_same : (tokens more : List Token) → ReadsSame more (macro_definition tokens) (macro_definition (tokens ++ more))
definition_same [] more = tt
definition_same (t ∷ rest) more = kind_same t.kind rest more
