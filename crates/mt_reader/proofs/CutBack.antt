-- Tokens that are read to their end with a page's end behind them are read to their end without it (`read_before_page_end`).
use Rattle.std.proofs.Common.{◌≡◌, ℕ, zero, suc, ◌+◌, ◌*◌, ◌≤◌, Bool, true, false, List, [], ◌∷◌, ◌++◌, length, Option, Some, None, refl, sym, ap, subst, ◌∙◌, arith}
use Rattle.std.specs.Prelude.{ℤ, pos, negsuc, nat_le, nat_lt, not, ◌==◌, ◌&&◌, ◌||◌, ◌⊎◌, ⊤, Result, Ok, Err, codes, if◌then◌else◌}
use Rattle.std.proofs.lemmas.List.{length-append}
use Rattle.mt_token.specs.declared.token.Token.{Token}
use Rattle.mt_token.specs.declared.token.TokenKind.{TokenKind}
use Rattle.mt_token.specs.declared.token.TokenKind.TheVariants.{Control, Char, Space}
use Rattle.mt_token.specs.Character.{character_code}
use Rattle.mt_token.specs.Spaces.{is_space}
use Rattle.mt_scaled.specs.declared.unit.Units.{Units}
use Rattle.mt_macro.specs.declared.definition.MacroError.{MacroError}
use Rattle.mt_macro.specs.Braces.{Taken, group, is_close, is_open, level_after, onto}
use Rattle.mt_macro.specs.Definition.{define}
use Rattle.mt_macro.specs.Expansion.{Expansion, Expanded, OverBudget, NoArgument, NoPartner, ListTooLong, expansion}
use Rattle.mt_macro.specs.Parameters.{first_bad_parameter}
use Rattle.mt_macro.specs.Table.{Table}
use Rattle.mt_plain.specs.CodeTables.{CodeTables, with_delcode, with_math_code}
use Rattle.mt_plain.specs.Limits.{max_delimiter_code, max_math_code}
use Rattle.mt_scan.specs.declared.fault.ReadCause.TheVariants.{BadNumber}
use Rattle.mt_scan.specs.Limits.{max_number}
use Rattle.mt_scan.specs.Numbers.{Signs, Whole, at_digit, at_most, at_sign, digit_of, digits, digits_in, first_digit, in_bound, number_to, quoted_code, quoted_kind, quoted_value, sign_after, signs, turns_sign, unsigned_number, unsigned_number_by, whole_number, with_sign}
use Rattle.mt_scan.specs.Parts.{Read, ReadOr, Got, Fault, NoTurn, IsAnswered, after_one_space, after_spaces, then_read}
use Rattle.mt_formula.specs.Formulas.{Reading, Reads, ReadFault, reading}
use Rattle.mt_reader.specs.declared.outside_cause.OutsideCause.{OutsideCause}
use Rattle.mt_reader.specs.declared.outside_cause.OutsideCause.TheVariants.{BadDefinition}
use Rattle.mt_reader.specs.declared.outside_role.OutsideRole.{OutsideRole}
use Rattle.mt_reader.specs.declared.outside_role.OutsideRole.TheVariants.{Passed, Defines, SetsMathCode, SetsDelimiterCode, BeginsFormula, EndsPage, EndsDocument, Misplaced}
use Rattle.mt_reader.specs.Answered.{definition_answered, delcode_answered, math_code_answered}
use Rattle.mt_reader.specs.Assignments.{after_equals, assignment, code_or_none, delcode_assignment, delimiter_value, math_code_assignment}
use Rattle.mt_reader.specs.Cuts.{IsTooMuch, IsWord, after_from, after_turn, answer_behind, state_after}
use Rattle.mt_reader.specs.Definitions.{MacroDefinition, after_parameters, checked_body, definition_body, definition_body_in, definition_by_kind, is_parameter, macro_definition, parameters}
use Rattle.mt_reader.specs.Documents.{DocumentState, DocumentTurn, Goes, Ends, Stops, StopsOutside, TooManyTokens, after_assignment, after_definition, after_expansion, after_page_end, after_reading, document, formula_in, formula_turn, is_page_limit, outside_role, start_state, turn_by, with_table}
use Rattle.mt_reader.specs.Dollars.{after_end, begins_display, begins_with_dollar, between_dollars, ends_formula, is_math_shift_token, up_to_end}
use Rattle.mt_reader.specs.Limits.{max_total_tokens}
use Rattle.mt_reader.proofs.CutPages.{cut_document, first_document}
use Rattle.mt_reader.proofs.Falling.{TurnSettles, turn_settles}
use Rattle.mt_reader.proofs.Fronts.{word_code, word_digit, word_space}

word_sign : (k : TokenKind) → IsWord k → turns_sign k ≡ None
word_sign (Control name) w = refl
word_sign (Char c) w = elim w [ ]
word_sign Space w = elim w [ ]

word_quoted : (k : TokenKind) → IsWord k → quoted_kind k ≡ None
word_quoted (Control []) w = elim w [ ]
word_quoted (Control (c ∷ [])) w = elim w [ ]
word_quoted (Control (c ∷ d ∷ name)) w = refl
word_quoted (Char c) w = elim w [ ]
word_quoted Space w = elim w [ ]

and_no : (b : Bool) → b && false ≡ false
and_no true = refl
and_no false = refl

IsNone : {C A : Type 0} → ReadOr C A → Type 0
IsNone (Got part rest) = ⊥
IsNone (Fault cause left) = ⊤
IsNone NoTurn = ⊤

none_then : {C A B : Type 0} (r : ReadOr C A) (f : A → List Token → ReadOr C B) → IsNone r → IsNone (then_read r f)
unfolding IsNone
none_then (Got part rest) f n = elim n [ ]
none_then (Fault cause left) f n = tt
none_then NoTurn f n = tt

module _ (e : Token) (w : IsWord e.kind) where
  code : character_code e.kind ≡ 0
  code = word_code e.kind w

  not_close : is_close e ≡ false
  not_close = ap (λ (n : ℕ). n == 125) code

  not_open : is_open e ≡ false
  not_open = ap (λ (n : ℕ). n == 123) code

  not_dollar : is_math_shift_token e ≡ false
  not_dollar = ap (λ (n : ℕ). n == 36) code

  not_space : is_space e ≡ false
  not_space = word_space e.kind w

  abbrev behind : List Token → List Token
  behind l = l ++ e ∷ []

  -- what is read with the word behind it, by what is read without it
  BackOf : {C A : Type 0} → ReadOr C A → ReadOr C A → Type 0
  BackOf (Got part l) there = there ≡ Got part (behind l)
  BackOf (Fault cause left) there = IsNone there
  BackOf NoTurn there = IsNone there

  back_then : {C A B : Type 0} (here there : ReadOr C A) (f g : A → List Token → ReadOr C B) → BackOf here there → ((part : A) (l : List Token) → BackOf (f part l) (g part (behind l))) → BackOf (then_read here f) (then_read there g)
  unfolding BackOf
  back_then (Got part l) there f g h k = subst (λ (r : ReadOr _ _). BackOf (f part l) (then_read r g)) (sym h) (k part l)
  back_then (Fault cause left) there f g h k = none_then there g h
  back_then NoTurn there f g h k = none_then there g h

  back_if : {C A : Type 0} (b : Bool) (x y x' y' : ReadOr C A) → BackOf x x' → BackOf y y' → BackOf (if b then x else y) (if b then x' else y')
  back_if true x y x' y' h k = h
  back_if false x y x' y' h k = k

  -- ---- numbers

  digits_back : (base value : ℕ) (ts : List Token) → digits base value (behind ts) ≡ record { value = (digits base value ts).value; rest = behind (digits base value ts).rest }
  digits_back base value [] = ap (λ (d : Option ℕ). at_digit d base value (e ∷ []) (λ (v : ℕ). digits base v [])) (word_digit base e w)
  digits_back base value (t ∷ rest) = by_digit (digit_of base t) (λ v. digits_back base v rest) where
    by_digit : (d : Option ℕ) → ((v : ℕ) → digits base v (behind rest) ≡ record { value = (digits base v rest).value; rest = behind (digits base v rest).rest }) → at_digit d base value (t ∷ behind rest) (λ (v : ℕ). digits base v (behind rest))
        ≡ record { value = (at_digit d base value (t ∷ rest) (λ (v : ℕ). digits base v rest)).value; rest = behind (at_digit d base value (t ∷ rest) (λ (v : ℕ). digits base v rest)).rest }
    by_digit None ih = refl
    by_digit (Some digit) ih = ih (value * base + digit)

  no_digits : (base : ℕ) → IsNone (digits_in base (e ∷ []))
  unfolding IsNone
  no_digits base = subst (λ (d : Option ℕ). IsNone (first_digit d base (e ∷ []) [])) (sym (word_digit base e w)) tt

  digits_in_back : (base : ℕ) (ts : List Token) → BackOf (digits_in base ts) (digits_in base (behind ts))
  unfolding BackOf IsNone
  digits_in_back base [] = no_digits base
  digits_in_back base (t ∷ rest) = by_digit (digit_of base t) where
    by_digit : (d : Option ℕ) → BackOf (first_digit d base (t ∷ rest) rest) (first_digit d base (t ∷ behind rest) (behind rest))
    by_digit None = tt
    by_digit (Some digit) = ap (λ (x : Whole). let r : Read ℕ = Got x.value x.rest in r) (digits_back base digit rest)

  quoted_back : (ts : List Token) → BackOf (quoted_code ts) (quoted_code (behind ts))
  unfolding BackOf IsNone
  quoted_back [] = subst (λ (c : Option ℕ). IsNone (quoted_value c [])) (sym (word_quoted e.kind w)) tt
  quoted_back (t ∷ rest) = by_code (quoted_kind t.kind) where
    by_code : (c : Option ℕ) → BackOf (quoted_value c rest) (quoted_value c (behind rest))
    by_code None = tt
    by_code (Some c) = refl

  unsigned_back : (ts : List Token) → BackOf (unsigned_number ts) (unsigned_number (behind ts))
  unfolding BackOf IsNone
  unsigned_back [] = subst (λ (c : ℕ). IsNone (unsigned_number_by c (e ∷ []) [])) (sym code) (no_digits 10)
  unsigned_back (t ∷ rest) =
      let c = character_code t.kind in
      back_if (c == 34) (digits_in 16 rest) (if c == 39 then digits_in 8 rest else if c == 96 then quoted_code rest else digits_in 10 (t ∷ rest)) (digits_in 16 (behind rest))
      (if c == 39 then digits_in 8 (behind rest) else if c == 96 then quoted_code (behind rest) else digits_in 10 (t ∷ behind rest)) (digits_in_back 16 rest)
      (back_if (c == 39) (digits_in 8 rest) (if c == 96 then quoted_code rest else digits_in 10 (t ∷ rest)) (digits_in 8 (behind rest)) (if c == 96 then quoted_code (behind rest) else digits_in 10 (t ∷ behind rest)) (digits_in_back 8 rest)
      (back_if (c == 96) (quoted_code rest) (digits_in 10 (t ∷ rest)) (quoted_code (behind rest)) (digits_in 10 (t ∷ behind rest)) (quoted_back rest) (digits_in_back 10 (t ∷ rest))))

  space_back : (ts : List Token) → after_one_space (behind ts) ≡ behind (after_one_space ts)
  space_back [] = ap (λ (b : Bool). if b then [] else e ∷ []) not_space
  space_back (t ∷ rest) = by_space (is_space t) where
    by_space : (b : Bool) → (if b then behind rest else t ∷ behind rest) ≡ behind (if b then rest else t ∷ rest)
    by_space true = refl
    by_space false = refl

  signs_back : (minus : Bool) (ts : List Token) → signs minus (behind ts) ≡ record { minus = (signs minus ts).minus; rest = behind (signs minus ts).rest }
  signs_back minus [] = ap (λ (o : Option Bool). at_sign o minus (e ∷ []) (λ (m : Bool). signs m [])) (word_sign e.kind w)
  signs_back minus (t ∷ rest) = by_sign (turns_sign t.kind) (λ m. signs_back m rest) where
    by_sign : (o : Option Bool) → ((m : Bool) → signs m (behind rest) ≡ record { minus = (signs m rest).minus; rest = behind (signs m rest).rest }) → at_sign o minus (t ∷ behind rest) (λ (m : Bool). signs m (behind rest))
        ≡ record { minus = (at_sign o minus (t ∷ rest) (λ (m : Bool). signs m rest)).minus; rest = behind (at_sign o minus (t ∷ rest) (λ (m : Bool). signs m rest)).rest }
    by_sign None ih = refl
    by_sign (Some turn) ih = ih (sign_after turn minus)

  spaces_back : (ts : List Token) → after_spaces (behind ts) ≡ behind (after_spaces ts)
  spaces_back [] = ap (λ (b : Bool). elim b [ true ↦ [] | false ↦ e ∷ [] ]) not_space
  spaces_back (t ∷ rest) = by_space (is_space t) (spaces_back rest) where
    by_space : (b : Bool) → after_spaces (behind rest) ≡ behind (after_spaces rest) → (elim b [ true ↦ after_spaces (behind rest) | false ↦ t ∷ behind rest ]) ≡ behind (elim b [ true ↦ after_spaces rest | false ↦ t ∷ rest ])
    by_space true ih = ih
    by_space false ih = refl

  equals_back : (ts : List Token) → after_equals (behind ts) ≡ behind (after_equals ts)
  equals_back [] = ap (λ (n : ℕ). if n == 61 then [] else e ∷ []) code
  equals_back (t ∷ rest) = by_equals (character_code t.kind == 61) where
    by_equals : (b : Bool) → (if b then after_spaces (behind rest) else t ∷ behind rest) ≡ behind (if b then after_spaces rest else t ∷ rest)
    by_equals true = spaces_back rest
    by_equals false = refl

  bound_back : (n m : ℕ) (minus : Bool) (value : ℕ) (l : List Token) → BackOf (in_bound n minus value l) (in_bound m minus value (behind l))
  unfolding BackOf IsNone
  bound_back n m minus value l =
      back_if (nat_le value max_number) (Got (with_sign minus (pos value)) (after_one_space l)) (Fault BadNumber n) (Got (with_sign minus (pos value)) (after_one_space (behind l))) (Fault BadNumber m)
      (ap (λ (r : List Token). let x : Read ℤ = Got (with_sign minus (pos value)) r in x) (space_back l)) tt

  whole_back : (ts : List Token) → BackOf (whole_number ts) (whole_number (behind ts))
  whole_back ts =
      let here = signs false ts in
      let of = λ (s : Signs). then_read (unsigned_number s.rest) (λ (value : ℕ) (rest : List Token). in_bound (length (behind ts)) s.minus value rest) in
      subst (λ (s : Signs). BackOf (whole_number ts) (of s)) (sym (signs_back false ts))
      (back_then (unsigned_number here.rest) (unsigned_number (behind here.rest)) (λ (value : ℕ) (rest : List Token). in_bound (length ts) here.minus value rest)
      (λ (value : ℕ) (rest : List Token). in_bound (length (behind ts)) here.minus value rest) (unsigned_back here.rest) (λ value l. bound_back (length ts) (length (behind ts)) here.minus value l))

  most_back : (most n m : ℕ) (z : ℤ) (l : List Token) → BackOf (at_most most n z l) (at_most most m z (behind l))
  unfolding BackOf IsNone
  most_back most n m (pos k) l = back_if (nat_le k most) (Got k l) (Fault BadNumber n) (Got k (behind l)) (Fault BadNumber m) refl tt
  most_back most n m (negsuc k) l = tt

  number_back : (most : ℕ) (ts : List Token) → BackOf (number_to most ts) (number_to most (behind ts))
  number_back most ts = back_then (whole_number ts) (whole_number (behind ts)) (λ (n : ℤ) (rest : List Token). at_most most (length ts) n rest) (λ (n : ℤ) (rest : List Token). at_most most (length (behind ts)) n rest) (whole_back ts)
      (λ z l. most_back most (length ts) (length (behind ts)) z l)

  code_back : (n m : ℕ) (z : ℤ) (l : List Token) → BackOf (code_or_none n z l) (code_or_none m z (behind l))
  unfolding BackOf IsNone
  code_back n m (pos k) l = back_if (nat_le k max_delimiter_code) (Got (Some k) l) (Fault BadNumber n) (Got (Some k) (behind l)) (Fault BadNumber m) refl tt
  code_back n m (negsuc k) l = refl

  delimiter_back : (ts : List Token) → BackOf (delimiter_value ts) (delimiter_value (behind ts))
  delimiter_back ts = back_then (whole_number ts) (whole_number (behind ts)) (code_or_none (length ts)) (code_or_none (length (behind ts))) (whole_back ts) (λ z l. code_back (length ts) (length (behind ts)) z l)

  assignment_back : {A : Type 0} (code : List Token → Read A) (change : ℕ → A → CodeTables) → ((l : List Token) → BackOf (code l) (code (behind l))) → (ts : List Token) → BackOf (assignment code change ts) (assignment code change (behind ts))
  unfolding BackOf
  assignment_back code change h ts =
      back_then (number_to 127 ts) (number_to 127 (behind ts)) _ (λ (c : ℕ) (after : List Token). then_read (code (after_equals (after_spaces after))) (λ value rest. Got (change c value) rest)) (number_back 127 ts)
      (λ c after.
      let here = after_equals (after_spaces after) in
      let same : after_equals (after_spaces (behind after)) ≡ behind here = ap after_equals (spaces_back after) ∙ equals_back (after_spaces after) in
      subst (λ (l : List Token). BackOf (then_read (code here) (λ value rest. Got (change c value) rest)) (then_read (code l) (λ value rest. Got (change c value) rest))) (sym same)
      (back_then (code here) (code (behind here)) (λ value rest. Got (change c value) rest) (λ value rest. Got (change c value) rest) (h here) (λ value l. refl)))

  -- ---- groups and formulas

  TakenBack : Option Taken → Option Taken → Type 0
  TakenBack None there = there ≡ None
  TakenBack (Some taken) there = there ≡ Some (record { argument = taken.argument; after = behind taken.after })

  onto_back : (t : Token) (here there : Option Taken) → TakenBack here there → TakenBack (onto t here) (onto t there)
  unfolding TakenBack
  onto_back t None there h = ap (onto t) h
  onto_back t (Some taken) there h = ap (onto t) h

  group_back : (level : ℕ) (ts : List Token) → TakenBack (group level ts) (group level (behind ts))
  unfolding TakenBack
  group_back level [] = ap (λ (b : Bool). if (level == 0) && b then Some (record { argument = []; after = [] }) else None) not_close ∙ ap (λ (b : Bool). if b then Some (record { argument = []; after = [] }) else None) (and_no (level == 0))
  group_back level (t ∷ rest) = by_close ((level == 0) && is_close t) (group_back (level_after level t) rest) where
    by_close : (b : Bool) → TakenBack (group (level_after level t) rest) (group (level_after level t) (behind rest)) → TakenBack (if b then Some (record { argument = []; after = rest }) else onto t (group (level_after level t) rest)) (if b then Some (record { argument = []; after = behind rest }) else onto t (group (level_after level t) (behind rest)))
    by_close true ih = refl
    by_close false ih = onto_back t (group (level_after level t) rest) (group (level_after level t) (behind rest)) ih

  dollar_back : (rest : List Token) → begins_with_dollar (behind rest) ≡ begins_with_dollar rest
  dollar_back [] = not_dollar
  dollar_back (t ∷ rest) = refl

  end_back : (display : Bool) (t : Token) (rest : List Token) → ends_formula display t rest ≡ true → after_end display (behind rest) ≡ behind (after_end display rest)
  end_back true t [] is = absurd (none (is_math_shift_token t) is) where
    none : (b : Bool) → b && false ≡ true → ⊥
    none true is = cc
    none false is = cc
  end_back true t (u ∷ rest) is = refl
  end_back false t rest is = refl

  abbrev at_token : Bool → Bool → List Token → Token → Option Taken → Option Taken
  at_token closes ends after t inner = elim closes [ true ↦ None | false ↦ elim ends [ true ↦ Some (record { argument = []; after = after }) | false ↦ onto t inner ] ]

  token_back : (display : Bool) (t : Token) (rest : List Token) (here there : Option Taken) (closes ends : Bool) → ends_formula display t rest ≡ ends → TakenBack here there
      → TakenBack (at_token closes ends (after_end display rest) t here) (at_token closes ends (after_end display (behind rest)) t there)
  unfolding TakenBack
  token_back display t rest here there true ends is h = refl
  token_back display t rest here there false true is h = ap (λ (l : List Token). let o : Option Taken = Some (record { argument = []; after = l }) in o) (end_back display t rest is)
  token_back display t rest here there false false is h = onto_back t here there h

  up_to_end_back : (display : Bool) (level : ℕ) (ts : List Token) → TakenBack (up_to_end display level ts) (up_to_end display level (behind ts))
  unfolding TakenBack
  up_to_end_back display level [] =
      ap (λ (b : Bool). at_token ((level == 0) && b) ((level == 0) && ends_formula display e []) (after_end display []) e None) not_close
      ∙ (ap (λ (b : Bool). at_token b ((level == 0) && ends_formula display e []) (after_end display []) e None) (and_no (level == 0))
      ∙ (ap (λ (b : Bool). at_token false ((level == 0) && (b && (not display || false))) (after_end display []) e None) not_dollar ∙ ap (λ (b : Bool). at_token false b (after_end display []) e None) (and_no (level == 0))))
  up_to_end_back display level (t ∷ rest) =
      let inner = up_to_end display (level_after level t) (behind rest) in
      subst (λ (b : Bool). TakenBack (up_to_end display level (t ∷ rest)) (at_token ((level == 0) && is_close t) ((level == 0) && (is_math_shift_token t && (not display || b))) (after_end display (behind rest)) t inner)) (sym (dollar_back rest))
      (by_level (level == 0) (up_to_end_back display (level_after level t) rest)) where
        by_level : (zero : Bool) → TakenBack (up_to_end display (level_after level t) rest) (up_to_end display (level_after level t) (behind rest))
            → TakenBack (at_token (zero && is_close t) (zero && ends_formula display t rest) (after_end display rest) t (up_to_end display (level_after level t) rest))
            (at_token (zero && is_close t) (zero && ends_formula display t rest) (after_end display (behind rest)) t (up_to_end display (level_after level t) (behind rest)))
        by_level true h = token_back display t rest (up_to_end display (level_after level t) rest) (up_to_end display (level_after level t) (behind rest)) (is_close t) (ends_formula display t rest) refl h
        by_level false h = onto_back t (up_to_end display (level_after level t) rest) (up_to_end display (level_after level t) (behind rest)) h

  display_back : (ts : List Token) → begins_display (behind ts) ≡ begins_display ts
  display_back ts = dollar_back ts

  between_back : (ts : List Token) → TakenBack (between_dollars ts) (between_dollars (behind ts))
  unfolding TakenBack
  between_back [] = ap (λ (b : Bool). if b then up_to_end true 0 [] else up_to_end false 0 (e ∷ [])) not_dollar ∙ up_to_end_back false 0 []
  between_back (t ∷ rest) = by_dollar (is_math_shift_token t) where
    by_dollar : (b : Bool) → TakenBack (if b then up_to_end true 0 rest else up_to_end false 0 (t ∷ rest)) (if b then up_to_end true 0 (behind rest) else up_to_end false 0 (t ∷ behind rest))
    by_dollar true = up_to_end_back true 0 rest
    by_dollar false = up_to_end_back false 0 (t ∷ rest)

  -- ---- definitions

  opened_back : (count n m : ℕ) (b : Bool) (l : List Token) → BackOf {C = OutsideCause} (if b then Got count l else Fault BadDefinition n) (if b then Got count (behind l) else Fault BadDefinition m)
  unfolding BackOf IsNone
  opened_back count n m true l = refl
  opened_back count n m false l = tt

  parameters_back : (count : ℕ) (ts : List Token) → BackOf (parameters count ts) (parameters count (behind ts))
  unfolding BackOf IsNone
  parameters_back count [] = by_parameter (is_parameter count e) where
    closed : IsNone (after_parameters count (e ∷ []))
    closed = subst (λ (b : Bool). IsNone {C = OutsideCause} (if b then Got count (e ∷ []) else Fault BadDefinition 1)) (sym not_open) tt

    by_parameter : (b : Bool) → IsNone (if b then Fault BadDefinition 0 else after_parameters count (e ∷ []))
    by_parameter true = tt
    by_parameter false = closed
  parameters_back count (t ∷ []) = by_parameter (is_parameter count t) where
    no_digit : (c : Bool) → IsNone {C = OutsideCause} {A = ℕ} (elim c [ true ↦ Fault BadDefinition 0 | false ↦ Fault BadDefinition 1 ])
    no_digit true = tt
    no_digit false = tt

    by_parameter : (b : Bool) → BackOf (if b then Fault BadDefinition 0 else after_parameters count (t ∷ []))
        (elim b [ true ↦ elim (character_code e.kind == 49 + count) [ true ↦ Fault BadDefinition 0 | false ↦ Fault BadDefinition 1 ] | false ↦ after_parameters count (t ∷ e ∷ []) ])
    by_parameter true = no_digit (character_code e.kind == 49 + count)
    by_parameter false = opened_back count 1 2 (is_open t) (t ∷ [])
  parameters_back count (t ∷ u ∷ rest) = by_parameter (is_parameter count t) (character_code u.kind == 49 + count) (parameters_back (count + 1) rest) where
    by_parameter : (b c : Bool) → BackOf (parameters (count + 1) rest) (parameters (count + 1) (behind rest)) → BackOf
        (elim b [ true ↦ elim c [ true ↦ parameters (count + 1) rest | false ↦ Fault BadDefinition (length rest + 1) ] | false ↦ after_parameters count (t ∷ u ∷ rest) ])
        (elim b [ true ↦ elim c [ true ↦ parameters (count + 1) (behind rest) | false ↦ Fault BadDefinition (length (behind rest) + 1) ] | false ↦ after_parameters count (t ∷ u ∷ behind rest) ])
    by_parameter true true ih = ih
    by_parameter true false ih = tt
    by_parameter false c ih = opened_back count (length (u ∷ rest) + 1) (length (u ∷ behind rest) + 1) (is_open t) (t ∷ u ∷ rest)

  checked_back : (name : List ℕ) (params n m : ℕ) (taken : Taken) (bad : Option ℕ) → BackOf (checked_body name params n taken bad) (checked_body name params m (record { argument = taken.argument; after = behind taken.after }) bad)
  unfolding BackOf IsNone
  checked_back name params n m taken None = refl
  checked_back name params n m taken (Some place) = tt

  body_in_back : (name : List ℕ) (params n m : ℕ) (here there : Option Taken) → TakenBack here there → BackOf (definition_body_in name params n here) (definition_body_in name params m there)
  unfolding BackOf IsNone TakenBack
  body_in_back name params n m None there h = subst (λ (o : Option Taken). IsNone (definition_body_in name params m o)) (sym h) tt
  body_in_back name params n m (Some taken) there h =
      subst (λ (o : Option Taken). BackOf (definition_body_in name params n (Some taken)) (definition_body_in name params m o)) (sym h) (checked_back name params n m taken (first_bad_parameter params taken.argument))

  body_back : (name : List ℕ) (params : ℕ) (ts : List Token) → BackOf (definition_body name params ts) (definition_body name params (behind ts))
  unfolding BackOf IsNone
  body_back name params [] = tt
  body_back name params (t ∷ rest) = body_in_back name params (length rest) (length (behind rest)) (group 0 rest) (group 0 (behind rest)) (group_back 0 rest)

  kind_back : (k : TokenKind) (rest : List Token) → BackOf (definition_by_kind k rest) (definition_by_kind k (behind rest))
  unfolding BackOf IsNone
  kind_back (Control name) rest = back_then (parameters 0 rest) (parameters 0 (behind rest)) (definition_body name) (definition_body name) (parameters_back 0 rest) (λ params l. body_back name params l)
  kind_back (Char c) rest = tt
  kind_back Space rest = tt

  kind_none : (k : TokenKind) → IsNone (definition_by_kind k [])
  unfolding IsNone
  kind_none (Control name) = tt
  kind_none (Char c) = tt
  kind_none Space = tt

  definition_back : (ts : List Token) → BackOf (macro_definition ts) (macro_definition (behind ts))
  unfolding BackOf
  definition_back [] = kind_none e.kind
  definition_back (t ∷ rest) = kind_back t.kind rest

  -- ---- turns

  IsOver : DocumentTurn → Type 0
  IsOver (Goes s rest) = ⊥
  IsOver (Ends s) = ⊥
  IsOver (Stops refusal) = ⊤
  IsOver (StopsOutside n cause left) = ⊤

  TurnBack : DocumentTurn → DocumentTurn → Type 0
  TurnBack (Goes s rest) there = there ≡ Goes s (behind rest)
  TurnBack (Ends s) there = there ≡ Ends s
  TurnBack (Stops refusal) there = IsOver there
  TurnBack (StopsOutside n cause left) there = IsOver there

  table_back : (s : DocumentState) (n m : ℕ) (l : List Token) (made : Result Table MacroError) → TurnBack (with_table s n l made) (with_table s m (behind l) made)
  unfolding TurnBack IsOver
  table_back s n m l (Ok macros) = refl
  table_back s n m l (Err fault) = tt

  defined_back : (s : DocumentState) (n m : ℕ) (here there : ReadOr OutsideCause MacroDefinition) (a : IsAnswered here) (b : IsAnswered there) → BackOf here there → TurnBack (after_definition s n here a) (after_definition s m there b)
  unfolding TurnBack IsOver BackOf IsNone
  defined_back s n m (Got d l) (Got f r) a b h =
      let same : f ≡ d = cc in
      let rest : r ≡ behind l = cc in
      subst (λ (x : MacroDefinition). TurnBack (with_table s n l (define s.macros d.name d.params d.body)) (with_table s m r (define s.macros x.name x.params x.body))) (sym same)
      (subst (λ (x : List Token). TurnBack (with_table s n l (define s.macros d.name d.params d.body)) (with_table s m x (define s.macros d.name d.params d.body))) (sym rest) (table_back s n m l (define s.macros d.name d.params d.body)))
  defined_back s n m (Got d l) (Fault cause left) a b h = absurd (cc)
  defined_back s n m (Got d l) NoTurn a b h = elim b [ ]
  defined_back s n m (Fault cause left) (Got f r) a b h = elim h [ ]
  defined_back s n m (Fault cause left) (Fault cause' left') a b h = tt
  defined_back s n m (Fault cause left) NoTurn a b h = elim b [ ]
  defined_back s n m NoTurn there a b h = elim a [ ]

  assigned_back : (s : DocumentState) (n m : ℕ) (here there : Read CodeTables) (a : IsAnswered here) (b : IsAnswered there) → BackOf here there → TurnBack (after_assignment s n here a) (after_assignment s m there b)
  unfolding TurnBack IsOver BackOf IsNone
  assigned_back s n m (Got tables l) (Got other r) a b h =
      let same : other ≡ tables = cc in
      let rest : r ≡ behind l = cc in
      ap (λ (x : CodeTables). Goes (record s { tables = x }) r) same ∙ ap (λ (x : List Token). Goes (record s { tables = tables }) x) rest
  assigned_back s n m (Got tables l) (Fault cause left) a b h = absurd (cc)
  assigned_back s n m (Got tables l) NoTurn a b h = elim b [ ]
  assigned_back s n m (Fault cause left) (Got other r) a b h = elim h [ ]
  assigned_back s n m (Fault cause left) (Fault cause' left') a b h = tt
  assigned_back s n m (Fault cause left) NoTurn a b h = elim b [ ]
  assigned_back s n m NoTurn there a b h = elim a [ ]

  module _ (units : Units) where
    reading_back : (s : DocumentState) (display : Bool) (total : ℕ) (rest : List Token) (r : Reading) → TurnBack (after_reading units s display total rest r) (after_reading units s display total (behind rest) r)
    unfolding TurnBack IsOver
    reading_back s display total rest (ReadFault cause place) = tt
    reading_back s display total rest (Reads body tag) = refl

    counted_back : (s : DocumentState) (display : Bool) (rest list : List Token) (b : Bool)
        → TurnBack (elim b [ true ↦ Stops (TooManyTokens (s.count + 1) (s.total + length list)) | false ↦ after_reading units s display (s.total + length list) rest (reading s.tables units display list) ])
        (elim b [ true ↦ Stops (TooManyTokens (s.count + 1) (s.total + length list)) | false ↦ after_reading units s display (s.total + length list) (behind rest) (reading s.tables units display list) ])
    unfolding TurnBack IsOver
    counted_back s display rest list true = tt
    counted_back s display rest list false = reading_back s display (s.total + length list) rest (reading s.tables units display list)

    expansion_back : (s : DocumentState) (display : Bool) (rest : List Token) (o : Expansion) → TurnBack (after_expansion units s display rest o) (after_expansion units s display (behind rest) o)
    unfolding TurnBack IsOver
    expansion_back s display rest (Expanded list) = counted_back s display rest list (nat_lt max_total_tokens (s.total + length list))
    expansion_back s display rest (OverBudget steps k) = tt
    expansion_back s display rest (NoArgument place) = tt
    expansion_back s display rest (NoPartner place) = tt
    expansion_back s display rest ListTooLong = tt

    formula_in_back : (s : DocumentState) (display : Bool) (n m : ℕ) (here there : Option Taken) → TakenBack here there → TurnBack (formula_in units s display n here) (formula_in units s display m there)
    unfolding TurnBack IsOver TakenBack
    formula_in_back s display n m None there h = subst (λ (o : Option Taken). IsOver (formula_in units s display m o)) (sym h) tt
    formula_in_back s display n m (Some taken) there h =
        subst (λ (o : Option Taken). TurnBack (formula_in units s display n (Some taken)) (formula_in units s display m o)) (sym h) (expansion_back s display taken.after (expansion s.macros taken.argument))

    formula_back : (s : DocumentState) (rest : List Token) (b : Bool) → TurnBack (formula_turn units s rest b) (formula_turn units s (behind rest) b)
    unfolding TurnBack IsOver
    formula_back s rest true = tt
    formula_back s rest false =
        subst (λ (d : Bool). TurnBack (formula_turn units s rest false) (formula_in units s d (length (behind rest) + 1) (between_dollars (behind rest)))) (sym (display_back rest))
        (formula_in_back s (begins_display rest) (length rest + 1) (length (behind rest) + 1) (between_dollars rest) (between_dollars (behind rest)) (between_back rest))

    turn_back : (s : DocumentState) (rest : List Token) (role : OutsideRole) → TurnBack (turn_by units s rest role) (turn_by units s (behind rest) role)
    unfolding TurnBack IsOver
    turn_back s rest Passed = refl
    turn_back s rest Defines =
        defined_back s (length rest + 1) (length (behind rest) + 1) (macro_definition rest) (macro_definition (behind rest)) (definition_answered rest) (definition_answered (behind rest)) (definition_back rest)
    turn_back s rest SetsMathCode =
        assigned_back s (length rest + 1) (length (behind rest) + 1) (math_code_assignment s.tables rest) (math_code_assignment s.tables (behind rest)) (math_code_answered s.tables rest) (math_code_answered s.tables (behind rest))
        (assignment_back (number_to max_math_code) (with_math_code s.tables) (number_back max_math_code) rest)
    turn_back s rest SetsDelimiterCode =
        assigned_back s (length rest + 1) (length (behind rest) + 1) (delcode_assignment s.tables rest) (delcode_assignment s.tables (behind rest)) (delcode_answered s.tables rest) (delcode_answered s.tables (behind rest))
        (assignment_back delimiter_value (with_delcode s.tables) delimiter_back rest)
    turn_back s rest BeginsFormula = formula_back s rest (is_page_limit s)
    turn_back s rest EndsPage = refl
    turn_back s rest EndsDocument = refl
    turn_back s rest Misplaced = tt

    -- ---- states

    -- read to their end without the page's end
    record Before (s after : DocumentState) (n : ℕ) (a : List Token) : Type 0 where
      before : DocumentState
      reads : after_from units n s a ≡ Some before
      is : after ≡ after_page_end before

    over_none : (again : DocumentState → List Token → Option DocumentState) (turn : DocumentTurn) (after : DocumentState) → IsOver turn → after_turn again turn ≡ Some after → ⊥
    unfolding IsOver
    over_none again (Goes s rest) after o is = elim o [ ]
    over_none again (Ends s) after o is = elim o [ ]
    over_none again (Stops refusal) after o is = cc
    over_none again (StopsOutside n cause left) after o is = cc

    state_turn : (n : ℕ) (after : DocumentState) (here there : DocumentTurn) → TurnBack here there → ((mid : DocumentState) (left : List Token) → here ≡ Goes mid left → after_from units (suc n) mid (behind left) ≡ Some after → Before mid after n left)
        → after_turn (after_from units (suc n)) there ≡ Some after → (before : DocumentState) × (after_turn (after_from units n) here ≡ Some before) × (after ≡ after_page_end before)
    unfolding TurnBack
    state_turn n after (Goes mid left) there t h is =
        let b = h mid left refl (ap (after_turn (after_from units (suc n))) (sym t) ∙ is) in
        (b.before, b.reads, b.is)
    state_turn n after (Ends s) there t h is = absurd (none (ap (after_turn (after_from units (suc n))) (sym t) ∙ is)) where
      none : ◌≡◌ {A = Option DocumentState} None (Some after) → ⊥
      none is = cc
    state_turn n after (Stops refusal) there t h is = absurd (over_none (after_from units (suc n)) there after t is)
    state_turn n after (StopsOutside m cause left) there t h is = absurd (over_none (after_from units (suc n)) there after t is)

    ended : (n : ℕ) (s after : DocumentState) → outside_role e.kind ≡ EndsPage → after_from units (suc n) s (e ∷ []) ≡ Some after → after ≡ after_page_end s
    unfolding after_from
    ended n s after role is = last n (ap (λ (r : OutsideRole). after_turn (after_from units n) (turn_by units s [] r)) (sym role) ∙ is) where
      last : (n : ℕ) → after_from units n (after_page_end s) [] ≡ Some after → after ≡ after_page_end s
      last zero is = cc
      last (suc n) is = cc

    before_end : (n : ℕ) (s after : DocumentState) (a : List Token) → outside_role e.kind ≡ EndsPage → length a ≤ n → after_from units (suc n) s (behind a) ≡ Some after → Before s after n a
    unfolding after_from
    before_end zero s after [] role le is = record { before = s; reads = refl; is = ended zero s after role is }
    before_end zero s after (t ∷ rest) role le is = absurd (omega (arith, le))
    before_end (suc n) s after [] role le is = record { before = s; reads = refl; is = ended (suc n) s after role is }
    before_end (suc n) s after (t ∷ rest) role le is =
        let x = outside_role t.kind in
        let b = state_turn n after (turn_by units s rest x) (turn_by units s (behind rest) x) (turn_back s rest x)
        (λ mid left here read.
        let k : TurnSettles (length rest) (Goes mid left) = subst (TurnSettles (length rest)) here (turn_settles units s rest x) in
        before_end n mid after left role (omega (arith, k, le)) read) is in
        record { before = b.0; reads = b.1; is = b.2 }

pub read_before_page_end : (units : Units) (s after : DocumentState) (a : List Token) (e : Token) → e.kind ≡ Control (codes "eject") → state_after units s (a ++ e ∷ []) ≡ Some after
    → (before : DocumentState) × (state_after units s a ≡ Some before) × (after ≡ after_page_end before)
read_before_page_end units s after a e is read =
    let w : IsWord e.kind = subst IsWord (sym is) tt in
    let role : outside_role e.kind ≡ EndsPage = ap outside_role is in
    let count : length (a ++ e ∷ []) ≡ suc (length a) = omega (arith, length-append a (e ∷ [])) in
    let b = before_end e w units (length a) s after a role (omega arith) (ap (λ (n : ℕ). after_from units n s (a ++ e ∷ [])) (sym count) ∙ read) in
    (b.before, b.reads, b.is)

-- a document of a part that ends with a page's end, and of more tokens
pub cut_after_page_end : (units : Units) (tables : CodeTables) (macros : Table) (after : DocumentState) (a b : List Token) (e : Token) → e.kind ≡ Control (codes "eject") → state_after units (start_state tables macros) (a ++ e ∷ []) ≡ Some after
    → IsTooMuch (document units tables macros (a ++ e ∷ b))
    ⊎ (document units tables macros (a ++ e ∷ b) ≡ answer_behind after (length a + 1) (document units after.tables after.macros b))
cut_after_page_end units tables macros after a b e is read =
    let r = read_before_page_end units (start_state tables macros) after a e is read in
    subst (λ (s : DocumentState). IsTooMuch (document units tables macros (a ++ e ∷ b)) ⊎ (document units tables macros (a ++ e ∷ b) ≡ answer_behind s (length a + 1) (document units s.tables s.macros b))) (sym r.2)
    (cut_document units tables macros r.0 a b e is r.1)

pub part_document : (units : Units) (tables : CodeTables) (macros : Table) (after : DocumentState) (a : List Token) (e : Token) → e.kind ≡ Control (codes "eject") → state_after units (start_state tables macros) (a ++ e ∷ []) ≡ Some after
    → document units tables macros (a ++ e ∷ []) ≡ Ok after.pages
part_document units tables macros after a e is read =
    let r = read_before_page_end units (start_state tables macros) after a e is read in
    subst (λ (s : DocumentState). document units tables macros (a ++ e ∷ []) ≡ Ok s.pages) (sym r.2) (first_document units tables macros r.0 a e is r.1)
