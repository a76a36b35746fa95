-- What follows `\mathcode` or `\delcode` is read again whatever is behind it, where the number ends there (`math_code_front`,
-- `delcode_front`), and so is a definition (`definition_front`).
use Rattle.std.proofs.Common.{◌≡◌, ℕ, ◌+◌, ◌*◌, Bool, true, false, List, [], ◌∷◌, ◌++◌, length, Option, Some, None, refl, sym, ap, ◌∙◌, append_assoc, inl, inr}
use Rattle.std.specs.Prelude.{ℤ, pos, negsuc, nat_le, ◌==◌, ◌&&◌, ◌⊎◌, ⊤, if◌then◌else◌}
use Rattle.mt_token.specs.declared.token.Token.{Token}
use Rattle.mt_token.specs.declared.token.TokenKind.{TokenKind}
use Rattle.mt_token.specs.declared.token.TokenKind.TheVariants.{Control, Char, Space}
use Rattle.mt_token.specs.Character.{character_code}
use Rattle.mt_token.specs.Spaces.{is_space, kind_is_space}
use Rattle.mt_macro.specs.Braces.{Taken, group, is_close, is_open, level_after, onto}
use Rattle.mt_macro.specs.Parameters.{first_bad_parameter}
use Rattle.mt_plain.specs.CodeTables.{CodeTables, with_delcode, with_math_code}
use Rattle.mt_plain.specs.Limits.{max_delimiter_code, max_math_code}
use Rattle.mt_scan.specs.declared.fault.ReadCause.TheVariants.{BadNumber}
use Rattle.mt_scan.specs.Limits.{max_number}
use Rattle.mt_scan.specs.Numbers.{Signs, Whole, at_digit, at_most, at_sign, digit_of, digit_value, digits, digits_in, first_digit, in_bound, number_to, quoted_code, quoted_kind, quoted_value, sign_after, signs, turns_sign, unsigned_number, whole_number, with_sign}
use Rattle.mt_scan.specs.Parts.{Read, ReadOr, Got, Fault, NoTurn, after_one_space, after_spaces, then_read}
use Rattle.mt_reader.specs.declared.outside_cause.OutsideCause.{OutsideCause}
use Rattle.mt_reader.specs.declared.outside_cause.OutsideCause.TheVariants.{BadDefinition}
use Rattle.mt_reader.specs.Assignments.{after_equals, assignment, code_or_none, delcode_assignment, delimiter_value, math_code_assignment}
use Rattle.mt_reader.specs.Cuts.{IsWord}
use Rattle.mt_reader.specs.Definitions.{MacroDefinition, after_parameters, checked_body, definition_body, definition_body_in, definition_by_kind, is_parameter, macro_definition, parameters}

-- ---- what may be behind

abbrev pub first_token : List Token → Option Token
first_token [] = None
first_token (t ∷ ts) = Some t

-- no number and no definition goes on into these tokens
abbrev pub IsApart : List Token → Type 0
IsApart [] = ⊤
IsApart (t ∷ ts) = IsWord t.kind

-- these tokens can be in the place of the rest
abbrev pub Next : List Token → List Token → Type 0
Next rest more = (first_token more ≡ first_token rest) ⊎ IsApart more

heads : (front a b : List Token) → first_token a ≡ first_token b → first_token (front ++ a) ≡ first_token (front ++ b)
heads [] a b e = e
heads (t ∷ front) a b e = refl

pub word_code : (k : TokenKind) → IsWord k → character_code k ≡ 0
word_code (Control name) w = refl
word_code (Char c) w = elim w [ ]
word_code Space w = elim w [ ]

pub word_space : (k : TokenKind) → IsWord k → kind_is_space k ≡ false
word_space (Control name) w = refl
word_space (Char c) w = elim w [ ]
word_space Space w = elim w [ ]

-- what was read is in front of the rest, and is read again with such tokens in its place
pub record Front {C A : Type 0} (read : List Token → ReadOr C A) (ts rest : List Token) (part : A) : Type 0 where
  pub front : List Token
  pub is : ts ≡ front ++ rest
  pub some : (a b : List Token) → first_token (front ++ a) ≡ first_token (front ++ b)
  pub again : (more : List Token) → Next rest more → read (front ++ more) ≡ Got part more

abbrev pub FrontOf : {C A : Type 0} → (List Token → ReadOr C A) → List Token → ReadOr C A → Type 0
FrontOf read ts (Got part rest) = Front read ts rest part
FrontOf read ts (Fault cause left) = ⊤
FrontOf read ts NoTurn = ⊤

-- ---- digits

abbrev EndsDigits : ℕ → List Token → Type 0
EndsDigits base [] = ⊤
EndsDigits base (t ∷ ts) = digit_of base t ≡ None

no_digit : (b : Bool) (x : Option ℕ) → (if b && false then x else None) ≡ None
no_digit true x = refl
no_digit false x = refl

pub word_digit : (base : ℕ) (t : Token) → IsWord t.kind → digit_of base t ≡ None
word_digit base t w = ap (digit_value base) (word_code t.kind w) ∙ no_digit (base == 16) _

head_digits : (base : ℕ) (u : Token) (rest : List Token) → EndsDigits base rest → Some u ≡ first_token rest → digit_of base u ≡ None
head_digits base u [] s same = absurd (cc)
head_digits base u (t ∷ ts) s same = let e : u ≡ t = cc in ap (digit_of base) e ∙ s

next_digits : (base : ℕ) (rest more : List Token) → EndsDigits base rest → Next rest more → EndsDigits base more
next_digits base rest [] s n = tt
next_digits base rest (u ∷ us) s (inl same) = head_digits base u rest s same
next_digits base rest (u ∷ us) s (inr word) = word_digit base u word

record DigitsFront (base value : ℕ) (ts : List Token) (w : Whole) : Type 0 where
  front : List Token
  is : ts ≡ front ++ w.rest
  stops : EndsDigits base w.rest
  again : (more : List Token) → EndsDigits base more → digits base value (front ++ more) ≡ record { value = w.value; rest = more }

stop_here : (base value : ℕ) (more : List Token) → EndsDigits base more → digits base value more ≡ record { value = value; rest = more }
stop_here base value [] e = refl
stop_here base value (t ∷ ts) e = ap (λ (d : Option ℕ). at_digit d base value (t ∷ ts) (λ (v : ℕ). digits base v ts)) e

digit_front : (base value : ℕ) (t : Token) (rest : List Token) (d : Option ℕ) → digit_of base t ≡ d → ((v : ℕ) → DigitsFront base v rest (digits base v rest))
    → DigitsFront base value (t ∷ rest) (at_digit d base value (t ∷ rest) (λ (v : ℕ). digits base v rest))
digit_front base value t rest None e ih = record { front = []; is = refl; stops = e; again = stop_here base value }
digit_front base value t rest (Some digit) e ih =
    let f = ih (value * base + digit) in
    record {
      front = t ∷ f.front;
      is = ap (λ (l : List Token). t ∷ l) f.is;
      stops = f.stops;
      again = λ more s. ap (λ (d : Option ℕ). at_digit d base value (t ∷ f.front ++ more) (λ (v : ℕ). digits base v (f.front ++ more))) e ∙ f.again more s;
    }

digits_front : (base value : ℕ) (ts : List Token) → DigitsFront base value ts (digits base value ts)
digits_front base value [] = record { front = []; is = refl; stops = tt; again = stop_here base value }
digits_front base value (t ∷ rest) = digit_front base value t rest (digit_of base t) refl (λ v. digits_front base v rest)

first_front : (base : ℕ) (t : Token) (rest : List Token) (d : Option ℕ) → digit_of base t ≡ d → FrontOf (digits_in base) (t ∷ rest) (first_digit d base (t ∷ rest) rest)
first_front base t rest None e = tt
first_front base t rest (Some digit) e =
    let f = digits_front base digit rest in
    record {
      front = t ∷ f.front;
      is = ap (λ (l : List Token). t ∷ l) f.is;
      some = λ a b. refl;
      again = λ more n.
          ap (λ (d : Option ℕ). first_digit d base (t ∷ f.front ++ more) (f.front ++ more)) e
          ∙ ap (λ (w : Whole). let r : Read ℕ = Got w.value w.rest in r) (f.again more (next_digits base (digits base digit rest).rest more f.stops n));
    }

digits_in_front : (base : ℕ) (ts : List Token) → FrontOf (digits_in base) ts (digits_in base ts)
digits_in_front base [] = tt
digits_in_front base (t ∷ rest) = first_front base t rest (digit_of base t) refl

-- ---- numbers without signs

quoted_front : (t : Token) (rest : List Token) (c : Option ℕ) → quoted_kind t.kind ≡ c → FrontOf quoted_code (t ∷ rest) (quoted_value c rest)
quoted_front t rest None e = tt
quoted_front t rest (Some c) e = record {
  front = t ∷ [];
  is = refl;
  some = λ a b. refl;
  again = λ more n. ap (λ (k : Option ℕ). quoted_value k more) e;
}

quoted_code_front : (ts : List Token) → FrontOf quoted_code ts (quoted_code ts)
quoted_code_front [] = tt
quoted_code_front (t ∷ rest) = quoted_front t rest (quoted_kind t.kind) refl

-- what is read behind a token
front_behind : {C A : Type 0} (read other : List Token → ReadOr C A) (t : Token) (rest : List Token) (r : ReadOr C A) → ((l : List Token) → other (t ∷ l) ≡ read l) → FrontOf read rest r → FrontOf other (t ∷ rest) r
front_behind read other t rest (Got part left) same f = record {
  front = t ∷ f.front;
  is = ap (λ (l : List Token). t ∷ l) f.is;
  some = λ a b. refl;
  again = λ more n. same (f.front ++ more) ∙ f.again more n;
}
front_behind read other t rest (Fault cause left) same f = tt
front_behind read other t rest NoTurn same f = tt

unsigned_by : (t : Token) (rest : List Token) (b c d : Bool) → (character_code t.kind == 34) ≡ b → (character_code t.kind == 39) ≡ c → (character_code t.kind == 96) ≡ d
    → FrontOf unsigned_number (t ∷ rest) (if b then digits_in 16 rest else if c then digits_in 8 rest else if d then quoted_code rest else digits_in 10 (t ∷ rest))
unsigned_by t rest true c d e f g = front_behind (digits_in 16) unsigned_number t rest (digits_in 16 rest) (λ l. rw e refl) (digits_in_front 16 rest)
unsigned_by t rest false true d e f g = front_behind (digits_in 8) unsigned_number t rest (digits_in 8 rest) (λ l. rw (e, f) refl) (digits_in_front 8 rest)
unsigned_by t rest false false true e f g = front_behind quoted_code unsigned_number t rest (quoted_code rest) (λ l. rw (e, f, g) refl) (quoted_code_front rest)
unsigned_by t rest false false false e f g = plain (digit_of 10 t) refl where
  plain : (d : Option ℕ) → digit_of 10 t ≡ d → FrontOf unsigned_number (t ∷ rest) (first_digit d 10 (t ∷ rest) rest)
  plain None i = tt
  plain (Some digit) i =
      let h = digits_front 10 digit rest in
      record {
        front = t ∷ h.front;
        is = ap (λ (l : List Token). t ∷ l) h.is;
        some = λ a b. refl;
        again = λ more n.
            let here : unsigned_number (t ∷ h.front ++ more) ≡ digits_in 10 (t ∷ h.front ++ more) = rw (e, f, g) refl in
            here
            ∙ (ap (λ (d : Option ℕ). first_digit d 10 (t ∷ h.front ++ more) (h.front ++ more)) i
            ∙ ap (λ (w : Whole). let r : Read ℕ = Got w.value w.rest in r) (h.again more (next_digits 10 (digits 10 digit rest).rest more h.stops n)));
      }

unsigned_front : (ts : List Token) → FrontOf unsigned_number ts (unsigned_number ts)
unsigned_front [] = tt
unsigned_front (t ∷ rest) = unsigned_by t rest (character_code t.kind == 34) (character_code t.kind == 39) (character_code t.kind == 96) refl refl refl

-- ---- signs and Spaces

record SignsFront (minus : Bool) (ts : List Token) (s : Signs) : Type 0 where
  front : List Token
  is : ts ≡ front ++ s.rest
  again : (more : List Token) → first_token more ≡ first_token s.rest → signs minus (front ++ more) ≡ record { minus = s.minus; rest = more }

no_signs : (minus : Bool) (more : List Token) → first_token more ≡ None → signs minus more ≡ record { minus = minus; rest = more }
no_signs minus [] e = refl
no_signs minus (t ∷ ts) e = absurd (cc)

no_sign : (minus : Bool) (t : Token) (more : List Token) → turns_sign t.kind ≡ None → first_token more ≡ Some t → signs minus more ≡ record { minus = minus; rest = more }
no_sign minus t [] e same = absurd (cc)
no_sign minus t (u ∷ us) e same =
    let h : u ≡ t = cc in
    ap (λ (o : Option Bool). at_sign o minus (u ∷ us) (λ (m : Bool). signs m us)) (ap (λ (x : Token). turns_sign x.kind) h ∙ e)

sign_front : (minus : Bool) (t : Token) (rest : List Token) (o : Option Bool) → turns_sign t.kind ≡ o → ((m : Bool) → SignsFront m rest (signs m rest))
    → SignsFront minus (t ∷ rest) (at_sign o minus (t ∷ rest) (λ (m : Bool). signs m rest))
sign_front minus t rest None e ih = record { front = []; is = refl; again = λ more same. no_sign minus t more e same }
sign_front minus t rest (Some turn) e ih =
    let f = ih (sign_after turn minus) in
    record {
      front = t ∷ f.front;
      is = ap (λ (l : List Token). t ∷ l) f.is;
      again = λ more same. ap (λ (o : Option Bool). at_sign o minus (t ∷ f.front ++ more) (λ (m : Bool). signs m (f.front ++ more))) e ∙ f.again more same;
    }

signs_front : (minus : Bool) (ts : List Token) → SignsFront minus ts (signs minus ts)
signs_front minus [] = record { front = []; is = refl; again = λ more same. no_signs minus more same }
signs_front minus (t ∷ rest) = sign_front minus t rest (turns_sign t.kind) refl (λ m. signs_front m rest)

-- one Space
record SpaceFront (ts rest : List Token) : Type 0 where
  front : List Token
  is : ts ≡ front ++ rest
  again : (more : List Token) → Next rest more → after_one_space (front ++ more) ≡ more
  head : (more : List Token) → Next rest more → Next ts (front ++ more)

no_space : (t : Token) (ts : List Token) → is_space t ≡ false → after_one_space (t ∷ ts) ≡ t ∷ ts
no_space t ts e = rw e refl

space_end : (more : List Token) → Next [] more → after_one_space more ≡ more
space_end [] n = refl
space_end (u ∷ us) (inl same) = absurd (cc)
space_end (u ∷ us) (inr word) = no_space u us (word_space u.kind word)

space_here : (t : Token) (rest more : List Token) → is_space t ≡ false → Next (t ∷ rest) more → after_one_space more ≡ more
space_here t rest [] e n = refl
space_here t rest (u ∷ us) e (inl same) = let h : u ≡ t = cc in no_space u us (ap is_space h ∙ e)
space_here t rest (u ∷ us) e (inr word) = no_space u us (word_space u.kind word)

space_by : (t : Token) (rest : List Token) (b : Bool) → is_space t ≡ b → SpaceFront (t ∷ rest) (if b then rest else t ∷ rest)
space_by t rest true e = record { front = t ∷ []; is = refl; again = λ more n. rw e refl; head = λ more n. inl refl }
space_by t rest false e = record { front = []; is = refl; again = λ more n. space_here t rest more e n; head = λ more n. n }

space_front : (ts : List Token) → SpaceFront ts (after_one_space ts)
space_front [] = record { front = []; is = refl; again = λ more n. space_end more n; head = λ more n. n }
space_front (t ∷ rest) = space_by t rest (is_space t) refl

-- ---- numbers

abbrev whole_of : Signs → ℕ → Read ℤ
whole_of s n = then_read (unsigned_number s.rest) (λ (value : ℕ) (rest : List Token). in_bound n s.minus value rest)

whole_again : (ts : List Token) (value : ℕ) (rest : List Token) → nat_le value max_number ≡ true → Front unsigned_number (signs false ts).rest rest value
    → Front whole_number ts (after_one_space rest) (with_sign (signs false ts).minus (pos value))
whole_again ts value rest le u =
    let s = signs_front false ts in
    let p = space_front rest in
    let minus = (signs false ts).minus in
    record {
      front = s.front ++ (u.front ++ p.front);
      is =
          s.is
          ∙ (ap (λ (l : List Token). s.front ++ l) (u.is ∙ (ap (λ (l : List Token). u.front ++ l) p.is ∙ sym (append_assoc u.front p.front (after_one_space rest))))
          ∙ sym (append_assoc s.front (u.front ++ p.front) (after_one_space rest)));
      some = λ a b.
          ap first_token (append_assoc s.front (u.front ++ p.front) a)
          ∙ (heads s.front ((u.front ++ p.front) ++ a) ((u.front ++ p.front) ++ b)
          (ap first_token (append_assoc u.front p.front a) ∙ (u.some (p.front ++ a) (p.front ++ b) ∙ sym (ap first_token (append_assoc u.front p.front b))))
          ∙ sym (ap first_token (append_assoc s.front (u.front ++ p.front) b)));
      again = λ more n.
          let tail = p.front ++ more in
          let all : (s.front ++ (u.front ++ p.front)) ++ more ≡ s.front ++ (u.front ++ tail) =
          append_assoc s.front (u.front ++ p.front) more ∙ ap (λ (l : List Token). s.front ++ l) (append_assoc u.front p.front more) in
          let same : first_token (u.front ++ tail) ≡ first_token (signs false ts).rest = u.some tail rest ∙ sym (ap first_token u.is) in
          ap whole_number all
          ∙ (ap (λ (x : Signs). whole_of x (length (s.front ++ (u.front ++ tail)))) (s.again (u.front ++ tail) same)
          ∙ (ap (λ (r : Read ℕ). then_read r (λ (value : ℕ) (rest : List Token). in_bound (length (s.front ++ (u.front ++ tail))) minus value rest)) (u.again tail (p.head more n))
          ∙ (ap (λ (b : Bool). if b then Got (with_sign minus (pos value)) (after_one_space tail) else Fault BadNumber (length (s.front ++ (u.front ++ tail)))) le
          ∙ ap (λ (l : List Token). let r : Read ℤ = Got (with_sign minus (pos value)) l in r) (p.again more n))));
    }

whole_bound : (ts : List Token) (value : ℕ) (rest : List Token) (b : Bool) → nat_le value max_number ≡ b → Front unsigned_number (signs false ts).rest rest value
    → FrontOf whole_number ts (if b then Got (with_sign (signs false ts).minus (pos value)) (after_one_space rest) else Fault BadNumber (length ts))
whole_bound ts value rest true le u = whole_again ts value rest le u
whole_bound ts value rest false le u = tt

whole_by : (ts : List Token) (r : Read ℕ) → FrontOf unsigned_number (signs false ts).rest r
    → FrontOf whole_number ts (then_read r (λ (value : ℕ) (rest : List Token). in_bound (length ts) (signs false ts).minus value rest))
whole_by ts (Got value rest) u = whole_bound ts value rest (nat_le value max_number) refl u
whole_by ts (Fault cause left) u = tt
whole_by ts NoTurn u = tt

whole_front : (ts : List Token) → FrontOf whole_number ts (whole_number ts)
whole_front ts = whole_by ts (unsigned_number (signs false ts).rest) (unsigned_front (signs false ts).rest)

number_bound : (most : ℕ) (ts : List Token) (n : ℕ) (rest : List Token) (b : Bool) → nat_le n most ≡ b → Front whole_number ts rest (pos n) → FrontOf (number_to most) ts (if b then Got n rest else Fault BadNumber (length ts))
number_bound most ts n rest true le w = record {
  front = w.front;
  is = w.is;
  some = w.some;
  again = λ more m.
      ap (λ (r : Read ℤ). then_read r (λ (n : ℤ) (rest : List Token). at_most most (length (w.front ++ more)) n rest)) (w.again more m)
      ∙ ap (λ (b : Bool). if b then Got n more else Fault BadNumber (length (w.front ++ more))) le;
}
number_bound most ts n rest false le w = tt

number_by : (most : ℕ) (ts : List Token) (r : Read ℤ) → FrontOf whole_number ts r → FrontOf (number_to most) ts (then_read r (λ (n : ℤ) (rest : List Token). at_most most (length ts) n rest))
number_by most ts (Got (pos n) rest) w = number_bound most ts n rest (nat_le n most) refl w
number_by most ts (Got (negsuc n) rest) w = tt
number_by most ts (Fault cause left) w = tt
number_by most ts NoTurn w = tt

number_front : (most : ℕ) (ts : List Token) → FrontOf (number_to most) ts (number_to most ts)
number_front most ts = number_by most ts (whole_number ts) (whole_front ts)

delimiter_bound : (ts : List Token) (n : ℕ) (rest : List Token) (b : Bool) → nat_le n max_delimiter_code ≡ b → Front whole_number ts rest (pos n) → FrontOf delimiter_value ts (if b then Got (Some n) rest else Fault BadNumber (length ts))
delimiter_bound ts n rest true le w = record {
  front = w.front;
  is = w.is;
  some = w.some;
  again = λ more m.
      ap (λ (r : Read ℤ). then_read r (code_or_none (length (w.front ++ more)))) (w.again more m)
      ∙ ap (λ (b : Bool). if b then Got (Some n) more else Fault BadNumber (length (w.front ++ more))) le;
}
delimiter_bound ts n rest false le w = tt

delimiter_by : (ts : List Token) (r : Read ℤ) → FrontOf whole_number ts r → FrontOf delimiter_value ts (then_read r (code_or_none (length ts)))
delimiter_by ts (Got (pos n) rest) w = delimiter_bound ts n rest (nat_le n max_delimiter_code) refl w
delimiter_by ts (Got (negsuc n) rest) w = record {
  front = w.front;
  is = w.is;
  some = w.some;
  again = λ more m. ap (λ (r : Read ℤ). then_read r (code_or_none (length (w.front ++ more)))) (w.again more m);
}
delimiter_by ts (Fault cause left) w = tt
delimiter_by ts NoTurn w = tt

delimiter_front : (ts : List Token) → FrontOf delimiter_value ts (delimiter_value ts)
delimiter_front ts = delimiter_by ts (whole_number ts) (whole_front ts)

-- ---- assignments

-- tokens that are passed
record SkipFront (skip : List Token → List Token) (ts rest : List Token) : Type 0 where
  front : List Token
  is : ts ≡ front ++ rest
  again : (more : List Token) → first_token more ≡ first_token rest → skip (front ++ more) ≡ more

skip_end : (skip : List Token → List Token) (more : List Token) → skip [] ≡ [] → first_token more ≡ None → skip more ≡ more
skip_end skip [] e none = e
skip_end skip (t ∷ ts) e none = absurd (cc)

skip_here : (skip : List Token → List Token) (t : Token) (more : List Token) → ((l : List Token) → skip (t ∷ l) ≡ t ∷ l) → first_token more ≡ Some t → skip more ≡ more
skip_here skip t [] e same = absurd (cc)
skip_here skip t (u ∷ us) e same = let h : u ≡ t = cc in ap (λ (x : Token). skip (x ∷ us)) h ∙ (e us ∙ ap (λ (x : Token). x ∷ us) (sym h))

spaces_by : (t : Token) (rest : List Token) (b : Bool) → is_space t ≡ b → SkipFront after_spaces rest (after_spaces rest) → SkipFront after_spaces (t ∷ rest) (elim b [ true ↦ after_spaces rest | false ↦ t ∷ rest ])
spaces_by t rest true e f = record {
  front = t ∷ f.front;
  is = ap (λ (l : List Token). t ∷ l) f.is;
  again = λ more same. ap (λ (b : Bool). elim b [ true ↦ after_spaces (f.front ++ more) | false ↦ t ∷ f.front ++ more ]) e ∙ f.again more same;
}
spaces_by t rest false e f = record {
  front = [];
  is = refl;
  again = λ more same. skip_here after_spaces t more (λ l. ap (λ (b : Bool). elim b [ true ↦ after_spaces l | false ↦ t ∷ l ]) e) same;
}

spaces_front : (ts : List Token) → SkipFront after_spaces ts (after_spaces ts)
spaces_front [] = record { front = []; is = refl; again = λ more none. skip_end after_spaces more refl none }
spaces_front (t ∷ rest) = spaces_by t rest (is_space t) refl (spaces_front rest)

equals_by : (t : Token) (rest : List Token) (b : Bool) → (character_code t.kind == 61) ≡ b → SkipFront after_equals (t ∷ rest) (if b then after_spaces rest else t ∷ rest)
equals_by t rest true e =
    let f = spaces_front rest in
    record { front = t ∷ f.front; is = ap (λ (l : List Token). t ∷ l) f.is; again = λ more same. rw e (f.again more same) }
equals_by t rest false e = record { front = []; is = refl; again = λ more same. skip_here after_equals t more (λ l. rw e refl) same }

equals_front : (ts : List Token) → SkipFront after_equals ts (after_equals ts)
equals_front [] = record { front = []; is = refl; again = λ more none. skip_end after_equals more refl none }
equals_front (t ∷ rest) = equals_by t rest (character_code t.kind == 61) refl

abbrev to_code : List Token → List Token
to_code after = after_equals (after_spaces after)

code_front : (after : List Token) → SkipFront to_code after (to_code after)
code_front after =
    let s = spaces_front after in
    let q = equals_front (after_spaces after) in
    record {
      front = s.front ++ q.front;
      is = s.is ∙ (ap (λ (l : List Token). s.front ++ l) q.is ∙ sym (append_assoc s.front q.front (to_code after)));
      again = λ more same.
          ap to_code (append_assoc s.front q.front more)
          ∙ (ap after_equals (s.again (q.front ++ more) (heads q.front more (to_code after) same ∙ sym (ap first_token q.is))) ∙ q.again more same);
    }

module _ {A : Type 0} (code : List Token → Read A) (change : ℕ → A → CodeTables) where
  value_by : (ts after : List Token) (c : ℕ) (r : Read A) → Front (number_to 127) ts after c → FrontOf code (to_code after) r
      → FrontOf (assignment code change) ts (then_read r (λ value rest. Got (change c value) rest))
  value_by ts after c (Got value rest) n v =
      let q = code_front after in
      let assign = λ (c : ℕ) (after : List Token). then_read (code (to_code after)) (λ value rest. Got (change c value) rest) in
      record {
        front = n.front ++ (q.front ++ v.front);
        is =
            n.is
            ∙ (ap (λ (l : List Token). n.front ++ l) (q.is ∙ (ap (λ (l : List Token). q.front ++ l) v.is ∙ sym (append_assoc q.front v.front rest)))
            ∙ sym (append_assoc n.front (q.front ++ v.front) rest));
        some = λ a b.
            ap first_token (append_assoc n.front (q.front ++ v.front) a) ∙ (n.some ((q.front ++ v.front) ++ a) ((q.front ++ v.front) ++ b) ∙ sym (ap first_token (append_assoc n.front (q.front ++ v.front) b)));
        again = λ more m.
            let tail = v.front ++ more in
            let all : (n.front ++ (q.front ++ v.front)) ++ more ≡ n.front ++ (q.front ++ tail) =
            append_assoc n.front (q.front ++ v.front) more ∙ ap (λ (l : List Token). n.front ++ l) (append_assoc q.front v.front more) in
            let same : first_token tail ≡ first_token (to_code after) = v.some more rest ∙ sym (ap first_token v.is) in
            let head : first_token (q.front ++ tail) ≡ first_token after = heads q.front tail (to_code after) same ∙ sym (ap first_token q.is) in
            ap (assignment code change) all
            ∙ (ap (λ (r : Read ℕ). then_read r assign) (n.again (q.front ++ tail) (inl head))
            ∙ (ap (λ (l : List Token). then_read (code l) (λ value rest. Got (change c value) rest)) (q.again tail same)
            ∙ ap (λ (r : Read A). then_read r (λ value rest. Got (change c value) rest)) (v.again more m)));
      }
  value_by ts after c (Fault cause left) n v = tt
  value_by ts after c NoTurn n v = tt

  assigned_by : (ts : List Token) (r : Read ℕ) → ((l : List Token) → FrontOf code l (code l)) → FrontOf (number_to 127) ts r
      → FrontOf (assignment code change) ts (then_read r (λ c after. then_read (code (to_code after)) (λ value rest. Got (change c value) rest)))
  assigned_by ts (Got c after) h n = value_by ts after c (code (to_code after)) n (h (to_code after))
  assigned_by ts (Fault cause left) h n = tt
  assigned_by ts NoTurn h n = tt

  assignment_front : ((l : List Token) → FrontOf code l (code l)) → (ts : List Token) → FrontOf (assignment code change) ts (assignment code change ts)
  assignment_front h ts = assigned_by ts (number_to 127 ts) h (number_front 127 ts)

pub math_code_front : (tables : CodeTables) (ts : List Token) → FrontOf (math_code_assignment tables) ts (math_code_assignment tables ts)
math_code_front tables ts = assignment_front (number_to max_math_code) (with_math_code tables) (number_front max_math_code) ts

pub delcode_front : (tables : CodeTables) (ts : List Token) → FrontOf (delcode_assignment tables) ts (delcode_assignment tables ts)
delcode_front tables ts = assignment_front delimiter_value (with_delcode tables) delimiter_front ts

-- ---- definitions

record GroupFront (level : ℕ) (ts : List Token) (taken : Taken) : Type 0 where
  front : List Token
  is : ts ≡ front ++ taken.after
  again : (more : List Token) → group level (front ++ more) ≡ Some (record { argument = taken.argument; after = more })

abbrev GroupFrontOf : ℕ → List Token → Option Taken → Type 0
GroupFrontOf level ts None = ⊤
GroupFrontOf level ts (Some taken) = GroupFront level ts taken

group_onto : (level : ℕ) (t : Token) (rest : List Token) (inner : Option Taken) → ((level == 0) && is_close t) ≡ false → GroupFrontOf (level_after level t) rest inner → GroupFrontOf level (t ∷ rest) (onto t inner)
group_onto level t rest None e f = tt
group_onto level t rest (Some taken) e f = record {
  front = t ∷ f.front;
  is = ap (λ (l : List Token). t ∷ l) f.is;
  again = λ more. rw e (ap (onto t) (f.again more));
}

group_by : (level : ℕ) (t : Token) (rest : List Token) (b : Bool) → ((level == 0) && is_close t) ≡ b → GroupFrontOf (level_after level t) rest (group (level_after level t) rest)
    → GroupFrontOf level (t ∷ rest) (if b then Some (record { argument = []; after = rest }) else onto t (group (level_after level t) rest))
group_by level t rest true e f = record { front = t ∷ []; is = refl; again = λ more. rw e refl }
group_by level t rest false e f = group_onto level t rest (group (level_after level t) rest) e f

group_front : (level : ℕ) (ts : List Token) → GroupFrontOf level ts (group level ts)
group_front level [] = tt
group_front level (t ∷ rest) = group_by level t rest ((level == 0) && is_close t) refl (group_front (level_after level t) rest)

-- parameters, up to the { that is left
record ParametersFront (count : ℕ) (ts rest : List Token) (params : ℕ) : Type 0 where
  front : List Token
  is : ts ≡ front ++ rest
  again : (more : List Token) → first_token more ≡ first_token rest → parameters count (front ++ more) ≡ Got params more

abbrev ParametersFrontOf : ℕ → List Token → ReadOr OutsideCause ℕ → Type 0
ParametersFrontOf count ts (Got params rest) = ParametersFront count ts rest params
ParametersFrontOf count ts (Fault cause left) = ⊤
ParametersFrontOf count ts NoTurn = ⊤

no_parameter : (count : ℕ) (t : Token) (more : List Token) → is_parameter count t ≡ false → is_open t ≡ true → first_token more ≡ Some t → parameters count more ≡ Got count more
no_parameter count t [] e o same = absurd (cc)
no_parameter count t (u ∷ []) e o same =
    let h : u ≡ t = cc in
    let p : is_parameter count u ≡ false = ap (is_parameter count) h ∙ e in
    let q : is_open u ≡ true = ap is_open h ∙ o in
    ap (λ (b : Bool). if b then Fault BadDefinition 0 else after_parameters count (u ∷ [])) p ∙ ap (λ (b : Bool). if b then Got count (u ∷ []) else Fault BadDefinition 1) q
no_parameter count t (u ∷ v ∷ us) e o same =
    let h : u ≡ t = cc in
    let p : is_parameter count u ≡ false = ap (is_parameter count) h ∙ e in
    let q : is_open u ≡ true = ap is_open h ∙ o in
    let other : ReadOr OutsideCause ℕ = elim (character_code v.kind == 49 + count) [ true ↦ parameters (count + 1) us | false ↦ Fault BadDefinition (length us + 1) ] in
    let first : parameters count (u ∷ v ∷ us) ≡ after_parameters count (u ∷ v ∷ us) = ap (λ (b : Bool). elim b [ true ↦ other | false ↦ after_parameters count (u ∷ v ∷ us) ]) p in
    first ∙ ap (λ (b : Bool). if b then Got count (u ∷ v ∷ us) else Fault BadDefinition (length (v ∷ us) + 1)) q

opened : (count : ℕ) (t : Token) (rest : List Token) (b : Bool) → is_parameter count t ≡ false → is_open t ≡ b → ParametersFrontOf count (t ∷ rest) (if b then Got count (t ∷ rest) else Fault BadDefinition (length rest + 1))
opened count t rest true e o = record { front = []; is = refl; again = λ more same. no_parameter count t more e o same }
opened count t rest false e o = tt

last_parameter : (count : ℕ) (t : Token) (b : Bool) → is_parameter count t ≡ b → ParametersFrontOf count (t ∷ []) (if b then Fault BadDefinition 0 else after_parameters count (t ∷ []))
last_parameter count t true e = tt
last_parameter count t false e = opened count t [] (is_open t) e refl

one_parameter : (count : ℕ) (t u : Token) (rest : List Token) (r : ReadOr OutsideCause ℕ) → is_parameter count t ≡ true → (character_code u.kind == 49 + count) ≡ true → ParametersFrontOf (count + 1) rest r
    → ParametersFrontOf count (t ∷ u ∷ rest) r
one_parameter count t u rest (Got params left) e d f = record {
  front = t ∷ u ∷ f.front;
  is = ap (λ (l : List Token). t ∷ u ∷ l) f.is;
  again = λ more same.
      let l = f.front ++ more in
      ap (λ (b : Bool). elim b [ true ↦ elim (character_code u.kind == 49 + count) [ true ↦ parameters (count + 1) l | false ↦ Fault BadDefinition (length l + 1) ] | false ↦ after_parameters count (t ∷ u ∷ l) ]) e
      ∙ (ap (λ (c : Bool). elim c [ true ↦ parameters (count + 1) l | false ↦ Fault BadDefinition (length l + 1) ]) d ∙ f.again more same);
}
one_parameter count t u rest (Fault cause left) e d f = tt
one_parameter count t u rest NoTurn e d f = tt

parameter_by : (count : ℕ) (t u : Token) (rest : List Token) (b c : Bool) → is_parameter count t ≡ b → (character_code u.kind == 49 + count) ≡ c → ParametersFrontOf (count + 1) rest (parameters (count + 1) rest)
    → ParametersFrontOf count (t ∷ u ∷ rest) (elim b [ true ↦ elim c [ true ↦ parameters (count + 1) rest | false ↦ Fault BadDefinition (length rest + 1) ] | false ↦ after_parameters count (t ∷ u ∷ rest) ])
parameter_by count t u rest true true e d f = one_parameter count t u rest (parameters (count + 1) rest) e d f
parameter_by count t u rest true false e d f = tt
parameter_by count t u rest false c e d f = opened count t (u ∷ rest) (is_open t) e refl

parameters_front : (count : ℕ) (ts : List Token) → ParametersFrontOf count ts (parameters count ts)
parameters_front count [] = tt
parameters_front count (t ∷ []) = last_parameter count t (is_parameter count t) refl
parameters_front count (t ∷ u ∷ rest) =
    parameter_by count t u rest (is_parameter count t) (character_code u.kind == 49 + count) refl refl (parameters_front (count + 1) rest)

checked_front : (name : List ℕ) (params : ℕ) (t : Token) (rest : List Token) (taken : Taken) (bad : Option ℕ) → first_bad_parameter params taken.argument ≡ bad → GroupFront 0 rest taken
    → FrontOf (definition_body name params) (t ∷ rest) (checked_body name params (length rest) taken bad)
checked_front name params t rest taken None e g = record {
  front = t ∷ g.front;
  is = ap (λ (l : List Token). t ∷ l) g.is;
  some = λ a b. refl;
  again = λ more n.
      ap (definition_body_in name params (length (g.front ++ more))) (g.again more)
      ∙ ap (checked_body name params (length (g.front ++ more)) (record { argument = taken.argument; after = more })) e;
}
checked_front name params t rest taken (Some place) e g = tt

body_by : (name : List ℕ) (params : ℕ) (t : Token) (rest : List Token) (o : Option Taken) → GroupFrontOf 0 rest o → FrontOf (definition_body name params) (t ∷ rest) (definition_body_in name params (length rest) o)
body_by name params t rest None g = tt
body_by name params t rest (Some taken) g = checked_front name params t rest taken (first_bad_parameter params taken.argument) refl g

body_front : (name : List ℕ) (params : ℕ) (ts : List Token) → FrontOf (definition_body name params) ts (definition_body name params ts)
body_front name params [] = tt
body_front name params (t ∷ rest) = body_by name params t rest (group 0 rest) (group_front 0 rest)

named_body : (t : Token) (name : List ℕ) (rest : List Token) (params : ℕ) (after : List Token) (r : ReadOr OutsideCause MacroDefinition) → t.kind ≡ Control name → ParametersFront 0 rest after params → FrontOf (definition_body name params) after r
    → FrontOf macro_definition (t ∷ rest) r
named_body t name rest params after (Got d left) k p b = record {
  front = t ∷ p.front ++ b.front;
  is = ap (λ (l : List Token). t ∷ l) (p.is ∙ (ap (λ (l : List Token). p.front ++ l) b.is ∙ sym (append_assoc p.front b.front left)));
  some = λ x y. refl;
  again = λ more n.
      let same : first_token (b.front ++ more) ≡ first_token after = b.some more left ∙ sym (ap first_token b.is) in
      ap (λ (kind : TokenKind). definition_by_kind kind ((p.front ++ b.front) ++ more)) k
      ∙ (ap (λ (l : List Token). then_read (parameters 0 l) (definition_body name)) (append_assoc p.front b.front more)
      ∙ (ap (λ (r : ReadOr OutsideCause ℕ). then_read r (definition_body name)) (p.again (b.front ++ more) same) ∙ b.again more n));
}
named_body t name rest params after (Fault cause left) k p b = tt
named_body t name rest params after NoTurn k p b = tt

named_by : (t : Token) (name : List ℕ) (rest : List Token) (r : ReadOr OutsideCause ℕ) → t.kind ≡ Control name → ParametersFrontOf 0 rest r → FrontOf macro_definition (t ∷ rest) (then_read r (definition_body name))
named_by t name rest (Got params after) k p = named_body t name rest params after (definition_body name params after) k p (body_front name params after)
named_by t name rest (Fault cause left) k p = tt
named_by t name rest NoTurn k p = tt

kind_by : (t : Token) (rest : List Token) (k : TokenKind) → t.kind ≡ k → FrontOf macro_definition (t ∷ rest) (definition_by_kind k rest)
kind_by t rest (Control name) k = named_by t name rest (parameters 0 rest) k (parameters_front 0 rest)
kind_by t rest (Char c) k = tt
kind_by t rest Space k = tt

pub definition_front : (ts : List Token) → FrontOf macro_definition ts (macro_definition ts)
definition_front [] = tt
definition_front (t ∷ rest) = kind_by t rest t.kind refl
