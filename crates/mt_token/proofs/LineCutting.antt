-- The tokens of a source that is cut after a line end are those of its parts (`cut_after_line`).
use Rattle.std.proofs.Common.{◌≡◌, ℕ, zero, suc, ◌+◌, ◌-◌, ◌≤◌, Bool, true, false, List, [], ◌∷◌, ◌++◌, length, take, refl, sym, ap, ◌∙◌, arith, append_assoc}
use Rattle.std.specs.Prelude.{map, nat_lt, ◌==◌, ◌&&◌, ◌||◌, ⊤, Ok, Err, if◌then◌else◌, codes}
use Rattle.std.proofs.lemmas.List.{map-append}
use Rattle.mt_token.specs.declared.token.ByteCause.{ByteCause}
use Rattle.mt_token.specs.declared.token.ByteCause.TheVariants as causes
use Rattle.mt_token.specs.declared.token.TokenError.{TokenError}
use Rattle.mt_token.specs.declared.token.TokenError.TheVariants.{NotAscii, BadByte}
use Rattle.mt_token.specs.declared.token.TokenKind.TheVariants.{Control, Char, Space}
use Rattle.mt_token.specs.declared.lexeme.State.{State}
use Rattle.mt_token.specs.declared.lexeme.State.TheVariants.{New, Middle, Skip}
use Rattle.mt_token.specs.Errors.{byte_error}
use Rattle.mt_token.specs.Lexemes.{Lexeme, Passed, Made, AtFault, after_return, at_blank, at_line_end, begins_with_hat, comment, control_symbol, is_blank, is_letter, is_visible, letters, lexeme, lexeme_after_escape, line_end}
use Rattle.mt_token.specs.LineCuts.{answer_later, error_later, later, lines_and}
use Rattle.mt_token.specs.Tokens.{Answer, Spanned, at_lexeme, before, lex}

-- ---- what is in front does not depend on what is behind the line end

module _ (b : List ℕ) where
  abbrev whole : List ℕ → List ℕ
  whole a = a ++ 10 ∷ b

  abbrev line : List ℕ → List ℕ
  line a = a ++ 10 ∷ []

  letters_same : (a : List ℕ) → letters (whole a) ≡ letters (line a)
  letters_same [] = refl
  letters_same (c ∷ a) = ap (λ (n : ℕ). if is_letter c then n + 1 else 0) (letters_same a)

  few_letters : (a : List ℕ) → letters (line a) ≤ length a
  few_letters [] = omega arith
  few_letters (c ∷ a) = by_letter (is_letter c) (few_letters a) where
    by_letter : (l : Bool) → letters (line a) ≤ length a → (if l then letters (line a) + 1 else 0) ≤ length (c ∷ a)
    by_letter true le = omega (arith, le)
    by_letter false le = omega arith

  take_same : (n : ℕ) (a : List ℕ) → n ≤ length a → take n (whole a) ≡ take n (line a)
  take_same zero a le = refl
  take_same (suc n) [] le = absurd (omega (arith, le))
  take_same (suc n) (c ∷ a) le = ap (λ (l : List ℕ). c ∷ l) (take_same n a (omega (arith, le)))

  comment_same : (a : List ℕ) → comment (whole a) ≡ comment (line a)
  comment_same [] = refl
  comment_same (c ∷ a) = ap (λ (n : ℕ). if c == 10 then 1 else n + 1) (comment_same a)

  return_same : (a : List ℕ) → after_return (whole a) ≡ after_return (line a)
  return_same [] = refl
  return_same (c ∷ a) = refl

  end_same : (c : ℕ) (a : List ℕ) → line_end (c ∷ whole a) ≡ line_end (c ∷ line a)
  end_same c a = ap (λ (n : ℕ). if c == 10 then 1 else if c == 13 then n else 0) (return_same a)

  hat_same : (a : List ℕ) → begins_with_hat (whole a) ≡ begins_with_hat (line a)
  hat_same [] = refl
  hat_same (c ∷ a) = refl

  symbol_same : (a : List ℕ) → control_symbol (whole a) ≡ control_symbol (line a)
  symbol_same [] = refl
  symbol_same (c ∷ a) =
      ap (λ (n : ℕ). if is_blank c || nat_lt 0 n then AtFault causes.BadByte 0 else if is_visible c then Made (Control (c ∷ [])) 2 Middle else if nat_lt 127 c then AtFault causes.NotAscii 1 else AtFault causes.BadByte 1) (end_same c a)

  escape_same : (a : List ℕ) → lexeme_after_escape (whole a) ≡ lexeme_after_escape (line a)
  escape_same a =
      let n = letters (line a) in
      ap (λ (k : ℕ). if nat_lt 0 k then Made (Control (take k (whole a))) (k + 1) Skip else control_symbol (whole a)) (letters_same a)
      ∙ (ap (λ (l : List ℕ). if nat_lt 0 n then Made (Control l) (n + 1) Skip else control_symbol (whole a)) (take_same n a (few_letters a))
      ∙ ap (λ (x : Lexeme). if nat_lt 0 n then Made (Control (take n (line a))) (n + 1) Skip else x) (symbol_same a))

  lexeme_same : (state : State) (c : ℕ) (a : List ℕ) → lexeme state (c ∷ whole a) ≡ lexeme state (c ∷ line a)
  lexeme_same state c a =
      let by = λ (end passed : ℕ) (escape : Lexeme) (hat : Bool).
      if nat_lt 0 end then at_line_end state end
      else if is_blank c then at_blank state
      else if c == 37 then Passed (1 + passed) New
      else if c == 92 then escape
      else if (c == 94) && hat then AtFault causes.BadByte 1
      else if c == 126 then AtFault causes.BadByte 0
      else if is_visible c then Made (Char c) 1 Middle
      else if nat_lt 127 c then AtFault causes.NotAscii 0
      else AtFault causes.BadByte 0 in
      ap (λ (n : ℕ). by n (comment (whole a)) (lexeme_after_escape (whole a)) (begins_with_hat (whole a))) (end_same c a)
      ∙ (ap (λ (n : ℕ). by (line_end (c ∷ line a)) n (lexeme_after_escape (whole a)) (begins_with_hat (whole a))) (comment_same a)
      ∙ (ap (λ (x : Lexeme). by (line_end (c ∷ line a)) (comment (line a)) x (begins_with_hat (whole a))) (escape_same a)
      ∙ ap (by (line_end (c ∷ line a)) (comment (line a)) (lexeme_after_escape (line a))) (hat_same a)))

-- ---- a lexeme of a line is within it, and after its last byte the state is that of a new line

abbrev Inside : ℕ → Lexeme → Type 0
Inside n (Passed count state) = (count ≤ n + 1) × (count ≡ n + 1 → state ≡ New)
Inside n (Made kind count state) = (count ≤ n + 1) × (count ≡ n + 1 → state ≡ New)
Inside n (AtFault cause on) = ⊤

abbrev line_of : List ℕ → List ℕ
line_of a = a ++ 10 ∷ []

comment_inside : (a : List ℕ) → comment (line_of a) ≤ length a + 1
comment_inside [] = omega arith
comment_inside (c ∷ a) = by_end (c == 10) (comment_inside a) where
  by_end : (b : Bool) → comment (line_of a) ≤ length a + 1 → (if b then 1 else comment (line_of a) + 1) ≤ length (c ∷ a) + 1
  by_end true le = omega arith
  by_end false le = omega (arith, le)

return_inside : (a : List ℕ) → after_return (line_of a) ≤ length a + 2
return_inside [] = omega arith
return_inside (c ∷ a) = by_end (c == 10) where
  by_end : (b : Bool) → (if b then 2 else 0) ≤ length (c ∷ a) + 2
  by_end true = omega arith
  by_end false = omega arith

end_inside : (c : ℕ) (a : List ℕ) → line_end (c ∷ line_of a) ≤ length a + 2
end_inside c a = by_end (c == 10) (c == 13) where
  by_end : (b d : Bool) → (if b then 1 else if d then after_return (line_of a) else 0) ≤ length a + 2
  by_end true d = omega arith
  by_end false true = return_inside a
  by_end false false = omega arith

at_end_inside : (state : State) (count n : ℕ) → count ≤ n + 1 → Inside n (at_line_end state count)
at_end_inside New count n le = (le, λ e. refl)
at_end_inside Middle count n le = (le, λ e. refl)
at_end_inside Skip count n le = (le, λ e. refl)

blank_inside : (state : State) (n : ℕ) → 1 ≤ n → Inside n (at_blank state)
blank_inside New n some = (omega arith, λ e. refl)
blank_inside Middle n some = (omega arith, λ e. absurd (omega (arith, some, e)))
blank_inside Skip n some = (omega arith, λ e. absurd (omega (arith, some, e)))

symbol_inside : (a : List ℕ) → Inside (length a + 1) (control_symbol (line_of a))
symbol_inside [] = tt
symbol_inside (c ∷ a) = by_tests (is_blank c || nat_lt 0 (line_end (c ∷ line_of a))) (is_visible c) (nat_lt 127 c) where
  by_tests : (b d f : Bool) → Inside (length (c ∷ a) + 1) (if b then AtFault causes.BadByte 0 else if d then Made (Control (c ∷ [])) 2 Middle else if f then AtFault causes.NotAscii 1 else AtFault causes.BadByte 1)
  by_tests true d f = tt
  by_tests false true f = (omega arith, λ e. absurd (omega (arith, e)))
  by_tests false false true = tt
  by_tests false false false = tt

escape_inside : (a : List ℕ) → Inside (length a + 1) (lexeme_after_escape (line_of a))
escape_inside a = by_letters (nat_lt 0 (letters (line_of a))) where
  by_letters : (b : Bool) → Inside (length a + 1) (if b then Made (Control (take (letters (line_of a)) (line_of a))) (letters (line_of a) + 1) Skip else control_symbol (line_of a))
  by_letters true = (omega (arith, few_letters [] a), λ e. absurd (omega (arith, e, few_letters [] a)))
  by_letters false = symbol_inside a

lexeme_inside : (state : State) (c : ℕ) (a : List ℕ) → Inside (length a + 1) (lexeme state (c ∷ line_of a))
lexeme_inside state c a =
    by_tests (nat_lt 0 (line_end (c ∷ line_of a))) (is_blank c) (c == 37) (c == 92) ((c == 94) && begins_with_hat (line_of a)) (c == 126) (is_visible c) (nat_lt 127 c) where
      by_tests : (b d f g h i j k : Bool) → Inside (length a + 1)
          (if b then at_line_end state (line_end (c ∷ line_of a))
          else if d then at_blank state
          else if f then Passed (1 + comment (line_of a)) New
          else if g then lexeme_after_escape (line_of a)
          else if h then AtFault causes.BadByte 1
          else if i then AtFault causes.BadByte 0
          else if j then Made (Char c) 1 Middle
          else if k then AtFault causes.NotAscii 0
          else AtFault causes.BadByte 0)
      by_tests true d f g h i j k = at_end_inside state (line_end (c ∷ line_of a)) (length a + 1) (omega (arith, end_inside c a))
      by_tests false true f g h i j k = blank_inside state (length a + 1) (omega arith)
      by_tests false false true g h i j k = (omega (arith, comment_inside a), λ e. refl)
      by_tests false false false true h i j k = escape_inside a
      by_tests false false false false true i j k = tt
      by_tests false false false false false true j k = tt
      by_tests false false false false false false true k = (omega arith, λ e. absurd (omega (arith, e)))
      by_tests false false false false false false false true = tt
      by_tests false false false false false false false false = tt

-- ---- the tokens

before_none : (r : Answer) → before [] r ≡ r
before_none (Ok list) = refl
before_none (Err cause) = refl

and_before : (done : List Spanned) (r more : Answer) → before done (lines_and r more) ≡ lines_and (before done r) more
and_before done (Ok list) (Ok more) = ap (λ (l : List Spanned). let x : Answer = Ok l in x) (sym (append_assoc done list more))
and_before done (Ok list) (Err cause) = refl
and_before done (Err cause) more = refl

none_and : (more : Answer) → lines_and (Ok []) more ≡ more
none_and (Ok list) = refl
none_and (Err cause) = refl

last_line_end : (state : State) (at : ℕ) (b : List ℕ) → lex state at 0 (10 ∷ b) ≡ lines_and (lex state at 0 (10 ∷ [])) (lex New (at + 1) 0 b)
last_line_end New at b = by_rest (lex New (at + 1) 0 b) where
  by_rest : (r : Answer) → before (record { kind = Control (codes "par"); start = at; end = at + 1 } ∷ []) r ≡ lines_and (Ok (record { kind = Control (codes "par"); start = at; end = at + 1 } ∷ [])) r
  by_rest (Ok list) = refl
  by_rest (Err cause) = refl
last_line_end Middle at b = by_rest (lex New (at + 1) 0 b) where
  by_rest : (r : Answer) → before (record { kind = Space; start = at; end = at + 1 } ∷ []) r ≡ lines_and (Ok (record { kind = Space; start = at; end = at + 1 } ∷ [])) r
  by_rest (Ok list) = refl
  by_rest (Err cause) = refl
last_line_end Skip at b = sym (none_and (lex New (at + 1) 0 b))

-- what is lexed behind the first byte
abbrev Further : List ℕ → List ℕ → ℕ → Type 0
Further a b at = (next : State) (skip : ℕ) → skip ≤ length a + 1 → (skip ≡ length a + 1 → next ≡ New)
    → lex next (at + 1) skip (a ++ 10 ∷ b) ≡ lines_and (lex next (at + 1) skip (a ++ 10 ∷ [])) (lex New (((at + 1) + length a) + 1) 0 b)

lex_lines : (a b : List ℕ) (state : State) (at skip : ℕ) → skip ≤ length a + 1 → (skip ≡ length a + 1 → state ≡ New) → lex state at skip (a ++ 10 ∷ b) ≡ lines_and (lex state at skip (a ++ 10 ∷ [])) (lex New ((at + length a) + 1) 0 b)
lex_lines [] b state at zero le new = last_line_end state at b ∙ ap (λ (n : ℕ). lines_and (lex state at 0 (10 ∷ [])) (lex New n 0 b)) (same at) where
  same : (at : ℕ) → at + 1 ≡ (at + 0) + 1
  same at = omega arith
lex_lines [] b state at (suc zero) le new =
    let same : at + 1 ≡ (at + 0) + 1 = omega arith in
    ap (λ (s : State). lex s (at + 1) 0 b) (new (omega arith)) ∙ (ap (λ (n : ℕ). lex New n 0 b) same ∙ sym (none_and (lex New ((at + 0) + 1) 0 b)))
lex_lines [] b state at (suc (suc skip)) le new = absurd (omega (arith, le))
lex_lines (c ∷ a) b state at (suc skip) le new =
    let same : ((at + 1) + length a) + 1 ≡ (at + length (c ∷ a)) + 1 = omega arith in
    lex_lines a b state (at + 1) skip (omega (arith, le)) (λ e. new (omega (arith, e)))
    ∙ ap (λ (n : ℕ). lines_and (lex state (at + 1) skip (a ++ 10 ∷ [])) (lex New n 0 b)) same
lex_lines (c ∷ a) b state at zero le new =
    ap (λ (x : Lexeme). at_lexeme x at (λ (next : State) (skip : ℕ). lex next (at + 1) skip (a ++ 10 ∷ b))) (lexeme_same b state c a)
    ∙ by_lexeme (lexeme state (c ∷ a ++ 10 ∷ [])) (lexeme_inside state c a) (λ next skip le new. lex_lines a b next (at + 1) skip le new) where
      rest : Further a b at → (count : ℕ) (next : State) → count ≤ (length a + 1) + 1 → (count ≡ (length a + 1) + 1 → next ≡ New)
          → lex next (at + 1) (count - 1) (a ++ 10 ∷ b) ≡ lines_and (lex next (at + 1) (count - 1) (a ++ 10 ∷ [])) (lex New ((at + length (c ∷ a)) + 1) 0 b)
      rest ih count next le new =
          let same : ((at + 1) + length a) + 1 ≡ (at + length (c ∷ a)) + 1 = omega arith in
          ih next (count - 1) (omega (arith, le)) (λ e. new (omega (arith, e)))
          ∙ ap (λ (n : ℕ). lines_and (lex next (at + 1) (count - 1) (a ++ 10 ∷ [])) (lex New n 0 b)) same

      by_lexeme : (x : Lexeme) → Inside (length a + 1) x → Further a b at
          → at_lexeme x at (λ (next : State) (skip : ℕ). lex next (at + 1) skip (a ++ 10 ∷ b))
          ≡ lines_and (at_lexeme x at (λ (next : State) (skip : ℕ). lex next (at + 1) skip (a ++ 10 ∷ []))) (lex New ((at + length (c ∷ a)) + 1) 0 b)
      by_lexeme (Passed count next) i ih = rest ih count next i.0 i.1
      by_lexeme (Made kind count next) i ih =
          let token : Spanned = record { kind = kind; start = at; end = at + count } in
          ap (before (token ∷ [])) (rest ih count next i.0 i.1) ∙ and_before (token ∷ []) (lex next (at + 1) (count - 1) (a ++ 10 ∷ [])) (lex New ((at + length (c ∷ a)) + 1) 0 b)
      by_lexeme (AtFault cause on) i ih = refl

-- ---- the same bytes later

before_later : (n : ℕ) (done : List Spanned) (r : Answer) → before (map (later n) done) (answer_later n r) ≡ answer_later n (before done r)
before_later n done (Ok list) = ap (λ (l : List Spanned). let x : Answer = Ok l in x) (sym (map-append (later n) done list))
before_later n done (Err cause) = refl

fault_later : (n at on : ℕ) (cause : ByteCause) → byte_error cause ((n + at) + on) ≡ error_later n (byte_error cause (at + on))
fault_later n at on causes.NotAscii = let e : (n + at) + on ≡ n + (at + on) = omega arith in ap NotAscii e
fault_later n at on causes.BadByte = let e : (n + at) + on ≡ n + (at + on) = omega arith in ap BadByte e

lex_later : (n : ℕ) (bytes : List ℕ) (state : State) (at skip : ℕ) → lex state (n + at) skip bytes ≡ answer_later n (lex state at skip bytes)
lex_later n [] state at zero = refl
lex_later n [] state at (suc skip) = refl
lex_later n (c ∷ rest) state at (suc skip) =
    let next : (n + at) + 1 ≡ n + (at + 1) = omega arith in
    ap (λ (k : ℕ). lex state k skip rest) next ∙ lex_later n rest state (at + 1) skip
lex_later n (c ∷ rest) state at zero = by_lexeme (lexeme state (c ∷ rest))
    (λ next skip. let one : (n + at) + 1 ≡ n + (at + 1) = omega arith in ap (λ (k : ℕ). lex next k skip rest) one ∙ lex_later n rest next (at + 1) skip) where
      by_lexeme : (x : Lexeme) → ((next : State) (skip : ℕ) → lex next ((n + at) + 1) skip rest ≡ answer_later n (lex next (at + 1) skip rest))
          → at_lexeme x (n + at) (λ (next : State) (skip : ℕ). lex next ((n + at) + 1) skip rest) ≡ answer_later n (at_lexeme x at (λ (next : State) (skip : ℕ). lex next (at + 1) skip rest))
      by_lexeme (Passed count next) on = on next (count - 1)
      by_lexeme (Made kind count next) on =
          let end : (n + at) + count ≡ n + (at + count) = omega arith in
          let token : Spanned = record { kind = kind; start = at; end = at + count } in
          ap (λ (k : ℕ). before (record { kind = kind; start = n + at; end = k } ∷ []) (lex next ((n + at) + 1) (count - 1) rest)) end
          ∙ (ap (before (later n token ∷ [])) (on next (count - 1)) ∙ before_later n (token ∷ []) (lex next (at + 1) (count - 1) rest))
      by_lexeme (AtFault cause k) on = ap (λ (e : TokenError). let x : Answer = Err e in x) (fault_later n at k cause)

pub cut_after_line : (a b : List ℕ) → lex New 0 0 (a ++ 10 ∷ b) ≡ lines_and (lex New 0 0 (a ++ 10 ∷ [])) (answer_later (length a + 1) (lex New 0 0 b))
cut_after_line a b =
    let at : (0 + length a) + 1 ≡ (length a + 1) + 0 = omega arith in
    lex_lines a b New 0 0 (omega arith) (λ e. refl)
    ∙ ap (lines_and (lex New 0 0 (a ++ 10 ∷ []))) (ap (λ (n : ℕ). lex New n 0 b) at ∙ lex_later (length a + 1) b New 0 0)
