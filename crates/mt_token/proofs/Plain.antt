-- A plain character is a character in every state.
use Rattle.std.proofs.Common.{◌≡◌, ℕ, ◌+◌, ◌<◌, ◌≤◌, Bool, true, false, List, [], ◌∷◌, length, drop, refl, sym, subst, arith}
use Rattle.std.specs.Prelude.{Some, None, ◌&&◌, ◌==◌, not, if◌then◌else◌}
use Rattle.std.proofs.lemmas.Bool.{eqb-true}
use Rattle.std.proofs.lemmas.Bool.Decides.{nat_tests}
use Rattle.mt_token.specs.declared.token.TokenKind.TheVariants.{Char}
use Rattle.mt_token.specs.declared.lexeme.State.{State}
use Rattle.mt_token.specs.declared.lexeme.State.TheVariants.{Middle}
use Rattle.mt_token.specs.Lexemes.{Made, lexeme, is_visible, begins_with_hat, Fits}
use Rattle.mt_token.specs.Tokens.{before, lex}
use Rattle.mt_token.specs.Plain.{is_plain, plain_in_front}
use Rattle.mt_token.proofs.Lexed.{makes}

is_no : (b n : ℕ) → is_plain b ≡ true → is_plain n ≡ false → (b == n) ≡ false
is_no b n h k = grind (arith, nat_tests, h, k)

plain_lexeme : (state : State) (b : ℕ) (rest : List ℕ) → is_plain b ≡ true → lexeme state (b ∷ rest) ≡ Made (Char b) 1 Middle
plain_lexeme state b rest h =
    let v : is_visible b ≡ true = grind (arith, nat_tests, h) in
    rw (is_no b 10 h refl, is_no b 13 h refl, is_no b 9 h refl, is_no b 32 h refl, is_no b 37 h refl, is_no b 92 h refl, is_no b 94 h refl, is_no b 126 h refl, v) refl

hat_lexeme : (state : State) (rest : List ℕ) → begins_with_hat rest ≡ false → lexeme state (94 ∷ rest) ≡ Made (Char 94) 1 Middle
hat_lexeme state rest h = rw h refl

-- what is known of the rest by the plain character in front of it
record Front (c : ℕ) (xs : List ℕ) : Type 0 where
  ascii : c < 128
  is : (state : State) → lexeme state xs ≡ Made (Char c) 1 Middle
  within : 1 ≤ length xs

front_plain : (b : ℕ) (rest : List ℕ) → is_plain b ≡ true → Front b (b ∷ rest)
front_plain b rest h = record {
  ascii = grind (arith, nat_tests, h);
  is = λ state. plain_lexeme state b rest h;
  within = omega arith;
}

front_hat : (b : ℕ) (rest : List ℕ) → (b == 94) ≡ true → begins_with_hat rest ≡ false → Front b (b ∷ rest)
front_hat b rest h k = subst (λ n. Front n (n ∷ rest)) (sym (eqb-true b 94 h)) (record {
  ascii = omega arith;
  is = λ state. hat_lexeme state rest k;
  within = omega arith;
})

front_by : (b c : ℕ) (rest : List ℕ) (plain hat double : Bool) → is_plain b ≡ plain → (b == 94) ≡ hat → begins_with_hat rest ≡ double → (if plain then Some b else if hat && not double then Some b else None) ≡ Some c → Front c (b ∷ rest)
front_by b c rest true hat double h k l e = subst (λ n. Front n (b ∷ rest)) (let same : b ≡ c = cc in same) (front_plain b rest h)
front_by b c rest false true false h k l e = subst (λ n. Front n (b ∷ rest)) (let same : b ≡ c = cc in same) (front_hat b rest k l)
front_by b c rest false true true h k l e = absurd (cc)
front_by b c rest false false double h k l e = absurd (cc)

front : (c : ℕ) (xs : List ℕ) → plain_in_front xs ≡ Some c → Front c xs
front c [] e = absurd (cc)
front c (b ∷ rest) e = front_by b c rest (is_plain b) (b == 94) (begins_with_hat rest) refl refl refl e

-- a plain character comes before what is ahead then
pub plain_steps : (bytes xs : List ℕ) (state : State) (at c : ℕ) → xs ≡ drop at bytes → plain_in_front xs ≡ Some c → (c < 128) × (lex state at 0 (drop at bytes) ≡ before (record { kind = Char c; start = at; end = at + 1 } ∷ []) (lex Middle (at + 1) 0 (drop (at + 1) bytes)))
plain_steps bytes xs state at c e h =
    let f : Front c xs = front c xs h in
    (f.ascii, makes bytes xs state Middle at 1 (Char c) (lexeme state xs) e refl (f.is state) (subst (Fits (length xs)) (sym (f.is state)) (omega arith, f.within, f.ascii)))
