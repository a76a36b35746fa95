-- Tokens of one kind are read alike, wherever they are.
use Rattle.std.proofs.Common.{◌≡◌, ℕ, ◌+◌, ◌-◌, ◌<◌, Bool, true, false, List, [], ◌∷◌, ◌++◌, length, map, get_or, refl, sym, ap, subst, ◌∙◌, arith}
use Rattle.std.specs.Prelude.{Option, Some, None, ◌==◌, ◌&&◌, if◌then◌else◌}
use Rattle.std.specs.Option.{option_map}
use Rattle.std.proofs.lemmas.List.{length-map, append-nil, get_or_default}
use Rattle.mt_token.specs.declared.token.Token.{Token}
use Rattle.mt_token.specs.declared.token.TokenKind.{TokenKind}
use Rattle.mt_token.specs.Character.{character_code}
use Rattle.mt_token.specs.Spaces.{is_space, kind_is_space}
use Rattle.mt_macro.specs.Braces.{is_open, is_close, level_after, index_after_first}
use Rattle.mt_macro.specs.Table.{Table, macro_at, macro_of_kind}
use Rattle.mt_macro.specs.Origins.{put_as}
use Rattle.mt_macro.specs.PlacedExpansion.{Placing}
use Rattle.mt_macro.specs.declared.bodies.Call.{Call}
use Rattle.mt_macro.specs.declared.closing.Closing.{Closing}
use Rattle.mt_macro.specs.declared.closing.Closing.TheVariants.{At, Open}
use Rattle.mt_macro.specs.declared.run.Called.{Called}
use Rattle.mt_macro.specs.declared.run.Place.{Place}
use Rattle.mt_macro.specs.declared.run.Place.TheVariants.{Given, Body, Argument, Remainder}
use Rattle.mt_macro.specs.inner.Bodies.{begins_parameter, next_parameter}
use Rattle.mt_macro.specs.inner.Closings.{Closes}
use Rattle.mt_macro.specs.inner.Ends.{end_index, IsEnd, AreEnds}
use Rattle.mt_macro.specs.inner.Lengths.{IsBasic}
use Rattle.mt_macro.specs.inner.Runs.{sources, called_body, read_at, place_tokens, call_at, IsRunAt, IsCallIn}

-- a token of a body is put as one of its kind
abbrev pub Keeps : Placing → Type 0
Keeps placed = (call t : Token) → (placed call t).kind ≡ t.kind

-- a call in a body puts tokens as the call of that body
abbrev pub Nests : Placing → Type 0
Nests placed = (call inner t : Token) → placed (placed call inner) t ≡ placed call t

pub read_kind : {T : Type 0} (token : T → Token) (placed : Placing) (list : List T) (p : Place) → Keeps placed → (x : T) → (read_at token placed list p x).kind ≡ (token x).kind
read_kind token placed list Given k x = refl
read_kind token placed list (Body c) k x = k (get_or (map token list) c.call (token x)) (token x)
read_kind token placed list (Argument n) k x = refl
read_kind token placed list (Remainder n) k x = refl

pub put_kind : {T : Type 0} (token : T → Token) (placed : Placing) (o : Option (Call T)) → Keeps placed → (x : T) → (put_as token placed o x).kind ≡ (token x).kind
put_kind token placed None k x = refl
put_kind token placed (Some call) k x = k (token call.item.now) (token x)

pub open_read : {T : Type 0} (token : T → Token) (placed : Placing) (list : List T) (p : Place) → Keeps placed → (x : T) (b : Bool) → is_open (token x) ≡ b → is_open (read_at token placed list p x) ≡ b
open_read token placed list p k x b h = ap (λ (n : TokenKind). character_code n == 123) (read_kind token placed list p k x) ∙ h

pub close_read : {T : Type 0} (token : T → Token) (placed : Placing) (list : List T) (p : Place) → Keeps placed → (x : T) (b : Bool) → is_close (token x) ≡ b → is_close (read_at token placed list p x) ≡ b
close_read token placed list p k x b h = ap (λ (n : TokenKind). character_code n == 125) (read_kind token placed list p k x) ∙ h

pub space_read : {T : Type 0} (token : T → Token) (placed : Placing) (list : List T) (p : Place) → Keeps placed → (x : T) (b : Bool) → is_space (token x) ≡ b → is_space (read_at token placed list p x) ≡ b
space_read token placed list p k x b h = ap kind_is_space (read_kind token placed list p k x) ∙ h

pub macro_put : {T : Type 0} (token : T → Token) (placed : Placing) (o : Option (Call T)) → Keeps placed → (table : Table) (x : T) → macro_at table (put_as token placed o x) ≡ macro_at table (token x)
macro_put token placed o k table x = ap (macro_of_kind table) (put_kind token placed o k x)

module _ {T : Type 0} (f h : T → Token) (same : (x : T) → (f x).kind ≡ (h x).kind) where
  end_after : (level : ℕ) (xs : List T) (more : List Token) → end_index level (map f xs ++ more) ≡ end_index level (map h xs ++ more)
  end_after level [] more = refl
  end_after level (x ∷ xs) more =
      ap (λ (n : TokenKind). if (level == 0) && (character_code n == 125) then Some 0
      else index_after_first (end_index (if character_code n == 123 then level + 1 else if character_code n == 125 then level - 1 else level) (map f xs ++ more))) (same x)
      ∙ ap (λ (o : Option ℕ). if (level == 0) && is_close (h x) then Some 0 else index_after_first o) (end_after (level_after level (h x)) xs more)

  end_same : (level : ℕ) (xs : List T) → end_index level (map f xs) ≡ end_index level (map h xs)
  end_same level xs =
      ap (end_index level) (sym (append-nil (map f xs))) ∙ (end_after level xs [] ∙ ap (end_index level) (append-nil (map h xs)))

  size_same : (xs : List T) → length (map f xs) ≡ length (map h xs)
  size_same xs = length-map xs f ∙ sym (length-map xs h)

  pub closes_same : (level : ℕ) (xs : List T) (c : Closing) → Closes level (map f xs) c → Closes level (map h xs) c
  closes_same level xs (At index) w = (omega (arith, w.0, size_same xs), sym (end_same level xs) ∙ w.1)
  closes_same level xs (Open next) w = (
    omega (arith, w.0, size_same xs),
    λ (more : List Token). sym (end_after level xs more) ∙ (w.1 more ∙ ap (λ (n : ℕ). option_map (λ (p : ℕ). p + n) (end_index next more)) (size_same xs)),
  )

  end_is_same : (e : ℕ) (xs : List T) → IsEnd e (map f xs) → IsEnd e (map h xs)
  end_is_same e xs w l = sym (end_same 0 xs) ∙ w (omega (arith, l, size_same xs))

  pub ends_same : (xs : List T) (es : List ℕ) → AreEnds (map f xs) es → AreEnds (map h xs) es
  ends_same [] es w = tt
  ends_same (x ∷ xs) [] w = tt
  ends_same (x ∷ xs) (e ∷ es) w = (end_is_same e (x ∷ xs) w.0, ends_same xs es w.1)

  begins_same : (x : T) (xs : List T) → begins_parameter (f x) (map f xs) ≡ begins_parameter (h x) (map h xs)
  begins_same x [] = ap (λ (n : TokenKind). (character_code n == 35) && false) (same x)
  begins_same x (y ∷ xs) = ap (λ (n : TokenKind). (character_code n == 35) && true) (same x)

  pub parameter_same : (xs : List T) → next_parameter (map f xs) ≡ next_parameter (map h xs)
  parameter_same [] = refl
  parameter_same (x ∷ xs) =
      ap (λ (b : Bool). if b then Some 0 else index_after_first (next_parameter (map f xs))) (begins_same x xs)
      ∙ ap (λ (o : Option ℕ). if begins_parameter (h x) (map h xs) then Some 0 else index_after_first o) (parameter_same xs)

pub map_same : {A B : Type 0} (f h : A → B) (xs : List A) → ((x : A) → f x ≡ h x) → map f xs ≡ map h xs
map_same f h [] e = refl
map_same f h (x ∷ xs) e = ap (λ (y : _). y ∷ map f xs) (e x) ∙ ap (λ (ys : List _). h x ∷ ys) (map_same f h xs e)

map_twice : {A B C : Type 0} (f : A → B) (h : B → C) (xs : List A) → map (λ (x : A). h (f x)) xs ≡ map h (map f xs)
map_twice f h [] = refl
map_twice f h (x ∷ xs) = ap (λ (ys : List _). h (f x) ∷ ys) (map_twice f h xs)

-- the items of a body that is called
pub called_items : {T : Type 0} (token : T → Token) (placed : Placing) (list : List T) (body : ℕ → List Token) (c : Called) (items : List T) → map token items ≡ body c.number
    → map (read_at token placed list (Body c)) items ≡ called_body placed (map token list) body c
called_items token placed list body c items e =
    let put : Token → Token = λ (t : Token). placed (get_or (map token list) c.call t) t in
    map_twice token put items ∙ ap (map put) e

pub items_in_place : {T : Type 0} (token : T → Token) (placed : Placing) (list : List T) (body : ℕ → List Token) (c : Called) (p : Place) (items : List T) → p ≡ Body c → map token items ≡ body c.number
    → map (read_at token placed list p) items ≡ place_tokens (sources token placed body list) p
items_in_place token placed list body c p items e i =
    subst (λ (q : Place). map (read_at token placed list q) items ≡ place_tokens (sources token placed body list) q) (sym e) (called_items token placed list body c items i)

pub called_length : (placed : Placing) (list : List Token) (body : ℕ → List Token) (c : Called) → length (called_body placed list body c) ≡ length (body c.number)
called_length placed list body c = length-map (body c.number) (λ (t : Token). placed (get_or list c.call t) t)

pub call_in : {T : Type 0} (token : T → Token) (placed : Placing) (body : ℕ → List Token) (list : List T) (ms : List (List Token)) (p : Place) (s e : ℕ) → IsRunAt (sources token placed body list) ms p s e → IsCallIn list p
call_in token placed body list ms Given s e h = tt
call_in token placed body list ms (Body c) s e h = omega (arith, h.2, length-map list token)
call_in token placed body list ms (Argument n) s e h = tt
call_in token placed body list ms (Remainder n) s e h = tt

-- a macro of a place calls its body as its token says
pub record CalledBy (placed : Placing) (body : ℕ → List Token) (list : List Token) (call : ℕ) (first : Token) : Type 0 where
  pub within : call < length list
  pub called : (n : ℕ) → called_body placed list body (record { number = n; call = call }) ≡ map (placed first) (body n)

pub called_by : {T : Type 0} (token : T → Token) (placed : Placing) (body : ℕ → List Token) (list : List T) (ms : List (List Token)) (p : Place) (s e i : ℕ) (x : T) → Nests placed → IsBasic p
    → IsRunAt (sources token placed body list) ms p s e → i < e
    → read_at token placed list p x ≡ get_or (place_tokens (sources token placed body list) p) i (read_at token placed list p x)
    → CalledBy placed body (map token list) (call_at p i) (read_at token placed list p x)
called_by token placed body list ms Given s e i x n b h low is = record {
  within = omega (arith, h.1, low);
  called = λ k. map_same (λ (t : Token). placed (get_or (map token list) i t) t) (placed (token x)) (body k)
      (λ (t : Token). ap (λ (u : Token). placed u t) (get_or_default (map token list) i t (token x) (omega (arith, h.1, low)) ∙ sym is));
}
called_by token placed body list ms (Body c) s e i x n b h low is = record {
  within = h.2;
  called = λ k. map_same (λ (t : Token). placed (get_or (map token list) c.call t) t) (placed (placed (get_or (map token list) c.call (token x)) (token x))) (body k)
      (λ (t : Token). ap (λ (u : Token). placed u t) (get_or_default (map token list) c.call t (token x) h.2)
      ∙ sym (n (get_or (map token list) c.call (token x)) (token x) t));
}
called_by token placed body list ms (Argument c) s e i x n b h low is = absurd b
called_by token placed body list ms (Remainder c) s e i x n b h low is = absurd b
