-- Macros of which the bodies are tokens are put in.
use Rattle.std.proofs.Common.{◌≡◌, ℕ, zero, suc, ◌+◌, ◌<◌, ◌≤◌, ◌^◌, List, [], ◌∷◌, ◌++◌, length, map, take, get_or, refl, sym, ap, subst, ◌∙◌, arith, cond}
use Rattle.std.specs.Prelude.{Some, None, Result, Ok, Err, OnOk, slice_get}
use Rattle.std.specs.List.{AllByRecursion}
use Rattle.std.specs.Map.{keys_of}
use Rattle.std.specs.List.Sorted.{IsStrictlySortedBy}
use Rattle.std.specs.Cmp.Lexicographic.{slice_cmp}
use Rattle.std.specs.Ordering.{nat_cmp}
use Rattle.std.specs.declared.cmp.Ordering.TheVariants.{Less, Greater}
use Rattle.std.proofs.lemmas.List.{map-append, length-map, append-nil, append_assoc}
use Rattle.mt_token.specs.declared.token.Token.{Token}
use Rattle.mt_token.specs.declared.token.TokenKind.{TokenKind}
use Rattle.mt_token.specs.declared.token.TokenKind.TheVariants.{Control}
use Rattle.mt_token.specs.Tokens.{Spanned}
use Rattle.mt_token.proofs.Same.{same_token}
use Rattle.mt_macro.specs.declared.table.Macro.{Macro}
use Rattle.mt_macro.specs.Placeless.{placeless, placeless_macro, placeless_table}
use Rattle.mt_macro.specs.Table.{Table, macro_of, with_macro}
use Rattle.mt_lexicon.specs.declared.word.Word.{Word}
use Rattle.mt_lexicon.specs.Meaning.{NameTable, Extends, kind_of, token_of, Known}
use Rattle.mt_tables.specs.declared.kept.KeptMacro.{KeptMacro}
use Rattle.mt_tables.specs.inner.KeptMacros.{macro_of_kept, name_at, IsNumberOf}
use Rattle.mt_tables.proofs.Growing.{some_is, kind_append, tokens_append, all_known}
use Rattle.mt_tables.proofs.Searching.{turned}
use Rattle.mt_tables.proofs.Puts.{test_of, placed}

take_more : {X : Type 0} (list : List X) (i : ℕ) (t : X) → i < length list → t ≡ get_or list i t → take (suc i) list ≡ take i list ++ t ∷ []
take_more [] i t h e = absurd (omega (arith, h))
take_more (x ∷ list) zero t h e = ap (λ y. y ∷ []) (sym e)
take_more (x ∷ list) (suc i) t h e = ap (λ ys. x ∷ ys) (take_more list i t (omega (arith, h)) e)

word_is : (names : NameTable) (w : Word) (t : Token) → kind_of names w.kind ≡ t.kind → token_of names w ≡ placeless t
word_is names w t e = same_token (token_of names w) (placeless t) (ap (λ (k : TokenKind). let s : Spanned = record { kind = k; start = 0; end = 0 } in s) e)

tokens_kept : (old new : NameTable) (ws : List Word) → Extends old new → AllByRecursion (Known old) ws → map (token_of new) ws ≡ map (token_of old) ws
tokens_kept old new ws e h = rw e.1 (tokens_append old e.0 ws h)

-- words of which one more is read
pub words_more : (old new : NameTable) (ws ws' : List Word) (w : Word) (list : List Token) (i n : ℕ) (t : Token) → map (token_of old) ws ≡ map placeless (take i list) → AllByRecursion (Known old) ws → Extends old new → kind_of new w.kind ≡ t.kind
    → ws' ≡ ws ++ w ∷ [] → i < length list → t ≡ get_or list i t → n ≡ i + 1 → map (token_of new) ws' ≡ map placeless (take n list)
words_more old new ws ws' w list i n t is known e k l h g m =
    let one : suc i ≡ n = omega (arith, m) in
    ap (map (token_of new)) l ∙ (map-append (token_of new) ws (w ∷ [])
    ∙ (ap (λ x. x ++ token_of new w ∷ []) (tokens_kept old new ws e known ∙ is) ∙ (ap (λ y. map placeless (take i list) ++ y ∷ []) (word_is new w t k)
    ∙ (sym (map-append placeless (take i list) (t ∷ [])) ∙ (ap (map placeless) (sym (take_more list i t h g)) ∙ ap (λ (j : ℕ). map placeless (take j list)) one)))))

known_snoc : (names : NameTable) (ws : List Word) (w : Word) → AllByRecursion (Known names) ws → Known names w → AllByRecursion (Known names) (ws ++ w ∷ [])
known_snoc names [] w h k = (k, tt)
known_snoc names (v ∷ ws) w h k = (h.0, known_snoc names ws w h.1 k)

pub known_more : (old new : NameTable) (ws ws' : List Word) (w : Word) → AllByRecursion (Known old) ws → Extends old new → Known new w → ws' ≡ ws ++ w ∷ [] → AllByRecursion (Known new) ws'
known_more old new ws ws' w h e k l = subst (AllByRecursion (Known new)) (sym l) (known_snoc new ws w (rw e.1 (all_known old e.0 ws h)) k)

pub keeps_itself : (names : NameTable) → Extends names names
keeps_itself names = ([], sym (append-nil names))

pub keeps_on : (a b c : NameTable) → Extends a b → Extends b c → Extends a c
keeps_on a b c h k = (h.0 ++ k.0, k.1 ∙ ap (λ x. x ++ k.0) h.1 ∙ append_assoc a h.0 k.0)

-- the number of a name, after more names are there
control_is : (a b : List ℕ) → (let k : TokenKind = Control a in k) ≡ Control b → a ≡ b
control_is a b e = cc

pub kind_kept : (old new : NameTable) (w : Word) (name : List ℕ) → Extends old new → Known old w → kind_of old w.kind ≡ Control name → kind_of new w.kind ≡ Control name
kind_kept old new w name e h k = rw e.1 (kind_append old e.0 w.kind h ∙ k)

pub number_is : (old new : NameTable) (w : Word) (name : List ℕ) (n : ℕ) → Extends old new → Known old w → kind_of old w.kind ≡ Control name → IsNumberOf new w n → name_at new n ≡ name
number_is old new w name n e h k is = control_is (name_at new n) name (sym is.1 ∙ kind_kept old new w name e h k)

-- the body of the macro that is loaded
pub body_known : (names : NameTable) (ws : List Word) (ts : List Token) → map (token_of names) ws ≡ map placeless ts → length ts ≤ 2 ^ 32 → length ws ≤ 2 ^ 32
body_known names ws ts e h = omega (arith, h, ap length e, length-map ws (token_of names), length-map ts placeless)

pub meaning_is : (names : NameTable) (k : KeptMacro) (m : Macro) → k.own ≡ m.own → k.params ≡ m.params → map (token_of names) k.body.items ≡ map placeless m.body → macro_of_kept names k ≡ placeless_macro m
meaning_is names k m a b e =
    ap (λ (own : _). let x : Macro = record { own = own; params = k.params; body = map (token_of names) k.body.items } in x) a
    ∙ (ap (λ (params : ℕ). let x : Macro = record { own = m.own; params = params; body = map (token_of names) k.body.items } in x) b
    ∙ ap (λ (body : List Token). let x : Macro = record { own = m.own; params = m.params; body = body } in x) e)

-- macros that are loaded in the order of their names
first_less : (k name : List ℕ) (m : Macro) (t : Table) (i : ℕ) → AllByRecursion (λ y. slice_cmp nat_cmp k y ≡ Less) (keys_of t) → slice_get t i ≡ Some (name, m) → slice_cmp nat_cmp k name ≡ Less
first_less k name m [] i h e = absurd (cc)
first_less k name m (x ∷ t) zero h e = ap (λ (y : List ℕ × Macro). slice_cmp nat_cmp k y.0) (sym (some_is x (name, m) e)) ∙ h.0
first_less k name m (x ∷ t) (suc i) h e = first_less k name m t i h.1 e

pub fresh : (t : Table) (i : ℕ) (name : List ℕ) (m : Macro) → IsStrictlySortedBy (slice_cmp nat_cmp) (keys_of t) → slice_get t i ≡ Some (name, m) → macro_of (take i (placeless_table t)) name ≡ None
unfolding IsStrictlySortedBy
fresh [] i name m s e = absurd (cc)
fresh (x ∷ t) zero name m s e = refl
fresh (x ∷ t) (suc i) name m s e =
    ap (λ b. cond b (Some (placeless_macro x.1)) (macro_of (take i (placeless_table t)) name)) (test_of name x.0 Greater (turned x.0 name Less (first_less x.0 name m t i s.0 e)))
    ∙ fresh t i name m s.1 e

last_put : (t : Table) (i : ℕ) (name : List ℕ) (m : Macro) → IsStrictlySortedBy (slice_cmp nat_cmp) (keys_of t) → slice_get t i ≡ Some (name, m) → with_macro (take i (placeless_table t)) name (placeless_macro m) ≡ take (suc i) (placeless_table t)
unfolding IsStrictlySortedBy
last_put [] i name m s e = absurd (cc)
last_put (x ∷ t) zero name m s e = ap (λ (y : List ℕ × Macro). (y.0, placeless_macro y.1) ∷ []) (sym (some_is x (name, m) e))
last_put (x ∷ t) (suc i) name m s e =
    placed (x.0, placeless_macro x.1) (take i (placeless_table t)) name (placeless_macro m) Greater (turned x.0 name Less (first_less x.0 name m t i s.0 e))
    ∙ ap (λ y. (x.0, placeless_macro x.1) ∷ y) (last_put t i name m s.1 e)

pub loaded : (t now new : Table) (i n : ℕ) (name : List ℕ) (m : Macro) → IsStrictlySortedBy (slice_cmp nat_cmp) (keys_of t) → slice_get t i ≡ Some (name, m) → now ≡ take i (placeless_table t) → new ≡ with_macro now name (placeless_macro m) → n ≡ i + 1
    → new ≡ take n (placeless_table t)
loaded t now new i n name m s e a b c =
    let one : suc i ≡ n = omega (arith, c) in
    b ∙ (ap (λ (x : Table). with_macro x name (placeless_macro m)) a ∙ (last_put t i name m s e ∙ ap (λ (j : ℕ). take j (placeless_table t)) one))

pub not_none : {X : Type 0} (xs : List X) (i : ℕ) → i < length xs → None ≡ slice_get xs i → ⊥
not_none [] i h e = omega (arith, h)
not_none (x ∷ xs) zero h e = absurd (cc)
not_none (x ∷ xs) (suc i) h e = not_none xs i (omega (arith, h)) e

take_whole : {X : Type 0} (xs : List X) (i : ℕ) → length xs ≤ i → take i xs ≡ xs
take_whole [] zero h = refl
take_whole [] (suc i) h = refl
take_whole (x ∷ xs) zero h = absurd (omega (arith, h))
take_whole (x ∷ xs) (suc i) h = ap (λ ys. x ∷ ys) (take_whole xs i (omega (arith, h)))

pub loaded_all : (t now : Table) (i : ℕ) → now ≡ take i (placeless_table t) → length t ≤ i → now ≡ placeless_table t
loaded_all t now i e h =
    let f : List ℕ × Macro → List ℕ × Macro = λ x. (x.0, placeless_macro x.1) in
    e ∙ take_whole (placeless_table t) i (omega (arith, h, length-map t f))

pub on_ok_more : {A E P Q : Type 0} (r : Result A E) → OnOk r P → (P → Q) → OnOk r Q
on_ok_more (Ok x) p f = f p
on_ok_more (Err e) p f = tt
