-- The first brace without partner.
use Rattle.std.proofs.Common.{◌≡◌, ℕ, zero, suc, ◌+◌, ◌-◌, ◌<◌, ◌≤◌, Bool, true, false, List, []}
use Rattle.std.proofs.Common.{◌∷◌, length, take, drop, get_or, refl, sym, ap, subst, ◌∙◌, arith}
use Rattle.std.proofs.Common.{cond}
use Rattle.std.specs.Prelude.{Option, Some, None, IfSome, is_some, is_none, ◌==◌, ◌&&◌, ◌||◌, if◌then◌else◌}
use Rattle.std.proofs.lemmas.Bool.Decides.{nat_tests}
use Rattle.std.proofs.lemmas.List.{take_all}
use Rattle.mt_token.specs.declared.token.Token.{Token}
use Rattle.mt_macro.specs.Braces.{Taken, onto, group, level_after, is_open, is_close}
use Rattle.mt_macro.specs.Braces.{index_after_first, first_unmatched}
use Rattle.mt_macro.proofs.Indexes.{shifted, shifted_none, shifted_next, shifted_here}

pub not_both : (t : Token) → is_open t ≡ true → is_close t ≡ false
not_both t o = grind (arith, nat_tests, o)

and_no : (b : Bool) → b && false ≡ false
and_no true = refl
and_no false = refl

pub suc_zero : (level : ℕ) → (suc level == 0) ≡ false
suc_zero level = grind (arith, nat_tests)

pub inside_not : (level : ℕ) (b : Bool) → (suc level == 0) && b ≡ false
inside_not level b = ap (λ x. x && b) (suc_zero level)

pub group_on : (level : ℕ) (t : Token) (rest : List Token) → (level == 0) && is_close t ≡ false
    → group level (t ∷ rest) ≡ onto t (group (level_after level t) rest)
group_on level t rest e = rw e refl

is_some_onto : (t : Token) (o : Option Taken) → is_some (onto t o) ≡ is_some o
is_some_onto t None = refl
is_some_onto t (Some taken) = refl

pub level_open : (level : ℕ) (t : Token) → is_open t ≡ true → level_after level t ≡ level + 1
level_open level t o = rw o refl

pub level_close : (level : ℕ) (t : Token) → is_open t ≡ false → is_close t ≡ true → level_after level t ≡ level - 1
level_close level t o c = rw (o, c) refl

pub level_other : (level : ℕ) (t : Token) → is_open t ≡ false → is_close t ≡ false → level_after level t ≡ level
level_other level t o c = rw (o, c) refl

-- whether the groups that are open end, with so many inside
ends_open : (level : ℕ) (t : Token) (rest : List Token) → is_open t ≡ true
    → is_some (group level (t ∷ rest)) ≡ is_some (group (level + 1) rest)
ends_open level t rest o =
    ap is_some (group_on level t rest (ap (λ b. (level == 0) && b) (not_both t o) ∙ and_no (level == 0)))
    ∙ (is_some_onto t _ ∙ ap (λ n. is_some (group n rest)) (level_open level t o))

ends_close : (level : ℕ) (t : Token) (rest : List Token) → is_open t ≡ false → is_close t ≡ true
    → is_some (group (suc level) (t ∷ rest)) ≡ is_some (group level rest)
ends_close level t rest o c =
    ap is_some (group_on (suc level) t rest (inside_not level (is_close t)))
    ∙ (is_some_onto t _ ∙ ap (λ n. is_some (group n rest)) (level_close (suc level) t o c
    ∙ (let e : suc level - 1 ≡ level = omega arith in e)))

ends_here : (t : Token) (rest : List Token) → is_close t ≡ true → is_some (group 0 (t ∷ rest)) ≡ true
ends_here t rest c = rw c refl

ends_other : (level : ℕ) (t : Token) (rest : List Token) → is_open t ≡ false → is_close t ≡ false
    → is_some (group level (t ∷ rest)) ≡ is_some (group level rest)
ends_other level t rest o c =
    ap is_some (group_on level t rest (ap (λ b. (level == 0) && b) c ∙ and_no (level == 0)))
    ∙ (is_some_onto t _ ∙ ap (λ n. is_some (group n rest)) (level_other level t o c))

-- where the outer of two groups ends, the inner ends
ends_inner_at : (level : ℕ) (t : Token) (rest : List Token) (o c : Bool)
    → ((n : ℕ) → is_some (group (suc n) rest) ≡ true → is_some (group n rest) ≡ true) → is_open t ≡ o → is_close t ≡ c
    → is_some (group (suc level) (t ∷ rest)) ≡ true → is_some (group level (t ∷ rest)) ≡ true
ends_inner_at level t rest true c inner eo ec h =
    ends_open level t rest eo
    ∙ (ap (λ n. is_some (group n rest)) (let e : level + 1 ≡ suc level = omega arith in e)
    ∙ inner (suc level) (sym
    (ap (λ n. is_some (group n rest)) (let e : suc level + 1 ≡ suc (suc level) = omega arith in e))
    ∙ (sym (ends_open (suc level) t rest eo) ∙ h)))
ends_inner_at zero t rest false true inner eo ec h = ends_here t rest ec
ends_inner_at (suc level) t rest false true inner eo ec h =
    ends_close level t rest eo ec ∙ inner level (sym (ends_close (suc level) t rest eo ec) ∙ h)
ends_inner_at level t rest false false inner eo ec h =
    ends_other level t rest eo ec ∙ inner level (sym (ends_other (suc level) t rest eo ec) ∙ h)

ends_inner : (level : ℕ) (xs : List Token) → is_some (group (suc level) xs) ≡ true → is_some (group level xs) ≡ true
ends_inner level [] h = h
ends_inner level (t ∷ rest) h =
    ends_inner_at level t rest (is_open t) (is_close t) (λ n k. ends_inner n rest k) refl refl h

ends_innermost : (level : ℕ) (xs : List Token) → is_some (group level xs) ≡ true → is_some (group 0 xs) ≡ true
ends_innermost zero xs h = h
ends_innermost (suc level) xs h = ends_innermost level xs (ends_inner level xs h)

pub true_not_false : true ≡ false → ⊥
true_not_false e = cc

-- the first brace without partner, by the index of the { that opened the outermost group, and the tokens from an
-- index on
pub watched : ℕ → ℕ → ℕ → List Token → Option ℕ
watched zero outermost at rest = shifted at (first_unmatched 0 rest)
watched (suc level) outermost at rest =
    cond (is_some (group level rest)) (shifted at (first_unmatched (suc level) rest)) (Some outermost)

none_of_some : {A : Type 0} (o : Option A) → is_none o ≡ cond (is_some o) false true
none_of_some None = refl
none_of_some (Some x) = refl

unmatched_here : (level : ℕ) (t : Token) (rest : List Token)
    → (is_open t && is_none (group 0 rest)) || (is_close t && (level == 0)) ≡ true
    → first_unmatched level (t ∷ rest) ≡ Some 0
unmatched_here level t rest e = rw e refl

unmatched_later : (level : ℕ) (t : Token) (rest : List Token)
    → (is_open t && is_none (group 0 rest)) || (is_close t && (level == 0)) ≡ false
    → first_unmatched level (t ∷ rest) ≡ index_after_first (first_unmatched (level_after level t) rest)
unmatched_later level t rest e = rw e refl

test_open : (level : ℕ) (t : Token) (rest : List Token) (b : Bool) → is_open t ≡ true → is_none (group 0 rest) ≡ b
    → (is_open t && is_none (group 0 rest)) || (is_close t && (level == 0)) ≡ b
test_open level t rest true o e = rw (o, e) refl
test_open level t rest false o e = rw (o, e, not_both t o) refl

shifted_later : (level level' at : ℕ) (t : Token) (rest : List Token)
    → (is_open t && is_none (group 0 rest)) || (is_close t && (level == 0)) ≡ false → level_after level t ≡ level'
    → shifted at (first_unmatched level (t ∷ rest)) ≡ shifted (at + 1) (first_unmatched level' rest)
shifted_later level level' at t rest e l =
    ap (shifted at) (unmatched_later level t rest e ∙ ap (λ n. index_after_first (first_unmatched n rest)) l)
    ∙ shifted_next at _

open_outside : (outermost at : ℕ) (t : Token) (rest : List Token) (b : Bool) → is_open t ≡ true
    → is_some (group 0 rest) ≡ b → watched 0 outermost at (t ∷ rest) ≡ watched 1 at (at + 1) rest
unfolding watched
open_outside outermost at t rest true o e =
    shifted_later 0 1 at t rest (test_open 0 t rest false o (none_of_some (group 0 rest)
    ∙ ap (λ b. cond b false true) e)) (level_open 0 t o)
    ∙ sym (ap (λ b. cond b (shifted (at + 1) (first_unmatched 1 rest)) (Some at)) e)
open_outside outermost at t rest false o e =
    ap (shifted at) (unmatched_here 0 t rest (test_open 0 t rest true o (none_of_some (group 0 rest)
    ∙ ap (λ b. cond b false true) e)))
    ∙ (shifted_here at ∙ sym (ap (λ b. cond b (shifted (at + 1) (first_unmatched 1 rest)) (Some at)) e))

cond_same : (b p q : Bool) (x y z : Option ℕ) → p ≡ b → q ≡ b → (b ≡ true → x ≡ y) → cond p x z ≡ cond q y z
cond_same true p q x y z e f h = ap (λ c. cond c x z) e ∙ (h refl ∙ sym (ap (λ c. cond c y z) f))
cond_same false p q x y z e f h = ap (λ c. cond c x z) e ∙ sym (ap (λ c. cond c y z) f)

open_inside : (level outermost at : ℕ) (t : Token) (rest : List Token) → is_open t ≡ true
    → watched (suc level) outermost at (t ∷ rest) ≡ watched (suc (suc level)) outermost (at + 1) rest
unfolding watched
open_inside level outermost at t rest o =
    let next : level + 1 ≡ suc level = omega arith in
    let after : suc level + 1 ≡ suc (suc level) = omega arith in
    cond_same (is_some (group (suc level) rest)) _ _ _ _ _ (ends_open level t rest o
    ∙ ap (λ n. is_some (group n rest)) next) refl
    (λ (e : is_some (group (suc level) rest) ≡ true). shifted_later (suc level) (suc (suc level)) at t rest
    (test_open (suc level) t rest false o (none_of_some (group 0 rest)
    ∙ ap (λ b. cond b false true) (ends_innermost (suc level) rest e))) (level_open (suc level) t o ∙ after))

test_close : (level : ℕ) (t : Token) (rest : List Token) → is_open t ≡ false
    → (is_open t && is_none (group 0 rest)) || (is_close t && (suc level == 0)) ≡ false
test_close level t rest o = rw (o, suc_zero level) (and_no (is_close t))

close_inside : (level outermost at : ℕ) (t : Token) (rest : List Token) → is_open t ≡ false → is_close t ≡ true
    → watched (suc level) outermost at (t ∷ rest) ≡ watched level outermost (at + 1) rest
unfolding watched
close_inside zero outermost at t rest o c =
    ap (λ b. cond b (shifted at (first_unmatched 1 (t ∷ rest))) (Some outermost)) (ends_here t rest c)
    ∙ shifted_later 1 0 at t rest (test_close 0 t rest o) (level_close 1 t o c)
close_inside (suc level) outermost at t rest o c =
    let before : suc (suc level) - 1 ≡ suc level = omega arith in
    cond_same (is_some (group level rest)) _ _ _ _ _ (ends_close level t rest o c) refl
    (λ _. shifted_later (suc (suc level)) (suc level) at t rest (test_close (suc level) t rest o)
    (level_close (suc (suc level)) t o c ∙ before))

pub close_outside : (outermost at : ℕ) (t : Token) (rest : List Token) → is_close t ≡ true → is_open t ≡ false
    → watched 0 outermost at (t ∷ rest) ≡ Some at
unfolding watched
close_outside outermost at t rest c o = ap (shifted at) (unmatched_here 0 t rest (rw (o, c) refl)) ∙ shifted_here at

test_other : (level : ℕ) (t : Token) (rest : List Token) → is_open t ≡ false → is_close t ≡ false
    → (is_open t && is_none (group 0 rest)) || (is_close t && (level == 0)) ≡ false
test_other level t rest o c = rw (o, c) refl

other : (level outermost at : ℕ) (t : Token) (rest : List Token) → is_open t ≡ false → is_close t ≡ false
    → watched level outermost at (t ∷ rest) ≡ watched level outermost (at + 1) rest
unfolding watched
other zero outermost at t rest o c = shifted_later 0 0 at t rest (test_other 0 t rest o c) (level_other 0 t o c)
other (suc level) outermost at t rest o c =
    cond_same (is_some (group level rest)) _ _ _ _ _ (ends_other level t rest o c) refl
    (λ _. shifted_later (suc level) (suc level) at t rest (test_other (suc level) t rest o c)
    (level_other (suc level) t o c))

-- outside of all groups the index of the outermost one does not matter
outside : (outermost outermost' at : ℕ) (rest : List Token)
    → watched 0 outermost at rest ≡ watched 0 outermost' at rest
unfolding watched
outside outermost outermost' at rest = refl

pub not_open : (t : Token) → is_close t ≡ true → is_open t ≡ false
not_open t c = grind (arith, nat_tests, c)

-- one token more, where it is no } outside of all groups
one_more : (level outermost at : ℕ) (t : Token) (rest : List Token) (o c : Bool) → is_open t ≡ o → is_close t ≡ c
    → (level == 0) && is_close t ≡ false
    → watched level outermost at (t ∷ rest) ≡ watched (level_after level t) (if level == 0 then at else outermost)
    (at + 1) rest
one_more zero outermost at t rest true c eo ec h =
    open_outside outermost at t rest _ eo refl ∙ ap (λ n. watched n at (at + 1) rest) (sym (level_open 0 t eo))
one_more zero outermost at t rest false true eo ec h = absurd (true_not_false (sym ec ∙ h))
one_more zero outermost at t rest false false eo ec h =
    other 0 outermost at t rest eo ec
    ∙ (outside outermost at (at + 1) rest ∙ ap (λ n. watched n at (at + 1) rest) (sym (level_other 0 t eo ec)))
one_more (suc level) outermost at t rest true c eo ec h =
    rw (suc_zero level) (open_inside level outermost at t rest eo
    ∙ ap (λ n. watched n outermost (at + 1) rest) (sym (level_open (suc level) t eo
    ∙ (let e : suc level + 1 ≡ suc (suc level) = omega arith in e))))
one_more (suc level) outermost at t rest false true eo ec h =
    rw (suc_zero level) (close_inside level outermost at t rest eo ec
    ∙ ap (λ n. watched n outermost (at + 1) rest) (sym (level_close (suc level) t eo ec
    ∙ (let e : suc level - 1 ≡ level = omega arith in e))))
one_more (suc level) outermost at t rest false false eo ec h =
    rw (suc_zero level) (other (suc level) outermost at t rest eo ec
    ∙ ap (λ n. watched n outermost (at + 1) rest) (sym (level_other (suc level) t eo ec)))

-- the tokens from an index on decide as the whole list does
pub record Watching (list : List Token) (level outermost at : ℕ) (rest : List Token) : Type 0 where
  pub is : first_unmatched 0 list ≡ watched level outermost at rest
  pub low : level ≤ at
  pub size : at + length rest ≡ length list

pub watching_start : (list : List Token) (outermost : ℕ) → Watching list 0 outermost 0 list
unfolding watched
watching_start list outermost = record { is = shifted_none _; low = omega arith; size = omega arith }

pub watching_more : (list rest rest' : List Token) (level level' outermost outermost' at : ℕ) (t : Token)
    → Watching list level outermost at rest → rest ≡ t ∷ rest' → (level == 0) && is_close t ≡ false
    → level' ≡ level_after level t → level' ≤ level + 1 → outermost' ≡ (if level == 0 then at else outermost)
    → Watching list level' outermost' (at + 1) rest'
watching_more list rest rest' level level' outermost outermost' at t w e h l low o = record {
  is = w.is ∙ (ap (watched level outermost at) e
      ∙ (one_more level outermost at t rest' (is_open t) (is_close t) refl refl h
      ∙ (ap (λ n. watched n (if level == 0 then at else outermost) (at + 1) rest') (sym l)
      ∙ ap (λ n. watched level' n (at + 1) rest') (sym o))));
  low = omega (arith, w.low, low);
  size = omega (arith, w.size, ap length e);
}

close_at : (level outermost at : ℕ) (t : Token) (rest : List Token) → (level == 0) && is_close t ≡ true
    → watched level outermost at (t ∷ rest) ≡ Some at
close_at zero outermost at t rest h = close_outside outermost at t rest h (not_open t h)
close_at (suc level) outermost at t rest h = absurd (true_not_false (sym h ∙ inside_not level (is_close t)))

pub watching_close : (list rest rest' : List Token) (level outermost at : ℕ) (t : Token)
    → Watching list level outermost at rest → rest ≡ t ∷ rest' → (level == 0) && is_close t ≡ true
    → Some at ≡ first_unmatched 0 list
watching_close list rest rest' level outermost at t w e h =
    sym (w.is ∙ (ap (watched level outermost at) e ∙ close_at level outermost at t rest' h))

pub at_end : (level outermost at : ℕ) → watched level outermost at [] ≡ cond (level == 0) None (Some outermost)
unfolding watched
at_end zero outermost at = refl
at_end (suc level) outermost at = rw (suc_zero level) refl

pub watching_end : (list rest : List Token) (level outermost at : ℕ) → Watching list level outermost at rest
    → rest ≡ [] → first_unmatched 0 list ≡ cond (level == 0) None (Some outermost)
watching_end list rest level outermost at w e = w.is ∙ (ap (watched level outermost at) e ∙ at_end level outermost at)

next_within : (n : ℕ) (o : Option ℕ) → IfSome o (λ p. p < n) → IfSome (index_after_first o) (λ p. p < suc n)
next_within n None h = tt
next_within n (Some p) h = omega (arith, h)

test_within : (b : Bool) (n : ℕ) (o : Option ℕ) → 0 < n → IfSome o (λ p. p < n)
    → IfSome (cond b (Some 0) o) (λ p. p < n)
test_within true n o h k = h
test_within false n o h k = k

pub unmatched_within : (level : ℕ) (list : List Token) → IfSome (first_unmatched level list) (λ p. p < length list)
unmatched_within level [] = tt
unmatched_within level (t ∷ rest) =
    test_within ((is_open t && is_none (group 0 rest)) || (is_close t && (level == 0))) _ _ (omega arith)
    (next_within (length rest) _ (unmatched_within (level_after level t) rest))

pub front : (xs : List Token) (t : Token) → 1 ≤ length xs → t ≡ get_or xs 0 t
    → xs ≡ t ∷ take (length xs - 1) (drop 1 xs)
front [] t h e = absurd (omega (arith, h))
front (x ∷ xs) t h e =
    let all : take (length (x ∷ xs) - 1) xs ≡ xs = take_all (length (x ∷ xs) - 1) xs (omega arith) in
    ap (λ (y : Token). y ∷ xs) (sym e) ∙ ap (λ (ys : List Token). t ∷ ys) (sym all)

pub watching_within : (list rest : List Token) (level outermost at : ℕ) → Watching list level outermost at rest
    → rest ≡ [] → 0 < level → outermost < length list
watching_within list rest zero outermost at w e h = absurd (omega (arith, h))
watching_within list rest (suc level) outermost at w e h =
    subst (λ (o : Option ℕ). IfSome o (λ p. p < length list)) (watching_end list rest (suc level) outermost at w e
    ∙ ap (λ b. cond b None (Some outermost)) (suc_zero level)) (unmatched_within 0 list)

pub watching_some : (list rest : List Token) (level outermost at : ℕ) → Watching list level outermost at rest
    → rest ≡ [] → 0 < level → Some outermost ≡ first_unmatched 0 list
watching_some list rest zero outermost at w e h = absurd (omega (arith, h))
watching_some list rest (suc level) outermost at w e h =
    sym (watching_end list rest (suc level) outermost at w e
    ∙ ap (λ b. cond b None (Some outermost)) (suc_zero level))

pub watching_none : (list rest : List Token) (level outermost at : ℕ) → Watching list level outermost at rest
    → rest ≡ [] → level ≤ 0 → None ≡ first_unmatched 0 list
watching_none list rest zero outermost at w e h = sym (watching_end list rest zero outermost at w e)
watching_none list rest (suc level) outermost at w e h = absurd (omega (arith, h))

pub empty : (xs : List Token) → length xs < 1 → xs ≡ []
empty [] h = refl
empty (x ∷ xs) h = absurd (omega (arith, h))
