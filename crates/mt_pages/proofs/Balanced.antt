-- Each brace of a formula, as it is cut off at its dollars, has its partner (`balanced`).
use Rattle.std.proofs.Common.{◌≡◌, ℕ, zero, suc, ◌+◌, ◌-◌, Bool, true, false, List, [], ◌∷◌, refl, sym, ap, subst, ◌∙◌, arith, Option, Some, None, is_some, is_none, ◌==◌, ◌&&◌, ◌||◌}
use Rattle.mt_pages.proofs.Common.{Token}
use Rattle.mt_macro.specs.Braces.{Taken, onto, group, level_after, is_open, is_close, first_unmatched}
use Rattle.mt_macro.proofs.Unmatched.{group_on, inside_not, level_other, not_both, suc_zero}
use Rattle.mt_reader.specs.Dollars.{up_to_end, ends_formula, after_end}

and_no : (b : Bool) → b && false ≡ false
and_no true = refl
and_no false = refl

is_some_onto : (t : Token) (o : Option Taken) → is_some (onto t o) ≡ is_some o
is_some_onto t None = refl
is_some_onto t (Some taken) = refl

level_open : (level : ℕ) (t : Token) → is_open t ≡ true → level_after level t ≡ suc level
level_open level t o = rw o (let e : level + 1 ≡ suc level = omega arith in e)

level_close : (level : ℕ) (t : Token) → is_open t ≡ false → is_close t ≡ true → level_after (suc level) t ≡ level
level_close level t o c = rw (o, c) (let e : suc level - 1 ≡ level = omega arith in e)

-- what a token that goes on with the formula leaves
goes_on : (display : Bool) (level : ℕ) (t : Token) (rest : List Token) → (level == 0) && is_close t ≡ false → (level == 0) && ends_formula display t rest ≡ false
    → up_to_end display level (t ∷ rest) ≡ onto t (up_to_end display (level_after level t) rest)
goes_on display level t rest c e = rw (up_to_end, c, e) refl

-- what is taken after a token
record TakenAfter (display : Bool) (level : ℕ) (t : Token) (rest : List Token) (taken : Taken) : Type 0 where
  pub inner : Taken
  pub is : up_to_end display level rest ≡ Some inner
  pub head : taken.argument ≡ t ∷ inner.argument

abbrev argument_of : Option Taken → List Token
argument_of None = []
argument_of (Some taken) = taken.argument

taken_after_by : (display : Bool) (level : ℕ) (t : Token) (rest : List Token) (taken : Taken) (o : Option Taken) → up_to_end display level rest ≡ o
    → onto t o ≡ Some taken → TakenAfter display level t rest taken
taken_after_by display level t rest taken None e h = absurd (cc)
taken_after_by display level t rest taken (Some inner) e h = record { inner = inner; is = e; head = sym (ap argument_of h) }

taken_after : (display : Bool) (level : ℕ) (t : Token) (rest : List Token) (taken : Taken) → (level == 0) && is_close t ≡ false → (level == 0) && ends_formula display t rest ≡ false
    → up_to_end display level (t ∷ rest) ≡ Some taken → TakenAfter display (level_after level t) t rest taken
taken_after display level t rest taken c e h = taken_after_by display (level_after level t) t rest taken _ refl (sym (goes_on display level t rest c e) ∙ h)

taken_inside_after : (display : Bool) (level level' : ℕ) (t : Token) (rest : List Token) (taken : Taken) → level_after (suc level) t ≡ level'
    → up_to_end display (suc level) (t ∷ rest) ≡ Some taken → TakenAfter display level' t rest taken
taken_inside_after display level level' t rest taken l h =
    subst (λ n. TakenAfter display n t rest taken) l (taken_after display (suc level) t rest taken (inside_not level (is_close t)) (inside_not level (ends_formula display t rest)) h)

group_open : (level : ℕ) (t : Token) (rest : List Token) → is_open t ≡ true → is_some (group level (t ∷ rest)) ≡ is_some (group (suc level) rest)
group_open level t rest o =
    ap is_some (group_on level t rest (ap (λ b. (level == 0) && b) (not_both t o) ∙ and_no (level == 0))) ∙ (is_some_onto t _ ∙ ap (λ n. is_some (group n rest)) (level_open level t o))

group_close : (level : ℕ) (t : Token) (rest : List Token) → is_open t ≡ false → is_close t ≡ true → is_some (group (suc level) (t ∷ rest)) ≡ is_some (group level rest)
group_close level t rest o c =
    ap is_some (group_on (suc level) t rest (inside_not level (is_close t))) ∙ (is_some_onto t _ ∙ ap (λ n. is_some (group n rest)) (level_close level t o c))

group_here : (t : Token) (rest : List Token) → is_close t ≡ true → is_some (group 0 (t ∷ rest)) ≡ true
group_here t rest c = rw c refl

group_other : (level : ℕ) (t : Token) (rest : List Token) → is_open t ≡ false → is_close t ≡ false → is_some (group level (t ∷ rest)) ≡ is_some (group level rest)
group_other level t rest o c =
    ap is_some (group_on level t rest (ap (λ b. (level == 0) && b) c ∙ and_no (level == 0))) ∙ (is_some_onto t _ ∙ ap (λ n. is_some (group n rest)) (level_other level t o c))

-- each group that is open in a formula ends in it
ends_by : (display : Bool) (level : ℕ) (t : Token) (rest : List Token) (taken : Taken) (o c : Bool)
    → ((n : ℕ) (inner : Taken) → up_to_end display (suc n) rest ≡ Some inner → is_some (group n inner.argument) ≡ true)
    → is_open t ≡ o → is_close t ≡ c → up_to_end display (suc level) (t ∷ rest) ≡ Some taken → is_some (group level taken.argument) ≡ true
ends_by display level t rest taken true c again eo ec h =
    let b = taken_inside_after display level (suc (suc level)) t rest taken (level_open (suc level) t eo) h in
    ap (λ a. is_some (group level a)) b.head ∙ (group_open level t b.inner.argument eo ∙ again (suc level) b.inner b.is)
ends_by display zero t rest taken false true again eo ec h =
    let b = taken_inside_after display zero zero t rest taken (level_close zero t eo ec) h in
    ap (λ a. is_some (group zero a)) b.head ∙ group_here t b.inner.argument ec
ends_by display (suc level) t rest taken false true again eo ec h =
    let b = taken_inside_after display (suc level) (suc level) t rest taken (level_close (suc level) t eo ec) h in
    ap (λ a. is_some (group (suc level) a)) b.head ∙ (group_close level t b.inner.argument eo ec ∙ again level b.inner b.is)
ends_by display level t rest taken false false again eo ec h =
    let b = taken_inside_after display level (suc level) t rest taken (level_other (suc level) t eo ec) h in
    ap (λ a. is_some (group level a)) b.head ∙ (group_other level t b.inner.argument eo ec ∙ again level b.inner b.is)

ends : (display : Bool) (level : ℕ) (tokens : List Token) (taken : Taken) → up_to_end display (suc level) tokens ≡ Some taken → is_some (group level taken.argument) ≡ true
ends display level [] taken h = absurd (cc)
ends display level (t ∷ rest) taken h = ends_by display level t rest taken (is_open t) (is_close t) (λ n inner k. ends display n rest inner k) refl refl h

ends_inner_at : (level : ℕ) (t : Token) (rest : List Token) (o c : Bool) → ((n : ℕ) → is_some (group (suc n) rest) ≡ true → is_some (group n rest) ≡ true)
    → is_open t ≡ o → is_close t ≡ c → is_some (group (suc level) (t ∷ rest)) ≡ true → is_some (group level (t ∷ rest)) ≡ true
ends_inner_at level t rest true c inner eo ec h = group_open level t rest eo ∙ inner (suc level) (sym (group_open (suc level) t rest eo) ∙ h)
ends_inner_at zero t rest false true inner eo ec h = group_here t rest ec
ends_inner_at (suc level) t rest false true inner eo ec h = group_close level t rest eo ec ∙ inner level (sym (group_close (suc level) t rest eo ec) ∙ h)
ends_inner_at level t rest false false inner eo ec h = group_other level t rest eo ec ∙ inner level (sym (group_other (suc level) t rest eo ec) ∙ h)

ends_inner : (level : ℕ) (xs : List Token) → is_some (group (suc level) xs) ≡ true → is_some (group level xs) ≡ true
ends_inner level [] h = h
ends_inner level (t ∷ rest) h = ends_inner_at level t rest (is_open t) (is_close t) (λ n k. ends_inner n rest k) refl refl h

ends_innermost : (level : ℕ) (xs : List Token) → is_some (group level xs) ≡ true → is_some (group 0 xs) ≡ true
ends_innermost zero xs h = h
ends_innermost (suc level) xs h = ends_innermost level xs (ends_inner level xs h)

none_of_some : (o : Option Taken) → is_some o ≡ true → is_none o ≡ false
none_of_some None h = absurd (cc)
none_of_some (Some x) h = refl

unmatched_later : (level : ℕ) (t : Token) (rest : List Token) → (is_open t && is_none (group 0 rest)) || (is_close t && (level == 0)) ≡ false
    → first_unmatched (level_after level t) rest ≡ None → first_unmatched level (t ∷ rest) ≡ None
unmatched_later level t rest e h = rw (e, h) refl

test_open : (level : ℕ) (t : Token) (rest : List Token) → is_open t ≡ true → is_none (group 0 rest) ≡ false → (is_open t && is_none (group 0 rest)) || (is_close t && (level == 0)) ≡ false
test_open level t rest o n = rw (o, n, not_both t o) refl

test_close : (level : ℕ) (t : Token) (rest : List Token) → is_open t ≡ false → (level == 0) && is_close t ≡ false
    → (is_open t && is_none (group 0 rest)) || (is_close t && (level == 0)) ≡ false
test_close zero t rest o c = rw (o, c) refl
test_close (suc level) t rest o c = rw (o, suc_zero level) (and_no (is_close t))

-- a token of a formula that is passed
passed : (display : Bool) (level : ℕ) (t : Token) (rest : List Token) (taken : Taken) (o : Bool)
    → ((n : ℕ) (inner : Taken) → up_to_end display n rest ≡ Some inner → first_unmatched n inner.argument ≡ None)
    → is_open t ≡ o → (level == 0) && is_close t ≡ false → TakenAfter display (level_after level t) t rest taken → first_unmatched level taken.argument ≡ None
passed display level t rest taken true again eo ec b =
    let some = ends display level rest b.inner (ap (λ n. up_to_end display n rest) (sym (level_open level t eo)) ∙ b.is) in
    ap (first_unmatched level) b.head
    ∙ unmatched_later level t b.inner.argument (test_open level t b.inner.argument eo (none_of_some _ (ends_innermost level b.inner.argument some))) (again (level_after level t) b.inner b.is)
passed display level t rest taken false again eo ec b =
    ap (first_unmatched level) b.head
    ∙ unmatched_later level t b.inner.argument (test_close level t b.inner.argument eo ec) (again (level_after level t) b.inner b.is)

ended : (display : Bool) (level : ℕ) (t : Token) (rest : List Token) (taken : Taken) → (level == 0) && is_close t ≡ false
    → (level == 0) && ends_formula display t rest ≡ true → up_to_end display level (t ∷ rest) ≡ Some taken → taken.argument ≡ []
ended display level t rest taken c e h =
    let f : up_to_end display level (t ∷ rest) ≡ Some (record { argument = []; after = after_end display rest }) = rw (up_to_end, c, e) refl in
    ap argument_of (sym h ∙ f)

stops : (display : Bool) (level : ℕ) (t : Token) (rest : List Token) (taken : Taken) → (level == 0) && is_close t ≡ true → up_to_end display level (t ∷ rest) ≡ Some taken → ⊥
stops display level t rest taken c h = let e : up_to_end display level (t ∷ rest) ≡ None = rw (up_to_end, c) refl in cc

balanced_by : (display : Bool) (level : ℕ) (t : Token) (rest : List Token) (taken : Taken) (c e : Bool)
    → ((n : ℕ) (inner : Taken) → up_to_end display n rest ≡ Some inner → first_unmatched n inner.argument ≡ None)
    → (level == 0) && is_close t ≡ c → (level == 0) && ends_formula display t rest ≡ e → up_to_end display level (t ∷ rest) ≡ Some taken → first_unmatched level taken.argument ≡ None
balanced_by display level t rest taken true e again ec ee h = absurd (stops display level t rest taken ec h)
balanced_by display level t rest taken false true again ec ee h = ap (first_unmatched level) (ended display level t rest taken ec ee h)
balanced_by display level t rest taken false false again ec ee h = passed display level t rest taken (is_open t) again refl ec (taken_after display level t rest taken ec ee h)

at_level : (display : Bool) (level : ℕ) (tokens : List Token) (taken : Taken) → up_to_end display level tokens ≡ Some taken → first_unmatched level taken.argument ≡ None
at_level display level [] taken h = absurd (cc)
at_level display level (t ∷ rest) taken h =
    balanced_by display level t rest taken _ _ (λ n inner k. at_level display n rest inner k) refl refl h

pub balanced : (display : Bool) (tokens : List Token) (taken : Taken) → up_to_end display 0 tokens ≡ Some taken → first_unmatched 0 taken.argument ≡ None
balanced display tokens taken h = at_level display 0 tokens taken h
