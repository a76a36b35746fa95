-- The braces of a formula have their partners.
use Rattle.std.proofs.Common.{◌≡◌, ℕ, zero, suc, ◌<◌, Bool, true, false, List, [], ◌∷◌, refl, sym, ap, ◌∙◌, arith, drop}
use Rattle.std.specs.Prelude.{Option, Some, None, is_some, is_none, ◌==◌, ◌&&◌, ◌||◌}
use Rattle.mt_token.specs.declared.token.Token.{Token}
use Rattle.mt_macro.specs.Braces.{Taken, onto, group, level_after, is_open, is_close, first_unmatched, index_after_first}
use Rattle.mt_macro.proofs.Unmatched.{group_on, inside_not, level_close, level_open, level_other, not_both}
use Rattle.mt_reader.specs.Dollars.{after_end, begins_display, between_dollars, ends_formula, up_to_end}

-- the end of a formula is in no group; another token is in the formula
data FirstOf (display : Bool) (level : ℕ) (t : Token) (rest : List Token) (taken : Taken) : Type 0 where
  Ends : (outside : level ≡ 0) (none : taken.argument ≡ []) → FirstOf display level t rest taken
  Goes : (more : Taken) (closes : (level == 0) && is_close t ≡ false) (later : up_to_end display (level_after level t) rest ≡ Some more) (is : taken.argument ≡ t ∷ more.argument) → FirstOf display level t rest taken

argument_is : (a b : Taken) → Some a ≡ Some b → b.argument ≡ a.argument
argument_is a b h = let same : a ≡ b = cc in ap (λ (x : Taken). x.argument) (sym same)

goes_on : (display : Bool) (level : ℕ) (t : Token) (rest : List Token) (taken : Taken) (o : Option Taken) → (level == 0) && is_close t ≡ false
    → up_to_end display (level_after level t) rest ≡ o → onto t o ≡ Some taken → FirstOf display level t rest taken
goes_on display level t rest taken None c e h = absurd (cc)
goes_on display level t rest taken (Some more) c e h = Goes more c e (argument_is _ _ h)

is_zero : (level : ℕ) (b : Bool) → (level == 0) && b ≡ true → level ≡ 0
is_zero zero b h = refl
is_zero (suc level) b h = absurd (let f : false ≡ true = sym (inside_not level b) ∙ h in cc)

first_of : (display : Bool) (level : ℕ) (t : Token) (rest : List Token) (taken : Taken) (a b : Bool) → (level == 0) && is_close t ≡ a → (level == 0) && ends_formula display t rest ≡ b
    → up_to_end display level (t ∷ rest) ≡ Some taken → FirstOf display level t rest taken
first_of display level t rest taken true b c e h =
    absurd (let f : up_to_end display level (t ∷ rest) ≡ None = rw (c, up_to_end) refl in let g : None ≡ Some taken = sym f ∙ h in cc)
first_of display level t rest taken false true c e h =
    Ends (is_zero level _ e) (argument_is _ _ (sym (let f : up_to_end display level (t ∷ rest) ≡ Some (record { argument = []; after = after_end display rest }) = rw (c, e, up_to_end) refl in f) ∙ h))
first_of display level t rest taken false false c e h =
    goes_on display level t rest taken _ c refl (sym (let f : up_to_end display level (t ∷ rest) ≡ onto t (up_to_end display (level_after level t) rest) = rw (c, e, up_to_end) refl in f) ∙ h)

some_onto : (t : Token) (o : Option Taken) → is_some (onto t o) ≡ is_some o
some_onto t None = refl
some_onto t (Some taken) = refl

no_and : (b : Bool) → b && false ≡ false
no_and true = refl
no_and false = refl

ends_first : (level n : ℕ) (t : Token) (xs : List Token) (o c : Bool) → is_open t ≡ o → is_close t ≡ c → n < level
    → ((m : ℕ) → m < level_after level t → is_some (group m xs) ≡ true) → is_some (group n (t ∷ xs)) ≡ true
ends_first level n t xs true c o k l more =
    ap is_some (group_on n t xs (ap (λ b. (n == 0) && b) (not_both t o) ∙ no_and (n == 0)))
    ∙ (some_onto t _ ∙ more (level_after n t) (omega (arith, l, level_open n t o, level_open level t o)))
ends_first level zero t xs false true o k l more = rw k refl
ends_first level (suc n) t xs false true o k l more =
    ap is_some (group_on (suc n) t xs (inside_not n (is_close t)))
    ∙ (some_onto t _ ∙ more (level_after (suc n) t) (omega (arith, l, level_close (suc n) t o k, level_close level t o k)))
ends_first level n t xs false false o k l more =
    ap is_some (group_on n t xs (ap (λ b. (n == 0) && b) k ∙ no_and (n == 0)))
    ∙ (some_onto t _ ∙ more (level_after n t) (omega (arith, l, level_other n t o k, level_other level t o k)))

-- the groups in which the first tokens of a formula are end in it
ends_inside : (display : Bool) (level n : ℕ) (ts : List Token) (taken : Taken) → up_to_end display level ts ≡ Some taken → n < level → is_some (group n taken.argument) ≡ true
ends_inside display level n [] taken h l = absurd (let f : None ≡ Some taken = h in cc)
ends_inside display level n (t ∷ rest) taken h l =
    elim (first_of display level t rest taken _ _ refl refl h) [
      | Ends outside none ↦ absurd (omega (arith, outside, l))
      | Goes more closes later is ↦ ap (λ xs. is_some (group n xs)) is
          ∙ ends_first level n t more.argument (is_open t) (is_close t) refl refl l (λ m k. ends_inside display (level_after level t) m rest more later k)
    ]

has_partner : (o : Option Taken) → is_some o ≡ true → is_none o ≡ false
has_partner None h = absurd (let f : false ≡ true = h in cc)
has_partner (Some x) h = refl

or_and : (a b : Bool) → a && b ≡ false → b && a ≡ false
or_and true true h = h
or_and true false h = refl
or_and false true h = refl
or_and false false h = refl

matched_first : (level : ℕ) (t : Token) (xs : List Token) (o : Bool) → is_open t ≡ o → (level == 0) && is_close t ≡ false
    → (0 < level_after level t → is_some (group 0 xs) ≡ true) → (is_open t && is_none (group 0 xs)) || (is_close t && (level == 0)) ≡ false
matched_first level t xs true o c ends =
    rw (o, not_both t o, has_partner (group 0 xs) (ends (omega (arith, level_open level t o)))) refl
matched_first level t xs false o c ends = rw o (or_and (level == 0) (is_close t) c)

matched_on : (level : ℕ) (t : Token) (xs : List Token) → (is_open t && is_none (group 0 xs)) || (is_close t && (level == 0)) ≡ false
    → first_unmatched (level_after level t) xs ≡ None → first_unmatched level (t ∷ xs) ≡ None
matched_on level t xs e h =
    (let f : first_unmatched level (t ∷ xs) ≡ index_after_first (first_unmatched (level_after level t) xs) = rw e refl in f) ∙ ap index_after_first h

-- each brace of a formula has its partner
matched_from : (display : Bool) (level : ℕ) (ts : List Token) (taken : Taken) → up_to_end display level ts ≡ Some taken → first_unmatched level taken.argument ≡ None
matched_from display level [] taken h = absurd (let f : None ≡ Some taken = h in cc)
matched_from display level (t ∷ rest) taken h =
    elim (first_of display level t rest taken _ _ refl refl h) [
      | Ends outside none ↦ ap (first_unmatched level) none
      | Goes more closes later is ↦ ap (first_unmatched level) is
          ∙ matched_on level t more.argument (matched_first level t more.argument (is_open t) refl closes (λ l. ends_inside display (level_after level t) 0 rest more later l))
          (matched_from display (level_after level t) rest more later)
    ]

matched_by : (b : Bool) (ts : List Token) (taken : Taken) → begins_display ts ≡ b → between_dollars ts ≡ Some taken → first_unmatched 0 taken.argument ≡ None
matched_by true ts taken e h = matched_from true 0 (drop 1 ts) taken (sym (let f : between_dollars ts ≡ up_to_end true 0 (drop 1 ts) = rw e refl in f) ∙ h)
matched_by false ts taken e h = matched_from false 0 ts taken (sym (let f : between_dollars ts ≡ up_to_end false 0 ts = rw e refl in f) ∙ h)

pub matched : (ts : List Token) (taken : Taken) → between_dollars ts ≡ Some taken → first_unmatched 0 taken.argument ≡ None
matched ts taken h = matched_by (begins_display ts) ts taken refl h
