-- The definitions of the selected fonts, one after another (`defined_next`).
use Rattle.std.proofs.Common.{◌≡◌, ℕ, zero, suc, ◌+◌, List, [], ◌∷◌, ◌++◌, refl, sym, ◌∙◌, ap, arith, append_assoc}
use Rattle.std.specs.Prelude.{Bool, true, false}
use Rattle.std.specs.List.{filter, range_with_len}
use Rattle.std.proofs.lemmas.List.{append-nil}
use Rattle.std.proofs.lemmas.List.Elements.{filter-append}
use Rattle.mt_family.specs.SetValue.{SetValue}
use Rattle.mt_dvi.specs.Fonts.{definition_of}
use Rattle.mt_dvi.specs.Encoded.{definition_bytes}
use Rattle.mt_dviops.specs.Result.{definitions_bytes}

range_more : (a n : ℕ) → range_with_len a (suc n) ≡ range_with_len a n ++ (a + n) ∷ []
range_more a zero = let e : a ≡ a + 0 = omega arith in ap (λ (k : ℕ). k ∷ []) e
range_more a (suc n) =
    let e : a + 1 + n ≡ a + suc n = omega arith in
    ap (λ (l : List ℕ). a ∷ l) (range_more (a + 1) n ∙ ap (λ (k : ℕ). range_with_len (a + 1) n ++ k ∷ []) e)

range_next : (n : ℕ) → range_with_len 0 (n + 1) ≡ range_with_len 0 n ++ n ∷ []
range_next n =
    let e : n + 1 ≡ suc n = omega arith in
    let z : 0 + n ≡ n = omega arith in
    ap (range_with_len 0) e ∙ range_more 0 n ∙ ap (λ (k : ℕ). range_with_len 0 n ++ k ∷ []) z

definitions_append : (fonts : SetValue) (xs ys : List ℕ) → definitions_bytes fonts (xs ++ ys) ≡ definitions_bytes fonts xs ++ definitions_bytes fonts ys
definitions_append fonts [] ys = refl
definitions_append fonts (x ∷ xs) ys =
    ap (λ (l : List ℕ). definition_bytes (definition_of fonts x) ++ l) (definitions_append fonts xs ys)
    ∙ sym (append_assoc (definition_bytes (definition_of fonts x)) (definitions_bytes fonts xs) (definitions_bytes fonts ys))

one_more : (fonts : SetValue) (p : ℕ → Bool) (n : ℕ) → definitions_bytes fonts (filter p (range_with_len 0 (n + 1))) ≡ definitions_bytes fonts (filter p (range_with_len 0 n)) ++ definitions_bytes fonts (filter p (n ∷ []))
one_more fonts p n =
    ap (λ (l : List ℕ). definitions_bytes fonts (filter p l)) (range_next n)
    ∙ ap (definitions_bytes fonts) (filter-append p (range_with_len 0 n) (n ∷ []))
    ∙ definitions_append fonts (filter p (range_with_len 0 n)) (filter p (n ∷ []))

alone : (fonts : SetValue) (p : ℕ → Bool) (n : ℕ) → p n ≡ true → definitions_bytes fonts (filter p (n ∷ [])) ≡ definition_bytes (definition_of fonts n)
alone fonts p n is = rw is (append-nil (definition_bytes (definition_of fonts n)))

none : (fonts : SetValue) (p : ℕ → Bool) (n : ℕ) → p n ≡ false → definitions_bytes fonts (filter p (n ∷ [])) ≡ []
none fonts p n is = rw is refl

pub defined_alone : (fonts : SetValue) (p : ℕ → Bool) (n : ℕ) (old new : List ℕ) → p n ≡ true → new ≡ old ++ definition_bytes (definition_of fonts n) → new ≡ old ++ definitions_bytes fonts (filter p (n ∷ []))
defined_alone fonts p n old new is more = more ∙ ap (λ (l : List ℕ). old ++ l) (sym (alone fonts p n is))

pub none_defined : (fonts : SetValue) (p : ℕ → Bool) (n : ℕ) (out : List ℕ) → p n ≡ false → out ≡ out ++ definitions_bytes fonts (filter p (n ∷ []))
none_defined fonts p n out is = sym (append-nil out) ∙ ap (λ (l : List ℕ). out ++ l) (sym (none fonts p n is))

pub defined_next : (fonts : SetValue) (p : ℕ → Bool) (n : ℕ) (old new : List ℕ) → old ≡ definitions_bytes fonts (filter p (range_with_len 0 n)) → new ≡ old ++ definitions_bytes fonts (filter p (n ∷ []))
    → new ≡ definitions_bytes fonts (filter p (range_with_len 0 (n + 1)))
defined_next fonts p n old new so_far more =
    more ∙ ap (λ (l : List ℕ). l ++ definitions_bytes fonts (filter p (n ∷ []))) so_far ∙ sym (one_more fonts p n)
