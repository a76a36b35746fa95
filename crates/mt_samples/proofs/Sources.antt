-- A source grows formula by formula (`formulas_next`), and has at most 47 bytes for each (`source_short`).
use Rattle.std.proofs.Common.{◌≡◌, ℕ, zero, suc, ◌+◌, ◌-◌, ◌*◌, ◌%◌, ◌<◌, ◌≤◌, List, [], ◌∷◌, ◌++◌, length, refl, ◌∙◌, ap, sym, arith, append_assoc, append-nil, length-append}
use Rattle.std.specs.Prelude.{◌==◌, true, false, codes, if◌then◌else◌}
use Rattle.mt_samples.specs.Generator.{drawn, with_letters, formula, formulas_after, generated, formula_end, next_state, state_after, state_after_formula, template}

-- the invariant of the loop over the formulas
pub formulas_next : (out written ended : List ℕ) (done count state after seed : ℕ) → done < count → formulas_after 0 seed count ≡ out ++ formulas_after done state (count - done)
    → written ≡ out ++ formula state → after ≡ state_after_formula state → ended ≡ written ++ formula_end (done + 1)
    → formulas_after 0 seed count ≡ ended ++ formulas_after (done + 1) after (count - (done + 1))
formulas_next out written ended done count state after seed lt is writes steps ends =
    let left : count - done ≡ suc (count - (done + 1)) = omega arith in
    let rest : List ℕ = formulas_after (done + 1) (state_after_formula state) (count - (done + 1)) in
    rw (ends, writes, steps) (is ∙ ap (λ (n : ℕ). out ++ formulas_after done state n) left
    ∙ ap (λ (t : List ℕ). out ++ t) (append_assoc (formula state) (formula_end (done + 1)) rest)
    ∙ sym (append_assoc out (formula state) (formula_end (done + 1) ++ rest))
    ∙ sym (append_assoc (out ++ formula state) (formula_end (done + 1)) rest))

pub formulas_end : (seed count : ℕ) (out : List ℕ) (done state : ℕ) → count ≤ done → formulas_after 0 seed count ≡ out ++ formulas_after done state (count - done) → generated seed count ≡ out
unfolding generated
formulas_end seed count out done state all is =
    let none : count - done ≡ 0 = omega arith in
    is ∙ ap (λ (n : ℕ). out ++ formulas_after done state n) none ∙ append-nil out

with_letters_size : (all : List ℕ) (state : ℕ) → length (with_letters all state) ≡ length all
with_letters_size [] state = refl
with_letters_size (c ∷ rest) state = ap suc (with_letters_size rest (state_after c state))

template_short : (n : ℕ) → length (template n) ≤ 39
unfolding template
template_short zero = omega arith
template_short (suc zero) = omega arith
template_short (suc (suc zero)) = omega arith
template_short (suc (suc (suc zero))) = omega arith
template_short (suc (suc (suc (suc zero)))) = omega arith
template_short (suc (suc (suc (suc (suc n))))) = omega arith

formula_short : (state : ℕ) → length (formula state) ≤ 39
unfolding formula
formula_short state = omega (arith, with_letters_size (template (drawn 5 (next_state state))) (next_state state), template_short (drawn 5 (next_state state)))

end_short : (n : ℕ) → length (formula_end n) ≤ 8
end_short n = elim (n % 20 == 0) as (λ b. length (codes "\n" ++ (if b then codes "\\eject\n" else [])) ≤ 8) [ true ↦ omega arith | false ↦ omega arith ]

formulas_short : (before state count : ℕ) → length (formulas_after before state count) ≤ 47 * count
formulas_short before state zero = omega arith
formulas_short before state (suc count) =
    let rest : List ℕ = formulas_after (before + 1) (state_after_formula state) count in
    omega (
      arith,
      length-append (formula state ++ formula_end (before + 1)) rest,
      length-append (formula state) (formula_end (before + 1)),
      formula_short state,
      end_short (before + 1),
      formulas_short (before + 1) (state_after_formula state) count,
    )

pub source_short : (seed count : ℕ) → length (generated seed count) ≤ 47 * count
unfolding generated
source_short seed count = formulas_short 0 seed count
