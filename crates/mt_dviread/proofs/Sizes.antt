-- How many operands an opcode has, by those operands (`size_of_operands`).
use Rattle.std.proofs.Common.{◌≡◌, ℕ, zero, suc, ◌+◌, ◌-◌, ◌≤◌, List, [], ◌∷◌, take, get_or, refl, ap, arith, Bool, true, false}
use Rattle.std.specs.Prelude.{nat_lt, ◌==◌, if◌then◌else◌}
use Rattle.std.proofs.lemmas.Bool.Decides.{nat_tests}
use Rattle.std.proofs.lemmas.List.{get_or-take}
use Rattle.mt_dvi.specs.Codes.{operand_size, special_size, definition_size}

pub size_special : (code : ℕ) (rest : List ℕ) → 239 ≤ code → code ≤ 242 → operand_size code rest ≡ special_size (code - 239 + 1) rest
unfolding operand_size
size_special code rest low high = grind (arith, nat_tests)

pub size_definition : (code : ℕ) (rest : List ℕ) → 243 ≤ code → code ≤ 246 → operand_size code rest ≡ definition_size (code - 243 + 1) rest
unfolding operand_size
size_definition code rest low high = grind (arith, nat_tests)

pub size_pre : (rest : List ℕ) → operand_size 247 rest ≡ 14 + get_or rest 13 0
unfolding operand_size
size_pre rest = refl

by_if : {A : Type 0} (b : Bool) {x s y t : A} → (b ≡ true → x ≡ s) → (b ≡ false → y ≡ t) → (if b then x else y) ≡ (if b then s else t)
by_if true f g = f refl
by_if false f g = g refl

same : {A B : Type 0} {x : A} → B → x ≡ x
same b = refl

-- only the opcodes of specials and definitions, and pre, look at the operands
same_size : (code : ℕ) (xs ys : List ℕ) → (nat_lt code 239 ≡ false → nat_lt code 243 ≡ true → special_size (code - 239 + 1) xs ≡ special_size (code - 239 + 1) ys)
    → (nat_lt code 243 ≡ false → nat_lt code 247 ≡ true → definition_size (code - 243 + 1) xs ≡ definition_size (code - 243 + 1) ys)
    → ((code == 247) ≡ true → 14 + get_or xs 13 0 ≡ 14 + get_or ys 13 0)
    → operand_size code xs ≡ operand_size code ys
unfolding operand_size
same_size code xs ys special definition pre =
    by_if (nat_lt code 128) same (λ _.
    by_if (nat_lt code 132) same (λ _.
    by_if (code == 132) same (λ _.
    by_if (nat_lt code 137) same (λ _.
    by_if (code == 137) same (λ _.
    by_if (code == 138) same (λ _.
    by_if (code == 139) same (λ _.
    by_if (nat_lt code 143) same (λ _.
    by_if (nat_lt code 147) same (λ _.
    by_if (nat_lt code 152) same (λ _.
    by_if (nat_lt code 157) same (λ _.
    by_if (nat_lt code 161) same (λ _.
    by_if (nat_lt code 166) same (λ _.
    by_if (nat_lt code 171) same (λ _.
    by_if (nat_lt code 235) same (λ _.
    by_if (nat_lt code 239) same (λ not_fnt.
    by_if (nat_lt code 243) (special not_fnt) (λ not_xxx.
    by_if (nat_lt code 247) (definition not_xxx) (λ _.
    by_if (code == 247) pre same))))))))))))))))))

take_less : (m n : ℕ) (xs : List ℕ) → m ≤ n → take m (take n xs) ≡ take m xs
take_less zero n xs less = refl
take_less (suc m) zero xs less = absurd (omega arith)
take_less (suc m) (suc n) [] less = refl
take_less (suc m) (suc n) (x ∷ xs) less = ap (λ (l : List ℕ). x ∷ l) (take_less m n xs (omega arith))

special_same : (n size : ℕ) (rest : List ℕ) → n ≤ size → special_size n (take size rest) ≡ special_size n rest
special_same n size rest less = rw (take_less n size rest less) refl

definition_same : (n size : ℕ) (rest : List ℕ) → n + 14 ≤ size → definition_size n (take size rest) ≡ definition_size n rest
definition_same n size rest less = rw (get_or-take size rest (n + 12) 0 (omega arith), get_or-take size rest (n + 13) 0 (omega arith)) refl

pub size_of_operands : (code : ℕ) (rest : List ℕ) → operand_size code (take (operand_size code rest) rest) ≡ operand_size code rest
size_of_operands code rest =
    same_size code (take (operand_size code rest) rest) rest
    (λ low high.
    let l : 239 ≤ code = grind (arith, nat_tests) in
    let h : code ≤ 242 = grind (arith, nat_tests) in
    let e = size_special code rest l h in
    special_same (code - 239 + 1) (operand_size code rest) rest (omega (arith, e)))
    (λ low high.
    let l : 243 ≤ code = grind (arith, nat_tests) in
    let h : code ≤ 246 = grind (arith, nat_tests) in
    let e = size_definition code rest l h in
    definition_same (code - 243 + 1) (operand_size code rest) rest (omega (arith, e)))
    (λ is.
    let c : code ≡ 247 = grind (arith, nat_tests) in
    let e = size_pre rest in
    let s : operand_size code rest ≡ operand_size 247 rest = ap (λ (n : ℕ). operand_size n rest) c in
    ap (λ (n : ℕ). 14 + n) (get_or-take (operand_size code rest) rest 13 0 (omega (arith, e, s))))
