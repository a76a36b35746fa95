-- Macros with bodies of traced tokens.
use Rattle.std.proofs.Common.{◌≡◌, ℕ, zero, suc, ◌+◌, ◌<◌, ◌≤◌, ◌^◌, List, [], ◌∷◌, ◌++◌, length, take, get_or, refl, sym, ap, subst, ◌∙◌, arith}
use Rattle.std.specs.Prelude.{Option, Some, None, slice_get}
use Rattle.std.proofs.lemmas.List.{length-map, take_all}
use Rattle.std.specs.declared.vec.Vec.{Vec}
use Rattle.std.specs.Global.{Global}
use Rattle.mt_macro.specs.declared.table.Macro.{Macro}
use Rattle.mt_macro.specs.declared.traced.Traced.{Traced}
use Rattle.mt_macro.specs.Table.{Table}
use Rattle.mt_macro.specs.Traced.{traced_tokens}
use Rattle.mt_macro.specs.inner.Entries.{body_at}
use Rattle.mt_macro.specs.inner.Tracing.{AreTraced, traced_body}

traced_push : (es : Table) (bs : List (Vec Traced Global)) (e : List ℕ × Macro) (b : Vec Traced Global) → AreTraced es bs → traced_tokens b.items ≡ e.1.body → length b.items ≤ 2 ^ 32
    → AreTraced (es ++ e ∷ []) (bs ++ b ∷ [])
traced_push [] [] e b t i s = (i, s, tt)
traced_push [] (c ∷ bs) e b t i s = absurd t
traced_push (x ∷ es) [] e b t i s = absurd t
traced_push (x ∷ es) (c ∷ bs) e b t i s = (t.0, t.1, traced_push es bs e b t.2 i s)

take_next : (es : Table) (n : ℕ) (e : List ℕ × Macro) → slice_get es n ≡ Some e → take (n + 1) es ≡ take n es ++ e ∷ []
take_next [] n e h = absurd (let f : (let o : Option (List ℕ × Macro) = None in o) ≡ Some e = h in cc)
take_next (x ∷ es) zero e h = let f : (let o : Option (List ℕ × Macro) = Some x in o) ≡ Some e = h in let same : x ≡ e = cc in ap (λ (y : List ℕ × Macro). y ∷ []) same
take_next (x ∷ es) (suc n) e h =
    ap (λ k. take k (x ∷ es)) (let y : suc n + 1 ≡ suc (n + 1) = omega arith in y) ∙ ap (λ (ys : Table). x ∷ ys) (take_next es n e h)

-- one more body
pub traced_more : (es : Table) (bs bs' : List (Vec Traced Global)) (n : ℕ) (e : List ℕ × Macro) (b : Vec Traced Global) → AreTraced (take n es) bs → Some e ≡ slice_get es n
    → traced_tokens b.items ≡ e.1.body → length e.1.body ≤ 2 ^ 32 → bs' ≡ bs ++ b ∷ [] → AreTraced (take (n + 1) es) bs'
traced_more es bs bs' n e b t g i s p =
    let size : length b.items ≡ length e.1.body = sym (length-map b.items (λ (x : Traced). x.token)) ∙ ap length i in
    subst (AreTraced (take (n + 1) es)) (sym p)
    (subst (λ (x : Table). AreTraced x (bs ++ b ∷ [])) (sym (take_next es n e (sym g))) (traced_push (take n es) bs e b t i (omega (arith, s, size))))

pub all_traced : (es : Table) (bs : List (Vec Traced Global)) (n : ℕ) → AreTraced (take n es) bs → length es ≤ n → AreTraced es bs
all_traced es bs n t h = subst (λ (x : Table). AreTraced x bs) (take_all n es h) t

pub entry_there : (es : Table) (n : ℕ) → n < length es → None ≡ slice_get es n → ⊥
entry_there [] n h e = absurd (omega (arith, h))
entry_there (x ∷ es) zero h e = absurd (let f : None ≡ (let o : Option (List ℕ × Macro) = Some x in o) = e in cc)
entry_there (x ∷ es) (suc n) h e = entry_there es n (omega (arith, h)) e

-- the bodies with numbers
pub traced_all : (es : Table) (bs : List (Vec Traced Global)) → AreTraced es bs → (n : ℕ) → traced_tokens (traced_body bs n) ≡ body_at es n
traced_all [] [] t n = refl
traced_all [] (c ∷ bs) t n = absurd t
traced_all (x ∷ es) [] t n = absurd t
traced_all (x ∷ es) (c ∷ bs) t zero = t.0
traced_all (x ∷ es) (c ∷ bs) t (suc n) = traced_all es bs t.2 n

pub short_all : (es : Table) (bs : List (Vec Traced Global)) → AreTraced es bs → (n : ℕ) → length (traced_body bs n) ≤ 2 ^ 32
short_all [] [] t n = omega arith
short_all [] (c ∷ bs) t n = absurd t
short_all (x ∷ es) [] t n = absurd t
short_all (x ∷ es) (c ∷ bs) t zero = t.1
short_all (x ∷ es) (c ∷ bs) t (suc n) = short_all es bs t.2 n

pub body_there : (bs : List (Vec Traced Global)) (n : ℕ) (b : Vec Traced Global) → n < length bs → b ≡ get_or bs n b → b.items ≡ traced_body bs n
body_there [] n b h e = absurd (omega (arith, h))
body_there (c ∷ bs) zero b h e = ap (λ (y : Vec Traced Global). y.items) e
body_there (c ∷ bs) (suc n) b h e = body_there bs n b (omega (arith, h)) e

pub no_body_there : (bs : List (Vec Traced Global)) (n : ℕ) → length bs ≤ n → traced_body bs n ≡ []
no_body_there [] n h = refl
no_body_there (c ∷ bs) zero h = absurd (omega (arith, h))
no_body_there (c ∷ bs) (suc n) h = no_body_there bs n (omega (arith, h))
