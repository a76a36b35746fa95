-- Where groups end.
use Rattle.std.proofs.Common.{◌≡◌, ℕ, zero, suc, ◌+◌, ◌-◌, ◌<◌, ◌≤◌, Bool, true, false, List, []}
use Rattle.std.proofs.Common.{◌∷◌, ◌++◌, length, take, drop, map, get_or, set, refl, sym, ap, subst, ◌∙◌}
use Rattle.std.proofs.Common.{arith, append_assoc, length-append}
use Rattle.std.specs.Prelude.{slice_index_or, Option, Some, None, ◌==◌, ◌&&◌}
use Rattle.std.proofs.lemmas.List.{append-nil, drop-append-le, take-append-le, length-drop, take_all}
use Rattle.mt_token.specs.declared.token.Token.{Token}
use Rattle.mt_macro.specs.Braces.{Taken, onto, group, level_after, is_open, is_close, index_after_first}
use Rattle.mt_macro.specs.declared.closing.Closing.TheVariants.{At, Open}
use Rattle.mt_macro.specs.inner.Ends.{end_index, IsEnd, AreEnds, joined}
use Rattle.mt_macro.specs.inner.Closings.{Closes}
use Rattle.mt_macro.specs.inner.Taking.{Takes}
use Rattle.mt_macro.proofs.Mapped.{mapped_drop}
use Rattle.mt_macro.proofs.Indexes.{shifted, shifted_none, shifted_next, shifted_here}
use Rattle.mt_macro.proofs.Unmatched.{inside_not, level_open, level_close, level_other, group_on}
use Rattle.mt_macro.proofs.Unmatched.{not_open, true_not_false}

not_some : {A : Type 0} (x : A) → None ≡ Some x → ⊥
not_some x e = cc

pub one_index : (a b : ℕ) → Some a ≡ Some b → a ≡ b
one_index a b e = cc

pub end_here : (level : ℕ) (t : Token) (rest : List Token) → (level == 0) && is_close t ≡ true
    → end_index level (t ∷ rest) ≡ Some 0
end_here level t rest e = rw e refl

pub end_on : (level : ℕ) (t : Token) (rest : List Token) → (level == 0) && is_close t ≡ false
    → end_index level (t ∷ rest) ≡ index_after_first (end_index (level_after level t) rest)
end_on level t rest e = rw e refl

-- an index after the first token
pub first_of : (o : Option ℕ) (n : ℕ) → index_after_first o ≡ Some n → (k : ℕ) × (o ≡ Some k) × (n ≡ k + 1)
first_of None n e = absurd (not_some n e)
first_of (Some k) n e = (k, refl, sym (one_index (k + 1) n e))

within_by : (level : ℕ) (t : Token) (rest : List Token) (n : ℕ) (b : Bool) → (level == 0) && is_close t ≡ b
    → ((l k : ℕ) → end_index l rest ≡ Some k → k < length rest) → end_index level (t ∷ rest) ≡ Some n
    → n < suc (length rest)
within_by level t rest n true c again e =
    let z : n ≡ 0 = one_index n 0 (sym e ∙ end_here level t rest c) in omega (arith, z)
within_by level t rest n false c again e =
    let f = first_of (end_index (level_after level t) rest) n (sym (end_on level t rest c) ∙ e) in
    let w = again (level_after level t) f.0 f.1 in
    omega (arith, w, f.2)

pub end_within : (level : ℕ) (xs : List Token) (n : ℕ) → end_index level xs ≡ Some n → n < length xs
end_within level [] n e = absurd (not_some n e)
end_within level (t ∷ rest) n e = within_by level t rest n _ refl (λ l k h. end_within l rest k h) e

append_by : (level : ℕ) (t : Token) (rest ys : List Token) (n : ℕ) (b : Bool) → (level == 0) && is_close t ≡ b
    → ((l k : ℕ) → end_index l rest ≡ Some k → end_index l (rest ++ ys) ≡ Some k)
    → end_index level (t ∷ rest) ≡ Some n → end_index level (t ∷ (rest ++ ys)) ≡ Some n
append_by level t rest ys n true c again e = end_here level t (rest ++ ys) c ∙ (sym (end_here level t rest c) ∙ e)
append_by level t rest ys n false c again e =
    let f = first_of (end_index (level_after level t) rest) n (sym (end_on level t rest c) ∙ e) in
    end_on level t (rest ++ ys) c ∙ (ap index_after_first (again (level_after level t) f.0 f.1) ∙ ap Some (sym f.2))

-- more tokens after it change no end
pub end_append : (level : ℕ) (xs ys : List Token) (n : ℕ) → end_index level xs ≡ Some n
    → end_index level (xs ++ ys) ≡ Some n
end_append level [] ys n e = absurd (not_some n e)
end_append level (t ∷ rest) ys n e = append_by level t rest ys n _ refl (λ l k h. end_append l rest ys k h) e

take_by : (level : ℕ) (t : Token) (rest : List Token) (n m : ℕ) (b : Bool) → (level == 0) && is_close t ≡ b
    → ((l k : ℕ) → end_index l rest ≡ Some k → k < m → end_index l (take m rest) ≡ Some k)
    → end_index level (t ∷ rest) ≡ Some n → n < suc m → end_index level (t ∷ take m rest) ≡ Some n
take_by level t rest n m true c again e h = end_here level t (take m rest) c ∙ (sym (end_here level t rest c) ∙ e)
take_by level t rest n m false c again e h =
    let f = first_of (end_index (level_after level t) rest) n (sym (end_on level t rest c) ∙ e) in
    end_on level t (take m rest) c
    ∙ (ap index_after_first (again (level_after level t) f.0 f.1 (omega (arith, h, f.2))) ∙ ap Some (sym f.2))

-- nor do fewer
pub end_take : (level m : ℕ) (xs : List Token) (n : ℕ) → end_index level xs ≡ Some n → n < m
    → end_index level (take m xs) ≡ Some n
end_take level m [] n e h = absurd (not_some n e)
end_take level zero (t ∷ rest) n e h = absurd (omega (arith, h))
end_take level (suc m) (t ∷ rest) n e h = take_by level t rest n m _ refl (λ l k g j. end_take l m rest k g j) e h

-- the level after a token, with more groups open outside
level_more : (m l : ℕ) (t : Token) (o c : Bool) → is_open t ≡ o → is_close t ≡ c → (m == 0) && is_close t ≡ false
    → level_after (suc (m + l)) t ≡ suc (level_after m t + l)
level_more m l t true c eo ec h =
    level_open (suc (m + l)) t eo
    ∙ ((let e : suc (m + l) + 1 ≡ suc ((m + 1) + l) = omega arith in e)
    ∙ ap (λ n. suc (n + l)) (sym (level_open m t eo)))
level_more zero l t false true eo ec h = absurd (true_not_false (sym ec ∙ h))
level_more (suc m) l t false true eo ec h =
    level_close (suc (suc m + l)) t eo ec
    ∙ ((let e : suc (suc m + l) - 1 ≡ suc ((suc m - 1) + l) = omega arith in e)
    ∙ ap (λ n. suc (n + l)) (sym (level_close (suc m) t eo ec)))
level_more m l t false false eo ec h =
    level_other (suc (m + l)) t eo ec ∙ ap (λ n. suc (n + l)) (sym (level_other m t eo ec))

shifted_first : (n : ℕ) (o : Option ℕ) → index_after_first (shifted n o) ≡ shifted (suc n) o
shifted_first n None = refl
shifted_first n (Some p) = ap Some (let e : p + n + 1 ≡ p + suc n = omega arith in e)

outside : (m l : ℕ) (t : Token) (rest : List Token)
    → end_index (suc (m + l)) (t ∷ rest) ≡ index_after_first (end_index (level_after (suc (m + l)) t) rest)
outside m l t rest = end_on (suc (m + l)) t rest (inside_not (m + l) (is_close t))

jump_by : (m l : ℕ) (t : Token) (rest : List Token) (n : ℕ) (b : Bool) → (m == 0) && is_close t ≡ b
    → ((k j : ℕ) → end_index k rest ≡ Some j
    → end_index (suc (k + l)) rest ≡ shifted (suc j) (end_index l (drop (suc j) rest)))
    → end_index m (t ∷ rest) ≡ Some n
    → end_index (suc (m + l)) (t ∷ rest) ≡ shifted (suc n) (end_index l (drop n rest))
jump_by zero l t rest n true c again e =
    let z : 0 ≡ n = one_index 0 n (sym (end_here 0 t rest c) ∙ e) in
    let k : level_after (suc (zero + l)) t ≡ l = level_close (suc (zero + l)) t (not_open t c) c ∙ omega arith in
    outside zero l t rest
    ∙ (ap (λ j. index_after_first (end_index j rest)) k ∙ ap (λ j. shifted (suc j) (end_index l (drop j rest))) z)
jump_by (suc m) l t rest n true c again e = absurd (true_not_false (sym c ∙ inside_not m (is_close t)))
jump_by m l t rest n false c again e =
    let f = first_of (end_index (level_after m t) rest) n (sym (end_on m t rest c) ∙ e) in
    let z : suc f.0 ≡ n = omega (arith, f.2) in
    outside m l t rest
    ∙ (ap (λ k. index_after_first (end_index k rest)) (level_more m l t _ _ refl refl c)
    ∙ (ap index_after_first (again (level_after m t) f.0 f.1)
    ∙ (shifted_first (suc f.0) (end_index l (drop (suc f.0) rest))
    ∙ ap (λ j. shifted (suc j) (end_index l (drop j rest))) z)))

-- where a group ends, the one outside of it goes on
pub end_jump : (m l : ℕ) (xs : List Token) (n : ℕ) → end_index m xs ≡ Some n
    → end_index (suc (m + l)) xs ≡ shifted (suc n) (end_index l (drop (suc n) xs))
end_jump m l [] n e = absurd (not_some n e)
end_jump m l (t ∷ rest) n e = jump_by m l t rest n _ refl (λ k j h. end_jump k l rest j h) e

-- a group by its end
abbrev pub from_end : List Token → Option ℕ → Option Taken
from_end xs None = None
from_end xs (Some n) = Some (record { argument = take n xs; after = drop (suc n) xs })

onto_from : (t : Token) (rest : List Token) (o : Option ℕ)
    → onto t (from_end rest o) ≡ from_end (t ∷ rest) (index_after_first o)
onto_from t rest None = refl
onto_from t rest (Some k) = ap (λ j. from_end (t ∷ rest) (Some j)) (let e : suc k ≡ k + 1 = omega arith in e)

group_by : (level : ℕ) (t : Token) (rest : List Token) (b : Bool) → (level == 0) && is_close t ≡ b
    → ((l : ℕ) → group l rest ≡ from_end rest (end_index l rest))
    → group level (t ∷ rest) ≡ from_end (t ∷ rest) (end_index level (t ∷ rest))
group_by level t rest true c again =
    (let g : group level (t ∷ rest) ≡ Some (record { argument = []; after = rest }) = rw c refl in g)
    ∙ ap (from_end (t ∷ rest)) (sym (end_here level t rest c))
group_by level t rest false c again =
    group_on level t rest c
    ∙ (ap (onto t) (again (level_after level t))
    ∙ (onto_from t rest (end_index (level_after level t) rest)
    ∙ ap (from_end (t ∷ rest)) (sym (end_on level t rest c))))

pub group_end : (level : ℕ) (xs : List Token) → group level xs ≡ from_end xs (end_index level xs)
group_end level [] = refl
group_end level (t ∷ rest) = group_by level t rest _ refl (λ l. group_end l rest)

pub are_ends_none : (ts : List Token) → AreEnds ts []
are_ends_none [] = tt
are_ends_none (t ∷ ts) = tt

take_within : (n : ℕ) (xs : List Token) → (length (take n xs) ≤ n) × (length (take n xs) ≤ length xs)
take_within zero xs = (omega arith, omega arith)
take_within (suc n) [] = (omega arith, omega arith)
take_within (suc n) (x ∷ xs) = let w = take_within n xs in (omega (arith, w.0), omega (arith, w.1))

pub are_ends_take : (n : ℕ) (ts : List Token) (es : List ℕ) → AreEnds ts es → AreEnds (take n ts) es
are_ends_take zero ts es h = tt
are_ends_take (suc n) [] es h = tt
are_ends_take (suc n) (t ∷ ts) [] h = tt
are_ends_take (suc n) (t ∷ ts) (e ∷ es) h =
    let w = take_within n ts in (
      (λ j. end_take 0 (suc n) (t ∷ ts) e (h.0 (omega (arith, j, w.1))) (omega (arith, j, w.0))),
      are_ends_take n ts es
          h.1,
    )

pub are_ends_drop : (n : ℕ) (ts : List Token) (es : List ℕ) → AreEnds ts es → AreEnds (drop n ts) (drop n es)
are_ends_drop zero ts es h = h
are_ends_drop (suc n) [] es h = tt
are_ends_drop (suc n) (t ∷ ts) [] h = are_ends_none (drop n ts)
are_ends_drop (suc n) (t ∷ ts) (e ∷ es) h = are_ends_drop n ts es h.1

pub first_end : (ts : List Token) (es : List ℕ) → AreEnds ts es → 1 ≤ length es → slice_index_or es 0 0 < length ts
    → end_index 0 ts ≡ Some (slice_index_or es 0 0)
first_end [] es h l w = absurd (omega (arith, w))
first_end (t ∷ ts) [] h l w = absurd (omega (arith, l))
first_end (t ∷ ts) (f ∷ es) h l w = h.0 w

pub end_at_index : (n : ℕ) (ts : List Token) (es : List ℕ) → AreEnds ts es → n < length es
    → IsEnd (slice_index_or es n 0) (drop n ts)
end_at_index zero ts [] h l w = absurd (omega (arith, l))
end_at_index zero ts (f ∷ es) h l w = first_end ts (f ∷ es) h (omega arith) w
end_at_index (suc n) [] es h l w = absurd (omega (arith, w))
end_at_index (suc n) (t ∷ ts) [] h l w = absurd (omega (arith, l))
end_at_index (suc n) (t ∷ ts) (f ∷ es) h l w = end_at_index n ts es h.1 (omega (arith, l)) w

-- the ends from an index on, by the end there
are_ends_back : {T : Type 0} (f : T → Token) (i e : ℕ) (xs : List T) (x : T) (es : List ℕ) → i < length xs → length es ≡ length xs → x ≡ get_or xs i x
    → AreEnds (drop (suc i) (map f xs)) (drop (suc i) es) → IsEnd e (f x ∷ drop (suc i) (map f xs)) → AreEnds (drop i (map f xs)) (drop i (set es i e))
are_ends_back f i e [] x es h l k a b = absurd (omega (arith, h))
are_ends_back f i e (y ∷ xs) x [] h l k a b = absurd (omega (arith, l))
are_ends_back f zero e (y ∷ xs) x (g ∷ es) h l k a b = (subst (λ z. IsEnd e (f z ∷ map f xs)) k b, a)
are_ends_back f (suc i) e (y ∷ xs) x (g ∷ es) h l k a b = are_ends_back f i e xs x es (omega (arith, h)) (omega (arith, l)) k a b

pub ends_step : {T : Type 0} (f : T → Token) (xs : List T) (x : T) (es : List ℕ) (i n e : ℕ) → n ≡ i + 1 → n ≤ length xs → length es ≡ length xs → x ≡ get_or xs i x → AreEnds (drop n (map f xs)) (drop n es)
    → IsEnd e (f x ∷ map f (take (length xs - (i + 1)) (drop (i + 1) xs))) → AreEnds (drop i (map f xs)) (drop i (set es i e))
ends_step f xs x es i n e z h l k a b =
    let y : n ≡ suc i = omega (arith, z) in
    let w : i + 1 ≡ suc i = omega arith in
    are_ends_back f i e xs x es (omega (arith, z, h)) l k (subst (λ (m : ℕ). AreEnds (drop m (map f xs)) (drop m es)) y a)
    (subst (λ (m : ℕ). IsEnd e (f x ∷ drop m (map f xs))) w (subst (λ (ts : List Token). IsEnd e (f x ∷ ts)) (mapped_drop f xs (i + 1)) b))

pub ends_slices : {T : Type 0} (f : T → Token) (xs : List T) (es ds : List ℕ) (i n : ℕ) → n ≡ i → AreEnds (drop n (map f xs)) (drop n es) → ds ≡ es
    → AreEnds (map f (take (length xs - i) (drop i xs))) (take (length ds - i) (drop i ds))
ends_slices f xs es ds i n z a e =
    let here : AreEnds (drop i (map f xs)) (drop i es) = subst (λ (m : ℕ). AreEnds (drop m (map f xs)) (drop m es)) z a in
    let all : take (length ds - i) (drop i ds) ≡ drop i es = take_all (length ds - i) (drop i ds) (omega (arith, length-drop i ds)) ∙ ap (drop i) e in
    subst (λ (ts : List Token). AreEnds ts (take (length ds - i) (drop i ds))) (sym (mapped_drop f xs i)) (subst (AreEnds (drop i (map f xs))) (sym all) here)

pub no_end : (n e : ℕ) (ts : List Token) → length ts ≤ n → IsEnd e (drop n ts)
no_end zero e [] h w = absurd (omega (arith, w))
no_end zero e (t ∷ ts) h w = absurd (omega (arith, h))
no_end (suc n) e [] h w = absurd (omega (arith, w))
no_end (suc n) e (t ∷ ts) h w = no_end n e ts (omega (arith, h)) w

-- the end at a token, by those after it
pub end_of_close : (t : Token) (after : List Token) → is_close t ≡ true → IsEnd 0 (t ∷ after)
end_of_close t after c w = end_here 0 t after c

pub end_of_other : (t : Token) (after : List Token) (first e : ℕ) → is_close t ≡ false → is_open t ≡ false
    → IsEnd first after → (e < suc (length after) → e ≡ first + 1) → IsEnd e (t ∷ after)
end_of_other t after first e c o h s w =
    let z = s w in
    end_on 0 t after c ∙ (ap (λ l. index_after_first (end_index l after)) (level_other 0 t o c)
    ∙ (ap index_after_first (h (omega (arith, w, z))) ∙ ap Some (sym z)))

pub end_of_open : (t : Token) (after : List Token) (first second e : ℕ) → is_close t ≡ false → is_open t ≡ true
    → IsEnd first after → IsEnd second (drop (suc first) after) → (e < suc (length after) → e ≡ first + second + 2)
    → IsEnd e (t ∷ after)
end_of_open t after first second e c o h k s w =
    let z = s w in
    let f = h (omega (arith, w, z)) in
    let g = k (omega (arith, w, z, length-drop (suc first) after)) in
    end_on 0 t after c ∙ (ap (λ l. index_after_first (end_index l after)) (level_open 0 t o)
    ∙ (ap index_after_first (end_jump 0 0 after first f ∙ ap (shifted (suc first)) g)
    ∙ ap Some (let y : second + suc first + 1 ≡ e = omega (arith, z) in y)))

-- a piece that is looked through from its first token on
pub record Leaving (before : ℕ) (first : List Token) (level index : ℕ) (rest : List Token) : Type 0 where
  pub is : (more : List Token) → end_index before (first ++ more) ≡ shifted index (end_index level (rest ++ more))
  pub size : index + length rest ≡ length first
  pub low : level ≤ before + index

pub leaving_start : (level : ℕ) (first : List Token) → Leaving level first level 0 first
leaving_start level first = record { is = λ more. shifted_none _; size = omega arith; low = omega arith }

pub leaving_more : (before level level' index : ℕ) (first rest rest' : List Token) (t : Token)
    → Leaving before first level index rest → rest ≡ t ∷ rest' → (level == 0) && is_close t ≡ false
    → level' ≡ level_after level t → level' ≤ level + 1 → Leaving before first level' (index + 1) rest'
leaving_more before level level' index first rest rest' t g e c l small = record {
  is = λ more. g.is more
      ∙ (ap (λ r. shifted index (end_index level (r ++ more))) e
      ∙ (ap (shifted index) (end_on level t (rest' ++ more) c
      ∙ ap (λ n. index_after_first (end_index n (rest' ++ more))) (sym l)) ∙ shifted_next index _));
  size = omega (arith, g.size, ap length e);
  low = omega (arith, g.low, small);
}

shifted_twice : (a b : ℕ) (o : Option ℕ) → shifted a (shifted b o) ≡ shifted (a + b) o
shifted_twice a b None = refl
shifted_twice a b (Some p) = ap Some (let e : p + b + a ≡ p + (a + b) = omega arith in e)

pub leaving_group : (before level index end : ℕ) (first rest rest' : List Token) (t : Token)
    → Leaving before first level index rest → rest ≡ t ∷ rest' → (level == 0) && is_close t ≡ false → is_open t ≡ true
    → end < length rest' → end_index 0 rest' ≡ Some end
    → Leaving before first level (index + (end + 2)) (drop (end + 1) rest')
leaving_group before level index end first rest rest' t g e c o w h = record {
  is = λ more.
      let d : drop (suc end) (rest' ++ more) ≡ drop (end + 1) rest' ++ more =
      drop-append-le (suc end) rest' more (omega (arith, w))
      ∙ ap (λ n. drop n rest' ++ more) (let y : suc end ≡ end + 1 = omega arith in y) in
      g.is more ∙ (ap (λ r. shifted index (end_index level (r ++ more))) e
      ∙ (ap (shifted index) (end_on level t (rest' ++ more) c
      ∙ (ap (λ n. index_after_first (end_index n (rest' ++ more))) (level_open level t o
      ∙ (let y : level + 1 ≡ suc (0 + level) = omega arith in y))
      ∙ (ap index_after_first (end_jump 0 level (rest' ++ more) end (end_append 0 rest' more end h)
      ∙ ap (λ r. shifted (suc end) (end_index level r)) d)
      ∙ shifted_first (suc end) _)))
      ∙ (shifted_twice index (suc (suc end)) _
      ∙ ap (λ n. shifted n (end_index level (drop (end + 1) rest' ++ more)))
      (let y : index + suc (suc end) ≡ index + (end + 2) = omega arith in y))));
  size = omega (arith, g.size, ap length e, length-drop (end + 1) rest', w);
  low = omega (arith, g.low);
}

pub leaving_at : (before level index : ℕ) (first rest rest' : List Token) (t : Token)
    → Leaving before first level index rest → rest ≡ t ∷ rest' → (level == 0) && is_close t ≡ true
    → Closes before first (At index)
leaving_at before level index first rest rest' t g e c = (
  omega (arith, g.size, ap length e),
  ap (end_index before) (sym (append-nil first))
      ∙ (g.is [] ∙ (ap (λ r. shifted index (end_index level (r ++ []))) e
      ∙ (ap (shifted index) (end_here level t (rest' ++ []) c) ∙ shifted_here index))),
)

pub leaving_open : (before level index : ℕ) (first rest : List Token) → Leaving before first level index rest
    → rest ≡ [] → Closes before first (Open level)
leaving_open before level index first rest g e =
    let z : index ≡ length first = omega (arith, g.size, ap length e) in (
      omega (arith, g.low, z),
      λ more. g.is more
          ∙ (ap (λ r. shifted index (end_index level (r ++ more))) e ∙ ap (λ n. shifted n (end_index level more)) z),
    )

-- a group of which pieces are taken
pub record Gathering (first rest : List Token) (level : ℕ) (inside : List Token) : Type 0 where
  pub is : end_index 0 first ≡ shifted (length inside) (end_index level rest)
  pub cut : first ≡ inside ++ rest
  pub low : level ≤ length inside

pub gathering_start : (first inside : List Token) → inside ≡ [] → Gathering first first 0 inside
gathering_start first inside e =
    record {
      is = shifted_none _
          ∙ ap (λ xs. shifted (length xs) (end_index 0 first)) (sym e);
      cut = ap (λ xs. xs ++ first) (sym e);
      low = omega
          arith;
    }

pub gathering_more : (first rest rest' piece inside inside' : List Token) (level next : ℕ)
    → Gathering first rest level inside → rest ≡ piece ++ rest' → Closes level piece (Open next)
    → inside' ≡ inside ++ piece → Gathering first rest' next inside'
gathering_more first rest rest' piece inside inside' level next g e c i =
    let size : length inside + length piece ≡ length inside' = sym (ap length i ∙ length-append inside piece) in
    record {
      is = g.is ∙ (ap (λ r. shifted (length inside) (end_index level r)) e
          ∙ (ap (shifted (length inside)) (c.1 rest')
          ∙ (shifted_twice (length inside) (length piece) _ ∙ ap (λ n. shifted n (end_index next rest')) size)));
      cut = g.cut ∙ (ap (λ r. inside ++ r) e
          ∙ (sym (append_assoc inside piece rest') ∙ ap (λ r. r ++ rest') (sym i)));
      low = omega (arith, g.low, c.0, size);
    }

taken_inside : (inside rest : List Token) (n : ℕ)
    → from_end (inside ++ rest) (Some (n + length inside)) ≡ Some
    (record { argument = inside ++ take n rest; after = drop (suc n) rest })
taken_inside [] rest n = ap (λ k. from_end rest (Some k)) (let e : n + 0 ≡ n = omega arith in e)
taken_inside (t ∷ inside) rest n =
    ap (λ k. from_end (t ∷ (inside ++ rest)) (Some k))
    (let e : n + suc (length inside) ≡ suc (n + length inside) = omega arith in e)
    ∙ ap (onto t) (taken_inside inside rest n)

pub gathering_ends : (first rest rest' piece inside inside' after : List Token) (level index : ℕ)
    → Gathering first rest level inside → rest ≡ piece ++ rest' → Closes level piece (At index)
    → inside' ≡ inside ++ take index piece → after ≡ drop (index + 1) piece ++ rest'
    → Takes (Some inside') (group 0 first) after
gathering_ends first rest rest' piece inside inside' after level index g e c i a =
    let found : end_index 0 first ≡ Some (index + length inside) =
    g.is ∙ (ap (λ r. shifted (length inside) (end_index level r)) e
    ∙ ap (shifted (length inside)) (end_append level piece rest' index c.1)) in
    let front : take index rest ≡ take index piece =
    ap (take index) e ∙ take-append-le index piece rest' (omega (arith, c.0)) in
    let back : drop (suc index) rest ≡ after =
    ap (drop (suc index)) e
    ∙ (drop-append-le (suc index) piece rest' (omega (arith, c.0))
    ∙ (ap (λ n. drop n piece ++ rest') (let y : suc index ≡ index + 1 = omega arith in y) ∙ sym a)) in
    group_end 0 first ∙ (ap (from_end first) found
    ∙ (ap (λ xs. from_end xs (Some (index + length inside))) g.cut ∙ (taken_inside inside rest index
    ∙ (ap (λ xs. Some (record { argument = xs; after = drop (suc index) rest })) (ap (λ xs. inside ++ xs) front
    ∙ sym i) ∙ ap (λ xs. Some (record { argument = inside'; after = xs })) back))))

pub gathering_none : (first rest after inside : List Token) (level : ℕ) → Gathering first rest level inside
    → rest ≡ [] → Takes None (group 0 first) after
gathering_none first rest after inside level g e =
    group_end 0 first ∙ ap (from_end first) (g.is ∙ ap (λ r. shifted (length inside) (end_index level r)) e)

-- the tokens of pieces
pub joined_append : (ps qs : List (List Token)) → joined (ps ++ qs) ≡ joined ps ++ joined qs
joined_append [] qs = refl
joined_append (p ∷ ps) qs = ap (λ r. p ++ r) (joined_append ps qs) ∙ sym (append_assoc p (joined ps) (joined qs))

pub joined_more : (ps : List (List Token)) (p : List Token) → joined (ps ++ p ∷ []) ≡ joined ps ++ p
joined_more ps p = joined_append ps (p ∷ []) ∙ ap (λ r. joined ps ++ r) (append-nil p)
