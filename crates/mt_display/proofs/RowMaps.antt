-- Rows made one after another, each as wide as the line.
use Rattle.std.proofs.Common.{◌≡◌, ℕ, ◌≤◌, ◌+◌, ◌^◌, ◌-◌, max, ℤ, List, [], ◌∷◌, ◌++◌, map, refl, arith, sym, ◌∙◌, ap, subst, All}
use Rattle.mt_display.proofs.Common.{All-cons, All-nil, BoxValue, Layout, layout_of, nil_right, boxes_level, greatest_level}

-- rows that are seen as g says and made as f says: these are made, and the rest is still to come
pub record Made {A B : Type 0} (level : A → ℕ) (g : A → B) (f : B → Layout) (rows rest : List A) (made : List BoxValue) : Type 0 where
  pub values : map layout_of made ++ map f (map g rest) ≡ map f (map g rows)
  pub level_is : max (boxes_level made) (greatest_level level rest + 1) ≤ greatest_level level rows + 1

layouts-append : (bs : List BoxValue) (b : BoxValue) (ls : List Layout) → map layout_of (bs ++ b ∷ []) ++ ls ≡ map layout_of bs ++ layout_of b ∷ ls
layouts-append [] b ls = refl
layouts-append (c ∷ bs) b ls = ap (λ xs. layout_of c ∷ xs) (layouts-append bs b ls)

boxes_level-append : (bs : List BoxValue) (b : BoxValue) → boxes_level (bs ++ b ∷ []) ≡ max (boxes_level bs) b.level
boxes_level-append [] b = omega arith
boxes_level-append (c ∷ bs) b = omega (arith, boxes_level-append bs b)

pub made_start : {A B : Type 0} (level : A → ℕ) (g : A → B) (f : B → Layout) (rows rest : List A) (made : List BoxValue) → rest ≡ rows → made ≡ [] → Made level g f rows rest made
made_start level g f rows rest made e m = rw (e, m) (record { values = refl; level_is = omega arith })

pub made_step : {A B : Type 0} (level : A → ℕ) (g : A → B) (f : B → Layout) (rows rest rest' : List A) (a : A) (made made' : List BoxValue) (b : BoxValue) → Made level g f rows rest made → rest ≡ a ∷ rest' → layout_of b ≡ f (g a) → b.level ≡ level a + 1 → made' ≡ made ++ b ∷ [] → Made level g f rows rest' made'
made_step level g f rows rest rest' a made made' b h e is deep m =
    let h' : Made level g f rows (a ∷ rest') made = subst (λ r. Made level g f rows r made) e h in
    rw m (record {
      values = layouts-append made b (map f (map g rest')) ∙ ap (λ l. map layout_of made ++ l ∷ map f (map g rest')) is ∙ h'.values;
      level_is = omega (arith, boxes_level-append made b, h'.level_is, deep);
    })

-- the next row has no greater level than all
pub next_level : {A B : Type 0} (level : A → ℕ) (g : A → B) (f : B → Layout) (rows rest rest' : List A) (a : A) (made : List BoxValue) → Made level g f rows rest made → rest ≡ a ∷ rest' → greatest_level level rows ≤ 2 ^ 20 - 3 → level a ≤ 2 ^ 20 - 3
next_level level g f rows rest rest' a made h e few =
    let h' : Made level g f rows (a ∷ rest') made = subst (λ r. Made level g f rows r made) e h in
    omega (arith, h'.level_is, few)

pub made_values : {A B : Type 0} (level : A → ℕ) (g : A → B) (f : B → Layout) (rows rest : List A) (made : List BoxValue) → Made level g f rows rest made → rest ≡ [] → map layout_of made ≡ map f (map g rows)
made_values level g f rows rest made h e =
    let h' : Made level g f rows [] made = subst (λ r. Made level g f rows r made) e h in
    sym (nil_right _) ∙ h'.values

pub made_level : {A B : Type 0} (level : A → ℕ) (g : A → B) (f : B → Layout) (rows rest : List A) (made : List BoxValue) → Made level g f rows rest made → boxes_level made ≤ greatest_level level rows + 1
made_level level g f rows rest made h = omega (arith, h.level_is)

-- ---- what is made of them

-- rows made so are all as wide as the line
pub all_wide : {B : Type 0} (z : ℤ) (f : B → Layout) → ((x : B) → (f x).extents.width ≡ z) → (bs : List BoxValue) (xs : List B) → map layout_of bs ≡ map f xs → All (λ (b : BoxValue). b.extents.width ≡ z) bs
all_wide z f h [] xs e = All-nil (λ (b : BoxValue). b.extents.width ≡ z)
all_wide z f h (b ∷ bs) [] e = absurd (cc)
all_wide z f h (b ∷ bs) (x ∷ xs) e =
    let first : layout_of b ≡ f x = cc in
    let rest : map layout_of bs ≡ map f xs = cc in
    All-cons (λ (c : BoxValue). c.extents.width ≡ z) b bs (ap (λ (l : Layout). l.extents.width) first ∙ h x) (all_wide z f h bs xs rest)
