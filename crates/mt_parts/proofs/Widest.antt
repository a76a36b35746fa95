-- Along the next larger characters of an accent.
use Rattle.std.proofs.Common.{◌≡◌, ℕ, zero, suc, ◌<◌, ◌+◌, ◌-◌, ℤ, refl, arith, sym, ◌∙◌, ap, Option, Some, None, true, false, ◌&&◌, int_le, if◌then◌else◌, Bool, IsTrue}
use Rattle.mt_tfm.specs.Font.{Metrics, exists, width_of, larger_of}
use Rattle.mt_rules.specs.Accents.{widest_within, accent_code}

-- from here on the walk ends where it ends from the first character on
pub record Walked (m : Metrics) (width : ℤ) (start i code : ℕ) : Type 0 where
  pub same : widest_within (256 - i) m width code (larger_of m code) ≡ accent_code m width start
  pub there : IsTrue (exists m code)

none_is : (o : Option ℕ) → ((c : ℕ) → o ≡ Some c → ⊥) → o ≡ None
none_is None h = refl
none_is (Some c) h = absurd (h c refl)

last : (turns : ℕ) (m : Metrics) (width : ℤ) (c : ℕ) → widest_within turns m width c None ≡ c
last zero m width c = refl
last (suc turns) m width c = refl

stopped : (turns : ℕ) (m : Metrics) (width : ℤ) (c d : ℕ) → (exists m d && int_le (width_of m d) width) ≡ false → widest_within turns m width c (Some d) ≡ c
stopped zero m width c d e = refl
stopped (suc turns) m width c d e = ap (λ b. if b then widest_within turns m width d (larger_of m d) else c) e

gone_on : (turns : ℕ) (m : Metrics) (width : ℤ) (c d : ℕ) → (exists m d && int_le (width_of m d) width) ≡ true → widest_within (suc turns) m width c (Some d) ≡ widest_within turns m width d (larger_of m d)
gone_on turns m width c d e = ap (λ b. if b then widest_within turns m width d (larger_of m d) else c) e

first_true : (a b : Bool) → (a && b) ≡ true → a ≡ true
first_true true b e = refl
first_true false b e = e

more : (i : ℕ) → i < 256 → 256 - i ≡ suc (256 - (i + 1))
more i lt = omega arith

pub walked-start : (m : Metrics) (width : ℤ) (start : ℕ) → IsTrue (exists m start) → Walked m width start 0 start
walked-start m width start h = record { same = refl; there = h }

-- there is no larger one
pub walked-last : (m : Metrics) (width : ℤ) (start i code : ℕ) (next : Option ℕ) → next ≡ larger_of m code → ((d : ℕ) → next ≡ Some d → ⊥) → Walked m width start i code → code ≡ accent_code m width start
walked-last m width start i code next is none h =
    sym (last (256 - i) m width code) ∙ ap (λ o. widest_within (256 - i) m width code o) (sym (none_is next none) ∙ is) ∙ h.same

-- the next one does not exist or is wider
pub walked-stop : (m : Metrics) (width : ℤ) (start i code d : ℕ) → Some d ≡ larger_of m code → (exists m d && int_le (width_of m d) width) ≡ false → Walked m width start i code → code ≡ accent_code m width start
walked-stop m width start i code d is e h =
    sym (stopped (256 - i) m width code d e) ∙ ap (λ o. widest_within (256 - i) m width code o) is ∙ h.same

pub walked-step : (m : Metrics) (width : ℤ) (start i code d : ℕ) → i < 256 → Some d ≡ larger_of m code → (exists m d && int_le (width_of m d) width) ≡ true → Walked m width start i code → Walked m width start (i + 1) d
walked-step m width start i code d lt is e h = record {
  same =
      sym (gone_on (256 - (i + 1)) m width code d e)
      ∙ ap (λ n. widest_within n m width code (Some d)) (sym (more i lt))
      ∙ ap (λ o. widest_within (256 - i) m width code o) is
      ∙ h.same;
  there = first_true (exists m d) (int_le (width_of m d) width) e;
}

pub walked-end : (m : Metrics) (width : ℤ) (start i code : ℕ) → i ≡ 256 → Walked m width start i code → code ≡ accent_code m width start
walked-end m width start i code e h =
    let none : 256 - i ≡ 0 = omega arith in
    sym (ap (λ n. widest_within n m width code (larger_of m code)) none) ∙ h.same
