-- Moves across and downward (`shifted`, `lowered`).
use Rattle.std.proofs.Common.{◌≡◌, ℕ, ◌<◌, ◌≤◌, List, [], ◌∷◌, ◌++◌, refl, sym, ◌∙◌, ap, subst, arith}
use Rattle.std.specs.Prelude.{ℤ, pos, ◌+ℤ◌, nat_abs, true, false, Bool, Option, ◌==◌, if◌then◌else◌}
use Rattle.std.specs.Ordering.{int_eq}
use Rattle.std.proofs.lemmas.Bool.Decides.{nat_tests, Decides-int_eq}
use Rattle.std.proofs.lemmas.Int.{ints}
use Rattle.mt_scaled.specs.Number.{max_dimen}
use Rattle.mt_dvi.specs.Codes.{Operation, Add, Set, W, X, Y, Z}
use Rattle.mt_dvi.specs.Moves.{least_size, move_form}
use Rattle.mt_dvi.specs.Machine.{is_far}
use Rattle.mt_dvi.specs.Writable.{InRange}
use Rattle.mt_dvi.specs.Trace.{Opcode}
use Rattle.mt_dvi.specs.Lean.{Across, Downward}
use Rattle.mt_dvi.specs.File.{Continues, file_step}
use Rattle.mt_dvi.specs.writer.Emits.{Emits, own_code, own_size}
use Rattle.mt_dvi.specs.writer.HeldAmounts.{EmitsMove, held_after, with_next}
use Rattle.mt_dvi.specs.writer.LeadsTo.{Reached, at_offset_of, in_page, machine_at, with_opcodes}
use Rattle.mt_dvi.specs.writer.Stands.{Arrived, Lowered, Shifted, Stands}
use Rattle.mt_family.specs.SetValue.{SetValue}
use Rattle.mt_dvi.specs.declared.moves.HeldAmounts.{HeldAmounts}
use Rattle.mt_dvi.specs.declared.moves.MoveForm.{MoveForm}
use Rattle.mt_dvi.specs.declared.moves.MoveForm.TheVariants.{None, First, Second, Bytes}
use Rattle.mt_dvi.specs.declared.page.Cursor.{Cursor}
use Rattle.mt_dvi.proofs.Prefix.{leads_next}
use Rattle.mt_dvi.proofs.LeanLemmas.{lean_next, lean_later}

-- a number in range, as the proofs use it
pub half : (z : ℤ) → InRange z → nat_abs z ≤ max_dimen
half z in_range = omega (arith, ints, in_range.low, in_range.high)

pub small : (z : ℤ) → InRange z → nat_abs z < 2147483648
small z in_range = omega (arith, half z in_range)

pub near : (z : ℤ) → nat_abs z < 2147483648 → is_far z ≡ false
near z lt = grind (arith, nat_tests)

pub same_nat : (n : ℕ) → (n == n) ≡ true
same_nat n = grind (arith, nat_tests)

-- an operation that the writer states, from one cursor to the next
abbrev pub own_opcode : Operation → Cursor → Cursor → Opcode
own_opcode op c next = record { code = own_code op; size = own_size op; says = op; before = machine_at c; after = machine_at next }

-- the file in a page, read up to here
abbrev pub at_page : List ℕ → Reached → List Opcode → Reached
at_page out reached page = record (with_opcodes reached page) { file = at_offset_of out reached.file }

-- what a form tells of the amount
pub record IsOperand (amount first second : ℤ) : Type 0 where
  pub some : int_eq amount (pos 0) ≡ false
  pub not_first : int_eq amount first ≡ false
  pub not_second : int_eq amount second ≡ false

of_none : (amount first second : ℤ) → move_form amount first second ≡ None → amount ≡ pos 0
of_none amount first second is = by_test (int_eq amount (pos 0)) (int_eq amount first) (int_eq amount second) refl is where
  by_test : (a b d : Bool) → int_eq amount (pos 0) ≡ a → (if a then None else if b then First else if d then Second else Bytes (least_size amount)) ≡ None → amount ≡ pos 0
  by_test true b d e is = (Decides-int_eq amount (pos 0)).0 e
  by_test false true d e is = absurd (cc)
  by_test false false true e is = absurd (cc)
  by_test false false false e is = absurd (cc)

of_first : (amount first second : ℤ) → move_form amount first second ≡ First → (int_eq amount (pos 0) ≡ false) × (amount ≡ first)
of_first amount first second is = by_test (int_eq amount (pos 0)) (int_eq amount first) (int_eq amount second) refl refl is where
  by_test : (a b d : Bool) → int_eq amount (pos 0) ≡ a → int_eq amount first ≡ b → (if a then None else if b then First else if d then Second else Bytes (least_size amount)) ≡ First → (int_eq amount (pos 0) ≡ false) × (amount ≡ first)
  by_test true b d e f is = absurd (cc)
  by_test false true d e f is = (e, (Decides-int_eq amount first).0 f)
  by_test false false true e f is = absurd (cc)
  by_test false false false e f is = absurd (cc)

of_second : (amount first second : ℤ) → move_form amount first second ≡ Second → (int_eq amount (pos 0) ≡ false) × (amount ≡ second)
of_second amount first second is = by_test (int_eq amount (pos 0)) (int_eq amount first) (int_eq amount second) refl refl is where
  by_test : (a b d : Bool) → int_eq amount (pos 0) ≡ a → int_eq amount second ≡ d → (if a then None else if b then First else if d then Second else Bytes (least_size amount)) ≡ Second → (int_eq amount (pos 0) ≡ false) × (amount ≡ second)
  by_test true b d e f is = absurd (cc)
  by_test false true d e f is = absurd (cc)
  by_test false false true e f is = (e, (Decides-int_eq amount second).0 f)
  by_test false false false e f is = absurd (cc)

of_bytes : (amount first second : ℤ) (n : ℕ) → move_form amount first second ≡ Bytes n → IsOperand amount first second
of_bytes amount first second n is = by_test (int_eq amount (pos 0)) (int_eq amount first) (int_eq amount second) refl refl refl is where
  by_test : (a b d : Bool) → int_eq amount (pos 0) ≡ a → int_eq amount first ≡ b → int_eq amount second ≡ d → (if a then None else if b then First else if d then Second else Bytes (least_size amount)) ≡ Bytes n → IsOperand amount first second
  by_test true b d e f g is = absurd (cc)
  by_test false true d e f g is = absurd (cc)
  by_test false false true e f g is = absurd (cc)
  by_test false false false e f g is = record { some = e; not_first = f; not_second = g }

-- across

step_w : (fonts : SetValue) (reached : Reached) (c : Cursor) (by : ℤ) (rest : List ℕ) → is_far (c.h +ℤ by) ≡ false → is_far c.v ≡ false
    → file_step fonts (in_page reached c).file (Set W by) rest ≡ Continues (in_page reached (record c { h = c.h +ℤ by; across = record (c.across) { first = by; second_next = true } })).file
step_w fonts reached c by rest h v = rw (h, v) refl

step_x : (fonts : SetValue) (reached : Reached) (c : Cursor) (by : ℤ) (rest : List ℕ) → is_far (c.h +ℤ by) ≡ false → is_far c.v ≡ false
    → file_step fonts (in_page reached c).file (Set X by) rest ≡ Continues (in_page reached (record c { h = c.h +ℤ by; across = record (c.across) { second = by; second_next = false } })).file
step_x fonts reached c by rest h v = rw (h, v) refl

step_w0 : (fonts : SetValue) (reached : Reached) (c : Cursor) (rest : List ℕ) → is_far (c.h +ℤ c.across.first) ≡ false → is_far c.v ≡ false
    → file_step fonts (in_page reached c).file (Add W) rest ≡ Continues (in_page reached (record c { h = c.h +ℤ c.across.first })).file
step_w0 fonts reached c rest h v = rw (h, v) refl

step_x0 : (fonts : SetValue) (reached : Reached) (c : Cursor) (rest : List ℕ) → is_far (c.h +ℤ c.across.second) ≡ false → is_far c.v ≡ false
    → file_step fonts (in_page reached c).file (Add X) rest ≡ Continues (in_page reached (record c { h = c.h +ℤ c.across.second })).file
step_x0 fonts reached c rest h v = rw (h, v) refl

sets_across : (fonts : SetValue) (old new : List ℕ) (reached : Reached) (h v first second : ℤ) (second_next : Bool) (downward : HeldAmounts) (font : Option ℕ) (by : ℤ)
    → is_far (h +ℤ by) ≡ false → is_far v ≡ false → IsOperand by first second → Emits 5 old new (Set (if second_next then X else W) by)
    → Stands fonts old reached (record { h = h; v = v; across = record { first = first; second = second; second_next = second_next }; downward = downward; font = font }) Arrived
    → Stands fonts new reached (record { h = h +ℤ by; v = v; across = with_next (record { first = first; second = second; second_next = second_next }) by; downward = downward; font = font }) Shifted
sets_across fonts old new reached h v first second false downward font by far_h far_v operand emits stands =
    let c : Cursor = record { h = h; v = v; across = record { first = first; second = second; second_next = false }; downward = downward; font = font } in
    let next : Cursor = record { h = h +ℤ by; v = v; across = record { first = by; second = second; second_next = true }; downward = downward; font = font } in
    let o = own_opcode (Set W by) c next in
    record {
      page = stands.page ++ o ∷ [];
      lean = lean_next stands.page o c next Arrived Shifted stands.lean (Across ∷ []) (refl, refl) (rw (operand.not_first, operand.not_second, operand.some, same_nat (least_size by)) refl)
          (λ rest e. tt) (λ rest e. refl) (λ rest. refl) (λ rest. refl) (λ rest. rw stands.lean.allows refl);
      leads = leads_next fonts old new (in_page (with_opcodes reached stands.page) c) (in_page (with_opcodes reached (stands.page ++ o ∷ [])) next) (Set W by) 5 stands.leads emits
          (λ rest. step_w fonts (at_page old reached stands.page) c by rest far_h far_v) refl;
    }
sets_across fonts old new reached h v first second true downward font by far_h far_v operand emits stands =
    let c : Cursor = record { h = h; v = v; across = record { first = first; second = second; second_next = true }; downward = downward; font = font } in
    let next : Cursor = record { h = h +ℤ by; v = v; across = record { first = first; second = by; second_next = false }; downward = downward; font = font } in
    let o = own_opcode (Set X by) c next in
    record {
      page = stands.page ++ o ∷ [];
      lean = lean_next stands.page o c next Arrived Shifted stands.lean (Across ∷ []) (refl, refl) (rw (operand.not_first, operand.not_second, operand.some, same_nat (least_size by)) refl)
          (λ rest e. tt) (λ rest e. refl) (λ rest. refl) (λ rest. refl) (λ rest. rw stands.lean.allows refl);
      leads = leads_next fonts old new (in_page (with_opcodes reached stands.page) c) (in_page (with_opcodes reached (stands.page ++ o ∷ [])) next) (Set X by) 5 stands.leads emits
          (λ rest. step_x fonts (at_page old reached stands.page) c by rest far_h far_v) refl;
    }

adds_w : (fonts : SetValue) (old new : List ℕ) (reached : Reached) (c : Cursor)
    → is_far (c.h +ℤ c.across.first) ≡ false → is_far c.v ≡ false → int_eq c.across.first (pos 0) ≡ false → Emits 1 old new (Add W)
    → Stands fonts old reached c Arrived → Stands fonts new reached (record c { h = c.h +ℤ c.across.first }) Shifted
adds_w fonts old new reached c far_h far_v some emits stands =
    let next : Cursor = record c { h = c.h +ℤ c.across.first } in
    let o = own_opcode (Add W) c next in
    record {
      page = stands.page ++ o ∷ [];
      lean = lean_next stands.page o c next Arrived Shifted stands.lean (Across ∷ []) (refl, refl) (rw some refl)
          (λ rest e. tt) (λ rest e. refl) (λ rest. refl) (λ rest. refl) (λ rest. rw stands.lean.allows refl);
      leads = leads_next fonts old new (in_page (with_opcodes reached stands.page) c) (in_page (with_opcodes reached (stands.page ++ o ∷ [])) next) (Add W) 1 stands.leads emits
          (λ rest. step_w0 fonts (at_page old reached stands.page) c rest far_h far_v) refl;
    }

adds_x : (fonts : SetValue) (old new : List ℕ) (reached : Reached) (c : Cursor)
    → is_far (c.h +ℤ c.across.second) ≡ false → is_far c.v ≡ false → int_eq c.across.second (pos 0) ≡ false → Emits 1 old new (Add X)
    → Stands fonts old reached c Arrived → Stands fonts new reached (record c { h = c.h +ℤ c.across.second }) Shifted
adds_x fonts old new reached c far_h far_v some emits stands =
    let next : Cursor = record c { h = c.h +ℤ c.across.second } in
    let o = own_opcode (Add X) c next in
    record {
      page = stands.page ++ o ∷ [];
      lean = lean_next stands.page o c next Arrived Shifted stands.lean (Across ∷ []) (refl, refl) (rw some refl)
          (λ rest e. tt) (λ rest e. refl) (λ rest. refl) (λ rest. refl) (λ rest. rw stands.lean.allows refl);
      leads = leads_next fonts old new (in_page (with_opcodes reached stands.page) c) (in_page (with_opcodes reached (stands.page ++ o ∷ [])) next) (Add X) 1 stands.leads emits
          (λ rest. step_x0 fonts (at_page old reached stands.page) c rest far_h far_v) refl;
    }

same_place : (a b amount : ℤ) → a +ℤ amount ≡ b → amount ≡ pos 0 → a ≡ b
same_place a b amount to e = omega (arith, ints, to, e)

pub shifted : (fonts : SetValue) (old new : List ℕ) (reached : Reached) (c : Cursor) (h amount : ℤ) (form : MoveForm) → EmitsMove W X c.across amount old new form → c.h +ℤ amount ≡ h → move_form amount c.across.first c.across.second ≡ form
    → nat_abs h < 2147483648 → nat_abs c.v < 2147483648
    → Stands fonts old reached c Arrived → Stands fonts new reached (record c { h = h; across = held_after c.across amount form }) Shifted
shifted fonts old new reached c h amount None emits to is lt_h lt_v stands =
    let stay : Stands fonts old reached c Shifted = record { page = stands.page; lean = lean_later stands.page c Arrived Shifted stands.lean [] stands.lean.allows (refl, refl) (λ rest e. tt); leads = stands.leads } in
    subst (λ (z : ℤ). Stands fonts new reached (record c { h = z }) Shifted) (same_place c.h h amount to (of_none amount c.across.first c.across.second is))
    (subst (λ (l : List ℕ). Stands fonts l reached c Shifted) (sym emits) stay)
shifted fonts old new reached c h amount First emits to is lt_h lt_v stands =
    let f = of_first amount c.across.first c.across.second is in
    let there : c.h +ℤ c.across.first ≡ h = ap (λ (z : ℤ). c.h +ℤ z) (sym f.1) ∙ to in
    subst (λ (z : ℤ). Stands fonts new reached (record c { h = z }) Shifted) there
    (adds_w fonts old new reached c (ap is_far there ∙ near h lt_h) (near c.v lt_v) (ap (λ (z : ℤ). int_eq z (pos 0)) (sym f.1) ∙ f.0) emits stands)
shifted fonts old new reached c h amount Second emits to is lt_h lt_v stands =
    let f = of_second amount c.across.first c.across.second is in
    let there : c.h +ℤ c.across.second ≡ h = ap (λ (z : ℤ). c.h +ℤ z) (sym f.1) ∙ to in
    subst (λ (z : ℤ). Stands fonts new reached (record c { h = z }) Shifted) there
    (adds_x fonts old new reached c (ap is_far there ∙ near h lt_h) (near c.v lt_v) (ap (λ (z : ℤ). int_eq z (pos 0)) (sym f.1) ∙ f.0) emits stands)
shifted fonts old new reached c h amount (Bytes n) emits to is lt_h lt_v stands =
    subst (λ (z : ℤ). Stands fonts new reached (record c { h = z; across = with_next c.across amount }) Shifted) to
    (sets_across fonts old new reached c.h c.v c.across.first c.across.second c.across.second_next c.downward c.font amount
    (ap is_far to ∙ near h lt_h) (near c.v lt_v) (of_bytes amount c.across.first c.across.second n is) emits stands)

-- downward

step_y : (fonts : SetValue) (reached : Reached) (c : Cursor) (by : ℤ) (rest : List ℕ) → is_far c.h ≡ false → is_far (c.v +ℤ by) ≡ false
    → file_step fonts (in_page reached c).file (Set Y by) rest ≡ Continues (in_page reached (record c { v = c.v +ℤ by; downward = record (c.downward) { first = by; second_next = true } })).file
step_y fonts reached c by rest h v = rw (h, v) refl

step_z : (fonts : SetValue) (reached : Reached) (c : Cursor) (by : ℤ) (rest : List ℕ) → is_far c.h ≡ false → is_far (c.v +ℤ by) ≡ false
    → file_step fonts (in_page reached c).file (Set Z by) rest ≡ Continues (in_page reached (record c { v = c.v +ℤ by; downward = record (c.downward) { second = by; second_next = false } })).file
step_z fonts reached c by rest h v = rw (h, v) refl

step_y0 : (fonts : SetValue) (reached : Reached) (c : Cursor) (rest : List ℕ) → is_far c.h ≡ false → is_far (c.v +ℤ c.downward.first) ≡ false
    → file_step fonts (in_page reached c).file (Add Y) rest ≡ Continues (in_page reached (record c { v = c.v +ℤ c.downward.first })).file
step_y0 fonts reached c rest h v = rw (h, v) refl

step_z0 : (fonts : SetValue) (reached : Reached) (c : Cursor) (rest : List ℕ) → is_far c.h ≡ false → is_far (c.v +ℤ c.downward.second) ≡ false
    → file_step fonts (in_page reached c).file (Add Z) rest ≡ Continues (in_page reached (record c { v = c.v +ℤ c.downward.second })).file
step_z0 fonts reached c rest h v = rw (h, v) refl

sets_downward : (fonts : SetValue) (old new : List ℕ) (reached : Reached) (h v first second : ℤ) (second_next : Bool) (across : HeldAmounts) (font : Option ℕ) (by : ℤ)
    → is_far h ≡ false → is_far (v +ℤ by) ≡ false → IsOperand by first second → Emits 5 old new (Set (if second_next then Z else Y) by)
    → Stands fonts old reached (record { h = h; v = v; downward = record { first = first; second = second; second_next = second_next }; across = across; font = font }) Shifted
    → Stands fonts new reached (record { h = h; v = v +ℤ by; downward = with_next (record { first = first; second = second; second_next = second_next }) by; across = across; font = font }) Lowered
sets_downward fonts old new reached h v first second false across font by far_h far_v operand emits stands =
    let c : Cursor = record { h = h; v = v; downward = record { first = first; second = second; second_next = false }; across = across; font = font } in
    let next : Cursor = record { h = h; v = v +ℤ by; downward = record { first = by; second = second; second_next = true }; across = across; font = font } in
    let o = own_opcode (Set Y by) c next in
    record {
      page = stands.page ++ o ∷ [];
      lean = lean_next stands.page o c next Shifted Lowered stands.lean (stands.lean.moves ++ Downward ∷ []) stands.lean.allows.1 (rw (operand.not_first, operand.not_second, operand.some, same_nat (least_size by)) refl)
          (λ rest e. tt) (λ rest e. refl) (λ rest. refl) (λ rest. refl) (λ rest. refl);
      leads = leads_next fonts old new (in_page (with_opcodes reached stands.page) c) (in_page (with_opcodes reached (stands.page ++ o ∷ [])) next) (Set Y by) 5 stands.leads emits
          (λ rest. step_y fonts (at_page old reached stands.page) c by rest far_h far_v) refl;
    }
sets_downward fonts old new reached h v first second true across font by far_h far_v operand emits stands =
    let c : Cursor = record { h = h; v = v; downward = record { first = first; second = second; second_next = true }; across = across; font = font } in
    let next : Cursor = record { h = h; v = v +ℤ by; downward = record { first = first; second = by; second_next = false }; across = across; font = font } in
    let o = own_opcode (Set Z by) c next in
    record {
      page = stands.page ++ o ∷ [];
      lean = lean_next stands.page o c next Shifted Lowered stands.lean (stands.lean.moves ++ Downward ∷ []) stands.lean.allows.1 (rw (operand.not_first, operand.not_second, operand.some, same_nat (least_size by)) refl)
          (λ rest e. tt) (λ rest e. refl) (λ rest. refl) (λ rest. refl) (λ rest. refl);
      leads = leads_next fonts old new (in_page (with_opcodes reached stands.page) c) (in_page (with_opcodes reached (stands.page ++ o ∷ [])) next) (Set Z by) 5 stands.leads emits
          (λ rest. step_z fonts (at_page old reached stands.page) c by rest far_h far_v) refl;
    }

adds_y : (fonts : SetValue) (old new : List ℕ) (reached : Reached) (c : Cursor)
    → is_far c.h ≡ false → is_far (c.v +ℤ c.downward.first) ≡ false → int_eq c.downward.first (pos 0) ≡ false → Emits 1 old new (Add Y)
    → Stands fonts old reached c Shifted → Stands fonts new reached (record c { v = c.v +ℤ c.downward.first }) Lowered
adds_y fonts old new reached c far_h far_v some emits stands =
    let next : Cursor = record c { v = c.v +ℤ c.downward.first } in
    let o = own_opcode (Add Y) c next in
    record {
      page = stands.page ++ o ∷ [];
      lean = lean_next stands.page o c next Shifted Lowered stands.lean (stands.lean.moves ++ Downward ∷ []) stands.lean.allows.1 (rw some refl)
          (λ rest e. tt) (λ rest e. refl) (λ rest. refl) (λ rest. refl) (λ rest. refl);
      leads = leads_next fonts old new (in_page (with_opcodes reached stands.page) c) (in_page (with_opcodes reached (stands.page ++ o ∷ [])) next) (Add Y) 1 stands.leads emits
          (λ rest. step_y0 fonts (at_page old reached stands.page) c rest far_h far_v) refl;
    }

adds_z : (fonts : SetValue) (old new : List ℕ) (reached : Reached) (c : Cursor)
    → is_far c.h ≡ false → is_far (c.v +ℤ c.downward.second) ≡ false → int_eq c.downward.second (pos 0) ≡ false → Emits 1 old new (Add Z)
    → Stands fonts old reached c Shifted → Stands fonts new reached (record c { v = c.v +ℤ c.downward.second }) Lowered
adds_z fonts old new reached c far_h far_v some emits stands =
    let next : Cursor = record c { v = c.v +ℤ c.downward.second } in
    let o = own_opcode (Add Z) c next in
    record {
      page = stands.page ++ o ∷ [];
      lean = lean_next stands.page o c next Shifted Lowered stands.lean (stands.lean.moves ++ Downward ∷ []) stands.lean.allows.1 (rw some refl)
          (λ rest e. tt) (λ rest e. refl) (λ rest. refl) (λ rest. refl) (λ rest. refl);
      leads = leads_next fonts old new (in_page (with_opcodes reached stands.page) c) (in_page (with_opcodes reached (stands.page ++ o ∷ [])) next) (Add Z) 1 stands.leads emits
          (λ rest. step_z0 fonts (at_page old reached stands.page) c rest far_h far_v) refl;
    }

pub lowered : (fonts : SetValue) (old new : List ℕ) (reached : Reached) (c : Cursor) (v amount : ℤ) (form : MoveForm) → EmitsMove Y Z c.downward amount old new form → c.v +ℤ amount ≡ v → move_form amount c.downward.first c.downward.second ≡ form
    → nat_abs c.h < 2147483648 → nat_abs v < 2147483648
    → Stands fonts old reached c Shifted → Stands fonts new reached (record c { v = v; downward = held_after c.downward amount form }) Lowered
lowered fonts old new reached c v amount None emits to is lt_h lt_v stands =
    let stay : Stands fonts old reached c Lowered = record { page = stands.page; lean = lean_later stands.page c Shifted Lowered stands.lean stands.lean.moves refl stands.lean.allows.0 (λ rest e. tt); leads = stands.leads } in
    subst (λ (z : ℤ). Stands fonts new reached (record c { v = z }) Lowered) (same_place c.v v amount to (of_none amount c.downward.first c.downward.second is))
    (subst (λ (l : List ℕ). Stands fonts l reached c Lowered) (sym emits) stay)
lowered fonts old new reached c v amount First emits to is lt_h lt_v stands =
    let f = of_first amount c.downward.first c.downward.second is in
    let there : c.v +ℤ c.downward.first ≡ v = ap (λ (z : ℤ). c.v +ℤ z) (sym f.1) ∙ to in
    subst (λ (z : ℤ). Stands fonts new reached (record c { v = z }) Lowered) there
    (adds_y fonts old new reached c (near c.h lt_h) (ap is_far there ∙ near v lt_v) (ap (λ (z : ℤ). int_eq z (pos 0)) (sym f.1) ∙ f.0) emits stands)
lowered fonts old new reached c v amount Second emits to is lt_h lt_v stands =
    let f = of_second amount c.downward.first c.downward.second is in
    let there : c.v +ℤ c.downward.second ≡ v = ap (λ (z : ℤ). c.v +ℤ z) (sym f.1) ∙ to in
    subst (λ (z : ℤ). Stands fonts new reached (record c { v = z }) Lowered) there
    (adds_z fonts old new reached c (near c.h lt_h) (ap is_far there ∙ near v lt_v) (ap (λ (z : ℤ). int_eq z (pos 0)) (sym f.1) ∙ f.0) emits stands)
lowered fonts old new reached c v amount (Bytes n) emits to is lt_h lt_v stands =
    subst (λ (z : ℤ). Stands fonts new reached (record c { v = z; downward = with_next c.downward amount }) Lowered) to
    (sets_downward fonts old new reached c.h c.v c.downward.first c.downward.second c.downward.second_next c.across c.font amount
    (near c.h lt_h) (ap is_far to ∙ near v lt_v) (of_bytes amount c.downward.first c.downward.second n is) emits stands)
