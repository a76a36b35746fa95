-- What holds of each value that setting answers, step by step.
use Rattle.std.proofs.Common.{◌≡◌, ℤ, List, refl, subst, Option, Some, None, Bool, true, false, if◌then◌else◌, Ok, Err, IfOk}
use Rattle.mt_convert.proofs.Common.{Within, is_in_range, max_dimen, Extents, ExtentsInRange, first_out, Layout, PieceValue, pack, Setting, Overflow, ◌>>=◌, ◌>>◌, pass_unless, test_value, test_extents, test_rule, make_box, make_row, in_range, extents_in_range}
use Rattle.std.specs.Prelude.{⊤}

-- what a step answers, and what the steps after it do with it
pub step_holds : {A B : Type 0} (P : A → Type 0) (Q : B → Type 0) (s : Setting A) (next : A → Setting B) → IfOk s P → ((a : A) → P a → IfOk (next a) Q) → IfOk (s >>= next) Q
step_holds P Q (Ok a) next h k = k a h
step_holds P Q (Err fault) next h k = tt

-- the same, where nothing matters of what it answers
pub next_holds : {A B : Type 0} (Q : B → Type 0) (s : Setting A) (next : A → Setting B) → ((a : A) → IfOk (next a) Q) → IfOk (s >>= next) Q
next_holds Q (Ok a) next k = k a
next_holds Q (Err fault) next k = tt

-- of one answer
pub answer_holds : {A : Type 0} (P : A → Type 0) (s : Setting A) (a : A) → IfOk s P → s ≡ Ok a → P a
answer_holds P s a h e = subst (λ t. IfOk t P) e h

-- ---- tests

by_first : {B : Type 0} (Q : B → Type 0) (o : Option ℤ) (s : Setting B) → (o ≡ None → IfOk s Q) → IfOk (pass_unless o >> s) Q
by_first Q None s k = k refl
by_first Q (Some value) s k = tt

pub after_extents : {B : Type 0} (Q : B → Type 0) (e : Extents) (s : Setting B) → (ExtentsInRange e → IfOk s Q) → IfOk (test_extents e >> s) Q
after_extents Q e s k = by_first Q (first_out e) s (λ is. k (extents_in_range e is))

abbrev range_test : Bool → ℤ → Setting ⊤
range_test b x = if b then Ok tt else Err (Overflow x)

by_range : {B : Type 0} (Q : B → Type 0) (b : Bool) (x : ℤ) (s : Setting B) → (b ≡ true → IfOk s Q) → IfOk (range_test b x >> s) Q
by_range Q true x s k = k refl
by_range Q false x s k = tt

pub after_value : {B : Type 0} (Q : B → Type 0) (x : ℤ) (s : Setting B) → (Within max_dimen x → IfOk s Q) → IfOk (test_value x >> s) Q
after_value Q x s k = by_range Q (is_in_range x) x s (λ is. k (in_range x is))

pub two_tests : {A B : Type 0} (a : Setting ⊤) (b : Setting A) (s : Setting B) → ((a >> b) >> s) ≡ (a >> (b >> s))
two_tests (Ok u) b s = refl
two_tests (Err fault) b s = refl

pub after_rule_test : {B : Type 0} (Q : B → Type 0) (width thickness : ℤ) (s : Setting B) → (Within max_dimen width → Within max_dimen thickness → IfOk s Q) → IfOk (test_rule width thickness >> s) Q
after_rule_test Q width thickness s k =
    rw (two_tests (test_value width) (test_value thickness) s)
    (after_value Q width (test_value thickness >> s) (λ w. after_value Q thickness s (λ t. k w t)))

-- ---- what is made

pub box_made : (P : Layout → Type 0) (l : Layout) → P l → IfOk (make_box l) P
box_made P l h = after_extents P l.extents (Ok l) (λ _. h)

pub row_made : (P : List PieceValue → Type 0) (row : List PieceValue) → P row → IfOk (make_row row) P
row_made P row h = after_extents P (pack row).extents (Ok row) (λ _. h)
