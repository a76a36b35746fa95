-- The offset of a fault is not before that of the next opcode (`fault_not_before`).
use Rattle.std.proofs.Common.{◌≡◌, ℕ, zero, suc, ◌+◌, ◌≤◌, List, [], ◌∷◌, length, drop, take, refl, sym, ◌∙◌, ap, arith}
use Rattle.std.specs.Prelude.{Ok, Err, Result, Option, Some, None, Bool, true, false, nat_le, nat_lt, ◌==◌, if◌then◌else◌}
use Rattle.mt_family.specs.SetValue.{SetValue}
use Rattle.mt_dvi.specs.Codes.{Operation, Char, Rule, Nop, Bop, Eop, Push, Pop, Right, Down, Set, Add, Select, Special, Define, Pre, Post, PostPost, Undefined, operand_size, operation}
use Rattle.mt_dvi.specs.Limits.{max_places}
use Rattle.mt_dvi.specs.Machine.{Cause, Truncated, Effects, WrittenPlace, Machine, is_outside, perform}
use Rattle.mt_dvi.specs.File.{Continuation, Continues, Ends, Fails, DviFault, Fault, File, Phase, BeforePre, BetweenPages, InPage, AfterPost, Reading, advance, after_post_step, after_step, before_pre_step, between_pages_step, can_define, effect_step, file_step, in_page_step, is_end, is_postamble, is_preamble, pages_of, pages_of_reading, phase_step, place_step, read, reading}
use Rattle.std.specs.Ordering.{int_eq}
use Rattle.mt_box.specs.declared.place.Place.{Place}

-- the offset that a file has after a step, or this one where it does not go on
abbrev offset_of : Continuation → ℕ → ℕ
offset_of (Continues next) at = next.at
offset_of (Ends last) at = at
offset_of (Fails cause) at = at

-- a step does not change the offset; what is passed over is added to it later
choice : (b : Bool) (next : File) (cause : Cause) (at : ℕ) → next.at ≡ at → offset_of (if b then Continues next else Fails cause) at ≡ at
choice true next cause at e = e
choice false next cause at e = refl

start : (file : File) (op : Operation) → offset_of (before_pre_step file op) file.at ≡ file.at
start file (Pre p) = choice (is_preamble p) _ _ file.at refl
start file (Char put code) = refl
start file (Rule put height width) = refl
start file Nop = refl
start file (Bop counts pointer) = refl
start file Eop = refl
start file Push = refl
start file Pop = refl
start file (Right by) = refl
start file (Down by) = refl
start file (Set register by) = refl
start file (Add register) = refl
start file (Select number) = refl
start file (Special bytes) = refl
start file (Define d) = refl
start file (Post p) = refl
start file (PostPost post version) = refl
start file Undefined = refl

between : (file : File) (op : Operation) → offset_of (between_pages_step file op) file.at ≡ file.at
between file (Bop counts pointer) = choice (int_eq pointer file.last) _ _ file.at refl
between file (Post p) = choice (is_postamble file p) _ _ file.at refl
between file (Define d) = choice (can_define file d) _ _ file.at refl
between file (Char put code) = refl
between file (Rule put height width) = refl
between file Nop = refl
between file Eop = refl
between file Push = refl
between file Pop = refl
between file (Right by) = refl
between file (Down by) = refl
between file (Set register by) = refl
between file (Add register) = refl
between file (Select number) = refl
between file (Special bytes) = refl
between file (Pre p) = refl
between file (PostPost post version) = refl
between file Undefined = refl

refusal : (b : Bool) (cause : Cause) (next : File) (at : ℕ) → next.at ≡ at → offset_of (if b then Fails cause else Continues next) at ≡ at
refusal true cause next at e = refl
refusal false cause next at e = e

by_place : (file : File) (m : Machine) (place : Option WrittenPlace) → offset_of (place_step file m place) file.at ≡ file.at
by_place file m None = refl
by_place file m (Some place) = refusal (nat_le max_places file.place_count) _ _ file.at refl

by_range : (b : Bool) (cause : Cause) (c : Continuation) (at : ℕ) → offset_of c at ≡ at → offset_of (if b then Fails cause else c) at ≡ at
by_range true cause c at e = refl
by_range false cause c at e = e

by_effects : (file : File) (effects : Effects) → offset_of (effect_step file effects) file.at ≡ file.at
by_effects file (Err cause) = refl
by_effects file (Ok effect) = by_range (is_outside effect.machine) _ _ file.at (by_place file effect.machine effect.place)

in_page : (fonts : SetValue) (file : File) (op : Operation) → offset_of (in_page_step fonts file op) file.at ≡ file.at
in_page fonts file Eop = choice (length file.machine.saved == 0) _ _ file.at refl
in_page fonts file (Define d) = choice (can_define file d) _ _ file.at refl
in_page fonts file (Special bytes) = refl
in_page fonts file (Char put code) = by_effects file (perform fonts file.fonts file.machine (Char put code))
in_page fonts file (Rule put height width) = by_effects file (perform fonts file.fonts file.machine (Rule put height width))
in_page fonts file Nop = by_effects file (perform fonts file.fonts file.machine Nop)
in_page fonts file (Bop counts pointer) = by_effects file (perform fonts file.fonts file.machine (Bop counts pointer))
in_page fonts file Push = by_effects file (perform fonts file.fonts file.machine Push)
in_page fonts file Pop = by_effects file (perform fonts file.fonts file.machine Pop)
in_page fonts file (Right by) = by_effects file (perform fonts file.fonts file.machine (Right by))
in_page fonts file (Down by) = by_effects file (perform fonts file.fonts file.machine (Down by))
in_page fonts file (Set register by) = by_effects file (perform fonts file.fonts file.machine (Set register by))
in_page fonts file (Add register) = by_effects file (perform fonts file.fonts file.machine (Add register))
in_page fonts file (Select number) = by_effects file (perform fonts file.fonts file.machine (Select number))
in_page fonts file (Pre p) = by_effects file (perform fonts file.fonts file.machine (Pre p))
in_page fonts file (Post p) = by_effects file (perform fonts file.fonts file.machine (Post p))
in_page fonts file (PostPost post version) = by_effects file (perform fonts file.fonts file.machine (PostPost post version))
in_page fonts file Undefined = by_effects file (perform fonts file.fonts file.machine Undefined)

by_end : (a b : Bool) (file last : File) (x y : Cause) → offset_of (if a then Fails x else if b then Ends last else Fails y) file.at ≡ file.at
by_end true b file last x y = refl
by_end false true file last x y = refl
by_end false false file last x y = refl

after_post : (file : File) (op : Operation) (after : List ℕ) → offset_of (after_post_step file op after) file.at ≡ file.at
after_post file (PostPost post version) after = by_end (nat_lt (length after) 4) (is_end file post version after) file _ _ _
after_post file (Define d) after = choice (can_define file d) _ _ file.at refl
after_post file (Char put code) after = refl
after_post file (Rule put height width) after = refl
after_post file Nop after = refl
after_post file (Bop counts pointer) after = refl
after_post file Eop after = refl
after_post file Push after = refl
after_post file Pop after = refl
after_post file (Right by) after = refl
after_post file (Down by) after = refl
after_post file (Set register by) after = refl
after_post file (Add register) after = refl
after_post file (Select number) after = refl
after_post file (Special bytes) after = refl
after_post file (Pre p) after = refl
after_post file (Post p) after = refl
after_post file Undefined after = refl

step_keeps : (p : Phase) (fonts : SetValue) (file : File) (op : Operation) (after : List ℕ) → offset_of (phase_step p fonts file op after) file.at ≡ file.at
step_keeps BeforePre fonts file op after = start file op
step_keeps BetweenPages fonts file op after = between file op
step_keeps InPage fonts file op after = in_page fonts file op
step_keeps AfterPost fonts file op after = after_post file op after

abbrev fault_at : Reading → ℕ
fault_at (Ok file) = 0
fault_at (Err fault) = fault.at

at_same : (at : ℕ) (cause : Cause) (fault : Fault) (r : Reading) → r ≡ Err (record { cause = cause; at = at }) → r ≡ Err fault → at ≤ fault.at
at_same at cause fault r e f = let s : at ≡ fault.at = ap fault_at (sym e ∙ f) in omega (arith, s)

-- the fault of a file is at the next opcode or behind it
pub fault_not_before : (fonts : SetValue) (file : File) (operands : ℕ) (bytes : List ℕ) (fault : Fault) → reading fonts file operands bytes ≡ Err fault → file.at ≤ fault.at
unfolding reading
fault_not_before fonts file (suc operands) (byte ∷ bytes) fault e = fault_not_before fonts file operands bytes fault e
fault_not_before fonts file (suc operands) [] fault e = at_same file.at Truncated fault _ refl e
fault_not_before fonts file zero [] fault e = at_same file.at Truncated fault _ refl e
fault_not_before fonts file zero (code ∷ bytes) fault e =
    by_test (nat_lt (length bytes) (operand_size code bytes)) (λ next f. fault_not_before fonts (advance next (operand_size code bytes + 1)) (operand_size code bytes) bytes fault f) e where
      by_step : (c : Continuation) → ((next : File) → reading fonts (advance next (operand_size code bytes + 1)) (operand_size code bytes) bytes ≡ Err fault → next.at + (operand_size code bytes + 1) ≤ fault.at) → offset_of c file.at ≡ file.at
          → after_step file (operand_size code bytes + 1) c (λ (next : File). reading fonts next (operand_size code bytes) bytes) ≡ Err fault → file.at ≤ fault.at
      by_step (Continues next) later same e = let l = later next e in omega (arith, same, l)
      by_step (Ends last) later same e = absurd (cc)
      by_step (Fails cause) later same e = at_same file.at cause fault _ refl e

      by_test : (b : Bool) → ((next : File) → reading fonts (advance next (operand_size code bytes + 1)) (operand_size code bytes) bytes ≡ Err fault → next.at + (operand_size code bytes + 1) ≤ fault.at)
          → (if b then Err (record { cause = Truncated; at = file.at }) else after_step file (operand_size code bytes + 1) (file_step fonts file (operation code (take (operand_size code bytes) bytes)) (drop (operand_size code bytes) bytes))
          (λ (next : File). reading fonts next (operand_size code bytes) bytes)) ≡ Err fault → file.at ≤ fault.at
      by_test true later e = at_same file.at Truncated fault _ refl e
      by_test false later e = by_step _ later (step_keeps file.phase fonts file (operation code (take (operand_size code bytes) bytes)) (drop (operand_size code bytes) bytes)) e

abbrev told : Result (List (List Place)) Fault → Fault → Fault
told (Ok pages) other = other
told (Err fault) other = fault

-- the first fault of a file, by its places
pub read_fault : (fonts : SetValue) (bytes : List ℕ) (fault : Fault) → DviFault fonts bytes fault → read fonts bytes ≡ Err fault
unfolding pages_of
read_fault fonts bytes fault is = by_reading (read fonts bytes) refl is where
  by_reading : (r : Reading) → read fonts bytes ≡ r → pages_of_reading r ≡ Err fault → read fonts bytes ≡ Err fault
  by_reading (Ok file) e f = absurd (cc)
  by_reading (Err first) e f = e ∙ ap (λ (x : Fault). Err x) (ap (λ (r : Result (List (List Place)) Fault). told r fault) f)
