-- What the reader's machine keeps, and what operations do to it.
use Rattle.std.proofs.Common.{◌≡◌, ℕ, ◌+◌, ◌-◌, ◌≤◌, List, [], ◌∷◌, ◌++◌, length, map, reverse, refl, ◌∙◌, ap, arith}
use Rattle.std.specs.Prelude.{ℤ, None, Some, Ok, Err, Bool, true, false, nat_le}
use Rattle.std.specs.List.{slice_get}
use Rattle.std.proofs.lemmas.Bool.Decides.{nat_tests}
use Rattle.std.proofs.lemmas.Option.{slice_get_past}
use Rattle.mt_tfm.specs.Font.{Metrics, exists, width_of}
use Rattle.mt_dviread.specs.declared.operation.Operation.{Operation}
use Rattle.mt_dviread.specs.declared.operation.Operation.TheVariants as operations
use Rattle.mt_dviread.specs.declared.operation.Register.{Register}
use Rattle.std.proofs.lemmas.List.{length-map, reverse-append, length-reverse}
use Rattle.mt_family.specs.SetValue.{SetValue}
use Rattle.mt_dvi.specs.Codes as codes
use Rattle.mt_dvi.specs.Fonts.{metrics_at}
use Rattle.mt_dvi.specs.Machine as machine
use Rattle.mt_dvi.specs.Machine.{Machine, Effects, is_outside, is_far, without_place}
use Rattle.mt_dviread.specs.declared.error.Cause.{Cause}
use Rattle.mt_dviread.specs.declared.machine.Registers.{Registers}
use Rattle.mt_dviread.specs.inner.Operations.{IsOperation}
use Rattle.mt_dviread.specs.inner.Performs.{MovesMachine, Performs, registers_of, registers_with, registers_moved, are_outside, with_registers, seen}

-- the registers that are kept are in range
pub near : (r : Registers) → are_outside (registers_of r) ≡ false
near r = rw (r.h.near, r.v.near) refl

-- push and pop at the list's end
pub saved_more : (xs : List Registers) (x : Registers) → map registers_of (reverse (xs ++ x ∷ [])) ≡ registers_of x ∷ map registers_of (reverse xs)
saved_more xs x = ap (map registers_of) (reverse-append xs (x ∷ []))

pub depth_is : (xs : List Registers) → length (map registers_of (reverse xs)) ≡ length xs
depth_is xs = length-map (reverse xs) registers_of ∙ length-reverse xs

-- an effect in range is seen
pub seen_near : (m : Machine) → is_outside m ≡ false → seen (without_place m) ≡ Ok (record { machine = m; place = None })
seen_near m e = rw e refl

pub seen_far : (m : Machine) → is_outside m ≡ true → seen (without_place m) ≡ Err machine.OutOfRange
seen_far m e = rw e refl

-- a register is set, and then its amount is moved by
pub set_is : (m : Machine) (r : codes.Register) (by : ℤ) → with_registers m (registers_moved (registers_with m.now r by) r) ≡ machine.add_register (machine.set_register m r by) r
set_is m codes.W by = refl
set_is m codes.X by = refl
set_is m codes.Y by = refl
set_is m codes.Z by = refl

pub add_is : (m : Machine) (r : codes.Register) → with_registers m (registers_moved m.now r) ≡ machine.add_register m r
add_is m codes.W = refl
add_is m codes.X = refl
add_is m codes.Y = refl
add_is m codes.Z = refl

-- the operations that perform does not perform
pub record IsOther (operation : Operation) : Type 0 where
  pub char : (put : Bool) (code : ℕ) → operation ≡ operations.Char put code → ⊥
  pub rule : (put : Bool) (height width : ℤ) → operation ≡ operations.Rule put height width → ⊥
  pub nop : operation ≡ operations.Nop → ⊥
  pub push : operation ≡ operations.Push → ⊥
  pub pop : operation ≡ operations.Pop → ⊥
  pub right : (by : ℤ) → operation ≡ operations.Right by → ⊥
  pub down : (by : ℤ) → operation ≡ operations.Down by → ⊥
  pub set : (register : Register) (by : ℤ) → operation ≡ operations.Set register by → ⊥
  pub add : (register : Register) → operation ≡ operations.Add register → ⊥
  pub select : (number : ℕ) → operation ≡ operations.Select number → ⊥

pub not_performed : (fonts : SetValue) (known : List codes.Definition) (m : Machine) (operation : Operation) (meant : codes.Operation) → IsOther operation → IsOperation operation meant → machine.perform fonts known m meant ≡ Err machine.BadOpcode
not_performed fonts known m (operations.Char put code) meant other is = absurd (other.char put code refl)
not_performed fonts known m (operations.Rule put height width) meant other is = absurd (other.rule put height width refl)
not_performed fonts known m operations.Nop meant other is = absurd (other.nop refl)
not_performed fonts known m (operations.Bop before) meant other is = rw is.1 refl
not_performed fonts known m operations.Eop meant other is = rw is refl
not_performed fonts known m operations.Push meant other is = absurd (other.push refl)
not_performed fonts known m operations.Pop meant other is = absurd (other.pop refl)
not_performed fonts known m (operations.Right by) meant other is = absurd (other.right by refl)
not_performed fonts known m (operations.Down by) meant other is = absurd (other.down by refl)
not_performed fonts known m (operations.Set register by) meant other is = absurd (other.set register by refl)
not_performed fonts known m (operations.Add register) meant other is = absurd (other.add register refl)
not_performed fonts known m (operations.Select number) meant other is = absurd (other.select number refl)
not_performed fonts known m operations.Special meant other is = rw is.1 refl
not_performed fonts known m (operations.Define d) meant other is = rw is.2 refl
not_performed fonts known m (operations.Pre p) meant other is = rw is.2 refl
not_performed fonts known m (operations.Post p) meant other is = rw is.2 refl
not_performed fonts known m (operations.PostPost post version) meant other is = rw is refl
not_performed fonts known m operations.Undefined meant other is = rw is refl

-- what a font does not have
pub no_char : (m : Metrics) (c : ℕ) → m.first + length m.chars ≤ 256 → 256 ≤ c → exists m c ≡ false
no_char m c few large =
    let past : slice_get m.chars (c - m.first) ≡ None = slice_get_past m.chars (c - m.first) (omega arith) in
    let after : nat_le m.first c ≡ true = grind (arith, nat_tests) in
    rw (after, past) refl

-- a character whose right end is out of range
pub mark_far : (fonts : SetValue) (m new : Machine) (put : Bool) (code n : ℕ) (metrics : Metrics) (width : ℤ) (cause : Cause) → m.font ≡ Some n → metrics_at fonts n ≡ Some metrics → exists metrics code ≡ true → width ≡ width_of metrics code
    → MovesMachine (Err cause) new (machine.after_place put m width) → Performs (Err cause) new (machine.glyph_effect fonts m put code m.font)
mark_far fonts m new put code n metrics width cause font known there wide moves =
    let far : is_outside (machine.after_place put m (width_of metrics code)) ≡ true = rw wide at moves.1 in
    let one : machine.glyph_effect fonts m put code m.font ≡ machine.glyph_of_font m put code n (Some metrics) = ap (machine.glyph_effect fonts m put code) font ∙ ap (machine.glyph_of_font m put code n) known in
    rw (moves.0, one, there, far) refl
