-- The opcodes of runs: which operations they are, and what comes of them (`mark_goes`, `move_goes`).
use Rattle.std.proofs.Common.{◌≡◌, ℕ, ◌<◌, ◌≤◌, List, [], ◌∷◌, length, drop, get_or, refl, sym, ◌∙◌, ap, subst, arith, inr}
use Rattle.std.specs.Prelude.{max, Option, Some, None, Ok, Err, Result, Bool, true, false, nat_le, if◌then◌else◌}
use Rattle.std.proofs.lemmas.Bool.Decides.{nat_tests}
use Rattle.mt_family.specs.SetValue.{SetValue}
use Rattle.mt_box.specs.declared.place.Place.{Place}
use Rattle.mt_dvi.specs.Codes as codes
use Rattle.mt_dvi.specs.Codes.{operand_size, operation}
use Rattle.mt_dvi.specs.File as files
use Rattle.mt_dvi.specs.File.{Continues, Fails, effect_step, in_page_step, place_step}
use Rattle.mt_dvi.specs.Fonts.{first_definition}
use Rattle.mt_dvi.specs.Limits.{max_pushes}
use Rattle.mt_dvi.specs.Machine as machine
use Rattle.mt_dvi.specs.Machine.{Machine, Registers, is_outside}
use Rattle.mt_dviread.specs.declared.error.Cause.{Cause}
use Rattle.mt_dviread.specs.declared.deed.Deed.{Deed}
use Rattle.mt_dviread.specs.declared.deed.Deed.TheVariants.{Selects, Performs}
use Rattle.mt_dviread.specs.declared.deed.Mark as marks
use Rattle.mt_dviread.specs.declared.file.OpenFile.{OpenFile}
use Rattle.mt_dviread.specs.declared.file.Phase.{Phase}
use Rattle.mt_dviread.specs.declared.file.Phase.TheVariants as phases
use Rattle.mt_dviread.specs.declared.run.RunOpcode.{RunOpcode}
use Rattle.mt_dviread.specs.declared.run.RunOpcode.TheVariants.{Mark, Move, Select}
use Rattle.mt_dviread.specs.Deeds.{Changes, deed_in_page, place_filled, places_of_page}
use Rattle.mt_dviread.specs.Runs.{IsMoved, coming_in, deed_of_kind, run_opcode}
use Rattle.mt_dviread.specs.Sees.{Sees}
use Rattle.mt_dviread.specs.inner.Follows.{Fills, Follows}
use Rattle.mt_dviread.specs.inner.Performs.{marked}
use Rattle.mt_dviread.proofs.OpenFiles.{early, selects, steps}
use Rattle.mt_dviread.proofs.Turns.{IsFront, front}

-- which opcodes they are
pub in_page : (phase : Phase) (bytes : List ℕ) (kind : RunOpcode) → coming_in phase bytes ≡ Some kind → phase ≡ phases.InPage
in_page phases.BeforePre bytes kind e = absurd (cc)
in_page phases.BetweenPages bytes kind e = absurd (cc)
in_page phases.InPage bytes kind e = refl
in_page phases.AfterPost bytes kind e = absurd (cc)

first_is : (phase : Phase) (code : ℕ) (later : List ℕ) (kind : RunOpcode) → coming_in phase (code ∷ later) ≡ Some kind → run_opcode code ≡ Some kind
first_is phases.BeforePre code later kind e = absurd (cc)
first_is phases.BetweenPages code later kind e = absurd (cc)
first_is phases.InPage code later kind e = e
first_is phases.AfterPost code later kind e = absurd (cc)

pub mark_low : (code : ℕ) → run_opcode code ≡ Some Mark → code < 128
mark_low code e = grind (arith, nat_tests)

pub mark_size : (code : ℕ) (later : List ℕ) → code < 128 → operand_size code later ≡ 0
unfolding operand_size
mark_size code later low = grind (arith, nat_tests)

pub mark_is : (code : ℕ) (o : List ℕ) → code < 128 → operation code o ≡ codes.Char false code
unfolding operation
mark_is code o low = grind (arith, nat_tests)

-- the kind of an operation
abbrev kind_of : codes.Operation → Option RunOpcode
kind_of codes.Push = Some Move
kind_of codes.Pop = Some Move
kind_of (codes.Right by) = Some Move
kind_of (codes.Down by) = Some Move
kind_of (codes.Set register by) = Some Move
kind_of (codes.Add register) = Some Move
kind_of (codes.Select number) = Some Select
kind_of op = None

move_kind : (code : ℕ) (o : List ℕ) → run_opcode code ≡ Some Move → kind_of (operation code o) ≡ Some Move
unfolding operation
move_kind code o e = grind (arith, nat_tests)

select_kind : (code : ℕ) (o : List ℕ) → run_opcode code ≡ Some Select → kind_of (operation code o) ≡ Some Select
unfolding operation
select_kind code o e = grind (arith, nat_tests)

moved_kind : (code : ℕ) (o : List ℕ) (kind : RunOpcode) → IsMoved (Some kind) → run_opcode code ≡ Some kind → kind_of (operation code o) ≡ Some kind
moved_kind code o Mark moved e = absurd moved
moved_kind code o Move moved e = move_kind code o e
moved_kind code o Select moved e = select_kind code o e

-- in a page it is performed
by_effect : (fonts : SetValue) (file : files.File) (op : codes.Operation) (kind : RunOpcode) → kind_of op ≡ Some kind → in_page_step fonts file op ≡ effect_step file (machine.perform fonts file.fonts file.machine op)
by_effect fonts file (codes.Char put code) kind e = absurd (cc)
by_effect fonts file (codes.Rule put height width) kind e = absurd (cc)
by_effect fonts file codes.Nop kind e = absurd (cc)
by_effect fonts file (codes.Bop counts before) kind e = absurd (cc)
by_effect fonts file codes.Eop kind e = absurd (cc)
by_effect fonts file codes.Push kind e = refl
by_effect fonts file codes.Pop kind e = refl
by_effect fonts file (codes.Right by) kind e = refl
by_effect fonts file (codes.Down by) kind e = refl
by_effect fonts file (codes.Set register by) kind e = refl
by_effect fonts file (codes.Add register) kind e = refl
by_effect fonts file (codes.Select number) kind e = refl
by_effect fonts file (codes.Special bytes) kind e = absurd (cc)
by_effect fonts file (codes.Define d) kind e = absurd (cc)
by_effect fonts file (codes.Pre p) kind e = absurd (cc)
by_effect fonts file (codes.Post p) kind e = absurd (cc)
by_effect fonts file (codes.PostPost post version) kind e = absurd (cc)
by_effect fonts file codes.Undefined kind e = absurd (cc)

-- it fills no place
nothing : (file next : files.File) (m : Machine) → effect_step file (machine.without_place m) ≡ Continues next → Changes (Performs None) file next
nothing file next m is = outside (is_outside m) is where
  outside : (b : Bool) → (if b then Fails machine.OutOfRange else place_step file m None) ≡ Continues next → Changes (Performs None) file next
  outside true e = absurd (cc)
  outside false e =
      let n : record file { machine = m; deepest = max file.deepest (length m.saved) } ≡ next = cc in
      record {
        pages = sym (ap (λ (f : files.File). f.pages) n);
        places = sym (ap (λ (f : files.File). places_of_page f.page) n);
        count = sym (ap (λ (f : files.File). f.place_count) n);
        begun = λ e. inr (ap (λ (f : files.File). f.phase) n ∙ e);
        posted = λ e. inr (ap (λ (f : files.File). f.phase) n ∙ e, sym (ap (λ (f : files.File). f.post_at) n));
      }

pushed : (file next : files.File) (b : Bool) → effect_step file (if b then Err machine.TooDeep else machine.without_place (record (file.machine) { saved = file.machine.now ∷ file.machine.saved })) ≡ Continues next → Changes (Performs None) file next
pushed file next true e = absurd (cc)
pushed file next false e = nothing file next (record (file.machine) { saved = file.machine.now ∷ file.machine.saved }) e

popped : (file next : files.File) (saved : List Registers) → effect_step file (machine.pop_effect file.machine saved) ≡ Continues next → Changes (Performs None) file next
popped file next [] e = absurd (cc)
popped file next (before ∷ saved) e = nothing file next (record (file.machine) { now = before; saved = saved }) e

changes : (fonts : SetValue) (file next : files.File) (op : codes.Operation) (kind : RunOpcode) → kind_of op ≡ Some kind → effect_step file (machine.perform fonts file.fonts file.machine op) ≡ Continues next → Changes (deed_in_page op None) file next
changes fonts file next (codes.Char put code) kind e is = absurd (cc)
changes fonts file next (codes.Rule put height width) kind e is = absurd (cc)
changes fonts file next codes.Nop kind e is = absurd (cc)
changes fonts file next (codes.Bop counts before) kind e is = absurd (cc)
changes fonts file next codes.Eop kind e is = absurd (cc)
changes fonts file next codes.Push kind e is = pushed file next (nat_le max_pushes (length file.machine.saved)) is
changes fonts file next codes.Pop kind e is = popped file next file.machine.saved is
changes fonts file next (codes.Right by) kind e is = nothing file next (machine.move_right file.machine by) is
changes fonts file next (codes.Down by) kind e is = nothing file next (machine.move_down file.machine by) is
changes fonts file next (codes.Set register by) kind e is = nothing file next (machine.add_register (machine.set_register file.machine register by) register) is
changes fonts file next (codes.Add register) kind e is = nothing file next (machine.add_register file.machine register) is
changes fonts file next (codes.Select number) kind e is = selects fonts file next (first_definition file.fonts number) is
changes fonts file next (codes.Special bytes) kind e is = absurd (cc)
changes fonts file next (codes.Define d) kind e is = absurd (cc)
changes fonts file next (codes.Pre p) kind e is = absurd (cc)
changes fonts file next (codes.Post p) kind e is = absurd (cc)
changes fonts file next (codes.PostPost post version) kind e is = absurd (cc)
changes fonts file next codes.Undefined kind e is = absurd (cc)

of_move : (kind : RunOpcode) → Some Move ≡ Some kind → Performs None ≡ deed_of_kind kind
of_move Mark e = refl
of_move Move e = refl
of_move Select e = absurd (cc)

of_select : (kind : RunOpcode) → Some Select ≡ Some kind → Selects ≡ deed_of_kind kind
of_select Mark e = absurd (cc)
of_select Move e = absurd (cc)
of_select Select e = refl

deed_is : (op : codes.Operation) (kind : RunOpcode) → kind_of op ≡ Some kind → deed_in_page op None ≡ deed_of_kind kind
deed_is (codes.Char put code) kind e = absurd (cc)
deed_is (codes.Rule put height width) kind e = absurd (cc)
deed_is codes.Nop kind e = absurd (cc)
deed_is (codes.Bop counts before) kind e = absurd (cc)
deed_is codes.Eop kind e = absurd (cc)
deed_is codes.Push kind e = of_move kind e
deed_is codes.Pop kind e = of_move kind e
deed_is (codes.Right by) kind e = of_move kind e
deed_is (codes.Down by) kind e = of_move kind e
deed_is (codes.Set register by) kind e = of_move kind e
deed_is (codes.Add register) kind e = of_move kind e
deed_is (codes.Select number) kind e = of_select kind e
deed_is (codes.Special bytes) kind e = absurd (cc)
deed_is (codes.Define d) kind e = absurd (cc)
deed_is (codes.Pre p) kind e = absurd (cc)
deed_is (codes.Post p) kind e = absurd (cc)
deed_is (codes.PostPost post version) kind e = absurd (cc)
deed_is codes.Undefined kind e = absurd (cc)

no_place : (kind : RunOpcode) → place_filled (deed_of_kind kind) ≡ None
no_place Mark = refl
no_place Move = refl
no_place Select = refl

-- the deed of what has been performed
abbrev done_as : RunOpcode → Result (Option Place) Cause → Result (Option Deed) Cause
done_as kind (Ok place) = Ok (Some (deed_of_kind kind))
done_as kind (Err cause) = Err cause

does : (fonts : SetValue) (file : files.File) (new : OpenFile) (op : codes.Operation) (kind : RunOpcode) (after : List ℕ) (result : Result (Option Place) Cause) → kind_of op ≡ Some kind
    → Fills fonts file result new (effect_step file (machine.perform fonts file.fonts file.machine op)) → Follows fonts files.InPage file op (done_as kind result) new (files.phase_step files.InPage fonts file op after)
does fonts file new op kind after (Ok place) e a =
    let d = deed_is op kind e in (
      record {
        next = a.next;
        continues = by_effect fonts file op kind e ∙ a.continues;
        sees = a.sees;
        changes = subst (λ (x : Deed). Changes x file a.next) d (changes fonts file a.next op kind e a.continues);
      },
      sym d ∙ ap (deed_in_page op) (sym (no_place kind)),
    )
does fonts file new op kind after (Err cause) e r = rw (by_effect fonts file op kind e) r

pub move_goes : (fonts : SetValue) (file : files.File) (o new : OpenFile) (code : ℕ) (operands after : List ℕ) (kind : RunOpcode) (result : Result (Option Place) Cause) → Sees fonts o file → o.phase ≡ phases.InPage → IsMoved (Some kind) → run_opcode code ≡ Some kind
    → Fills fonts file result new (effect_step file (machine.perform fonts file.fonts file.machine (operation code operands)))
    → Follows fonts file.phase file (operation code operands) (done_as kind result) new (files.file_step fonts file (operation code operands) after)
move_goes fonts file o new code operands after kind result s page moved is fills =
    steps fonts o new phases.InPage (done_as kind result) file (operation code operands) after s page
    (does fonts file new (operation code operands) kind after result (moved_kind code operands kind moved is) fills)

-- a mark
abbrev put_as : Result marks.Mark Cause → Result (Option Deed) Cause
put_as (Ok mark) = Ok (Some (Performs (Some mark.place)))
put_as (Err cause) = Err cause

puts : (fonts : SetValue) (file : files.File) (new : OpenFile) (code : ℕ) (after : List ℕ) (result : Result marks.Mark Cause)
    → Fills fonts file (marked result) new (effect_step file (machine.glyph_effect fonts file.machine false code file.machine.font)) → Follows fonts files.InPage file (codes.Char false code) (put_as result) new (files.phase_step files.InPage fonts file (codes.Char false code) after)
puts fonts file new code after (Ok mark) a = (a, refl)
puts fonts file new code after (Err cause) r = r

pub mark_goes : (fonts : SetValue) (file : files.File) (o new : OpenFile) (code : ℕ) (operands after : List ℕ) (result : Result marks.Mark Cause) → Sees fonts o file → o.phase ≡ phases.InPage → code < 128
    → Fills fonts file (marked result) new (effect_step file (machine.glyph_effect fonts file.machine false code file.machine.font))
    → Follows fonts file.phase file (operation code operands) (put_as result) new (files.file_step fonts file (operation code operands) after)
mark_goes fonts file o new code operands after result s page low fills =
    rw (mark_is code operands low) (steps fonts o new phases.InPage (put_as result) file (codes.Char false code) after s page (puts fonts file new code after result fills))

-- the opcode that comes
pub head_is : (phase : Phase) (rest : List ℕ) (kind : RunOpcode) → coming_in phase rest ≡ Some kind → 1 ≤ length rest → run_opcode (get_or rest 0 0) ≡ Some kind
head_is phase [] kind e there = absurd (omega (arith, there))
head_is phase (code ∷ later) kind e there = first_is phase code later kind e

pub mark_front : (rest later : List ℕ) → 1 ≤ length rest → later ≡ drop 1 rest → get_or rest 0 0 < 128 → IsFront rest (get_or rest 0 0) 0 [] later
mark_front rest later there is low = front rest later [] later (get_or rest 0 0) 0 there refl is (sym (mark_size (get_or rest 0 0) later low)) (omega arith) refl refl

-- in a page no font is defined again
pub not_again : (fonts : SetValue) (o : OpenFile) (file : files.File) → Sees fonts o file → o.phase ≡ phases.InPage → file.again ≡ []
not_again fonts o file s page = early s.again (λ e. let q = sym page ∙ e in absurd (cc))

pub moved_is : (phase : Phase) (rest : List ℕ) (kind : RunOpcode) → coming_in phase rest ≡ Some kind → IsMoved (coming_in phase rest) → IsMoved (Some kind)
moved_is phase rest kind e moved = subst IsMoved e moved

-- a selection has no operands
select_size_of : (code : ℕ) (later : List ℕ) → run_opcode code ≡ Some Select → operand_size code later ≡ 0
unfolding operand_size
select_size_of code later e = grind (arith, nat_tests)

pub select_size : (phase : Phase) (rest later : List ℕ) → coming_in phase rest ≡ Some Select → 1 ≤ length rest → operand_size (get_or rest 0 0) later ≡ 0
select_size phase rest later e there = select_size_of (get_or rest 0 0) later (head_is phase rest Select e there)
