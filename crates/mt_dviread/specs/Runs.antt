-- The opcodes that most of a page is made of (`run_opcode`, `coming`), and what comes of one (`mark_turn`, `move_turn`).
use Rattle.std.specs.Prelude.{ℕ, List, [], ◌∷◌, Option, Some, None, Result, Ok, Err, nat_lt, ◌==◌, ◌||◌, if◌then◌else◌, ⊤}
use Rattle.mt_dvi.specs.Opcodes.{set1, push, pop, right1, fnt_num_0, fnt1}
use Rattle.mt_dviread.specs.declared.deed.Deed.{Deed}
use Rattle.mt_dviread.specs.declared.deed.Deed.TheVariants.{Selects, Performs}
use Rattle.mt_dviread.specs.declared.deed.Mark as marks
use Rattle.mt_dviread.specs.declared.error.DviError.{DviError}
use Rattle.mt_dviread.specs.declared.file.OpenFile.{OpenFile}
use Rattle.mt_dviread.specs.declared.file.Phase.{Phase}
use Rattle.mt_dviread.specs.declared.file.Phase.TheVariants.{InPage}
use Rattle.mt_dviread.specs.declared.run.RunOpcode.{RunOpcode}
use Rattle.mt_dviread.specs.declared.run.RunOpcode.TheVariants.{Mark, Move, Select}

-- set_char, the moves with push and pop, and fnt_num
abbrev pub run_opcode : ℕ → Option RunOpcode
run_opcode code =
    if nat_lt code set1 then Some Mark
    else if code == push || code == pop then Some Move
    else if nat_lt code right1 then None
    else if nat_lt code fnt_num_0 then Some Move
    else if nat_lt code fnt1 then Some Select
    else None

abbrev pub first_of_run : List ℕ → Option RunOpcode
first_of_run [] = None
first_of_run (code ∷ later) = run_opcode code

abbrev pub coming_in : Phase → List ℕ → Option RunOpcode
coming_in InPage bytes = first_of_run bytes
coming_in phase bytes = None

-- the kind of the next opcode, in a page
abbrev pub coming : OpenFile → Option RunOpcode
coming open_file = coming_in open_file.phase open_file.rest.now

-- a move or a selection
abbrev pub IsMoved : Option RunOpcode → Type 0
IsMoved (Some Move) = ⊤
IsMoved (Some Select) = ⊤
IsMoved kind = ⊥

-- the deed of a move or of a selection
abbrev pub deed_of_kind : RunOpcode → Deed
deed_of_kind Select = Selects
deed_of_kind kind = Performs None

-- what is reported of a mark, of a move and of a selection
abbrev pub mark_turn : Result marks.Mark DviError → Result (Option Deed) DviError
mark_turn (Ok mark) = Ok (Some (Performs (Some mark.place)))
mark_turn (Err error) = Err error

abbrev pub move_turn : RunOpcode → Result Unit DviError → Result (Option Deed) DviError
move_turn kind (Ok done) = Ok (Some (deed_of_kind kind))
move_turn kind (Err error) = Err error
