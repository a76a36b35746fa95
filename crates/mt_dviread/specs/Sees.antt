-- What the reader keeps of a file (`Sees`), and what it tells of the next opcode (`Turns`).
use Rattle.std.specs.Prelude.{◌≡◌, ◌≤◌, ◌<◌, ℕ, ◌+◌, ◌^◌, List, [], ◌∷◌, ◌++◌, length, take, drop, Option, Some, None, Result, Ok, Err, IfSome, ◌⊎◌, Bool, true, nat_lt}
use Rattle.mt_family.specs.SetValue.{SetValue}
use Rattle.mt_dvi.specs.Codes.{operand_size, operation}
use Rattle.mt_dvi.specs.File as files
use Rattle.mt_dvi.specs.File.{Continues, Ends, Fault, advance, file_step, read, reading}
use Rattle.mt_dvi.specs.Limits.{max_places}
use Rattle.mt_dviread.specs.declared.deed.Deed.{Deed}
use Rattle.mt_dviread.specs.declared.error.DviError.{DviError}
use Rattle.mt_dviread.specs.declared.file.Phase.{Phase}
use Rattle.mt_dviread.specs.declared.file.Phase.TheVariants as phases
use Rattle.mt_dviread.specs.declared.file.OpenFile.{OpenFile}
use Rattle.mt_dviread.specs.Errors.{fault_of}
use Rattle.mt_dviread.specs.Deeds.{Changes, IsDeed}
use Rattle.mt_dviread.specs.inner.Defined.{Knows}

abbrev pub phase_of : Phase → files.Phase
phase_of phases.BeforePre = files.BeforePre
phase_of phases.BetweenPages = files.BetweenPages
phase_of phases.InPage = files.InPage
phase_of phases.AfterPost = files.AfterPost

-- the reader keeps of a file what tells its next operation: all but the pages' places and what no test needs
pub record Sees (fonts : SetValue) (open_file : OpenFile) (file : files.File) : Type 0 where
  pub at : file.at ≡ open_file.at
  pub phase : file.phase ≡ phase_of open_file.phase
  pub mag : file.mag ≡ open_file.mag
  pub known : Knows fonts open_file.definitions (file.fonts ++ file.again)
  -- after post there may be definitions again
  pub again : (open_file.phase ≡ phases.AfterPost) ⊎ (file.again ≡ [])
  pub pages : length file.pages ≡ open_file.page_count
  pub machine : file.machine ≡ open_file.machine
  pub last : file.last ≡ open_file.last
  pub deepest : file.deepest ≡ open_file.deepest
  pub place_count : file.place_count ≡ open_file.place_count
  pub post_at : file.post_at ≡ open_file.post_at
  pub few : open_file.place_count ≤ max_places

-- the reader is in a slice, and each page that has ended has an opcode
pub record IsWithin (open_file : OpenFile) : Type 0 where
  pub left : open_file.at + length open_file.rest.now < 2 ^ 63
  pub pages : open_file.page_count ≤ open_file.at

-- these bytes begin with an opcode and its operands, and they are followed by more bytes
pub record Begins (bytes : List ℕ) (code : ℕ) (later : List ℕ) : Type 0 where
  pub is : bytes ≡ code ∷ later
  pub long : operand_size code later ≤ length later

-- no byte is left, or fewer than the operands of the opcode that these bytes begin with
abbrev pub are_cut : List ℕ → Bool
are_cut [] = true
are_cut (code ∷ later) = nat_lt (length later) (operand_size code later)

abbrev pub continuation : SetValue → files.File → ℕ → List ℕ → files.Continuation
continuation fonts file code later =
    file_step fonts file
    (operation code (take (operand_size code later) later)) (drop (operand_size code later) later)

-- the file goes on after the opcode that these bytes begin with
pub record GoesOn (fonts : SetValue) (file : files.File) (bytes : List ℕ) (deed : Deed) (new : OpenFile) : Type 0 where
  pub code : ℕ
  pub later : List ℕ
  pub begins : Begins bytes code later
  pub next : files.File
  pub continues : continuation fonts file code later ≡ Continues next
  pub sees : Sees fonts new (advance next (operand_size code later + 1))
  pub left : new.rest.now ≡ drop (operand_size code later) later
  pub changes : Changes deed file next
  pub is_deed : IsDeed deed file.phase (operation code (take (operand_size code later) later))

-- the file ends with the opcode that these bytes begin with, post_post; the offset that it states has four bytes
pub record Finishes (fonts : SetValue) (file : files.File) (bytes : List ℕ) (new : OpenFile) : Type 0 where
  pub code : ℕ
  pub later : List ℕ
  pub begins : Begins bytes code later
  pub last : files.File
  pub ends : continuation fonts file code later ≡ Ends last
  pub pages : last.pages ≡ file.pages
  pub mag : last.mag ≡ new.mag
  pub small : file.post_at < 2 ^ 32

-- what comes of the next opcode of a file of which these bytes are left
abbrev pub Turns : SetValue → files.File → List ℕ → Result (Option Deed) DviError → OpenFile → Type 0
Turns fonts file bytes (Ok (Some deed)) new = GoesOn fonts file bytes deed new
Turns fonts file bytes (Ok None) new = Finishes fonts file bytes new
Turns fonts file bytes (Err error) new =
    IfSome (fault_of error) (λ (fault : Fault). reading fonts file 0 bytes ≡ Err fault)

-- so far the file has been read
pub record IsReading (fonts : SetValue) (bytes : List ℕ) (open_file : OpenFile) (file : files.File) : Type 0 where
  pub sees : Sees fonts open_file file
  pub reads : read fonts bytes ≡ reading fonts file 0 open_file.rest.now
  pub within : IsWithin open_file
  pub at : open_file.at + length open_file.rest.now ≡ length bytes
