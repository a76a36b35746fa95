-- The states of cabinets and sinks.
use Rattle.std.specs.Prelude.{◌≡◌, ◌⊎◌, ◌<◌, ℕ, List, length, take, Bool, true, false, Option, Some, None, Contains}
use Rattle.mt_outside.specs.declared.files.Held.{Held}
use Rattle.mt_outside.specs.Files.{find_file}
use Rattle.mt_outside.specs.Counts.{next_count}

-- a cabinet in memory
pub record CabinetState : Type 0 where
  pub files : List Held
  -- the numbers of the calls that fail
  pub fail : List ℕ
  -- how many calls were made
  pub calls : ℕ
  pub faults : ℕ
  pub lost : Option (List ℕ)

-- the next call fails: its number is one that does, or the name is not held
abbrev pub Fails : CabinetState → List ℕ → Type 0
Fails cabinet name = Contains cabinet.fail (next_count cabinet.calls) ⊎ (find_file cabinet.files name ≡ None)

-- a cabinet whose files are not known
pub record FaultState : Type 0 where
  pub faults : ℕ
  pub lost : Option (List ℕ)

-- a sink in memory
pub record SinkState : Type 0 where
  pub bytes : List ℕ
  -- the room left
  pub room : ℕ
  -- how many bytes of a piece a put takes at most, where it does not take them all
  pub most : Option ℕ
  pub fail : List ℕ
  pub calls : ℕ
  pub faults : ℕ

-- what one put takes of a piece
abbrev pub taken_of : Option ℕ → List ℕ → List ℕ
taken_of None piece = piece
taken_of (Some most) piece = take most piece

-- the next put fails: its number is one that does, or what it takes of the piece is longer than the room left
abbrev pub PutFails : SinkState → List ℕ → Type 0
PutFails sink piece = Contains sink.fail (next_count sink.calls) ⊎ (sink.room < length (taken_of sink.most piece))

-- a sink in memory that never fails
pub record SteadyState : Type 0 where
  -- what was written, while it fits
  pub bytes : Option (List ℕ)
  -- the room left
  pub room : ℕ

-- the bytes, none where they were more than the capacity
abbrev pub bytes_unless_past : Bool → List ℕ → Option (List ℕ)
bytes_unless_past true bytes = None
bytes_unless_past false bytes = Some bytes

-- a sink over a stream
pub record StreamState : Type 0 where
  -- what the stream holds, where that is known
  pub contents : Option (List ℕ)
  pub faults : ℕ
