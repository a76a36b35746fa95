-- What the reading of a part into an arena answers.
use Rattle.std.specs.Prelude.{◌≡◌, map, [], ◌∷◌, ◌++◌, ℕ, true, List, Option, Result, Ok, Err}
use Rattle.std.specs.Borrow.{Bor}
use Rattle.mt_token.specs.declared.token.Token.{Token}
use Rattle.mt_scaled.specs.declared.unit.Units.{Units}
use Rattle.mt_plain.specs.CodeTables.{CodeTables}
use Rattle.mt_rules.specs.Sequence.{Sequence}
use Rattle.mt_arena.specs.declared.thing.Noad.{Noad}
use Rattle.mt_arena.specs.declared.thing.Span.{Span}
use Rattle.mt_arena.specs.Arena.{ArenaValue, Extends, Held, RowHeld, as_sequence, sequence_in, first_open, other_open}
use Rattle.mt_scan.specs.declared.scanned.Scanned.{Scanned}
use Rattle.mt_scan.specs.Parts.{Read, Got}
use Rattle.mt_formula.specs.declared.reading.stop.Stop.{Stop}
use Rattle.mt_formula.specs.declared.reading.given.Given.{Given as CodeGiven}
use Rattle.mt_formula.specs.declared.reading.given.RunEnd.{RunEnd}
use Rattle.mt_formula.specs.Atoms.{append, last_atom_items}
use Rattle.mt_formula.specs.Lists.{ItemRun, ItemRunReader, items_before}
use Rattle.mt_formula.specs.Rules.{run_of}
use Rattle.mt_formula.specs.Whole.{whole_readers}
use Rattle.mt_formula.specs.reading.Carried.{put_given}
use Rattle.mt_formula.specs.reading.Inside.{are_inside}
use Rattle.mt_formula.specs.reading.Noads.{last_in}
use Rattle.mt_formula.specs.reading.Stops.{HasFault}
use Rattle.mt_formula.specs.reading.Givens.{given_in}

-- runs of items, by as many turns as each may want
abbrev pub whole_run : CodeTables → Units → ItemRunReader
whole_run tables units = run_of (whole_readers tables units)

-- what is read of a part, where its runs of items are read so
abbrev pub whole : {A : Type 0} → (CodeTables → Units → ItemRunReader → A) → CodeTables → Units → A
whole read tables units = read tables units (whole_run tables units)

-- more closed lists are there, and the open ones are the same
pub record Grows (old new : ArenaValue) : Type 0 where
  pub front : Extends old.closed new.closed
  pub top : new.top ≡ old.top
  pub below : new.below ≡ old.below

-- more closed lists are there, and the innermost open list has these things more
pub record Adds (old new : ArenaValue) (more : List Held) : Type 0 where
  pub front : Extends old.closed new.closed
  pub top : new.top ≡ old.top ++ more
  pub below : new.below ≡ old.below
  pub inside : are_inside more ≡ true

-- a list is open inside the one that was the innermost open list
pub record Opens (old new : ArenaValue) : Type 0 where
  pub closed : new.closed ≡ old.closed
  pub below : new.below ≡ old.top ∷ old.below

-- more closed lists are there, and the innermost open list is none of the open ones any more
pub record Closes (old new : ArenaValue) : Type 0 where
  pub front : Extends old.closed new.closed
  pub top : new.top ≡ first_open old.below
  pub below : new.below ≡ other_open old.below

-- a part is read, with this meaning among the closed lists; the items after it are read as tokens, here and below
abbrev pub ReadsInto : {T V A : Type 0} → (T → Token) → (List Held → V → A) → Result (Scanned V T) Stop → ArenaValue → ArenaValue → Read A → Type 0
ReadsInto token mean (Ok part) old new read = Grows old new × (read ≡ Got (mean new.closed part.value) (map token part.rest.now))
ReadsInto token mean (Err stop) old new read = HasFault stop read

-- a run of items that is read to its end, behind the items that the innermost open list has
pub record RunsTo (old new : ArenaValue) (read : Read ItemRun) (run : RunEnd) (rest : List Token) : Type 0 where
  pub more : List Held
  pub adds : Adds old new more
  pub is : read ≡ Got (record { items = append (as_sequence more) (last_atom_items (last_in new.closed run.last)); family = run.family }) rest

abbrev pub ReadsRun : {T : Type 0} → (T → Token) → Result (Bor (List T)) Stop → ArenaValue → ArenaValue → RunEnd → Read ItemRun → Type 0
ReadsRun token (Ok rest) old new run read = RunsTo old new read run (map token rest.now)
ReadsRun token (Err stop) old new run read = HasFault stop read

-- what is given is put behind the items that the innermost open list has
pub record Puts (old new : ArenaValue) (run : RunEnd) (given : CodeGiven) (next : RunEnd) : Type 0 where
  pub more : List Held
  pub adds : Adds old new more
  pub is : (tables : CodeTables) (units : Units) (again : ItemRunReader) (level : ℕ) (rest : List Token)
      → put_given tables units again level run.family (last_in old.closed run.last) (given_in old.closed given) rest
      ≡ items_before (as_sequence more) (again level next.family (last_in new.closed next.last) rest)

-- a list of which some items are there is read to its end, but for the atom at hand
pub record Completes (old new : ArenaValue) (read : Read Sequence) (last : Option Noad) (rest : List Token) : Type 0 where
  pub front : Extends old.closed new.closed
  pub below : new.below ≡ old.below
  pub inside : are_inside new.top ≡ true
  pub is : read ≡ Got (append (as_sequence new.top) (last_atom_items (last_in new.closed last))) rest

abbrev pub ReadsOpen : {T : Type 0} → (T → Token) → Result (Bor (List T)) Stop → ArenaValue → ArenaValue → Option Noad → Read Sequence → Type 0
ReadsOpen token (Ok rest) old new last read = Completes old new read last (map token rest.now)
ReadsOpen token (Err stop) old new last read = HasFault stop read

-- a list between boundaries is read, and its items are behind those that the innermost open list has
pub record AddsList (old new : ArenaValue) (read : Read Sequence) (rest : List Token) : Type 0 where
  pub more : List Held
  pub adds : Adds old new more
  pub is : read ≡ Got (as_sequence more) rest

abbrev pub ReadsSegment : {T : Type 0} → (T → Token) → Result (Bor (List T)) Stop → ArenaValue → ArenaValue → Read Sequence → Type 0
ReadsSegment token (Ok rest) old new read = AddsList old new read (map token rest.now)
ReadsSegment token (Err stop) old new read = HasFault stop read

-- a row is read, and is behind the rows that the innermost open list has
pub record AddsRow (old new : ArenaValue) (list : Sequence) : Type 0 where
  pub front : Extends old.closed new.closed
  pub top : new.top ≡ old.top ++ RowHeld list ∷ []
  pub below : new.below ≡ old.below

abbrev pub ReadsRow : {T : Type 0} → (T → Token) → Result (Bor (List T)) Stop → ArenaValue → ArenaValue → Read Sequence → Type 0
ReadsRow token (Ok rest) old new read = (list : Sequence) × AddsRow old new list × (read ≡ Got list (map token rest.now))
ReadsRow token (Err stop) old new read = HasFault stop read

-- a list is read to the end of its tokens
abbrev pub ReadsPrimes : Result Span Stop → ArenaValue → ArenaValue → Read Sequence → Type 0
ReadsPrimes (Ok span) old new read = Grows old new × ((rest : List Token) × (read ≡ Got (sequence_in new.closed span) rest))
ReadsPrimes (Err stop) old new read = HasFault stop read
