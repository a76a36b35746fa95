-- The faults of a source whose rest is read.
use Rattle.std.specs.Prelude.{◌≡◌, [], ⊤, Result, Ok, Err, Option, None, Some}
use Rattle.mt_token.specs.declared.token.TokenError.{TokenError}
use Rattle.mt_token.specs.declared.token.TokenError.TheVariants.{OutOfMemory as NoMemoryForTokens}
use Rattle.mt_token.specs.Tokens.{Answer, fault_of}
use Rattle.mt_reader.specs.declared.document_error.DocError.{DocError}
use Rattle.mt_reader.specs.declared.document_error.DocError.TheVariants.{Source, OutOfMemory}

-- that memory ran out is no fault of the source
abbrev pub source_error : TokenError → DocError
source_error NoMemoryForTokens = OutOfMemory
source_error cause = Source cause

-- the rest had no fault, and is read
pub record IsReadToEnd (old new : Answer) : Type 0 where
  pub sound : fault_of old ≡ None
  pub end : new ≡ Ok []

-- the fault of the rest, or memory ran out
abbrev pub IsFaultAhead : DocError → Answer → Type 0
IsFaultAhead (Source cause) rest = rest ≡ Err cause
IsFaultAhead OutOfMemory rest = ⊤
IsFaultAhead e rest = ⊥

-- the fault of the rest, if it has one, comes before an error
abbrev pub first_error : Option TokenError → DocError → DocError
first_error None error = error
first_error (Some cause) error = Source cause
