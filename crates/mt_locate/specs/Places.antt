-- Offsets in a source, and the byte at which its tokens end (`byte_found`).
use Rattle.std.specs.Prelude.{◌≡◌, ◌==◌, ◌&&◌, ◌≤◌, ℕ, nat_le, List, length, Option, Some, None, IfSome, if◌then◌else◌}
use Rattle.mt_token.specs.Tokens.{fault_of, source_tokens}
use Rattle.mt_token.specs.declared.token.TokenError.{TokenError}
use Rattle.mt_token.specs.Errors.{token_error_number, token_error_place}
use Rattle.mt_reader.specs.declared.document_error.DocError.{DocError}
use Rattle.mt_reader.specs.declared.document_error.DocError.TheVariants.{Source}
use Rattle.mt_locate.specs.declared.places.Located.{Located}

-- a place is that of a byte of the source or of its end, and its token begins there, if it has one
pub record IsPlaceIn (source : List ℕ) (located : Located) : Type 0 where
  pub within : located.offset ≤ length source
  pub token : IfSome located.token (λ t. t.start ≡ located.offset)

-- what is found is this offset, with this fault, or nothing where there is no offset
abbrev pub IsAt : Option Located → Option DocError → Option ℕ → Type 0
IsAt None fault offset = offset ≡ None
IsAt (Some located) fault offset = (offset ≡ Some located.offset) × (located.fault ≡ fault)

-- an offset, where it is one of the source or its end
abbrev pub offset_within : List ℕ → ℕ → Option ℕ
offset_within source offset = if nat_le offset (length source) then Some offset else None

-- the offset of the byte of a fault with this number, where offset and cause are the same
abbrev pub place_where_same : List ℕ → Option ℕ → ℕ → ℕ → ℕ → Option ℕ
place_where_same source None number offset cause = None
place_where_same source (Some at) number offset cause =
    if (at == offset) && (number == cause) then offset_within source at else None

abbrev pub fault_where_same : List ℕ → Option TokenError → ℕ → ℕ → Option ℕ
fault_where_same source None offset cause = None
fault_where_same source (Some fault) offset cause = place_where_same source (token_error_place fault) (token_error_number fault) offset cause

-- the fault at which the tokens of a source end
abbrev pub error_of : Option TokenError → Option DocError
error_of None = None
error_of (Some fault) = Some (Source fault)

abbrev pub byte_fault : List ℕ → Option DocError
byte_fault source = error_of (fault_of (source_tokens source))

-- the offset of this byte, where the tokens of the source end at it for this cause
abbrev pub byte_found : List ℕ → ℕ → ℕ → Option ℕ
byte_found source offset cause = fault_where_same source (fault_of (source_tokens source)) offset cause
