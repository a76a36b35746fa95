-- Bytes that a sink has taken, where it tells them.
use Rattle.std.specs.Prelude.{◌≡◌, ℕ, List, [], ◌++◌, take, Option, Some, None, Result, Ok, Err, ⊤}

-- After a call the sink tells those that it told before it, and these. It may have ceased to tell.
abbrev pub Appends : Option (List ℕ) → Option (List ℕ) → List ℕ → Type 0
Appends before None bytes = ⊤
Appends None (Some now) bytes = ⊥
Appends (Some before) (Some now) bytes = now ≡ before ++ bytes

-- the first bytes of a piece, those that a put took
abbrev pub put_prefix : {E : Type 0} → Result ℕ E → List ℕ → List ℕ
put_prefix (Ok count) piece = take count piece
put_prefix (Err e) piece = []

-- the first bytes, those that a row of puts took
abbrev pub write_prefix : {T : Type 0} → Result T ℕ → List ℕ → List ℕ
write_prefix (Ok done) bytes = bytes
write_prefix (Err count) bytes = take count bytes
