-- The tokens of a source that is cut after a line end (`lines_and`).
use Rattle.std.specs.Prelude.{ℕ, ◌+◌, ◌++◌, map, Ok, Err}
use Rattle.mt_token.specs.declared.token.TokenError.{TokenError}
use Rattle.mt_token.specs.declared.token.TokenError.TheVariants.{NotAscii, BadByte, TooLong, OutOfMemory}
use Rattle.mt_token.specs.Tokens.{Answer, Spanned}

-- the same token so many bytes later
abbrev pub later : ℕ → Spanned → Spanned
later n s = record { kind = s.kind; start = n + s.start; end = n + s.end }

-- the same fault so many bytes later
abbrev pub error_later : ℕ → TokenError → TokenError
error_later n (NotAscii offset) = NotAscii (n + offset)
error_later n (BadByte offset) = BadByte (n + offset)
error_later n TooLong = TooLong
error_later n OutOfMemory = OutOfMemory

abbrev pub answer_later : ℕ → Answer → Answer
answer_later n (Ok list) = Ok (map (later n) list)
answer_later n (Err cause) = Err (error_later n cause)

-- what lines give and what the bytes after them give: the first fault, or all tokens
abbrev pub lines_and : Answer → Answer → Answer
lines_and (Ok list) (Ok more) = Ok (list ++ more)
lines_and (Ok list) (Err cause) = Err cause
lines_and (Err cause) more = Err cause
