-- The names of control sequences (`control_name`).
use Rattle.std.specs.Prelude.{ℕ, Bool, true, false, List, []}
use Rattle.mt_token.specs.declared.token.TokenKind.{TokenKind}
use Rattle.mt_token.specs.declared.token.TokenKind.TheVariants.{Control, Char, Space}

abbrev pub is_control : TokenKind → Bool
is_control (Control name) = true
is_control (Char c) = false
is_control Space = false

abbrev pub control_name : TokenKind → List ℕ
control_name (Control name) = name
control_name (Char c) = []
control_name Space = []
