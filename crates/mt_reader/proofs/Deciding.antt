-- Tokens are a document or it is refused (`document_or_fault`), and not both (`not_both`).
use Rattle.std.proofs.Common.{List, refl, inl, inr}
use Rattle.std.specs.Prelude.{Ok, Err, IsOk, IsErr, ◌⊎◌}
use Rattle.mt_token.specs.declared.token.Token.{Token}
use Rattle.mt_scaled.specs.declared.unit.Units.{Units}
use Rattle.mt_plain.specs.CodeTables.{CodeTables}
use Rattle.mt_macro.specs.Table.{Table}
use Rattle.mt_reader.specs.Documents.{DocumentAnswer, document}

either_of : (answer : DocumentAnswer) → IsOk answer ⊎ IsErr answer
either_of (Ok pages) = inl refl
either_of (Err fault) = inr refl

both_of : (answer : DocumentAnswer) → IsOk answer → IsErr answer → ⊥
both_of (Ok pages) f g = cc
both_of (Err fault) f g = cc

pub document_or_fault : (units : Units) (tables : CodeTables) (macros : Table) (tokens : List Token) → IsOk (document units tables macros tokens) ⊎ IsErr (document units tables macros tokens)
document_or_fault units tables macros tokens = either_of (document units tables macros tokens)

pub not_both : (units : Units) (tables : CodeTables) (macros : Table) (tokens : List Token) → IsOk (document units tables macros tokens) → IsErr (document units tables macros tokens) → ⊥
not_both units tables macros tokens = both_of (document units tables macros tokens)
