-- A source that is cut after a line that ends a page, and what is put in front of its second part (`IsCut`).
use Rattle.std.specs.Prelude.{◌≡◌, ℕ, ◌≤◌, List, [], ◌∷◌, ◌++◌, length, map, Some, Ok, codes}
use Rattle.mt_scaled.specs.declared.unit.Units.{Units}
use Rattle.mt_token.specs.declared.lexeme.State.TheVariants.{New}
use Rattle.mt_token.specs.declared.token.Token.{Token}
use Rattle.mt_token.specs.declared.token.TokenKind.TheVariants.{Control}
use Rattle.mt_token.specs.Tokens.{Spanned, lex, max_source}
use Rattle.mt_plain.specs.CodeTables.{plain_codes}
use Rattle.mt_reader.specs.Cuts.{state_after}
use Rattle.mt_reader.specs.Documents.{DocumentState, start_state}
use Rattle.mt_reader.specs.Sources.{plain_words, word_token}

-- the source is these lines, with an LF, and a rest; the second part is set with other lines in front
pub record IsCut (units : Units) (lines front rest : List ℕ) : Type 0 where
  -- the tokens of each
  pub of_lines : List Spanned
  pub of_front : List Spanned
  pub of_rest : List Spanned
  pub lines_are : lex New 0 0 (lines ++ 10 ∷ []) ≡ Ok of_lines
  pub front_are : lex New 0 0 (front ++ 10 ∷ []) ≡ Ok of_front
  pub rest_are : lex New 0 0 rest ≡ Ok of_rest
  -- the source and both parts are not too long
  pub whole_length : length (lines ++ 10 ∷ rest) ≤ max_source
  pub first_length : length (lines ++ 10 ∷ []) ≤ max_source
  pub second_length : length (front ++ 10 ∷ rest) ≤ max_source
  -- the lines end with `\eject`, and are read to their end
  pub before : List Token
  pub eject : Token
  pub after : DocumentState
  pub ends : map word_token of_lines ≡ before ++ eject ∷ []
  pub is_eject : eject.kind ≡ Control (codes "eject")
  pub reads : state_after units (start_state plain_codes plain_words) (before ++ eject ∷ []) ≡ Some after
  -- what is in front has no formula, leaves the codes and macros that the lines leave, and ends with an empty line. Their
  -- definitions and assignments do so (`definitions_of_a_part_are_enough` of mt_reader)
  pub defined : List Token
  pub par : Token
  pub in_front : map word_token of_front ≡ defined ++ par ∷ []
  pub is_par : par.kind ≡ Control (codes "par")
  pub leaves : state_after units (start_state plain_codes plain_words) defined ≡ Some (start_state after.tables after.macros)
