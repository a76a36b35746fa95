-- How the rows of a vcenter atom begin and end.
use Rattle.std.specs.Prelude.{ℕ, ◌+◌, Bool, true, false, List, [], ◌∷◌, length, ⊤}
use Rattle.mt_token.specs.declared.token.Token.{Token}
use Rattle.mt_rules.specs.Sequence.{Rows, NoRows}
use Rattle.mt_plain.specs.CodeTables.{CodeTables}
use Rattle.mt_scan.specs.declared.fault.ReadCause.TheVariants.{MissingField}
use Rattle.mt_scan.specs.declared.role.Role.{Role}
use Rattle.mt_scan.specs.declared.role.Role.TheVariants.{CloseBrace, HboxWord}
use Rattle.mt_scan.specs.Role.{role_of, is_open_brace, is_math_shift}
use Rattle.mt_scan.specs.Parts.{Read, Got, Fault, then_read, opening, after_spaces}

-- the rows after a place where one may begin: after its \hbox, or else after the } that ends them
abbrev pub rows_at : (List Token → Read Rows) → Bool → List Token → Read Rows
rows_at more true tokens = more tokens
rows_at more false tokens = Got NoRows tokens

module _ (tables : CodeTables) where
  -- whether a row must and does begin here
  abbrev pub next_row_begins_at : List Token → Role → Read Bool
  next_row_begins_at rest HboxWord = Got true rest
  next_row_begins_at rest _ = Fault MissingField (length rest + 1)

  abbrev pub next_row_begins : List Token → Read Bool
  next_row_begins [] = Fault MissingField 0
  next_row_begins (t ∷ rest) = next_row_begins_at rest (role_of tables t)

  -- whether a row begins here, or the rows end
  abbrev pub row_begins_at : List Token → Read Bool → Role → Read Bool
  row_begins_at rest other CloseBrace = Got false rest
  row_begins_at rest other HboxWord = Got true rest
  row_begins_at rest other _ = other

  -- before the first row no Space may be
  abbrev pub first_row_begins : List Token → Read Bool
  first_row_begins [] = Fault MissingField 0
  first_row_begins (t ∷ rest) = row_begins_at rest (Fault MissingField (length rest + 1)) (role_of tables t)

  -- after a row Spaces may be before another one
  abbrev pub later_row_begins : List Token → Read Bool
  later_row_begins [] = Fault MissingField 0
  later_row_begins (t ∷ rest) = row_begins_at rest (next_row_begins (after_spaces (t ∷ rest))) (role_of tables t)

  -- {$ that must be here
  abbrev pub row_opens : ℕ → List Token → Read ⊤
  row_opens level tokens =
      then_read (opening tables is_open_brace level tokens)
      (λ (brace : ⊤) (after : List Token). opening tables is_math_shift (level + 1) after)
