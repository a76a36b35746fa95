-- What clap finds, by its rows.
use Rattle.std.proofs.Common.{◌≡◌, ◌∙◌, ℕ, List, [], ◌∷◌, true, refl, sym, ap, subst, inl, inr}
use Rattle.std.specs.Prelude.{Option, Some, None, find, option_map, option_and_then}
use Rattle.clap.specs.Kinds.{Kinds, HasKind}
use Rattle.std.specs.Str.{bytes_eq}
use Rattle.clap.specs.Facts.{Entry}
use Rattle.clap.specs.Walk.{row_of}
use Rattle.clap.specs.Words.{App, Row, fault_of, is_simple_and_free, kind_of, matched_of, matches_of, rows_of}
use Rattle.clap.proofs.WalkLemmas.{find_row}
use Rattle.clap.specs.declared.parser.matches.Found.{Found}
use Rattle.clap.specs.declared.error.Error.{Error}
use Rattle.clap.specs.declared.error.kind.ErrorKind.TheVariants.{OutOfMemory}
use Rattle.mt_words.specs.CommandLine.{command_line, found_rows, rows_unless}

-- an error that is no lack of memory is a fault of the words
pub no_rows : (kinds : Kinds) (rows : List Row) (error : Error) → HasKind kinds error → (kind_of error ≡ OutOfMemory → ⊥) → rows_unless kinds rows ≡ None
no_rows [] rows error (inl memory) other = absurd (other memory)
no_rows [] rows error (inr among) other = absurd among
no_rows (kind ∷ kinds) rows error has other = refl

-- the same of the command line's own words
pub refused : (app : App) (words : List (List ℕ)) (error : Error) → app ≡ command_line → (is_simple_and_free app ≡ true → HasKind (fault_of app words) error)
    → (kind_of error ≡ OutOfMemory → ⊥) → None ≡ found_rows words
refused app words error is kinds other =
    let has = subst (λ (a : App). is_simple_and_free a ≡ true → HasKind (fault_of a words) error) is kinds in
    sym (no_rows (fault_of command_line words) (matches_of command_line words) error (has refl) other)

-- where the values of an id come from
pub source-rows : (found : Found) (id : List ℕ)
    → option_and_then (λ entry. entry.source) (matched_of found id) ≡ option_and_then (λ row. row.source) (find (λ (row : Row). bytes_eq row.id id) (rows_of found))
source-rows found id =
    go (find (λ (e : Entry). bytes_eq e.0.now id) found.entries.items) ∙ ap (option_and_then (λ (row : Row). row.source)) (sym (find_row found.entries.items id))
  where
    go : (entry : Option Entry) → option_and_then (λ entry. entry.source) (option_map (λ e. e.1) entry) ≡ option_and_then (λ row. row.source) (option_map row_of entry)
    go None = refl
    go (Some entry) = refl
