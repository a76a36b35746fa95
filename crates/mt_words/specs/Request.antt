-- What the words of a command line ask for (`request_of`).
use Rattle.std.specs.Prelude.{ℕ, pos, List, [], ◌∷◌, length, Bool, true, false, ◌&&◌, nat_le, if◌then◌else◌, Option, Some, None, find, option_map, option_and_then, codes}
use Rattle.std.specs.Str.{bytes_eq}
use Rattle.std.specs.Str.Parse.{without_leading_plus}
use Rattle.clap.specs.Words.{Row, all_of, first_of, one_of}
use Rattle.clap.specs.declared.parser.matches.ValueSource.{ValueSource}
use Rattle.clap.specs.declared.parser.matches.ValueSource.TheVariants.{CommandLine}
use Rattle.mt_scaled.specs.Number.{max_dimen}
use Rattle.mt_words.specs.CommandLine.{found_rows}
use Rattle.mt_words.specs.Decimal.{decimal_between}
use Rattle.mt_words.specs.Limits.{max_joined, max_ranges}
use Rattle.mt_words.specs.Optional.{◌>>=◌}
use Rattle.mt_words.specs.Ranges.{pages_of_ranges}
use Rattle.mt_samples.specs.Limits.{max_count}
use Rattle.mt_words.specs.RequestValues.{DviFilesValue, DviPagesValue, DviValue, SourceValue, SampleValue}
use Rattle.mt_words.specs.declared.request.Request.{Request}
use Rattle.mt_words.specs.declared.request.Request.TheVariants.{Set, Places, Read, Pick, Join, Gen}

-- a seed and a count
abbrev pub sample_of : List ℕ → List ℕ → Option SampleValue
sample_of seed_word count_word = do
  seed ← decimal_between 0 18446744073709551615 seed_word
  count ← decimal_between 0 max_count count_word
  Some (record { seed = seed; count = count })

-- the width of a line in sp; a plus may be before the number
abbrev pub line_width : List Row → Option ℕ
line_width rows = do
  text ← one_of (codes "line") rows
  decimal_between 1 max_dimen (without_leading_plus text)

-- where the width of a line comes from
abbrev pub line_source : List Row → Option ValueSource
line_source rows = option_and_then (λ row. row.source) (find (λ row. bytes_eq row.id (codes "line")) rows)

-- the width of a line is in the words
abbrev pub has_line : List Row → Bool
has_line rows = is_command_line (line_source rows)
  where
    is_command_line : Option ValueSource → Bool
    is_command_line (Some CommandLine) = true
    is_command_line source = false

abbrev pub source_of : List ℕ → List ℕ → List Row → Option SourceValue
source_of fonts source rows = option_map (λ line. record { fonts = fonts; source = source; line = pos line }) (line_width rows)

-- pages of a DVI file, by 1 to 64 ranges
abbrev pub dvi_pages_of : List (List ℕ) → Option DviPagesValue
dvi_pages_of (fonts ∷ dvi ∷ ranges) =
    if nat_le 1 (length ranges) && nat_le (length ranges) max_ranges then
    option_map (λ pages. record { fonts = fonts; dvi = dvi; pages = pages }) (pages_of_ranges ranges)
    else None
dvi_pages_of names = None

-- 1 to 16 DVI files
abbrev pub dvi_files_of : List (List ℕ) → Option DviFilesValue
dvi_files_of (fonts ∷ files) =
    if nat_le 1 (length files) && nat_le (length files) max_joined then Some (record { fonts = fonts; files = files })
    else None
dvi_files_of names = None

-- the commands of two names each
abbrev pub pair_request : List ℕ → List ℕ → List ℕ → List Row → Option Request
pair_request action first second rows =
    if bytes_eq action (codes "set") then option_map Set (source_of first second rows)
    else if bytes_eq action (codes "places") then option_map Places (source_of first second rows)
    else if has_line rows then None
    else if bytes_eq action (codes "read") then Some (Read (record { fonts = first; dvi = second }))
    else if bytes_eq action (codes "gen") then option_map Gen (sample_of first second)
    else None

abbrev pub names_request : List ℕ → List (List ℕ) → List Row → Option Request
names_request action (first ∷ second ∷ []) rows = pair_request action first second rows
names_request action names rows = None

-- the commands of two names or more
abbrev pub request_by : List ℕ → List (List ℕ) → List Row → Option Request
request_by action names rows =
    if bytes_eq action (codes "pick") then (if has_line rows then None else option_map Pick (dvi_pages_of names))
    else if bytes_eq action (codes "join") then (if has_line rows then None else option_map Join (dvi_files_of names))
    else names_request action names rows

abbrev pub request_in : List Row → Option Request
request_in rows = do
  action ← first_of (codes "action") rows
  names ← all_of (codes "names") rows
  request_by action names rows

-- what the words of a command line ask for, the program's name first; nothing where they are none of its forms
abbrev pub request_of : List (List ℕ) → Option Request
request_of words = do
  rows ← found_rows words
  request_in rows
