-- The pages that the words of ranges name (`pages_of_ranges`).
use Rattle.std.specs.Prelude.{ℕ, zero, suc, ◌+◌, ◌-◌, List, [], ◌∷◌, ◌++◌, length, Bool, ◌==◌, nat_le, nat_lt, if◌then◌else◌, Option, Some, None, option_map}
use Rattle.std.specs.List.{after_first, before_first, position_or_len, range_with_len}
use Rattle.mt_words.specs.Decimal.{decimal_between}
use Rattle.mt_words.specs.Limits.{max_page}
use Rattle.mt_words.specs.Optional.{◌>>=◌}
use Rattle.mt_words.specs.declared.range.PageRange.{PageRange}

abbrev pub is_dash : ℕ → Bool
is_dash byte = byte == 45

abbrev pub page_number : List ℕ → Option ℕ
page_number word = decimal_between 1 max_page word

-- the word has this place of its first dash: `A-B`, or a page alone where there is none
abbrev pub range_at : ℕ → List ℕ → Option PageRange
range_at dash word =
    if nat_lt dash (length word) then (do
      first ← page_number (before_first is_dash word)
      last ← page_number (after_first is_dash word)
      Some (record { first = first; last = last }))
    else option_map (λ page. record { first = page; last = page }) (page_number word)

-- the first and the last page that a word names, as `A-B` or as one number
abbrev pub range_of : List ℕ → Option PageRange
range_of word = range_at (position_or_len is_dash word) word

-- so many numbers downward
abbrev pub downward : ℕ → ℕ → List ℕ
downward first zero = []
downward first (suc count) = first ∷ downward (first - 1) count

-- the pages from the first to the last, downward where the last is below the first
abbrev pub pages_in : PageRange → List ℕ
pages_in range =
    if nat_le range.first range.last then range_with_len range.first (range.last + 1 - range.first)
    else downward range.first (range.first + 1 - range.last)

abbrev pub before_pages : PageRange → Option (List ℕ) → Option (List ℕ)
before_pages range pages = option_map (λ more. pages_in range ++ more) pages

-- the pages of ranges, one after another; nothing where a word is no range
abbrev pub pages_of_ranges : List (List ℕ) → Option (List ℕ)
pages_of_ranges [] = Some []
pages_of_ranges (word ∷ words) = do
  range ← range_of word
  before_pages range (pages_of_ranges words)
