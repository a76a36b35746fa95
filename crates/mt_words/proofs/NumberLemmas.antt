-- A number between two bounds, from std's reading of a word (`ParsesUnsigned`).
use Rattle.std.proofs.Common.{◌≡◌, ◌∙◌, ◌<◌, ◌≤◌, ◌^◌, ℕ, Bool, true, false, List, [], ◌∷◌, length, drop, cond, refl, sym, ap, arith, nat_le, le-leb, leb-true, codes}
use Rattle.std.specs.Prelude.{◌&&◌, ◌==◌, Option, Some, None, Result, Ok, Err, option_and_then, if◌then◌else◌}
use Rattle.std.specs.Char.{is_ascii_digit}
use Rattle.std.specs.List.{list_all}
use Rattle.std.specs.Str.{all_ascii_digits}
use Rattle.std.specs.Str.Parse.{AllDigits, IsNumeral, ParsesUnsigned, digits_value, without_leading_plus}
use Rattle.std.proofs.lemmas.Bool.{and_from, and_parts, ne_eqb}
use Rattle.std.proofs.lemmas.Str.Parse.{digit_from_value, numerals_by_value, tells_all_ascii_digits}
use Rattle.clap.specs.Words.{ReadsOne, Row, one_of}
use Rattle.mt_scaled.specs.Number.{max_dimen}
use Rattle.mt_words.specs.Decimal.{has_digits_alone, decimal_between}
use Rattle.mt_words.specs.Request.{line_width}

digits-same : (word : List ℕ) → list_all is_ascii_digit word ≡ all_ascii_digits word
digits-same [] = refl
digits-same (c ∷ word) = ap (λ rest. is_ascii_digit c && rest) (digits-same word)

digits : (word : List ℕ) → list_all is_ascii_digit word ≡ true → AllDigits 10 word
digits word all = (numerals_by_value _ tells_all_ascii_digits).to word (sym (digits-same word) ∙ all)

numeral : (word : List ℕ) → has_digits_alone word ≡ true → IsNumeral 10 word
numeral word is =
    let parts = and_parts (nat_le 1 (length word)) (list_all is_ascii_digit word) is in
    (leb-true 1 (length word) parts.0, digits word parts.1)

no_plus : (word : List ℕ) → AllDigits 10 word → without_leading_plus word ≡ word
no_plus [] all = refl
no_plus (c ∷ word) all =
    let plus : (c == 43) ≡ false = ne_eqb _ _ (λ e. omega (arith, digit_from_value c all.0)) in
    ap (λ (b : Bool). drop (cond b 1 0) (c ∷ word)) plus

-- a word that is no number of so many bits is none up to a lower bound
pub not_between : (bits low high : ℕ) (word : List ℕ) → high < 2 ^ bits → (IsNumeral 10 word × (digits_value 10 word < 2 ^ bits) → ⊥) → decimal_between low high word ≡ None
not_between bits low high word fits none = go (has_digits_alone word && (nat_le low (digits_value 10 word) && nat_le (digits_value 10 word) high)) refl
  where
    go : (b : Bool) → (has_digits_alone word && (nat_le low (digits_value 10 word) && nat_le (digits_value 10 word) high)) ≡ b
        → (if b then Some (digits_value 10 word) else None) ≡ None
    go true is =
        let parts = and_parts (has_digits_alone word) _ is in
        let bounds = and_parts (nat_le low (digits_value 10 word)) (nat_le (digits_value 10 word) high) parts.1 in
        let below : digits_value 10 word ≤ high = leb-true _ _ bounds.1 in
        absurd (none (numeral word parts.0, omega arith))
    go false is = refl

-- the same for a word of digits, which has no plus
pub digits_not_between : (low high : ℕ) (word : List ℕ) → list_all is_ascii_digit word ≡ true → high < 2 ^ 64
    → (IsNumeral 10 (without_leading_plus word) × (digits_value 10 (without_leading_plus word) < 2 ^ 64) → ⊥) → decimal_between low high word ≡ None
digits_not_between low high word all fits none =
    not_between 64 low high word fits (rw (no_plus word (digits word all)) at none)

has_digits_alone-true : (word : List ℕ) → IsNumeral 10 word → has_digits_alone word ≡ true
has_digits_alone-true word is =
    and_from (nat_le 1 (length word)) (list_all is_ascii_digit word) (le-leb 1 (length word) is.0)
    (digits-same word ∙ (numerals_by_value _ tells_all_ascii_digits).from word is.1)

-- a number, where it is between two bounds
abbrev pub kept : ℕ → ℕ → Option ℕ → Option ℕ
kept low high = option_and_then (λ n. if nat_le low n && nat_le n high then Some n else None)

module _ {E : Type 0} (gives : List ℕ → Result ℕ E → Type 0) (bits : ℕ) (only : (text : List ℕ) (read : Result ℕ E) → gives text read → ParsesUnsigned bits 10 text read) where
  kept-read : (low high : ℕ) (text : List ℕ) (found : Option ℕ) → high < 2 ^ bits → ReadsOne gives text found → kept low high found ≡ decimal_between low high (without_leading_plus text)
  kept-read low high text (Some n) fits read =
      let is = only text (Ok n) read in
      rw (has_digits_alone-true (without_leading_plus text) is.0.0, ← is.1) refl
  kept-read low high text None fits read = sym (not_between bits low high (without_leading_plus text) fits (only text (Err read.0) read.1))

  -- the width of a line, as `get_one` reads it
  pub line-read : (rows : List Row) (found : Option ℕ) → max_dimen < 2 ^ bits → (one_of (codes "line") rows ≡ None → found ≡ None)
      → ((text : List ℕ) → one_of (codes "line") rows ≡ Some text → ReadsOne gives text found) → kept 1 max_dimen found ≡ line_width rows
  line-read rows found fits none some = go (one_of (codes "line") rows) refl
    where
      go : (one : Option (List ℕ)) → one_of (codes "line") rows ≡ one
          → kept 1 max_dimen found ≡ option_and_then (λ text. decimal_between 1 max_dimen (without_leading_plus text)) one
      go None is = rw (none is) refl
      go (Some text) is = kept-read 1 max_dimen text found fits (some text is)
