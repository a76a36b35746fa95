-- Small sources, in fonts whose characters are all alike.
use Rattle.std.proofs.Common.{◌≡◌, ℕ, List, [], ◌∷◌, ◌++◌, map, refl, pos, codes, replicate, Option, Some, None, Result, Ok, Err}
use Rattle.mt_pages.proofs.Common.{SetValue, Text, Place, Glyph, run, plain_codes, plain_table, equations_line, rows_line, pages_from, TooManyTokens, TooManyPages, display_lines, stacked_lines, document_of, document_lines, document_refusal, formula_lines, document_pages, source_pages, found_in, pages_overfull, Status, BadSource, BadFormula, Budget, TooDeep, TooMuch}
use Rattle.std.specs.Prelude.{⊤}
use Rattle.mt_tfm.specs.Font.{Metrics}
use Rattle.mt_tfm.specs.declared.chars.CharWord.{CharWord}
use Rattle.mt_family.specs.Sets as sets
use Rattle.mt_plain.specs.Names.{control}
use Rattle.mt_plain.specs.MacroTexts.{macro_texts, accent_macros, delimiter_macros, other_macros, family_macros, function_macros, limit_macros}
use Rattle.mt_plain.specs.PlainMacros.{body_of as plain_body}
use Rattle.mt_formula.specs.Rules.{item_run}
use Rattle.mt_rules.specs.AtomRow.{atom_row}
use Rattle.mt_rules.specs.Nuclei.{nucleus_row}
use Rattle.mt_rules.specs.Scripts.{row_with_scripts}
use Rattle.mt_convert.specs.FirstPass.{first_pass_of}
use Rattle.mt_convert.specs.ListRow.{halves_of, list_row}
use Rattle.mt_convert.specs.SecondPass.{second_pass_of}
use Rattle.mt_status.specs.declared.status.Much.TheVariants.{Pages}
use Rattle.mt_status.specs.declared.status.Status.TheVariants.{MissingFamily, MissingChar, Overflow}

abbrev char : CharWord
char = record { width = 1; height = 1; depth = 0; italic = 0; tag = 0; remainder = 0 }

-- a font of the characters 48 to 122, so wide and 7 high
abbrev font : ℕ → Metrics
font width = record {
  first = 48;
  chars = replicate 75 char;
  widths = pos 0 ∷ pos width ∷ [];
  heights = pos 0 ∷ pos 7 ∷ [];
  depths = pos 0 ∷ [];
  italics = pos 0 ∷ [];
  program = [];
  kerns = [];
  recipes = [];
  params = [];
  skew = None;
  checksum = 0;
  design = 0;
  at = pos 0;
}

-- digits are 10 wide, and letters so wide
abbrev fonts : ℕ → SetValue
fonts width = record {
  lines = [];
  families = record { fam = 0; fonts = Some 0 ∷ Some 0 ∷ Some 0 ∷ [] } ∷ record { fam = 1; fonts = Some 1 ∷ Some 1 ∷ Some 1 ∷ [] } ∷ [];
  fonts = font 10 ∷ font width ∷ [];
}

-- what evaluating a source unfolds: its reading, and the rules of setting
unfoldable computed : ⊤
unfolding sets.sy source_pages document_pages formula_lines display_lines stacked_lines item_run run pages_from control plain_codes plain_table macro_texts accent_macros delimiter_macros other_macros family_macros function_macros limit_macros plain_body list_row halves_of first_pass_of second_pass_of atom_row nucleus_row row_with_scripts equations_line rows_line
computed = tt

abbrev Answered : Type 0
Answered = Result (List (List Place)) Status

abbrev set : List ℕ → Answered
set source = source_pages (fonts 20) (pos 100) source

abbrev glyph : ℕ → ℕ → ℕ → Place
glyph font code h = Glyph font code (pos h) (pos 7)

-- in the second line of a page
abbrev glyph_below : ℕ → ℕ → ℕ → Place
glyph_below font code h = Glyph font code (pos h) (pos 786439)

-- sources, and their pages or refusals
abbrev cases : List (Answered × Answered)
cases =
    -- rows of characters
    (set (codes "$ab1$"), Ok ((glyph 1 97 0 ∷ glyph 1 98 20 ∷ glyph 0 49 40 ∷ []) ∷ []))
    ∷ (set (codes " \\par$a\\relax b$\\bye$"), Ok ((glyph 1 97 0 ∷ glyph 1 98 20 ∷ []) ∷ []))
    ∷ (set (codes "\\def\\x{}$\\x\\x$"), Ok ([] ∷ []))
    ∷ (set (codes "\\mathcode`?=\"161$?$"), Ok ((glyph 1 97 0 ∷ []) ∷ []))
    ∷ (set (codes ""), Ok [])
    -- what is outside of formulas, and bytes
    ∷ (set (codes "$a~b$"), Err (BadSource 2 2))
    ∷ (set (codes "$a$ b"), Err (BadFormula 2 4 31))
    ∷ (set (codes "$a"), Err (BadFormula 1 0 32))
    -- formulas that are not expanded or read
    ∷ (set (codes "\\def\\x#1{}$a\\x$"), Err (BadFormula 1 1 21))
    ∷ (set (codes "$a^b^c$"), Err (BadFormula 1 3 2))
    ∷ (set (codes "$a\\over b\\over c$"), Err (BadFormula 1 3 3))
    ∷ (set (codes "$\\left a$"), Err (BadFormula 1 1 4))
    ∷ (set (codes "$\\Gamma$ $a^b^c$"), Err (BadFormula 2 3 2))
    -- what cannot be set
    ∷ (set (codes "$a+b$"), Err (MissingChar 1 0 Text 43))
    ∷ (set (codes "$\\cal a$"), Err (MissingFamily 1 2 Text))
    ∷ (set (codes "$\\rm ab\\sl c$"), Err (MissingFamily 1 5 Text))
    -- lines and pages
    ∷ (set (codes "$a$ $b$"), Ok ((glyph 1 97 0 ∷ glyph_below 1 98 0 ∷ []) ∷ []))
    ∷ (set (codes "$a$\\eject$$$$\\eject\\eject$b$"), Ok ((glyph 1 97 0 ∷ []) ∷ [] ∷ (glyph 1 98 0 ∷ []) ∷ []))
    -- displays on a line of 100sp: without a number, with one beside it, and with one for which there is no room
    ∷ (set (codes "$$ab$$"), Ok ((glyph 1 97 30 ∷ glyph 1 98 50 ∷ []) ∷ []))
    ∷ (set (codes "$$a\\eqno1$$"), Ok ((glyph 1 97 40 ∷ glyph 0 49 90 ∷ []) ∷ []))
    ∷ (set (codes "$$aaaa\\leqno b$$"), Ok ((glyph 1 98 0 ∷ glyph 1 97 20 ∷ glyph 1 97 40 ∷ glyph 1 97 60 ∷ glyph 1 97 80 ∷ []) ∷ []))
    ∷ (set (codes "$$aaaa\\eqno bb$$"), Ok ((glyph 1 97 10 ∷ glyph 1 97 30 ∷ glyph 1 97 50 ∷ glyph 1 97 70 ∷ glyph_below 1 98 60 ∷ glyph_below 1 98 80 ∷ []) ∷ []))
    -- equations with a number at the right and at the left end of the line, and rows in the middle of it
    ∷ (set (codes "$$\\eqalignno{a&b&1\\cr}$$"), Ok ((glyph 1 97 30 ∷ glyph 1 98 50 ∷ glyph 0 49 90 ∷ []) ∷ []))
    ∷ (set (codes "$$\\leqalignno{a&b&1\\cr}$$"), Ok ((glyph 1 97 30 ∷ glyph 1 98 50 ∷ glyph 0 49 0 ∷ []) ∷ []))
    ∷ (set (codes "$$\\displaylines{ab\\cr}$$"), Ok ((glyph 1 97 30 ∷ glyph 1 98 50 ∷ []) ∷ []))
    -- cells are set row by row: the left side, the right side, the number
    ∷ (set (codes "$$\\eqalignno{\\cal a&+\\cr}$$"), Err (MissingFamily 1 2 Text))
    ∷ (set (codes "$$\\eqalignno{a&b&+\\cr\\cal a&b\\cr}$$"), Err (MissingChar 1 0 Text 43))
    ∷ (set (codes "$$\\displaylines{+\\cr\\cal a\\cr}$$"), Err (MissingChar 1 0 Text 43))
    -- the number is set after the body, and a formula after the ones before it
    ∷ (set (codes "$$a\\eqno+$$ $+$"), Err (MissingChar 1 0 Text 43))
    ∷ (set (codes "$a$ $+$"), Err (MissingChar 2 0 Text 43))
    -- too many groups and steps
    ∷ (set (codes "$" ++ replicate 151 123 ++ codes "a" ++ replicate 151 125 ++ codes "$"), Err (TooDeep 1 150))
    ∷ (set (codes "\\def\\x{\\x}$\\x$"), Err (Budget 1))
    -- lengths out of range
    ∷ (source_pages (fonts 1073741824) (pos 100) (codes "$1a$"), Err (Overflow 1 (pos 1073741824)))
    ∷ (source_pages (fonts 1073741820) (pos 100) (codes "$1$ $1a$"), Err (Overflow 2 (pos 1073741830)))
    -- a place out of range; a formula after it that cannot be set is refused before
    ∷ (set (codes "$\\kern1073741823sp\\kern1sp a\\kern-99sp$"), Err (Overflow 1 (pos 1073741824)))
    ∷ (set (codes "$\\kern1073741823sp\\kern1sp a\\kern-99sp$ $+$"), Err (MissingChar 2 0 Text 43))
    ∷ []

cases_agree : map (λ (c : Answered × Answered). c.0) cases ≡ map (λ (c : Answered × Answered). c.1) cases
unfolding computed
cases_agree = refl

-- the formula that has the first place too many, where there is room for so many places
abbrev overfull : ℕ → List ℕ → Option ℕ
overfull room source =
    found_in (document_of (fonts 20) source) (λ document. found_in (document_lines (fonts 20) (pos 100) document) (λ pages. pages_overfull room pages))

abbrev overfull_cases : List (Option ℕ × Option ℕ)
overfull_cases =
    (overfull 3 (codes "$ab$ $c$"), None)
    ∷ (overfull 2 (codes "$ab$ $c$"), Some 2)
    ∷ (overfull 1 (codes "$ab$ $c$"), Some 1)
    -- a page has as much room as the pages before it leave
    ∷ (overfull 3 (codes "$a$ $b$\\eject$c$ $de$\\eject$f$"), Some 4)
    -- a place out of range comes before
    ∷ (overfull 1 (codes "$\\kern1073741823sp\\kern1sp a\\kern-99sp$ $b$"), None)
    ∷ []

overfull_agree : map (λ (c : Option ℕ × Option ℕ). c.0) overfull_cases ≡ map (λ (c : Option ℕ × Option ℕ). c.1) overfull_cases
unfolding computed
overfull_agree = refl

-- too many tokens and pages
many_tokens : document_refusal (TooManyTokens 3 1000001) ≡ Budget 3
many_tokens = refl

many_pages : document_refusal (TooManyPages 5001) ≡ TooMuch Pages 5001
many_pages = refl
