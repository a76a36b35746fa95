-- The most that a document may have.
use Rattle.std.specs.Prelude.{ℕ}

-- tokens of all formulas together, after expansion
abbrev pub max_total_tokens : ℕ
max_total_tokens = 1000000

-- pages
abbrev pub max_document_pages : ℕ
max_document_pages = 5000
