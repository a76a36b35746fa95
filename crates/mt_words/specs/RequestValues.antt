-- The values of a request.
use Rattle.std.specs.Prelude.{ℕ, ℤ, List}

-- a font list and a source, by their names, and the width of a line in sp
pub record SourceValue : Type 0 where
  pub fonts : List ℕ
  pub source : List ℕ
  pub line : ℤ

-- a font list and a DVI file, by their names
pub record DviValue : Type 0 where
  pub fonts : List ℕ
  pub dvi : List ℕ

-- a font list and a DVI file, by their names, and the numbers of pages of that file, from 1 on, in order
pub record DviPagesValue : Type 0 where
  pub fonts : List ℕ
  pub dvi : List ℕ
  pub pages : List ℕ

-- a font list and DVI files, by their names
pub record DviFilesValue : Type 0 where
  pub fonts : List ℕ
  pub files : List (List ℕ)

-- so many formulas of the generator, from a seed
pub record SampleValue : Type 0 where
  pub seed : ℕ
  pub count : ℕ
