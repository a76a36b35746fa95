-- What a log got (`Gets`).
use Rattle.std.specs.Prelude.{◌≡◌, ℕ, List, ◌++◌, Option}
use Rattle.mt_outside.specs.Counts.{IsSteady}
use Rattle.mt_outside.specs.Appends.{Appends}

-- A sink with these two meanings got these bytes, or a first part of them where its count rose.
pub record Gets {S : Type 0} (written : S → Option (List ℕ)) (faults : S → ℕ) (before now : S) (bytes : List ℕ) : Type 0 where
  pub whole : IsSteady (faults before) (faults now) → Appends (written before) (written now) bytes
  pub part : (front : List ℕ) × (rest : List ℕ) × (bytes ≡ front ++ rest) × Appends (written before) (written now) front
