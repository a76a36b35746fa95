-- Runs of glyphs (`glyphs_of`).
use Rattle.std.specs.Prelude.{◌≤◌, ℕ, List, [], ◌∷◌, ◌++◌, replicate, ⊤}
use Rattle.mt_box.specs.Limits.{max_repeats}
use Rattle.mt_rules.specs.Extensibles.{recipe_piece}
use Rattle.mt_delim.specs.declared.extensible.Run.{Run}
use Rattle.mt_delim.specs.declared.extensible.Run.TheVariants.{Piece, Repeats}

-- the glyphs of a run
abbrev pub run_glyphs : Run → List ℕ
run_glyphs (Piece code) = recipe_piece code
run_glyphs (Repeats code count) = replicate count code

abbrev pub glyphs_of : List Run → List ℕ
glyphs_of [] = []
glyphs_of (r ∷ rs) = run_glyphs r ++ glyphs_of rs

-- no more repeats than a stack may have
abbrev pub IsFew : Run → Type 0
IsFew (Piece code) = ⊤
IsFew (Repeats code count) = count ≤ max_repeats

abbrev pub AreFew : List Run → Type 0
AreFew [] = ⊤
AreFew (r ∷ rs) = IsFew r × AreFew rs
