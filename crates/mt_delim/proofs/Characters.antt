-- Tests of extents are never TooTall, and a character is no more than two of them.
use Rattle.std.proofs.Common.{◌≡◌, ℕ, ℤ, List, [], ◌∷◌, ap, Some, None}
use Rattle.std.specs.Prelude.{Option, Ok, Err, ⊤}
use Rattle.mt_tfm.specs.Font.{Metrics}
use Rattle.mt_box.specs.Layout.{Layout}
use Rattle.mt_box.specs.Extents.{first_out}
use Rattle.mt_box.specs.Boxes.{glyph_layout}
use Rattle.mt_rules.specs.Setting.{Setting, TooTall, ◌>>◌, pass_unless, test_extents, make_box}
use Rattle.mt_rules.specs.Symbols.{extents_without_italic, extents_with_italic}
use Rattle.mt_rules.specs.Delimiters.{character_layout}
use Rattle.mt_rules.specs.Extensibles.{test_glyphs}

test_not_tall : (out : Option ℤ) (n : ℕ) → pass_unless out ≡ Err (TooTall n) → ⊥
test_not_tall None n tall = absurd (cc)
test_not_tall (Some value) n tall = absurd (cc)

pub then_not_tall : {A : Type 0} (first : Setting ⊤) (rest : Setting A) (n : ℕ) → (first ≡ Err (TooTall n) → ⊥) → (rest ≡ Err (TooTall n) → ⊥) → (first >> rest) ≡ Err (TooTall n) → ⊥
then_not_tall (Ok u) rest n here after tall = after tall
then_not_tall {A} (Err fault) rest n here after tall = let same : fault ≡ TooTall n = cc in here (ap (λ f. Err f) same)

pub box_not_tall : (l : Layout) (n : ℕ) → make_box l ≡ Err (TooTall n) → ⊥
box_not_tall l n tall = then_not_tall (test_extents l.extents) (Ok l) n (test_not_tall (first_out l.extents) n) (λ e. absurd (cc)) tall

pub glyphs_not_tall : (m : Metrics) (cs : List ℕ) (n : ℕ) → test_glyphs m cs ≡ Err (TooTall n) → ⊥
glyphs_not_tall m [] n tall = absurd (cc)
glyphs_not_tall m (c ∷ cs) n tall =
    then_not_tall (test_extents (extents_without_italic m c)) (test_glyphs m cs) n (test_not_tall (first_out (extents_without_italic m c)) n) (glyphs_not_tall m cs n) tall

pub character_not_tall : (number : ℕ) (m : Metrics) (c n : ℕ) → character_layout number m c ≡ Err (TooTall n) → ⊥
character_not_tall number m c n tall =
    let l : Layout = glyph_layout number c (extents_with_italic m c) in
    then_not_tall (test_extents (extents_without_italic m c)) (make_box l) n (test_not_tall (first_out (extents_without_italic m c)) n) (box_not_tall l n) tall
