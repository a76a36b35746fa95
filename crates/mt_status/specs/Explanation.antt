-- The form of a line for a person (`explained_at`, `explained_whole`), and the lines of `usage`.
use Rattle.std.specs.Prelude.{ℕ, List, [], ◌∷◌, codes}
use Rattle.std.specs.List.{concat}

abbrev pub explained_at : List ℕ → List ℕ → List ℕ → List ℕ
explained_at head place text = concat (head ∷ place ∷ codes ": " ∷ text ∷ codes "\n" ∷ [])

abbrev pub explained_whole : List ℕ → List ℕ
explained_whole text = concat (text ∷ codes "\n" ∷ [])

-- how the program is called
unfoldable pub usage : List ℕ
usage = concat (codes "usage: mathset [--line WIDTH] set FONTS SOURCE       as in: mathset set my.fonts my.tex > my.dvi\n"
    ∷ codes "       mathset [--line WIDTH] places FONTS SOURCE    the places of the glyphs and rules as text\n"
    ∷ codes "       mathset read FONTS DVI, mathset pick FONTS DVI RANGE.., mathset join FONTS DVI.., or mathset gen SEED COUNT\n"
    ∷ codes "       WIDTH is the width of a line in scaled points; without it a line is 6.5in = 30785863\n"
    ∷ codes "       RANGE is the number of a page, or of the first and the last of several, as 3 or 2-5" ∷ [])
