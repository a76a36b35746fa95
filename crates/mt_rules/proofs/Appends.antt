-- Rows and columns put together of two parts.
use Rattle.std.proofs.Common.{◌≡◌, max, List, [], ◌∷◌, ◌++◌, refl, arith, ap, append_assoc}
use Rattle.mt_box.specs.declared.piece.Piece.{Piece}
use Rattle.mt_box.specs.declared.entry.Entry.{Entry}
use Rattle.mt_box.specs.Rows.{piece_value, piece_values, row_level}
use Rattle.mt_box.specs.Columns.{entry_value, entry_values, column_level, AllModestEntries}

pub piece_values-append : (ps qs : List Piece) → piece_values (ps ++ qs) ≡ piece_values ps ++ piece_values qs
piece_values-append [] qs = refl
piece_values-append (p ∷ ps) qs = ap (λ vs. piece_value p ∷ vs) (piece_values-append ps qs)

-- a row has at least level 1
row_level-low : (ps : List Piece) → max 1 (row_level ps) ≡ row_level ps
row_level-low [] = refl
row_level-low (p ∷ ps) = omega (arith, row_level-low ps)

pub row_level-append : (ps qs : List Piece) → row_level (ps ++ qs) ≡ max (row_level ps) (row_level qs)
row_level-append [] qs = omega (arith, row_level-low qs)
row_level-append (p ∷ ps) qs = omega (arith, row_level-append ps qs)

pub entry_values-append : (es fs : List Entry) → entry_values (es ++ fs) ≡ entry_values es ++ entry_values fs
entry_values-append [] fs = refl
entry_values-append (e ∷ es) fs = ap (λ vs. entry_value e ∷ vs) (entry_values-append es fs)

column_level-low : (es : List Entry) → max 1 (column_level es) ≡ column_level es
column_level-low [] = refl
column_level-low (e ∷ es) = omega (arith, column_level-low es)

pub column_level-append : (es fs : List Entry) → column_level (es ++ fs) ≡ max (column_level es) (column_level fs)
column_level-append [] fs = omega (arith, column_level-low fs)
column_level-append (e ∷ es) fs = omega (arith, column_level-append es fs)

pub modest_entries-append : (es fs : List Entry) → AllModestEntries es → AllModestEntries fs → AllModestEntries (es ++ fs)
modest_entries-append [] fs h k = k
modest_entries-append (e ∷ es) fs h k = (h.0, modest_entries-append es fs h.1 k)

-- ---- pushed one by one

pub three_pushed : {A : Type 0} (xs ys zs ws : List A) (a b c : A) → ys ≡ xs ++ a ∷ [] → zs ≡ ys ++ b ∷ [] → ws ≡ zs ++ c ∷ [] → ws ≡ xs ++ a ∷ b ∷ c ∷ []
three_pushed xs ys zs ws a b c e f g = rw (g, f, e, append_assoc xs (a ∷ []) (b ∷ []), append_assoc xs (a ∷ b ∷ []) (c ∷ [])) refl
