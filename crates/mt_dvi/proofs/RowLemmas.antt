-- The first bytes of a row (`row_back`, `front_whole`).
use Rattle.std.proofs.Common.{◌≡◌, ◌∙◌, ℕ, List, ◌++◌, length, take, drop, ap, arith}
use Rattle.std.proofs.lemmas.List.{take_all, take_at}

-- a row that was lent out comes back as it is
pub row_back : (n len : ℕ) (row was items : List ℕ) → length row ≡ length was → length was ≡ len → take n (take len (row ++ drop (length row) items)) ≡ take n row
row_back n len row was items same long = ap (take n) (take_at row (drop (length row) items) len (same ∙ long))

-- the first bytes are all that there were
pub front_whole : (n : ℕ) (now was : List ℕ) → n ≡ length was → take n now ≡ take n was → take n now ≡ was
front_whole n now was long kept = kept ∙ take_all n was (omega arith)
