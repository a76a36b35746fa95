-- Pieces taken one after another, from the last one.
use Rattle.std.proofs.Common.{◌≡◌, ℕ, ◌+◌, ◌≤◌, ◌<◌, max, List, [], ◌∷◌, ◌++◌, ◌⊎◌, length, length-append, reverse, take, drop, append_assoc, refl, arith, inl, inr, sym, ◌∙◌, ap, subst}
use Rattle.std.proofs.lemmas.List.{append-nil, drop_all, drop_at, reverse-append, take_all, take_at}
use Rattle.mt_box.specs.declared.piece.Piece.{Piece}
use Rattle.mt_box.specs.declared.piece.Piece.TheVariants as piece
use Rattle.mt_box.specs.Rows.{PieceValue, piece_value, piece_values, AllMeasurable, AllModest, IsMeasurable, IsModest, level_of_piece, row_level}
use Rattle.mt_pieces.specs.inner.Taken.{IsFirstLevel}

-- what is left, and the row so far from its end
pub record TakenSoFar (first : ℕ) (old now : List PieceValue) (row : List Piece) : Type 0 where
  pub whole : old ≡ now ++ reverse (piece_values row)
  pub modest : AllModest row
  pub levels : row_level row ≤ 2
  pub left : (first ≤ length now) ⊎ (row ≡ [])

pub taking_start : (first : ℕ) (now : List PieceValue) (row : List Piece) → row ≡ [] → TakenSoFar first now now row
taking_start first now row e = record {
  whole = sym (ap (λ z. now ++ reverse (piece_values z)) e ∙ append-nil now);
  modest = subst AllModest (sym e) tt;
  levels = rw (e) (omega arith);
  left = inr e;
}

values_more : (row : List Piece) (p : Piece) → piece_values (row ++ p ∷ []) ≡ piece_values row ++ piece_value p ∷ []
values_more [] p = refl
values_more (q ∷ row) p = ap (λ z. piece_value q ∷ z) (values_more row p)

modest_more : (row : List Piece) (p : Piece) → AllModest row → IsModest p → AllModest (row ++ p ∷ [])
modest_more [] p h k = (k, tt)
modest_more (q ∷ row) p h k = (h.0, modest_more row p h.1 k)

level_more : (row : List Piece) (p : Piece) → row_level (row ++ p ∷ []) ≡ max (row_level row) (level_of_piece p + 1)
level_more [] p = omega arith
level_more (q ∷ row) p = omega (arith, level_more row p)

-- all but the last one, and the last one
pub record LastApart (now : List PieceValue) : Type 0 where
  pub rest : List PieceValue
  pub last : PieceValue
  pub whole : now ≡ rest ++ last ∷ []

pub last_apart : (now : List PieceValue) → 1 ≤ length now → LastApart now
last_apart [] h = absurd (omega (arith, h))
last_apart (m ∷ []) h = record { rest = []; last = m; whole = refl }
last_apart (m ∷ n ∷ ms) h =
    let a = last_apart (n ∷ ms) (omega arith) in
    record { rest = m ∷ a.rest; last = a.last; whole = ap (λ z. m ∷ z) a.whole }

low_level : (p : Piece) → IsFirstLevel p → level_of_piece p ≤ 1
low_level (piece.Glyph f c e) h = omega arith
low_level (piece.Boxed r b) h = omega (arith, h)
low_level (piece.Kern k) h = omega arith
low_level (piece.Space w s) h = omega arith

pub taking_step : (first : ℕ) (old now now' : List PieceValue) (row row' : List Piece) (p : Piece) (m : PieceValue) → TakenSoFar first old now row → first < length now → now ≡ now' ++ m ∷ [] → piece_value p ≡ m → IsModest p → IsFirstLevel p → row' ≡ row ++ p ∷ []
    → TakenSoFar first old now' row'
taking_step first old now now' row row' p m h lt e same modest level more =
    let r : reverse (piece_values row') ≡ m ∷ reverse (piece_values row) =
    ap (λ z. reverse (piece_values z)) more ∙ (ap reverse (values_more row p) ∙ (reverse-append (piece_values row) (piece_value p ∷ []) ∙ ap (λ z. z ∷ reverse (piece_values row)) same)) in
    record {
      whole = h.whole ∙ (ap (λ z. z ++ reverse (piece_values row)) e ∙ (append_assoc now' (m ∷ []) (reverse (piece_values row)) ∙ ap (λ z. now' ++ z) (sym r)));
      modest = subst AllModest (sym more) (modest_more row p h.modest modest);
      levels = rw (more, level_more row p) (omega (arith, h.levels, low_level p level));
      left = inl (omega (arith, lt, ap length e, length-append now' (m ∷ [])));
    }

pub record TakenAll (first : ℕ) (old now : List PieceValue) (taken : List Piece) : Type 0 where
  pub others : now ≡ take first old
  pub row : reverse (piece_values taken) ≡ drop first old

pub taking_end : (first : ℕ) (old now : List PieceValue) (row : List Piece) → TakenSoFar first old now row → length now ≤ first → TakenAll first old now row
taking_end first old now row h few = elim h.left [ inl low ↦ some (omega (arith, low, few)) | inr none ↦ nothing none ]
  where
    some : length now ≡ first → TakenAll first old now row
    some n = record {
      others = sym (ap (take first) h.whole ∙ take_at now (reverse (piece_values row)) first n);
      row = sym (ap (drop first) h.whole ∙ drop_at now (reverse (piece_values row)) first n);
    }

    nothing : row ≡ [] → TakenAll first old now row
    nothing none =
        let e : old ≡ now = h.whole ∙ (ap (λ z. now ++ reverse (piece_values z)) none ∙ append-nil now) in
        record {
          others = sym (ap (take first) e ∙ take_all first now few);
          row = ap (λ z. reverse (piece_values z)) none ∙ sym (ap (drop first) e ∙ drop_all first now few);
        }

pub values_turned : (row : List Piece) → piece_values (reverse row) ≡ reverse (piece_values row)
values_turned [] = refl
values_turned (p ∷ row) =
    ap piece_values (reverse-append (p ∷ []) row) ∙ (values_more (reverse row) p ∙ (ap (λ z. z ++ piece_value p ∷ []) (values_turned row) ∙ sym (reverse-append (piece_value p ∷ []) (piece_values row))))

pub modest_turned : (row : List Piece) → AllModest row → AllModest (reverse row)
modest_turned [] h = tt
modest_turned (p ∷ row) h = subst AllModest (sym (reverse-append (p ∷ []) row)) (modest_more (reverse row) p (modest_turned row h.1) h.0)

pub levels_turned : (row : List Piece) → row_level (reverse row) ≡ row_level row
levels_turned [] = refl
levels_turned (p ∷ row) = ap row_level (reverse-append (p ∷ []) row) ∙ (level_more (reverse row) p ∙ omega (arith, levels_turned row))

pub modest_measured : (row : List Piece) → AllModest row → AllMeasurable row
modest_measured [] h = tt
modest_measured (p ∷ row) h = (one p h.0, modest_measured row h.1)
  where
    one : (p : Piece) → IsModest p → IsMeasurable p
    one (piece.Glyph f c e) h = h
    one (piece.Boxed r b) h = h.0
    one (piece.Kern k) h = h
    one (piece.Space w s) h = h
