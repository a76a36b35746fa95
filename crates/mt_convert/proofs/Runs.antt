-- A list without boundaries and middles as runs of pieces (`row_of_runs`), which are made item by item (`RunsSoFar`).
use Rattle.std.proofs.Common.{◌≡◌, ℕ, List, [], ◌∷◌, ◌++◌, length, take, drop, ap, sym, ◌∙◌, arith, refl, subst, ℤ, Option, None, Some, Bool, true, false, ◌||◌, append_assoc, append-nil, length-drop, Result, Ok, Err, OnOk}
use Rattle.mt_convert.proofs.Common.{nil_from_length, Size, SetValue, PieceValue, Class, Style, Setting, ◌>>=◌, math_unit, Current, PlacedItem, opening, RowOn, AllMeet, MayMeet, all_pieces, half_pieces, current_after_half, pieces_between, spacing_pieces}
use Rattle.mt_rules.specs.Spaces.{Spacing, NoSpacing, ThinSpacing, MediumSpacing, ThickSpacing, spacing}
use Rattle.mt_pieces.specs.Gaps.{gap_pieces, with_gaps, AllRunsFit, GapFits}
use Rattle.mt_pieces.specs.declared.gaps.Run.{Run}
use Rattle.mt_pieces.specs.declared.items.PlacedItem.TheVariants as placed
use Rattle.mt_convert.specs.inner.Placed.{placed_value, placed_values, placed_length, placed_count, placed_left, PlacedFits, AllPlacedFit, PlacesIn}
use Rattle.mt_convert.specs.inner.Runs.{gap_between, gap_of_spacing, has_boundary, is_boundary, run_of, runs_of}
use Rattle.mt_convert.proofs.Settling.{left_is}

-- ---- one item

gap_is : (s : Spacing) (unit : ℤ) → gap_pieces (gap_of_spacing s unit) ≡ spacing_pieces s unit
gap_is NoSpacing unit = refl
gap_is ThinSpacing unit = refl
gap_is MediumSpacing unit = refl
gap_is ThickSpacing unit = refl

between_is : (fonts : SetValue) (style : Style) (last : Option Class) (right : Class) → gap_pieces (gap_between fonts style last right) ≡ pieces_between fonts style last right
between_is fonts style None right = refl
between_is fonts style (Some left) right = gap_is (spacing left right style) (math_unit fonts style)

half_is : (fonts : SetValue) (size : Size) (wanted : ℤ) (current : Current) (h : PlacedItem) (row : List PieceValue) → is_boundary h ≡ false
    → half_pieces fonts size wanted current (placed_value h row) ≡ Ok (gap_pieces (run_of fonts current h).gap ++ take (run_of fonts current h).count row)
half_is fonts size wanted current (placed.Set class count) row b = ap (λ z. Ok (z ++ take count row)) (sym (between_is fonts current.style current.last class))
half_is fonts size wanted current (placed.Left delim) row b = absurd (cc)
half_is fonts size wanted current (placed.Middle delim) row b = absurd (cc)
half_is fonts size wanted current (placed.Right delim) row b = absurd (cc)
half_is fonts size wanted current (placed.Style style) row b = refl
half_is fonts size wanted current (placed.Kern amount) row b = refl
half_is fonts size wanted current (placed.Space glue) row b = refl

count_is : (fonts : SetValue) (current : Current) (h : PlacedItem) → (run_of fonts current h).count ≡ placed_length h
count_is fonts current (placed.Set class count) = refl
count_is fonts current _ = refl

after_is : (current : Current) (h : PlacedItem) (row : List PieceValue) → current_after_half current (placed_value h row) ≡ current_after_half current (placed_value h [])
after_is current (placed.Set class count) row = refl
after_is current _ row = refl

-- ---- the row

neither_left : (a b : Bool) → (a || b) ≡ false → a ≡ false
neither_left true b e = e
neither_left false b e = refl

neither_right : (a b : Bool) → (a || b) ≡ false → b ≡ false
neither_right true b e = absurd (cc)
neither_right false b e = e

both_made : (s t : Setting (List PieceValue)) (xs ys : List PieceValue) → s ≡ Ok xs → t ≡ Ok ys → (s >>= (λ ps. t >>= (λ rest. Ok (ps ++ rest)))) ≡ Ok (xs ++ ys)
both_made s t xs ys e f = ap (λ r. r >>= (λ ps. t >>= (λ rest. Ok (ps ++ rest)))) e ∙ ap (λ r. r >>= (λ rest. Ok (xs ++ rest))) f

runs_are : (fonts : SetValue) (size : Size) (wanted : ℤ) (current : Current) (hs : List PlacedItem) (row : List PieceValue) → has_boundary hs ≡ false → placed_count hs ≡ length row
    → all_pieces fonts size wanted current (placed_values hs row) ≡ Ok (with_gaps gap_pieces (runs_of fonts current hs) row)
runs_are fonts size wanted current [] row b n = ap (λ z. Ok z) (sym (nil_from_length row (sym n)))
runs_are fonts size wanted current (h ∷ hs) row b n =
    let run = run_of fonts current h in
    let next = current_after_half current (placed_value h []) in
    let behind = drop run.count row in
    let same : drop (placed_length h) row ≡ behind = ap (λ k. drop k row) (sym (count_is fonts current h)) in
    let count : placed_count hs ≡ length behind = omega (arith, n, count_is fonts current h, length-drop run.count row) in
    let rest = ap (λ z. all_pieces fonts size wanted z (placed_values hs (drop (placed_length h) row))) (after_is current h row)
    ∙ (ap (λ z. all_pieces fonts size wanted next (placed_values hs z)) same
    ∙ runs_are fonts size wanted next hs behind (neither_right (is_boundary h) (has_boundary hs) b) count) in
    both_made (half_pieces fonts size wanted current (placed_value h row)) (all_pieces fonts size wanted (current_after_half current (placed_value h row)) (placed_values hs (drop (placed_length h) row)))
    (gap_pieces run.gap ++ take run.count row) (with_gaps gap_pieces (runs_of fonts next hs) behind)
    (half_is fonts size wanted current h row (neither_left (is_boundary h) (has_boundary hs) b)) rest
    ∙ ap (λ z. Ok z) (append_assoc (gap_pieces run.gap) (take run.count row) (with_gaps gap_pieces (runs_of fonts next hs) behind))

-- ---- item by item

-- the runs of the whole list are those that there are, and then those of the rest
pub record RunsSoFar (fonts : SetValue) (style : Style) (items : List PlacedItem) (current : Current) (rest : List PlacedItem) (runs : List Run) : Type 0 where
  pub row : List PieceValue
  pub whole : runs_of fonts (opening style) items ≡ runs ++ runs_of fonts current rest
  pub meet : AllMeet current.last (placed_values rest row)
  pub fit : AllPlacedFit rest
  pub runs_fit : AllRunsFit runs

pub runs_start : (fonts : SetValue) (style : Style) (items : List PlacedItem) (current : Current) (row : List PieceValue) (runs : List Run) → PlacesIn items row → current ≡ opening style → runs ≡ [] → RunsSoFar fonts style items current items runs
runs_start fonts style items current row runs p c e = rw (c, e) (record { row = row; whole = refl; meet = p.meet; fit = p.fit; runs_fit = tt })

-- what the run of the next item needs
pub record NextRun (current : Current) (h : PlacedItem) : Type 0 where
  pub meets : MayMeet current.last (placed_left h)
  pub fits : PlacedFits h

pub next_run : (fonts : SetValue) (style : Style) (items : List PlacedItem) (current : Current) (rest : List PlacedItem) (runs : List Run) (h : PlacedItem) (rest' : List PlacedItem) → RunsSoFar fonts style items current rest runs → rest ≡ h ∷ rest' → NextRun current h
next_run fonts style items current rest runs h rest' s e =
    let meet : AllMeet current.last (placed_values (h ∷ rest') s.row) = subst (λ r. AllMeet current.last (placed_values r s.row)) e s.meet in
    record {
      meets = subst (MayMeet current.last) (left_is h s.row) meet.0;
      fits = (subst AllPlacedFit e s.fit).0;
    }

fits_more : (runs : List Run) (run : Run) → AllRunsFit runs → GapFits run.gap → AllRunsFit (runs ++ run ∷ [])
fits_more [] run h k = (k, tt)
fits_more (r ∷ runs) run h k = (h.0, fits_more runs run h.1 k)

pub runs_step : (fonts : SetValue) (style : Style) (items : List PlacedItem) (current current' : Current) (rest : List PlacedItem) (runs runs' : List Run) (h : PlacedItem) (run : Run) (rest' : List PlacedItem) → RunsSoFar fonts style items current rest runs → rest ≡ h ∷ rest'
    → run ≡ run_of fonts current h → GapFits run.gap → runs' ≡ runs ++ run ∷ [] → ((row : List PieceValue) → current' ≡ current_after_half current (placed_value h row)) → RunsSoFar fonts style items current' rest' runs'
runs_step fonts style items current current' rest runs runs' h run rest' s e r k n c =
    let next = current_after_half current (placed_value h []) in
    let meet : AllMeet current.last (placed_values (h ∷ rest') s.row) = subst (λ z. AllMeet current.last (placed_values z s.row)) e s.meet in
    let whole : runs_of fonts (opening style) items ≡ (runs ++ run ∷ []) ++ runs_of fonts next rest' =
    s.whole ∙ (ap (λ z. runs ++ runs_of fonts current z) e ∙ (ap (λ z. runs ++ (z ∷ runs_of fonts next rest')) (sym r) ∙ sym (append_assoc runs (run ∷ []) (runs_of fonts next rest')))) in
    rw (n, c []) (record {
      row = drop (placed_length h) s.row;
      whole = whole;
      meet = subst (λ z. AllMeet z.last (placed_values rest' (drop (placed_length h) s.row))) (after_is current h s.row) meet.1;
      fit = (subst AllPlacedFit e s.fit).1;
      runs_fit = fits_more runs run s.runs_fit k;
    })

pub row_of_runs : (fonts : SetValue) (style : Style) (items : List PlacedItem) (first : ℕ) (old new : List PieceValue) (current : Current) (rest : List PlacedItem) (runs : List Run) (size : Size) (wanted : ℤ) → RunsSoFar fonts style items current rest runs → rest ≡ []
    → has_boundary items ≡ false → PlacesIn items (drop first old) → new ≡ take first old ++ with_gaps gap_pieces runs (drop first old)
    → RowOn (take first old) new (all_pieces fonts size wanted (opening style) (placed_values items (drop first old)))
row_of_runs fonts style items first old new current rest runs size wanted s e b p n =
    let all : runs_of fonts (opening style) items ≡ runs = s.whole ∙ (ap (λ z. runs ++ runs_of fonts current z) e ∙ append-nil runs) in
    record {
      row = with_gaps gap_pieces runs (drop first old);
      is = runs_are fonts size wanted (opening style) items (drop first old) b p.count ∙ ap (λ z. Ok (with_gaps gap_pieces z (drop first old))) all;
      stays = n;
    }

-- what the call that puts the gaps answers
pub runs_put : {U E : Type 0} (r : Result U E) (fonts : SetValue) (style : Style) (items : List PlacedItem) (first : ℕ) (old mid new : List PieceValue) (current : Current) (rest : List PlacedItem) (runs : List Run) → RunsSoFar fonts style items current rest runs → rest ≡ []
    → has_boundary items ≡ false → PlacesIn items (drop first old) → mid ≡ old → OnOk r (new ≡ take first mid ++ with_gaps gap_pieces runs (drop first mid))
    → OnOk r ((size : Size) (wanted : ℤ) → RowOn (take first old) new (all_pieces fonts size wanted (opening style) (placed_values items (drop first old))))
runs_put (Ok u) fonts style items first old mid new current rest runs s e b p m n = λ size wanted.
    row_of_runs fonts style items first old new current rest runs size wanted s e b p (subst (λ x. new ≡ take first x ++ with_gaps gap_pieces runs (drop first x)) m n)
runs_put (Err f) fonts style items first old mid new current rest runs s e b p m n = tt
