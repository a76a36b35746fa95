-- The rows of a display of several lines, one after another, and the places of their line.
use Rattle.std.proofs.Common.{◌≡◌, ℕ, ℤ, pos, ◌-ℤ◌, ◌+◌, ◌-◌, ◌≤◌, ◌^◌, Bool, List, [], ◌∷◌, ◌++◌, length, length-append, map, take, drop, refl, sym, ◌∙◌, ap, subst, arith, All, Option, Some, None, Result, Ok, Err}
use Rattle.mt_pages.proofs.Common.{All-append, All-cons, All-head, All-nil, All-tail, Layout, all_moved, PieceValue, PieceBox, pack, Place, Within, ◌>>=◌, SetValue, EquationLayout, centred_row, equation_row, equation_rows, equations_axis, equations_line, margin, number_place, rows_line, stacked_rows, ◌>>◌, make_box, pack_row, pass_unless, Sequence, Rows, NoRows, MoreRows, rows_length, PlaceHolds, at_left_end, equation_lines, greatest_level, row_lines, one_line, IsStack, LineValue, line_values, LineStack, are, made_then, one_has, each_set, equations_lines, equations_set, formula_box, formula_row, lists_of, rows_lines, rows_set, set_by, IsPure, Status, pure_err}
use Rattle.mt_box.specs.Extents.{first_out}
use Rattle.mt_box.proofs.Still.{moved_have, pack_has}
use Rattle.mt_rules.specs.declared.document.Equation.{Equation}
use Rattle.mt_rules.specs.Sequence.{TableGrid, MoreTableRows}
use Rattle.mt_arena.specs.Arena.{Held}
use Rattle.mt_rules.specs.Equations.{equation_of, equations_of}
use Rattle.mt_arena.specs.declared.equations.EquationSpans.{EquationSpans}
use Rattle.mt_arena.specs.Formulas.{equation_in}
use Rattle.mt_rules.specs.declared.style.Style.{Style}
use Rattle.mt_rules.specs.Tables.{open_gap, open_places, rows_places}
use Rattle.mt_convert.proofs.Behind.{rest_before, row_behind}
use Rattle.mt_pieces.specs.Putting.{boxed_on}
use Rattle.mt_display.specs.declared.line.Line.{Line as LineFields}
use Rattle.mt_pages.specs.inner.Lines.{BoxHolds, EquationHolds, LinesHold, LinesPut, RowPut}
use Rattle.mt_pages.proofs.LineLemmas.{line_put}
use Rattle.mt_pages.proofs.PageLemmas.{places_still, row_has}

-- ---- rows that are set one after another

-- rows that are set as a step says and seen as `view` says, whose level is low and of which Q holds
pub record RowsSet {A R B : Type 0} (set : A → Result B Status) (view : R → B) (level : R → ℕ) (Q : B → Type 0) (all rest : List A) (made : List R) : Type 0 where
  pub is : each_set set [] all ≡ each_set set (map view made) rest
  pub count : length made + length rest ≡ length all
  pub level_low : greatest_level level made ≤ 2 ^ 20 - 3
  pub holds : All Q (map view made)

map-append : {R B : Type 0} (view : R → B) (made : List R) (r : R) → map view (made ++ r ∷ []) ≡ map view made ++ view r ∷ []
map-append view [] r = refl
map-append view (m ∷ made) r = ap (λ rows. view m ∷ rows) (map-append view made r)

level-append : {R : Type 0} (level : R → ℕ) (made : List R) (r : R) → greatest_level level made ≤ 2 ^ 20 - 3 → level r ≤ 2 ^ 20 - 3 → greatest_level level (made ++ r ∷ []) ≤ 2 ^ 20 - 3
level-append level [] r low deep = omega (arith, deep)
level-append level (m ∷ made) r low deep = omega (arith, low, level-append level made r (omega (arith, low)) deep)

module _ {A R B : Type 0} (set : A → Result B Status) (view : R → B) (level : R → ℕ) (Q : B → Type 0) where
  pub rows_start : (all rest : List A) (made : List R) → rest ≡ all → made ≡ [] → RowsSet set view level Q all rest made
  rows_start all rest made e m = rw (e, m) (record { is = refl; count = omega arith; level_low = omega arith; holds = All-nil Q })

  pub rows_next : (all rest rest' : List A) (x : A) (made made' : List R) (r : R) → RowsSet set view level Q all rest made → rest ≡ x ∷ rest' → set x ≡ Ok (view r) → level r ≤ 2 ^ 20 - 3 → Q (view r) → made' ≡ made ++ r ∷ []
      → RowsSet set view level Q all rest' made'
  rows_next all rest rest' x made made' r h e is deep q m =
      let h' : RowsSet set view level Q all (x ∷ rest') made = subst (λ (xs : List A). RowsSet set view level Q all xs made) e h in
      rw m (record {
        is =
            h'.is ∙ ap (λ (b : Result B Status). b >>= (λ box. each_set set (map view made ++ box ∷ []) rest')) is
            ∙ ap (λ (boxes : List B). each_set set boxes rest') (sym (map-append view made r));
        count = omega (arith, h'.count, length-append made (r ∷ []));
        level_low = level-append level made r h'.level_low deep;
        holds = subst (λ (boxes : List B). All Q boxes) (sym (map-append view made r)) (All-append Q (map view made) (view r ∷ []) h'.holds (All-cons Q (view r) [] q (All-nil Q)));
      })

  pub rows_err : (all rest rest' : List A) (x : A) (made : List R) (status : Status) → RowsSet set view level Q all rest made → rest ≡ x ∷ rest' → IsPure (set x) (Err status) → IsPure (each_set set [] all) (Err status)
  rows_err all rest rest' x made status h e is =
      let h' : RowsSet set view level Q all (x ∷ rest') made = subst (λ (xs : List A). RowsSet set view level Q all xs made) e h in
      subst (λ (boxes : Result (List B) Status). IsPure boxes (Err status)) (sym h'.is)
      (pure_err (set x) (λ box. each_set set (map view made ++ box ∷ []) rest') status is)

  pub rows_done : (all rest : List A) (made : List R) → RowsSet set view level Q all rest made → rest ≡ [] → each_set set [] all ≡ Ok (map view made)
  rows_done all rest made h e =
      let h' : RowsSet set view level Q all [] made = subst (λ (xs : List A). RowsSet set view level Q all xs made) e h in
      h'.is

-- the equation at hand, and the others
pub equation_steps : (es : List Held) (grid rest : TableGrid) (cells : Rows) (e : EquationSpans) → grid ≡ MoreTableRows cells rest → equation_in es e ≡ equation_of cells → equations_of grid ≡ equation_in es e ∷ equations_of rest
equation_steps es grid rest cells e g is = ap equations_of g ∙ ap (λ (x : Equation). x ∷ equations_of rest) (sym is)

pub lists_few : (rows : Rows) → length (lists_of rows) ≡ rows_length rows
lists_few NoRows = refl
lists_few (MoreRows list rows) = omega (arith, lists_few rows)

-- ---- the places of their line

-- the box of a list, whose row was packed behind the pieces that were there
pub record BoxMade (set : SetValue) (n : ℕ) (style : Style) (list : Sequence) (old new : List PieceValue) : Type 0 where
  pub box : Layout
  pub is : formula_box set n style list ≡ Ok box
  pub stays : new ≡ old ++ PieceBox (pos 0) box ∷ []
  pub holds : BoxHolds set box

packed_on : (o : Option ℤ) (l : Layout) (rest new : List PieceValue) → boxed_on rest (pass_unless o >> Ok l) ≡ Ok new → ((pass_unless o >> Ok l) ≡ Ok l) × (new ≡ rest ++ PieceBox (pos 0) l ∷ [])
packed_on None l rest new is = (refl, cc)
packed_on (Some value) l rest new is = absurd (cc)

module _ (set : SetValue) (n : ℕ) (style : Style) (list : Sequence) (first : ℕ) (old mid : List PieceValue) where
  box_of : (row : List PieceValue) → formula_row set n style list ≡ Ok row → formula_box set n style list ≡ set_by n (pack_row row)
  box_of row is = ap (λ (r : Result (List PieceValue) Status). r >>= (λ row. set_by n (pack_row row))) is

  at_row : (put : RowPut set old mid (formula_row set n style list)) → first ≡ length old → boxed_on (take first mid) (pack_row (drop first mid)) ≡ boxed_on old (pack_row put.row)
  at_row put at = ap (λ (ps : List PieceValue). boxed_on ps (pack_row (drop first mid))) (rest_before first old put.row mid at put.stays) ∙ ap (λ (ps : List PieceValue). boxed_on old (pack_row ps)) (row_behind first old put.row mid at put.stays)

  pub formula_boxed : (new : List PieceValue) → RowPut set old mid (formula_row set n style list) → first ≡ length old → boxed_on (take first mid) (pack_row (drop first mid)) ≡ Ok new → BoxMade set n style list old new
  formula_boxed new put at is =
      let found = packed_on (first_out (pack put.row).extents) (pack put.row) old new (sym (at_row put at) ∙ is) in
      record {
        box = pack put.row;
        is = box_of put.row put.is ∙ ap (set_by n) found.0;
        stays = found.1;
        holds = pack_has (PlaceHolds set) (places_still set) put.row (row_has set put.row put.holds);
      }

  pub formula_not_boxed : (status : Status) → RowPut set old mid (formula_row set n style list) → first ≡ length old → IsPure (set_by n (pack_row (drop first mid))) (Err status) → IsPure (formula_box set n style list) (Err status)
  formula_not_boxed status put at fails =
      subst (λ (r : Result Layout Status). IsPure r (Err status)) (sym (box_of put.row put.is))
      (subst (λ (ps : List PieceValue). IsPure (set_by n (pack_row ps)) (Err status)) (row_behind first old put.row mid at put.stays) fails)

module _ (set : SetValue) where
  moved_hold : (x y : ℤ) (ps : List Place) → All (PlaceHolds set) ps → All (PlaceHolds set) (all_moved x y ps)
  moved_hold x y ps h = moved_have (PlaceHolds set) (places_still set) x y ps h

  below_hold : (y depth : ℤ) (ls : List Layout) → All (BoxHolds set) ls → All (PlaceHolds set) (rows_places open_gap y depth ls)
  below_hold y depth [] h = All-nil (PlaceHolds set)
  below_hold y depth (l ∷ ls) h =
      let baseline = (y -ℤ open_gap depth l.extents.height) -ℤ l.extents.height in
      All-append (PlaceHolds set) (all_moved (pos 0) baseline l.places) (rows_places open_gap (baseline -ℤ l.extents.depth) l.extents.depth ls)
      (moved_hold (pos 0) baseline l.places (All-head (BoxHolds set) l ls h)) (below_hold (baseline -ℤ l.extents.depth) l.extents.depth ls (All-tail (BoxHolds set) l ls h))

  open_hold : (y : ℤ) (ls : List Layout) → All (BoxHolds set) ls → All (PlaceHolds set) (open_places y ls)
  open_hold y [] h = All-nil (PlaceHolds set)
  open_hold y (l ∷ ls) h =
      let baseline = y -ℤ l.extents.height in
      All-append (PlaceHolds set) (all_moved (pos 0) baseline l.places) (rows_places open_gap (baseline -ℤ l.extents.depth) l.extents.depth ls)
      (moved_hold (pos 0) baseline l.places (All-head (BoxHolds set) l ls h)) (below_hold (baseline -ℤ l.extents.depth) l.extents.depth ls (All-tail (BoxHolds set) l ls h))

  stacked_hold : (width : ℤ) (ls : List Layout) → All (BoxHolds set) ls → BoxHolds set (stacked_rows width ls)
  stacked_hold width ls h = open_hold (stacked_rows width ls).extents.height ls h

  -- a line that was made
  line_holds : (l : Layout) (lines : List LineValue) → BoxHolds set l → at_left_end (make_box l) ≡ Ok lines → LinesHold set lines
  line_holds l lines h is =
      are (PlaceHolds set) (one_line (pos 0) l) lines (one_has (PlaceHolds set) (places_still set) (pos 0) l h)
      (made_then (first_out l.extents) l (λ body. Ok (one_line (pos 0) body)) lines is)

  -- ---- rows in the middle

  centred_hold : (width : ℤ) (ls : List Layout) → All (BoxHolds set) ls → All (BoxHolds set) (map (centred_row width) ls)
  centred_hold width [] h = All-nil (BoxHolds set)
  centred_hold width (l ∷ ls) h =
      All-cons (BoxHolds set) (centred_row width l) (map (centred_row width) ls)
      (moved_hold (margin (width -ℤ l.extents.width)) (pos 0) l.places (All-head (BoxHolds set) l ls h)) (centred_hold width ls (All-tail (BoxHolds set) l ls h))

  pub rows_hold : (width : ℤ) (ls : List Layout) (lines : List LineValue) → All (BoxHolds set) ls → row_lines ls width ≡ Ok lines → LinesHold set lines
  unfolding rows_line
  rows_hold width ls lines h is =
      line_holds (stacked_rows width (map (centred_row width) ls)) lines (stacked_hold width (map (centred_row width) ls) (centred_hold width ls h)) is

  -- ---- equations

  equation_hold : (width x : ℤ) (left : Bool) (e : EquationLayout) → EquationHolds set e → BoxHolds set (equation_row width x left e)
  equation_hold width x left e h =
      let at = number_place width left e.number.extents.width in
      let number = moved_hold at (pos 0) e.number.places h.number in
      let second = moved_hold x (pos 0) e.second.places h.second in
      let first = moved_hold (x -ℤ e.first.extents.width) (pos 0) e.first.places h.first in
      let two = All-append (PlaceHolds set) (all_moved x (pos 0) e.second.places) (all_moved at (pos 0) e.number.places) second number in
      All-append (PlaceHolds set) (all_moved (x -ℤ e.first.extents.width) (pos 0) e.first.places) (all_moved x (pos 0) e.second.places ++ all_moved at (pos 0) e.number.places) first two

  each_equation : (width x : ℤ) (left : Bool) (es : List EquationLayout) → All (EquationHolds set) es → All (BoxHolds set) (map (equation_row width x left) es)
  each_equation width x left [] h = All-nil (BoxHolds set)
  each_equation width x left (e ∷ es) h =
      All-cons (BoxHolds set) (equation_row width x left e) (map (equation_row width x left) es)
      (equation_hold width x left e (All-head (EquationHolds set) e es h)) (each_equation width x left es (All-tail (EquationHolds set) e es h))

  pub equations_hold : (width : ℤ) (left : Bool) (es : List EquationLayout) (lines : List LineValue) → All (EquationHolds set) es → equation_lines es left width ≡ Ok lines → LinesHold set lines
  unfolding equations_line
  equations_hold width left es lines h is =
      line_holds (stacked_rows width (equation_rows width left es)) lines
      (stacked_hold width (equation_rows width left es) (each_equation width (equations_axis width es) left es h)) is

-- ---- their line on the stack

module _ (set : SetValue) (n : ℕ) (w width : ℤ) (lines : List LineValue) (ls : List LineFields) (old mid new : LineStack) where
  -- the line was put after those that were there, and the boxes before it left them as they were
  line_on : (answer : ℤ → Result (List LineValue) Status) → answer w ≡ Ok (line_values ls) → w ≡ width → length ls ≡ 1 → All (λ (l : LineFields). Within (2 ^ 40) l.shift) ls → LinesHold set (line_values ls)
      → IsStack lines [] old → mid.pieces ≡ old.pieces → mid.shifts ≡ old.shifts → (IsStack lines [] mid → IsStack (lines ++ line_values ls) [] new) → LinesPut set 1 lines new (answer width)
  line_on answer is same one small hold on stay kept put =
      line_put set lines ls new (answer width) (subst (λ (x : ℤ). answer x ≡ Ok (line_values ls)) same is) one small hold (put (record { pieces = stay ∙ on.pieces; shifts = ap (λ s. s.items) kept ∙ on.shifts }))

  pub equations_put : (left : Bool) (es : List Equation) (rows : List EquationLayout) → equations_set set n es ≡ Ok rows → equation_lines rows left w ≡ Ok (line_values ls) → All (EquationHolds set) rows
      → w ≡ width → length ls ≡ 1 → All (λ (l : LineFields). Within (2 ^ 40) l.shift) ls
      → IsStack lines [] old → mid.pieces ≡ old.pieces → mid.shifts ≡ old.shifts → (IsStack lines [] mid → IsStack (lines ++ line_values ls) [] new) → LinesPut set 1 lines new (equations_lines set width n left es)
  equations_put left es rows is lined holds same one small =
      line_on (λ x. equations_lines set x n left es) (ap (λ (r : Result (List EquationLayout) Status). r >>= (λ boxes. set_by n (equation_lines boxes left w))) is ∙ ap (set_by n) lined)
      same one small (equations_hold set w left rows (line_values ls) holds lined)

  pub rows_put : (lists : Rows) (rows : List Layout) → rows_set set n lists ≡ Ok rows → row_lines rows w ≡ Ok (line_values ls) → All (BoxHolds set) rows
      → w ≡ width → length ls ≡ 1 → All (λ (l : LineFields). Within (2 ^ 40) l.shift) ls
      → IsStack lines [] old → mid.pieces ≡ old.pieces → mid.shifts ≡ old.shifts → (IsStack lines [] mid → IsStack (lines ++ line_values ls) [] new) → LinesPut set 1 lines new (rows_lines set width n lists)
  rows_put lists rows is lined holds same one small =
      line_on (λ x. rows_lines set x n lists) (ap (λ (r : Result (List Layout) Status). r >>= (λ boxes. set_by n (row_lines boxes w))) is ∙ ap (set_by n) lined)
      same one small (rows_hold set w rows (line_values ls) holds lined)
