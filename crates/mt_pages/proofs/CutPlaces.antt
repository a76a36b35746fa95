-- The pages of a document that is cut are those of its parts (`parts_placed`, `whole_placed`).
use Rattle.std.proofs.Common.{◌≡◌, ℕ, zero, suc, ◌+◌, ◌-◌, ◌≤◌, Bool, true, false, List, [], ◌∷◌, ◌++◌, length, map, refl, sym, ◌∙◌, ap, subst, arith, ℤ, Option, Some, None, Result, Ok, Err}
use Rattle.std.specs.Prelude.{⊤, flat_map, if◌then◌else◌}
use Rattle.std.proofs.lemmas.List.{append-nil, append_assoc, length-append}
use Rattle.mt_scaled.specs.Results.{◌>>=◌}
use Rattle.mt_scaled.specs.Number.{is_in_range}
use Rattle.mt_family.specs.SetValue.{SetValue}
use Rattle.mt_family.specs.Sets.{sy}
use Rattle.mt_family.specs.declared.size.Size.TheVariants.{Text}
use Rattle.mt_box.specs.Layout.{Layout}
use Rattle.mt_box.specs.Places.{h_of, v_of}
use Rattle.mt_box.specs.Placing.{fault_at, first_place_fault, no_room, or_else, place_fault}
use Rattle.mt_box.specs.Rows.{PieceValue}
use Rattle.mt_box.specs.declared.error.PlaceError.{PlaceError}
use Rattle.mt_box.specs.declared.error.PlaceError.TheVariants.{OutOfRange, TooMany}
use Rattle.mt_box.specs.declared.place.Place.{Place}
use Rattle.mt_display.specs.DisplayLines.{equation_lines, row_lines}
use Rattle.mt_display.specs.Displays.{NumberValue, display_lines}
use Rattle.mt_display.specs.Lines.{LineValue, inline_lines}
use Rattle.mt_display.specs.Stack.{first_stack_fault, or_fault_below, places_below, places_unless, stacked_lines}
use Rattle.mt_display.specs.declared.error.StackError.{StackError}
use Rattle.mt_dvi.specs.Limits.{max_places}
use Rattle.mt_dvi.specs.WrittenPlaces.{all_places}
use Rattle.mt_reader.specs.Cuts.{later, later_pages}
use Rattle.mt_rules.specs.DisplayRows.{EquationLayout}
use Rattle.mt_rules.specs.Sequence.{Sequence, Rows}
use Rattle.mt_rules.specs.Setting.{Setting, SettingFault, pack_row}
use Rattle.mt_rules.specs.declared.document.Body.{Body}
use Rattle.mt_rules.specs.declared.document.Body.TheVariants.{List as ListBody, Equations, Lines}
use Rattle.mt_rules.specs.declared.document.Equation.{Equation}
use Rattle.mt_rules.specs.declared.document.Formula.{Formula}
use Rattle.mt_rules.specs.declared.document.Tag.{Tag}
use Rattle.mt_rules.specs.declared.style.Style.{Style}
use Rattle.mt_rules.specs.declared.style.Style.TheVariants.{D, T}
use Rattle.mt_status.specs.declared.status.Status.{Status}
use Rattle.mt_pages.specs.FormulaLines.{body_lines, displayed_lines, each_set, equation_boxes, equations_lines, equations_set, formula_box, formula_lines, formula_row, list_lines, lists_of, number_row, rows_lines, rows_set, set_by, text_lines}
use Rattle.mt_pages.specs.Pages.{PageLinesValue, document_lines, document_pages, no_lines, page_lines, page_places, pages_places, placed_by, stack_refusal, with_formula_lines}

-- ---- the lines of a formula do not depend on its number

-- both are this, or both are refused
abbrev Alike : {T : Type 0} → (T → T → Type 0) → Result T Status → Result T Status → Type 0
Alike like (Ok x) (Ok y) = like x y
Alike like (Ok x) (Err e) = ⊥
Alike like (Err e) (Ok y) = ⊥
Alike like (Err e) (Err f) = ⊤

abbrev Same : {T : Type 0} → Result T Status → Result T Status → Type 0
Same {T} x y = Alike {T = T} (λ (a b : T). a ≡ b) x y

same_then : {T U : Type 0} (like : U → U → Type 0) (x y : Result T Status) (f g : T → Result U Status) → Same x y → ((v : T) → Alike like (f v) (g v)) → Alike like (x >>= f) (y >>= g)
same_then like (Ok x) (Ok y) f g s h = subst (λ (z : _). Alike like (f x) (g z)) s (h x)
same_then like (Ok x) (Err e) f g s h = absurd s
same_then like (Err e) (Ok y) f g s h = absurd s
same_then like (Err e) (Err d) f g s h = tt

set_alike : {T : Type 0} (n m : ℕ) (s : Setting T) → Same (set_by n s) (set_by m s)
set_alike n m (Ok x) = refl
set_alike n m (Err fault) = tt

module _ (set : SetValue) (n m : ℕ) where
  row_alike : (style : Style) (list : Sequence) → Same (formula_row set n style list) (formula_row set m style list)
  row_alike style list = set_alike n m _

  number_alike : (tag : Option Tag) → Same (number_row set n tag) (number_row set m tag)
  number_alike None = refl
  number_alike (Some tag) =
      same_then (λ (a b : Option NumberValue). a ≡ b) (formula_row set n T tag.body) (formula_row set m T tag.body) _ _ (row_alike T tag.body) (λ row. refl)

  text_alike : (list : Sequence) → Same (text_lines set n list) (text_lines set m list)
  text_alike list =
      same_then (λ (a b : List LineValue). a ≡ b) (formula_row set n T list) (formula_row set m T list) (λ row. set_by n (inline_lines row)) (λ row. set_by m (inline_lines row)) (row_alike T list) (λ row. set_alike n m (inline_lines row))

  displayed_alike : (width : ℤ) (list : Sequence) (tag : Option Tag) → Same (displayed_lines set width n list tag) (displayed_lines set width m list tag)
  displayed_alike width list tag =
      same_then (λ (a b : List LineValue). a ≡ b) (formula_row set n D list) (formula_row set m D list) _ _ (row_alike D list)
      (λ row. same_then (λ (a b : List LineValue). a ≡ b) (number_row set n tag) (number_row set m tag) (λ number. set_by n (display_lines (sy set 6 Text) row number width)) (λ number. set_by m (display_lines (sy set 6 Text) row number width))
      (number_alike tag) (λ number. set_alike n m (display_lines (sy set 6 Text) row number width)))

  box_alike : (style : Style) (list : Sequence) → Same (formula_box set n style list) (formula_box set m style list)
  box_alike style list =
      same_then (λ (a b : Layout). a ≡ b) (formula_row set n style list) (formula_row set m style list) (λ row. set_by n (pack_row row)) (λ row. set_by m (pack_row row)) (row_alike style list) (λ row. set_alike n m (pack_row row))

  equation_alike : (e : Equation) → Same (equation_boxes set n e) (equation_boxes set m e)
  equation_alike e =
      same_then (λ (a b : EquationLayout). a ≡ b) (formula_box set n T e.first) (formula_box set m T e.first) _ _ (box_alike T e.first)
      (λ first. same_then (λ (a b : EquationLayout). a ≡ b) (formula_box set n T e.second) (formula_box set m T e.second) _ _ (box_alike T e.second)
      (λ second. same_then (λ (a b : EquationLayout). a ≡ b) (formula_box set n T e.number) (formula_box set m T e.number) _ _ (box_alike T e.number) (λ number. refl)))

  each_alike : {A B : Type 0} (f g : A → Result B Status) (boxes : List B) (xs : List A) → ((x : A) → Same (f x) (g x)) → Same (each_set f boxes xs) (each_set g boxes xs)
  each_alike {A} {B} f g boxes [] h = refl
  each_alike {A} {B} f g boxes (x ∷ xs) h = same_then (λ (a b : List B). a ≡ b) (f x) (g x) _ _ (h x) (λ box. each_alike f g (boxes ++ box ∷ []) xs h)

  equations_alike : (width : ℤ) (left : Bool) (equations : List Equation) → Same (equations_lines set width n left equations) (equations_lines set width m left equations)
  equations_alike width left equations =
      same_then (λ (a b : List LineValue). a ≡ b) (equations_set set n equations) (equations_set set m equations) (λ boxes. set_by n (equation_lines boxes left width)) (λ boxes. set_by m (equation_lines boxes left width))
      (each_alike (equation_boxes set n) (equation_boxes set m) [] equations equation_alike) (λ boxes. set_alike n m (equation_lines boxes left width))

  rows_alike : (width : ℤ) (rows : Rows) → Same (rows_lines set width n rows) (rows_lines set width m rows)
  rows_alike width rows =
      same_then (λ (a b : List LineValue). a ≡ b) (rows_set set n rows) (rows_set set m rows) (λ boxes. set_by n (row_lines boxes width)) (λ boxes. set_by m (row_lines boxes width))
      (each_alike (formula_box set n D) (formula_box set m D) [] (lists_of rows) (box_alike D)) (λ boxes. set_alike n m (row_lines boxes width))

  list_alike : (width : ℤ) (display : Bool) (list : Sequence) (tag : Option Tag)
      → Same (if display then displayed_lines set width n list tag else text_lines set n list) (if display then displayed_lines set width m list tag else text_lines set m list)
  list_alike width true list tag = displayed_alike width list tag
  list_alike width false list tag = text_alike list

lines_alike : (set : SetValue) (width : ℤ) (n : ℕ) (f : Formula) → Same (formula_lines set width f) (formula_lines set width (later n f))
unfolding formula_lines
lines_alike set width n f = by_body f.body where
  by_body : (body : Body) → Same (body_lines set width f body) (body_lines set width (later n f) body)
  by_body (ListBody list) = list_alike set f.number (n + f.number) width f.display list f.tag
  by_body (Equations left equations) = equations_alike set f.number (n + f.number) width left equations
  by_body (Lines rows) = rows_alike set f.number (n + f.number) width rows

-- ---- the lines of pages

abbrev SameLines : PageLinesValue → PageLinesValue → Type 0
SameLines p q = p.lines ≡ q.lines

abbrev LikePages : List PageLinesValue → List PageLinesValue → Type 0
LikePages [] [] = ⊤
LikePages [] (q ∷ qs) = ⊥
LikePages (p ∷ ps) [] = ⊥
LikePages (p ∷ ps) (q ∷ qs) = SameLines p q × LikePages ps qs

like_itself : (ps : List PageLinesValue) → LikePages ps ps
like_itself [] = tt
like_itself (p ∷ ps) = (refl, like_itself ps)

like_then : {U V : Type 0} (r : U → U → Type 0) (like : V → V → Type 0) (x y : Result U Status) (f g : U → Result V Status) → Alike r x y → ((v w : U) → r v w → Alike like (f v) (g w)) → Alike like (x >>= f) (y >>= g)
like_then r like (Ok x) (Ok y) f g s h = h x y s
like_then r like (Ok x) (Err e) f g s h = absurd s
like_then r like (Err e) (Ok y) f g s h = absurd s
like_then r like (Err e) (Err d) f g s h = tt

module _ (set : SetValue) (width : ℤ) (n : ℕ) where
  page_alike : (p q : PageLinesValue) (page : List Formula) → SameLines p q → Alike SameLines (page_lines set width p page) (page_lines set width q (map (later n) page))
  page_alike p q [] same = same
  page_alike p q (f ∷ fs) same =
      same_then SameLines (formula_lines set width f) (formula_lines set width (later n f)) (λ lines. page_lines set width (with_formula_lines p f.number lines) fs)
      (λ lines. page_lines set width (with_formula_lines q (n + f.number) lines) (map (later n) fs)) (lines_alike set width n f)
      (λ lines. page_alike (with_formula_lines p f.number lines) (with_formula_lines q (n + f.number) lines) fs (ap (λ (l : List LineValue). l ++ lines) same))

  document_alike : (pages : List (List Formula)) → Alike LikePages (document_lines set width pages) (document_lines set width (later_pages n pages))
  document_alike [] = tt
  document_alike (page ∷ pages) =
      like_then SameLines LikePages (page_lines set width no_lines page) (page_lines set width no_lines (map (later n) page)) _ _ (page_alike no_lines no_lines page refl)
      (λ p q same. like_then LikePages LikePages (document_lines set width pages) (document_lines set width (later_pages n pages)) _ _ (document_alike pages) (λ ps qs like. (same, like)))

-- the lines of pages and more pages
abbrev both_lines : List PageLinesValue → Result (List PageLinesValue) Status → Result (List PageLinesValue) Status
both_lines la (Ok lb) = Ok (la ++ lb)
both_lines la (Err e) = Err e

abbrev all_lines : Result (List PageLinesValue) Status → Result (List PageLinesValue) Status → Result (List PageLinesValue) Status
all_lines (Ok la) rest = both_lines la rest
all_lines (Err e) rest = Err e

lines_none : (rest : Result (List PageLinesValue) Status) → rest ≡ both_lines [] rest
lines_none (Ok lb) = refl
lines_none (Err e) = refl

lines_step : (p : Result PageLinesValue Status) (a rest : Result (List PageLinesValue) Status)
    → (p >>= (λ lines. all_lines a rest >>= (λ more. Ok (lines ∷ more)))) ≡ all_lines (p >>= (λ lines. a >>= (λ more. Ok (lines ∷ more)))) rest
lines_step (Ok p) (Ok la) (Ok lb) = refl
lines_step (Ok p) (Ok la) (Err e) = refl
lines_step (Ok p) (Err e) rest = refl
lines_step (Err e) a rest = refl

lines_both : (set : SetValue) (width : ℤ) (a b : List (List Formula)) → document_lines set width (a ++ b) ≡ all_lines (document_lines set width a) (document_lines set width b)
lines_both set width [] b = lines_none (document_lines set width b)
lines_both set width (page ∷ a) b =
    ap (λ (r : Result (List PageLinesValue) Status). page_lines set width no_lines page >>= (λ lines. r >>= (λ more. Ok (lines ∷ more)))) (lines_both set width a b)
    ∙ lines_step (page_lines set width no_lines page) (document_lines set width a) (document_lines set width b)

-- ---- room

abbrev fault_by : Place → Bool → Bool → Bool → Option PlaceError
fault_by p h v full = if h then (if v then (if full then Some TooMany else None) else Some (OutOfRange (v_of p))) else Some (OutOfRange (h_of p))

fits_by : (room : ℕ) (p : Place) (h v full : Bool) → no_room room ≡ full → fault_by p h v full ≡ None → (no_room room ≡ false) × ((other : ℕ) → no_room other ≡ false → fault_by p h v (no_room other) ≡ None)
fits_by room p true true false is e = (is, λ other some. ap (fault_by p true true) some)
fits_by room p true true true is e = absurd (cc)
fits_by room p true false full is e = absurd (cc)
fits_by room p false v full is e = absurd (cc)

place_fits : (room : ℕ) (p : Place) → place_fault room p ≡ None → (no_room room ≡ false) × ((other : ℕ) → no_room other ≡ false → place_fault other p ≡ None)
place_fits room p e = fits_by room p (is_in_range (h_of p)) (is_in_range (v_of p)) (no_room room) refl e

some_room : (n : ℕ) → no_room n ≡ false → 1 ≤ n
some_room zero e = absurd (cc)
some_room (suc n) e = omega arith

has_room : (n : ℕ) → 1 ≤ n → no_room n ≡ false
has_room zero le = absurd (omega (arith, le))
has_room (suc n) le = refl

-- places for which there is room, with as much room as they need
record Fit (room : ℕ) (ps : List Place) : Type 0 where
  few : length ps ≤ room
  other : (more : ℕ) → length ps ≤ more → first_place_fault more ps ≡ None

first_none : (a b : Option PlaceError) → or_else a b ≡ None → (a ≡ None) × (b ≡ None)
first_none None b e = (refl, e)
first_none (Some x) b e = absurd (cc)

places_fit : (room : ℕ) (ps : List Place) → first_place_fault room ps ≡ None → Fit room ps
places_fit room [] e = record { few = omega arith; other = λ more le. refl }
places_fit room (p ∷ ps) e =
    let parts = first_none (place_fault room p) (first_place_fault (room - 1) ps) e in
    let here = place_fits room p parts.0 in
    let rest = places_fit (room - 1) ps parts.1 in
    let one : 1 ≤ room = some_room room here.0 in
    record {
      few = omega (arith, one, rest.few);
      other = λ more le.
          let first : place_fault more p ≡ None = here.1 more (has_room more (omega (arith, le))) in
          ap (λ (o : Option PlaceError). or_else o (first_place_fault (more - 1) ps)) first ∙ rest.other (more - 1) (omega (arith, le));
    }

record StackFit (line room : ℕ) (pss : List (List Place)) : Type 0 where
  few : length (flat_map (λ ps. ps) pss) ≤ room
  other : (more : ℕ) → length (flat_map (λ ps. ps) pss) ≤ more → first_stack_fault line more pss ≡ None

below_none : (line : ℕ) (a : Option PlaceError) (b : Option StackError) → or_fault_below line a b ≡ None → (a ≡ None) × (b ≡ None)
below_none line None b e = (refl, e)
below_none line (Some x) b e = absurd (cc)

stack_fit : (line room : ℕ) (pss : List (List Place)) → first_stack_fault line room pss ≡ None → StackFit line room pss
stack_fit line room [] e = record { few = omega arith; other = λ more le. refl }
stack_fit line room (ps ∷ pss) e =
    let parts = below_none line (first_place_fault room ps) (first_stack_fault (line + 1) (room - length ps) pss) e in
    let here = places_fit room ps parts.0 in
    let rest = stack_fit (line + 1) (room - length ps) pss parts.1 in
    let all : length (flat_map (λ ps. ps) (ps ∷ pss)) ≡ length ps + length (flat_map (λ ps. ps) pss) = length-append ps (flat_map (λ ps. ps) pss) in
    record {
      few = omega (arith, here.few, rest.few, all);
      other = λ more le.
          ap (λ (o : Option PlaceError). or_fault_below line o (first_stack_fault (line + 1) (more - length ps) pss)) (here.other more (omega (arith, le, all)))
          ∙ rest.other (more - length ps) (omega (arith, le, all));
    }

record PageFit (room : ℕ) (lines : List LineValue) (places : List Place) : Type 0 where
  few : length places ≤ room
  other : (more : ℕ) → length places ≤ more → stacked_lines more lines ≡ Ok places

abbrev all_below : List LineValue → List Place
all_below lines = flat_map (λ ps. ps) (places_below None lines)

fit_by : (room : ℕ) (lines : List LineValue) (places : List Place) (o : Option StackError) → first_stack_fault 0 room (places_below None lines) ≡ o → places_unless o (all_below lines) ≡ Ok places → PageFit room lines places
unfolding stacked_lines
fit_by room lines places (Some fault) is e = absurd (cc)
fit_by room lines places None is e =
    let same : all_below lines ≡ places = cc in
    let fit = stack_fit 0 room (places_below None lines) is in
    record {
      few = subst (λ (l : List Place). length l ≤ room) same fit.few;
      other = λ more le.
          ap (λ (o : Option StackError). places_unless o (all_below lines)) (fit.other more (subst (λ (l : List Place). length l ≤ more) (sym same) le))
          ∙ ap (λ (l : List Place). let r : Result (List Place) StackError = Ok l in r) same;
    }

page_fit : (room : ℕ) (lines : List LineValue) (places : List Place) → stacked_lines room lines ≡ Ok places → PageFit room lines places
unfolding stacked_lines
page_fit room lines places e = fit_by room lines places (first_stack_fault 0 room (places_below None lines)) refl e

placed_ok : (formulas : List ℕ) (r : Result (List Place) StackError) (places : List Place) → placed_by formulas r ≡ Ok places → r ≡ Ok places
placed_ok formulas (Ok p) places e = let s : p ≡ places = cc in ap (λ (l : List Place). let r : Result (List Place) StackError = Ok l in r) s
placed_ok formulas (Err x) places e = absurd (cc)

-- ---- the places of pages

abbrev count : List (List Place) → ℕ
count pages = length (all_places pages)

record PagesFit (before : List (List Place)) (room : ℕ) (ls : List PageLinesValue) (p : List (List Place)) : Type 0 where
  pages : List (List Place)
  is : p ≡ before ++ pages
  few : count pages ≤ room
  other : (ls' : List PageLinesValue) (before' : List (List Place)) (room' : ℕ) (more : List PageLinesValue) → LikePages ls ls' → count pages ≤ room'
      → pages_places before' room' (ls' ++ more) ≡ pages_places (before' ++ pages) (room' - count pages) more

no_pages : (before : List (List Place)) (room : ℕ) (ls' : List PageLinesValue) (before' : List (List Place)) (room' : ℕ) (more : List PageLinesValue) → LikePages [] ls'
    → pages_places before' room' (ls' ++ more) ≡ pages_places (before' ++ []) (room' - 0) more
no_pages before room [] before' room' more like =
    let less : room' ≡ room' - 0 = omega arith in
    ap (λ (l : List (List Place)). pages_places l room' more) (sym (append-nil before')) ∙ ap (λ (n : ℕ). pages_places (before' ++ []) n more) less
no_pages before room (q ∷ qs) before' room' more like = absurd like

others : (l : PageLinesValue) (ls : List PageLinesValue) (before : List (List Place)) (left room : ℕ) (p : List (List Place)) (places : List Place) → PageFit room l.lines places → (rest : PagesFit before left ls p) → count (places ∷ rest.pages) ≡ length places + count rest.pages
    → (ls' : List PageLinesValue) (before' : List (List Place)) (room' : ℕ) (more : List PageLinesValue) → LikePages (l ∷ ls) ls' → count (places ∷ rest.pages) ≤ room'
    → pages_places before' room' (ls' ++ more) ≡ pages_places (before' ++ places ∷ rest.pages) (room' - count (places ∷ rest.pages)) more
others l ls before left room p places here rest all [] before' room' more like le = absurd like
others l ls before left room p places here rest all (q ∷ qs) before' room' more (same, like) le =
    let placed : stacked_lines room' q.lines ≡ Ok places = subst (λ (lines : List LineValue). stacked_lines room' lines ≡ Ok places) same (here.other room' (omega (arith, le, all))) in
    let on = λ (r : Result (List Place) StackError). placed_by q.formulas r >>= (λ places. pages_places (before' ++ places ∷ []) (room' - length places) (qs ++ more)) in
    let less : (room' - length places) - count rest.pages ≡ room' - count (places ∷ rest.pages) = omega (arith, all) in
    ap on placed
    ∙ (rest.other qs (before' ++ places ∷ []) (room' - length places) more like (omega (arith, le, all))
    ∙ (ap (λ (b : List (List Place)). pages_places b ((room' - length places) - count rest.pages) more) (append_assoc before' (places ∷ []) rest.pages)
    ∙ ap (λ (n : ℕ). pages_places (before' ++ places ∷ rest.pages) n more) less))

fit_after : (before : List (List Place)) (room : ℕ) (l : PageLinesValue) (ls : List PageLinesValue) (p : List (List Place)) (r : Result (List Place) Status) → page_places room l ≡ r
    → (r >>= (λ places. pages_places (before ++ places ∷ []) (room - length places) ls)) ≡ Ok p
    → ((before' : List (List Place)) (room' : ℕ) → pages_places before' room' ls ≡ Ok p → PagesFit before' room' ls p) → PagesFit before room (l ∷ ls) p
fit_after before room l ls p (Err status) is e ih = absurd (cc)
fit_after before room l ls p (Ok places) is e ih =
    let here = page_fit room l.lines places (placed_ok l.formulas (stacked_lines room l.lines) places is) in
    let rest = ih (before ++ places ∷ []) (room - length places) e in
    let all : count (places ∷ rest.pages) ≡ length places + count rest.pages = length-append places (all_places rest.pages) in
    record {
      pages = places ∷ rest.pages;
      is = rest.is ∙ append_assoc before (places ∷ []) rest.pages;
      few = omega (arith, here.few, rest.few, all);
      other = others l ls (before ++ places ∷ []) (room - length places) room p places here rest all;
    }

same_pages : (a b : List (List Place)) → ◌≡◌ {A = Result (List (List Place)) Status} (Ok a) (Ok b) → b ≡ a
same_pages a b e = cc

pages_fit : (before : List (List Place)) (room : ℕ) (ls : List PageLinesValue) (p : List (List Place)) → pages_places before room ls ≡ Ok p → PagesFit before room ls p
pages_fit before room [] p e = record {
  pages = [];
  is = same_pages before p e ∙ sym (append-nil before);
  few = omega arith;
  other = λ ls' before' room' more like le. no_pages before room ls' before' room' more like;
}
pages_fit before room (l ∷ ls) p e = fit_after before room l ls p (page_places room l) refl e (λ before' room' e'. pages_fit before' room' ls p e')

-- the first pages are placed where all are
first_placed : (before : List (List Place)) (room : ℕ) (la lb : List PageLinesValue) (p : List (List Place)) → pages_places before room (la ++ lb) ≡ Ok p → (pa : List (List Place)) × (pages_places before room la ≡ Ok pa)
first_placed before room [] lb p e = (before, refl)
first_placed before room (l ∷ la) lb p e = by_places (page_places room l) e (λ before' room' e'. first_placed before' room' la lb p e') where
  by_places : (r : Result (List Place) Status) → (r >>= (λ places. pages_places (before ++ places ∷ []) (room - length places) (la ++ lb))) ≡ Ok p
      → ((before' : List (List Place)) (room' : ℕ) → pages_places before' room' (la ++ lb) ≡ Ok p → (pa : List (List Place)) × (pages_places before' room' la ≡ Ok pa))
      → (pa : List (List Place)) × ((r >>= (λ places. pages_places (before ++ places ∷ []) (room - length places) la)) ≡ Ok pa)
  by_places (Err status) e ih = absurd (cc)
  by_places (Ok places) e ih = ih (before ++ places ∷ []) (room - length places) e

-- ---- documents

abbrev placed_lines : Result (List PageLinesValue) Status → Result (List (List Place)) Status
placed_lines r = r >>= (λ pages. pages_places [] max_places pages)

count_both : (pa pb : List (List Place)) → all_places (pa ++ pb) ≡ all_places pa ++ all_places pb
count_both [] pb = refl
count_both (p ∷ pa) pb = ap (λ (l : List Place). p ++ l) (count_both pa pb) ∙ sym (append_assoc p (all_places pa) (all_places pb))

joined : (a b c : Result (List PageLinesValue) Status) (pa pb : List (List Place)) → Alike LikePages b c → placed_lines a ≡ Ok pa → placed_lines b ≡ Ok pb → count (pa ++ pb) ≤ max_places → placed_lines (all_lines a c) ≡ Ok (pa ++ pb)
joined (Err e) b c pa pb like first second few = absurd (cc)
joined (Ok la) (Err e) c pa pb like first second few = absurd (cc)
joined (Ok la) (Ok lb) (Err e) pa pb like first second few = absurd like
joined (Ok la) (Ok lb) (Ok lc) pa pb like first second few =
    let fa = pages_fit [] max_places la pa first in
    let fb = pages_fit [] max_places lb pb second in
    let all : count (pa ++ pb) ≡ count pa + count pb = ap length (count_both pa pb) ∙ length-append (all_places pa) (all_places pb) in
    let na : count pa ≡ count fa.pages = ap count fa.is in
    let nb : count pb ≡ count fb.pages = ap count fb.is in
    let one : pages_places [] max_places (la ++ lc) ≡ pages_places fa.pages (max_places - count fa.pages) lc = fa.other la [] max_places lc (like_itself la) fa.few in
    let two : pages_places fa.pages (max_places - count fa.pages) (lc ++ []) ≡ Ok (fa.pages ++ fb.pages) = fb.other lc fa.pages (max_places - count fa.pages) [] like (omega (arith, few, all, na, nb)) in
    one
    ∙ (ap (pages_places fa.pages (max_places - count fa.pages)) (sym (append-nil lc))
    ∙ (two ∙ ap (λ (l : List (List Place)). let r : Result (List (List Place)) Status = Ok l in r) (ap (λ (l : List (List Place)). l ++ fb.pages) (sym fa.is) ∙ ap (λ (l : List (List Place)). pa ++ l) (sym fb.is))))

pub parts_placed : (set : SetValue) (width : ℤ) (n : ℕ) (a b : List (List Formula)) (pa pb : List (List Place)) → document_pages set width a ≡ Ok pa → document_pages set width b ≡ Ok pb → length (all_places (pa ++ pb)) ≤ max_places
    → document_pages set width (a ++ later_pages n b) ≡ Ok (pa ++ pb)
unfolding document_pages
parts_placed set width n a b pa pb first second few =
    ap placed_lines (lines_both set width a (later_pages n b))
    ∙ joined (document_lines set width a) (document_lines set width b) (document_lines set width (later_pages n b)) pa pb (document_alike set width n b) first second few

split : (a b c : Result (List PageLinesValue) Status) (p : List (List Place)) → Alike LikePages b c → Alike LikePages c b → placed_lines (all_lines a c) ≡ Ok p
    → (pa : List (List Place)) × (pb : List (List Place)) × (placed_lines a ≡ Ok pa) × (placed_lines b ≡ Ok pb) × (p ≡ pa ++ pb)
split (Err e) b c p like back placed = absurd (cc)
split (Ok la) b (Err e) p like back placed = absurd (cc)
split (Ok la) (Err e) (Ok lc) p like back placed = absurd like
split (Ok la) (Ok lb) (Ok lc) p like back placed =
    let first = first_placed [] max_places la lc p placed in
    let fa = pages_fit [] max_places la first.0 first.1 in
    let one : pages_places [] max_places (la ++ lc) ≡ pages_places fa.pages (max_places - count fa.pages) lc = fa.other la [] max_places lc (like_itself la) fa.few in
    let fc = pages_fit fa.pages (max_places - count fa.pages) lc p (sym one ∙ placed) in
    let two : pages_places [] max_places (lb ++ []) ≡ Ok fc.pages = fc.other lb [] max_places [] back (omega (arith, fc.few)) in
    (first.0, fc.pages, first.1, ap (pages_places [] max_places) (sym (append-nil lb)) ∙ two, fc.is ∙ ap (λ (l : List (List Place)). l ++ fc.pages) (sym fa.is))

like_back : (ls ms : List PageLinesValue) → LikePages ls ms → LikePages ms ls
like_back [] [] like = tt
like_back [] (m ∷ ms) like = absurd like
like_back (l ∷ ls) [] like = absurd like
like_back (l ∷ ls) (m ∷ ms) (same, like) = (sym same, like_back ls ms like)

alike_back : (b c : Result (List PageLinesValue) Status) → Alike LikePages b c → Alike LikePages c b
alike_back (Ok lb) (Ok lc) like = like_back lb lc like
alike_back (Ok lb) (Err e) like = absurd like
alike_back (Err e) (Ok lc) like = absurd like
alike_back (Err e) (Err f) like = tt

pub whole_placed : (set : SetValue) (width : ℤ) (n : ℕ) (a b : List (List Formula)) (p : List (List Place)) → document_pages set width (a ++ later_pages n b) ≡ Ok p
    → (pa : List (List Place)) × (pb : List (List Place)) × (document_pages set width a ≡ Ok pa) × (document_pages set width b ≡ Ok pb) × (p ≡ pa ++ pb)
unfolding document_pages
whole_placed set width n a b p placed =
    let like = document_alike set width n b in
    split (document_lines set width a) (document_lines set width b) (document_lines set width (later_pages n b)) p like (alike_back (document_lines set width b) (document_lines set width (later_pages n b)) like)
    (ap placed_lines (sym (lines_both set width a (later_pages n b))) ∙ placed)
