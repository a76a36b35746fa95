-- The lines of a formula on the stack of a page, and those of the formulas of a page.
use Rattle.std.proofs.Common.{◌≡◌, ℕ, ℤ, pos, ◌+◌, ◌<◌, ◌≤◌, ◌^◌, List, [], ◌∷◌, ◌++◌, length, map, take, get_or, refl, sym, ◌∙◌, ap, subst, arith, append_assoc, Bool, Option, Some, None, Result, Ok, Err, All}
use Rattle.mt_pages.proofs.Common.{append-nil, sum_by-append, sum_by-cons, All-append, All-map, All-nil, Within, ◌>>=◌, SetValue, sy, Text, PieceValue, pack, formula_weight, page_weight, Formula, D, T, Sequence, Setting, PlaceHolds, RowHolds, LineStack, NumberValue, display_lines, one_line, IsStack, line_boxes, LineValue, inline_lines, line_values, LineHas, NumberHas, display_has, inline_has, made_then, displayed_lines, formula_lines, formula_row, number_row, set_by, text_lines, PageLinesValue, no_lines, page_lines, with_formula_lines, IsPure, Status}
use Rattle.std.proofs.lemmas.List.{length-append, take_more}
use Rattle.mt_box.specs.Extents.{first_out}
use Rattle.mt_rules.specs.declared.document.Tag.{Tag}
use Rattle.mt_display.specs.declared.line.Line.{Line as LineFields}
use Rattle.mt_display.proofs.LineStacks.{boxes_length}
use Rattle.mt_display.proofs.TakenLines.{lines_length, small_values}
use Rattle.mt_pages.specs.inner.Lines.{AreLaid, IsPage, IsStackable, LinesHold, LinesPut, PageSet, PutsFor, RowPut, SetsLines}
use Rattle.mt_pages.specs.declared.page_lines.PageLines.{PageLines}
use Rattle.mt_pages.proofs.DocumentLemmas.{page_err, page_next}
use Rattle.mt_pages.proofs.PageLemmas.{places_still, row_has}

-- ---- rows

pub stack_count : (lines : List LineValue) (s : LineStack) → IsStack lines [] s → length lines ≡ length s.pieces
stack_count lines s on = sym (ap length (on.pieces ∙ append-nil (line_boxes lines)) ∙ boxes_length lines)

-- a row behind the lines
pub row_behind_lines : (lines : List LineValue) (before row : List PieceValue) (old new : LineStack) → IsStack lines before old → new.pieces ≡ old.pieces ++ row → new.shifts ≡ old.shifts → IsStack lines (before ++ row) new
row_behind_lines lines before row old new on stays same = record {
  pieces = stays ∙ ap (λ (ps : List PieceValue). ps ++ row) on.pieces ∙ append_assoc (line_boxes lines) before row;
  shifts = ap (λ s. s.items) same ∙ on.shifts;
}

-- ---- the lines of a formula

-- lines that were put are those of the answer
sets_put : {U : Type 0} (r : Result U Status) (set : SetValue) (most n : ℕ) (lines : List LineValue) (s : LineStack) (setting : Setting (List LineValue)) (answer : Result (List LineValue) Status) → answer ≡ set_by n setting
    → ((ls : List LineValue) → setting ≡ Ok ls → length ls ≤ 2 → length ls ≤ most) → ((ls : List LineValue) → setting ≡ Ok ls → LinesHold set ls) → PutsFor n r lines s setting → SetsLines set most r lines s answer
sets_put (Ok u) set most n lines s setting answer same few hold put = record {
  added = put.added;
  is = same ∙ ap (set_by n) put.is;
  stack = put.stack;
  laid = record { few = few put.added put.is put.few; shifts = put.small; hold = hold put.added put.is };
}
sets_put (Err status) set most n lines s setting answer same few hold put = subst (λ (a : Result (List LineValue) Status). IsPure a (Err status)) (sym same) put

few_lines : (ls ms : List LineValue) → (let s : Setting (List LineValue) = Ok ls in s) ≡ Ok ms → length ls ≤ 1 → length ms ≤ 1
few_lines ls ms is few =
    let same : ls ≡ ms = cc in
    subst (λ (x : List LineValue). length x ≤ 1) same few

inline_few : (row : List PieceValue) (ls : List LineValue) → inline_lines row ≡ Ok ls → length ls ≤ 1
inline_few row ls is = few_lines (one_line (pos 0) (pack row)) ls (made_then (first_out (pack row).extents) (pack row) (λ body. Ok (one_line (pos 0) body)) ls is) (omega arith)

module _ {U : Type 0} (r : Result U Status) (set : SetValue) (n : ℕ) (list : Sequence) (lines : List LineValue) (old mid new : LineStack) (first : ℕ) where
  pub text_put : IsStack lines [] old → first ≡ length old.pieces → RowPut set old.pieces mid.pieces (formula_row set n T list) → mid.shifts ≡ old.shifts
      → ((ls : List LineValue) (row : List PieceValue) → length ls ≡ first → IsStack ls row mid → PutsFor n r ls new (inline_lines row)) → SetsLines set 1 r lines new (text_lines set n list)
  text_put on at put same puts =
      sets_put r set 1 n lines new (inline_lines put.row) (text_lines set n list) (ap (λ (a : Result (List PieceValue) Status). a >>= (λ row. set_by n (inline_lines row))) put.is) (λ ls is few. inline_few put.row ls is)
      (λ ls is. inline_has (PlaceHolds set) (places_still set) put.row ls (row_has set put.row put.holds) is) (puts lines put.row (stack_count lines old on ∙ sym at) (row_behind_lines lines [] put.row old mid on put.stays same))

  displayed_by : (width : ℤ) (tag : Option Tag) (row : List PieceValue) (number : Option NumberValue) → formula_row set n D list ≡ Ok row → number_row set n tag ≡ Ok number
      → displayed_lines set width n list tag ≡ set_by n (display_lines (sy set 6 Text) row number width)
  displayed_by width tag row number is has =
      ap (λ (a : Result (List PieceValue) Status). a >>= (λ row. number_row set n tag >>= (λ number. set_by n (display_lines (sy set 6 Text) row number width)))) is
      ∙ ap (λ (a : Result (Option NumberValue) Status). a >>= (λ number. set_by n (display_lines (sy set 6 Text) row number width))) has

  display_put : (w width : ℤ) (tag : Option Tag) (row : List PieceValue) (number : Option NumberValue) → w ≡ width → formula_row set n D list ≡ Ok row → RowHolds set row → number_row set n tag ≡ Ok number → NumberHas (PlaceHolds set) number
      → PutsFor n r lines new (display_lines (sy set 6 Text) row number w) → SetsLines set 2 r lines new (displayed_lines set width n list tag)
  display_put w width tag row number wide is holds has number_holds put =
      subst (λ (x : ℤ). SetsLines set 2 r lines new (displayed_lines set x n list tag)) wide
      (sets_put r set 2 n lines new (display_lines (sy set 6 Text) row number w) (displayed_lines set w n list tag) (displayed_by w tag row number is has) (λ ls is few. few)
      (λ ls made. display_has (PlaceHolds set) (places_still set) (sy set 6 Text) w row number ls (row_has set row holds) number_holds made) put)

  pub alone_put : (w width : ℤ) (tag : Option Tag) → w ≡ width → tag ≡ None → IsStack lines [] old → first ≡ length old.pieces → RowPut set old.pieces mid.pieces (formula_row set n D list) → mid.shifts ≡ old.shifts
      → ((ls : List LineValue) (row : List PieceValue) → length ls ≡ first → IsStack ls row mid → PutsFor n r ls new (display_lines (sy set 6 Text) row None w)) → SetsLines set 2 r lines new (displayed_lines set width n list tag)
  alone_put w width tag wide none on at put same puts =
      display_put w width tag put.row None wide put.is put.holds (ap (number_row set n) none) tt (puts lines put.row (stack_count lines old on ∙ sym at) (row_behind_lines lines [] put.row old mid on put.stays same))

  pub both_put : (w width : ℤ) (tag : Option Tag) (t : Tag) (left : Bool) (both : LineStack) (end : ℕ) → w ≡ width → tag ≡ Some t → left ≡ t.left → IsStack lines [] old → first ≡ length old.pieces
      → RowPut set old.pieces mid.pieces (formula_row set n D list) → mid.shifts ≡ old.shifts → end ≡ length mid.pieces → RowPut set mid.pieces both.pieces (formula_row set n T t.body) → both.shifts ≡ mid.shifts
      → ((ls : List LineValue) (row number : List PieceValue) → length ls ≡ first → first + length row ≡ end → IsStack ls (row ++ number) both
      → PutsFor n r ls new (display_lines (sy set 6 Text) row (Some (record { row = number; left = left })) w)) → SetsLines set 2 r lines new (displayed_lines set width n list tag)
  both_put w width tag t left both end wide some side on at put same till number kept puts =
      let has : number_row set n tag ≡ Ok (Some (record { row = number.row; left = left })) =
      ap (number_row set n) some
      ∙ ap (λ (a : Result (List PieceValue) Status). a >>= (λ row. (let o : Result (Option NumberValue) Status = Ok (Some (record { row = row; left = t.left })) in o))) number.is
      ∙ ap (λ (l : Bool). (let o : Result (Option NumberValue) Status = Ok (Some (record { row = number.row; left = l })) in o)) (sym side) in
      let behind = row_behind_lines lines [] put.row old mid on put.stays same in
      display_put w width tag put.row (Some (record { row = number.row; left = left })) wide put.is put.holds has (row_has set number.row number.holds)
      (puts lines put.row number.row (stack_count lines old on ∙ sym at) (omega (arith, at, till, ap length put.stays, length-append old.pieces put.row)) (row_behind_lines lines put.row number.row mid both behind number.stays kept))

-- ---- the line of a display of several lines

-- a line that was made
pub line_put : (set : SetValue) (lines : List LineValue) (ls : List LineFields) (s : LineStack) (answer : Result (List LineValue) Status) → answer ≡ Ok (line_values ls) → length ls ≡ 1
    → All (λ (l : LineFields). Within (2 ^ 40) l.shift) ls → LinesHold set (line_values ls) → IsStack (lines ++ line_values ls) [] s → LinesPut set 1 lines s answer
line_put set lines ls s answer is one small hold on = record { added = line_values ls; is = is; stack = on; laid = record { few = omega (arith, one, lines_length ls); shifts = small_values ls small; hold = hold } }

-- ---- the lines of a page

pub laid_none : (set : SetValue) → AreLaid set 0 []
laid_none set = record { few = omega arith; shifts = All-nil (λ (l : LineValue). Within (2 ^ 40) l.shift); hold = All-nil (LineHas (PlaceHolds set)) }

pub laid_append : (set : SetValue) (m n : ℕ) (ls ms : List LineValue) → AreLaid set m ls → AreLaid set n ms → AreLaid set (m + n) (ls ++ ms)
laid_append set m n ls ms a b = record {
  few = omega (arith, length-append ls ms, a.few, b.few);
  shifts = All-append (λ (l : LineValue). Within (2 ^ 40) l.shift) ls ms a.shifts b.shifts;
  hold = All-append (LineHas (PlaceHolds set)) ls ms a.hold b.hold;
}

pub shifts_small : (lines : PageLines) → IsStackable lines → All (λ s. Within (2 ^ 40) s) lines.stack.shifts.items
shifts_small lines s = subst (λ (l : List ℤ). All (λ s. Within (2 ^ 40) s) l) (sym s.on.stack.shifts) (All-map (λ s. Within (2 ^ 40) s) (λ (l : LineValue). l.shift) s.page.lines s.shifts)

weight_more : (fs : List Formula) (f : Formula) → page_weight (fs ++ f ∷ []) ≡ page_weight fs + formula_weight f
weight_more fs f = omega (arith, sum_by-append formula_weight fs (f ∷ []), sum_by-cons formula_weight f [])

map_push : {A : Type 0} (F : A → Formula) (xs : List A) (x : A) → map F (xs ++ x ∷ []) ≡ map F xs ++ F x ∷ []
map_push F [] x = refl
map_push F (y ∷ xs) x = ap (λ (fs : List Formula). F y ∷ fs) (map_push F xs x)

-- one more of those that are taken
pub lined_taken : {A : Type 0} (F : A → Formula) (xs : List A) (i : ℕ) (d : A) → i < length xs → map F (take (i + 1) xs) ≡ map F (take i xs) ++ F (get_or xs i d) ∷ []
lined_taken F xs i d lt = ap (map F) (take_more xs i d lt) ∙ map_push F (take i xs) (get_or xs i d)

-- the lines of the formulas so far, after which those of the others come
pub record LinedSoFar (set : SetValue) (width : ℤ) (all left done : List Formula) (lines : PageLines) : Type 0 where
  pub page : PageLinesValue
  pub is : page_lines set width no_lines all ≡ page_lines set width page left
  pub on : IsPage page lines
  pub laid : AreLaid set (page_weight done) page.lines

module _ (set : SetValue) (width : ℤ) where
  pub lined_none : (all : List Formula) (lines : PageLines) → IsPage no_lines lines → LinedSoFar set width all all [] lines
  lined_none all lines on = record { page = no_lines; is = refl; on = on; laid = laid_none set }

  pub lined_more : (all left done rest : List Formula) (f : Formula) (old new : PageLines) (s : LineStack) (h : LinedSoFar set width all left done old) → left ≡ f ∷ rest
      → (put : LinesPut set (formula_weight f) h.page.lines s (formula_lines set width f)) → IsPage (with_formula_lines h.page f.number put.added) new → LinedSoFar set width all rest (done ++ f ∷ []) new
  lined_more all left done rest f old new s h steps put on = record {
    page = with_formula_lines h.page f.number put.added;
    is = h.is ∙ ap (page_lines set width h.page) steps ∙ page_next set width h.page f rest put.added put.is;
    on = on;
    laid =
        subst (λ (n : ℕ). AreLaid set n (h.page.lines ++ put.added)) (sym (weight_more done f))
        (laid_append set (page_weight done) (formula_weight f) h.page.lines put.added h.laid put.laid);
  }

  pub lined_err : (all left done rest : List Formula) (f : Formula) (old : PageLines) (status : Status) → LinedSoFar set width all left done old → left ≡ f ∷ rest → IsPure (formula_lines set width f) (Err status)
      → IsPure (page_lines set width no_lines all) (Err status)
  lined_err all left done rest f old status h steps is =
      subst (λ (a : Result PageLinesValue Status). IsPure a (Err status)) (sym (h.is ∙ ap (page_lines set width h.page) steps)) (page_err set width h.page f rest status is)

  pub lined_done : (all left done : List Formula) (lines : PageLines) → LinedSoFar set width all left done lines → left ≡ [] → done ++ left ≡ all → PageSet set (page_weight all) lines (page_lines set width no_lines all)
  lined_done all left done lines h none whole = record {
    page = h.page;
    is = h.is ∙ ap (page_lines set width h.page) none;
    on = h.on;
    laid = subst (λ (fs : List Formula). AreLaid set (page_weight fs) h.page.lines) (sym (append-nil done) ∙ ap (λ (fs : List Formula). done ++ fs) (sym none) ∙ whole) h.laid;
  }
