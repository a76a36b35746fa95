-- A source that is not set is refused for a reason (`source_explains`). So it is never refused for lack of memory (`typeset_avoids`), and
-- where it is refused at a formula, the cause has a number (`source_has_cause`).
use Rattle.std.proofs.Common.{◌≡◌, ◌+◌, ◌-◌, ◌++◌, ℕ, length, Bool, true, false, List, [], ◌∷◌, refl, ap, subst, ℤ, Option, Some, None, Result, Ok, Err, nat_lt}
use Rattle.mt_pages.proofs.Common.{◌>>=◌, SetValue, sy, Text, Layout, Place, is_in_range, Setting, MissingFamily, MissingChar, SmartLigature, Overflow, TooTall, pack_row, Sequence, EquationLayout, Formula, D, T, equation_lines, row_lines, display_lines, inline_lines, first_stack_fault, or_fault_below, places_below, places_unless, stacked_lines, max_places, document_of, body_lines, displayed_lines, each_set, equation_boxes, equations_set, formula_box, formula_lines, formula_row, lists_of, number_row, rows_set, set_by, text_lines, PageLinesValue, document_lines, document_pages, no_lines, page_lines, page_places, pages_places, placed_by, source_pages, with_formula_lines, Status, OutOfMemory, BadFormula, Avoids, Lacks, lacks_if}
use Rattle.mt_token.specs.Tokens.{max_source}
use Rattle.mt_box.specs.Placing.{fault_at, first_place_fault, no_room, or_else, place_fault}
use Rattle.mt_box.specs.Places.{h_of, v_of}
use Rattle.mt_box.specs.declared.error.PlaceError.{PlaceError}
use Rattle.mt_box.specs.declared.error.PlaceError.TheVariants.{OutOfRange as PlaceOutOfRange, TooMany as TooManyPlaces, OutOfMemory as NoPlaceMemory}
use Rattle.mt_rules.specs.declared.document.Body.{Body}
use Rattle.mt_rules.specs.declared.document.Body.TheVariants.{List as ListBody, Equations, Lines}
use Rattle.mt_rules.specs.declared.document.Equation.{Equation}
use Rattle.mt_rules.specs.declared.style.Style.{Style}
use Rattle.mt_rules.specs.declared.document.Tag.{Tag}
use Rattle.mt_convert.specs.ListRow.{list_row}
use Rattle.mt_display.specs.declared.error.StackError.{StackError}
use Rattle.mt_display.specs.declared.error.StackError.TheVariants.{OutOfRange, TooMany, OutOfMemory as NoStackMemory}
use Rattle.mt_pages.specs.inner.SetPages.{IsToldSetting}
use Rattle.mt_status.specs.Origins.{IsPure, Origin, PureBy, Told, refusal_origin}
use Rattle.mt_pages.specs.Typeset.{typeset_of}
use Rattle.mt_pages.proofs.DocumentRefusals.{Explains, HasCause, avoids, cause_then, document_explains, explains_cause, explains_few, explains_if, explains_then, long_refused}

-- ---- the lines of a formula

setting_explains : {T : Type 0} (n : ℕ) (setting : Setting T) → Explains (set_by n setting)
setting_explains n (Ok x) = tt
setting_explains n (Err (MissingFamily fam size)) = refl
setting_explains n (Err (MissingChar fam size code)) = refl
setting_explains n (Err (SmartLigature fam size first second)) = refl
setting_explains n (Err (Overflow value)) = refl
setting_explains n (Err (TooTall repeats)) = refl

number_explains : (set : SetValue) (n : ℕ) (tag : Option Tag) → Explains (number_row set n tag)
number_explains set n None = tt
number_explains set n (Some tag) =
    explains_then (formula_row set n T tag.body) (λ row. Ok (Some (record { row = row; left = tag.left }))) (setting_explains n (list_row set T tag.body)) (λ row. tt)

text_explains : (set : SetValue) (n : ℕ) (list : Sequence) → Explains (text_lines set n list)
text_explains set n list =
    explains_then (formula_row set n T list) (λ row. set_by n (inline_lines row)) (setting_explains n (list_row set T list)) (λ row. setting_explains n (inline_lines row))

displayed_explains : (set : SetValue) (width : ℤ) (n : ℕ) (list : Sequence) (tag : Option Tag) → Explains (displayed_lines set width n list tag)
displayed_explains set width n list tag =
    explains_then (formula_row set n D list) (λ row. number_row set n tag >>= (λ number. set_by n (display_lines (sy set 6 Text) row number width)))
    (setting_explains n (list_row set D list))
    (λ row. explains_then (number_row set n tag) (λ number. set_by n (display_lines (sy set 6 Text) row number width)) (number_explains set n tag)
    (λ number. setting_explains n (display_lines (sy set 6 Text) row number width)))

-- ---- several lines

box_explains : (set : SetValue) (n : ℕ) (style : Style) (list : Sequence) → Explains (formula_box set n style list)
box_explains set n style list =
    explains_then (formula_row set n style list) (λ row. set_by n (pack_row row)) (setting_explains n (list_row set style list)) (λ row. setting_explains n (pack_row row))

equation_explains : (set : SetValue) (n : ℕ) (e : Equation) → Explains (equation_boxes set n e)
equation_explains set n e =
    let made = λ (first second number : Layout). (let r : Result EquationLayout Status = Ok (record { first = first; second = second; number = number }) in r) in
    explains_then (formula_box set n T e.first) (λ first. formula_box set n T e.second >>= (λ second. formula_box set n T e.number >>= made first second)) (box_explains set n T e.first)
    (λ first. explains_then (formula_box set n T e.second) (λ second. formula_box set n T e.number >>= made first second) (box_explains set n T e.second)
    (λ second. explains_then (formula_box set n T e.number) (made first second) (box_explains set n T e.number) (λ number. tt)))

each_explains : {A B : Type 0} (set : A → Result B Status) → ((x : A) → Explains (set x)) → (boxes : List B) (xs : List A) → Explains (each_set set boxes xs)
each_explains set each boxes [] = tt
each_explains set each boxes (x ∷ xs) =
    explains_then (set x) (λ box. each_set set (boxes ++ box ∷ []) xs) (each x) (λ box. each_explains set each (boxes ++ box ∷ []) xs)

body_explains : (set : SetValue) (width : ℤ) (f : Formula) (body : Body) → Explains (body_lines set width f body)
body_explains set width f (ListBody list) =
    explains_if f.display (displayed_lines set width f.number list f.tag) (text_lines set f.number list) (displayed_explains set width f.number list f.tag) (text_explains set f.number list)
body_explains set width f (Equations left equations) =
    explains_then (equations_set set f.number equations) (λ boxes. set_by f.number (equation_lines boxes left width))
    (each_explains (equation_boxes set f.number) (equation_explains set f.number) [] equations) (λ boxes. setting_explains f.number (equation_lines boxes left width))
body_explains set width f (Lines rows) =
    explains_then (rows_set set f.number rows) (λ boxes. set_by f.number (row_lines boxes width))
    (each_explains (formula_box set f.number D) (box_explains set f.number D) [] (lists_of rows)) (λ boxes. setting_explains f.number (row_lines boxes width))

formula_explains : (set : SetValue) (width : ℤ) (f : Formula) → Explains (formula_lines set width f)
unfolding formula_lines
formula_explains set width f = body_explains set width f f.body

-- ---- the lines of a document

page_explains : (set : SetValue) (width : ℤ) (page : PageLinesValue) (fs : List Formula) → Explains (page_lines set width page fs)
page_explains set width page [] = tt
page_explains set width page (f ∷ fs) =
    explains_then (formula_lines set width f) (λ lines. page_lines set width (with_formula_lines page f.number lines) fs) (formula_explains set width f)
    (λ lines. page_explains set width (with_formula_lines page f.number lines) fs)

lines_explain : (set : SetValue) (width : ℤ) (pages : List (List Formula)) → Explains (document_lines set width pages)
lines_explain set width [] = tt
lines_explain set width (page ∷ pages) =
    explains_then (page_lines set width no_lines page) (λ lines. document_lines set width pages >>= (λ rest. Ok (lines ∷ rest))) (page_explains set width no_lines page)
    (λ lines. explains_then (document_lines set width pages) (λ rest. Ok (lines ∷ rest)) (lines_explain set width pages) (λ rest. tt))

-- a page whose lines are refused is not refused for too many places
pub few_refused : (set : SetValue) (width : ℤ) (fs : List Formula) (status : Status) → IsPure (page_lines set width no_lines fs) (Err status) → refusal_origin status ≡ Told
    → IsToldSetting status
few_refused set width fs status is told = record {
  origin = told;
  few = explains_few (page_lines set width no_lines fs) status (page_explains set width no_lines fs) (subst (λ (o : Origin). PureBy o (page_lines set width no_lines fs ≡ Err status)) told is);
}

-- ---- the places of these lines

fault_at_lacks : (room : ℕ) (h v : ℤ) → Lacks NoPlaceMemory (fault_at room h v)
fault_at_lacks room h v =
    lacks_if NoPlaceMemory (is_in_range h) _ _ (lacks_if NoPlaceMemory (is_in_range v) _ _ (lacks_if NoPlaceMemory (no_room room) _ _ (λ same. cc) (λ same. cc)) (λ same. cc)) (λ same. cc)

place_or_lacks : (first second : Option PlaceError) → Lacks NoPlaceMemory first → Lacks NoPlaceMemory second → Lacks NoPlaceMemory (or_else first second)
place_or_lacks None second p q = q
place_or_lacks (Some e) second p q = p

places_lack : (room : ℕ) (ps : List Place) → Lacks NoPlaceMemory (first_place_fault room ps)
places_lack room [] = λ same. cc
places_lack room (p ∷ ps) = place_or_lacks (place_fault room p) (first_place_fault (room - 1) ps) (fault_at_lacks room (h_of p) (v_of p)) (places_lack (room - 1) ps)

line_or_lacks : (line : ℕ) (first : Option PlaceError) (second : Option StackError) → Lacks NoPlaceMemory first → Lacks NoStackMemory second
    → Lacks NoStackMemory (or_fault_below line first second)
line_or_lacks line None second p q = q
line_or_lacks line (Some (PlaceOutOfRange value)) second p q = λ same. cc
line_or_lacks line (Some TooManyPlaces) second p q = λ same. cc
line_or_lacks line (Some NoPlaceMemory) second p q = absurd (p refl)

stack_lacks : (line room : ℕ) (pss : List (List Place)) → Lacks NoStackMemory (first_stack_fault line room pss)
stack_lacks line room [] = λ same. cc
stack_lacks line room (ps ∷ pss) =
    line_or_lacks line (first_place_fault room ps) (first_stack_fault (line + 1) (room - length ps) pss) (places_lack room ps) (stack_lacks (line + 1) (room - length ps) pss)

placed_explains : (formulas : List ℕ) (fault : Option StackError) (ps : List Place) → Lacks NoStackMemory fault → HasCause (placed_by formulas (places_unless fault ps))
placed_explains formulas None ps lacks = tt
placed_explains formulas (Some (OutOfRange line value)) ps lacks = refl
placed_explains formulas (Some (TooMany line)) ps lacks = refl
placed_explains formulas (Some NoStackMemory) ps lacks = absurd (lacks refl)

places_explain : (room : ℕ) (page : PageLinesValue) → HasCause (page_places room page)
unfolding stacked_lines
places_explain room page = placed_explains page.formulas (first_stack_fault 0 room (places_below None page.lines)) _ (stack_lacks 0 room (places_below None page.lines))

pages_explain : (before : List (List Place)) (room : ℕ) (pages : List PageLinesValue) → HasCause (pages_places before room pages)
pages_explain before room [] = tt
pages_explain before room (page ∷ pages) =
    cause_then (page_places room page) (λ places. pages_places (before ++ places ∷ []) (room - length places) pages) (places_explain room page)
    (λ places. pages_explain (before ++ places ∷ []) (room - length places) pages)

-- ---- a source

document_pages_explain : (set : SetValue) (width : ℤ) (document : List (List Formula)) → HasCause (document_pages set width document)
unfolding document_pages
document_pages_explain set width document =
    cause_then (document_lines set width document) (λ pages. pages_places [] max_places pages) (explains_cause (document_lines set width document) (lines_explain set width document)) (λ pages. pages_explain [] max_places pages)

source_explains : (set : SetValue) (width : ℤ) (bytes : List ℕ) → nat_lt max_source (length bytes) ≡ false → HasCause (source_pages set width bytes)
unfolding source_pages
source_explains set width bytes short =
    cause_then (document_of set bytes) (λ document. document_pages set width document) (explains_cause (document_of set bytes) (document_explains set bytes short)) (λ document. document_pages_explain set width document)

-- a source within its limit is never refused for lack of memory
pub typeset_avoids : (fonts : SetValue) (width : ℤ) (source : List ℕ) → nat_lt max_source (length source) ≡ false → Avoids OutOfMemory (typeset_of fonts width source)
typeset_avoids fonts width source short =
    avoids OutOfMemory (typeset_of fonts width source) refl
    (cause_then (source_pages fonts width source) (λ pages. Ok (record { fonts = fonts; pages = pages })) (source_explains fonts width source short) (λ pages. tt))

cause_by : (long : Bool) (set : SetValue) (width : ℤ) (source : List ℕ) (n place : ℕ) → nat_lt max_source (length source) ≡ long → source_pages set width source ≡ Err (BadFormula n place 0) → ⊥
unfolding source_pages
cause_by true set width source n place long same =
    let refused : source_pages set width source ≡ Err OutOfMemory = ap (λ (d : Result (List (List Formula)) Status). d >>= document_pages set width) (long_refused set source long) in
    absurd (cc)
cause_by false set width source n place short same = avoids (BadFormula n place 0) (source_pages set width source) refl (source_explains set width source short) same

-- no cause has the number 0
pub source_has_cause : (set : SetValue) (width : ℤ) (source : List ℕ) (n place : ℕ) → source_pages set width source ≡ Err (BadFormula n place 0) → ⊥
source_has_cause set width source n place = cause_by _ set width source n place refl
