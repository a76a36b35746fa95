-- Displays and numbers set on a stack: what was packed, and the lines that the widths of a display give.
use Rattle.std.proofs.Common.{◌≡◌, ℕ, ◌+◌, ◌-◌, ◌≤◌, ℤ, pos, ◌≤ℤ◌, Bool, true, false, List, [], ◌∷◌, ◌++◌, Option, Some, None, Result, Ok, Err, length, take, drop, append_assoc, length-append, refl, sym, subst, ◌∙◌, ap, arith, w64, to_z, of_z, if◌then◌else◌, ◌+ℤ◌, ◌-ℤ◌, not, ◌&&◌, int_le, int_lt, IfSome}
use Rattle.mt_display.proofs.Common.{ints, take_at, drop_at, Decides-int_eq, Within, max_dimen, PackError, Layout, PieceValue, PieceBox, PieceKern, begins_with_space_piece, pack, row_width, Setting, SettingFault, Overflow, ◌>>=◌, make_box, pack_row, LineStack, Fit, NumberFits, display_lines, fit, fitted, indent, numbered_lines, one_line, placed_lines, room_between, PutsLines, LineValue}
use Rattle.std.specs.Ordering.{int_eq}
use Rattle.std.specs.Prelude.{⊤}
use Rattle.mt_scaled.specs.declared.length.Length.{Length}
use Rattle.mt_box.specs.declared.error.PackError.TheVariants.{Overflow as PackOverflow, OutOfMemory as NoPackMemory}
use Rattle.mt_pieces.specs.Putting.{boxed_on, PacksPieces}
use Rattle.mt_pieces.proofs.Packed.{Fails, packed, refused}
use Rattle.mt_display.specs.declared.line.Numbered.{Numbered}
use Rattle.mt_display.specs.declared.fit.NumberWidths.{NumberWidths}
use Rattle.mt_display.specs.declared.slot.Slot.{Slot}
use Rattle.mt_display.specs.inner.OnStack.{BothSet, DisplaySet, IsSlot, SetsBoth, SetsDisplay, e_of_box, fit_of_row, in_order, lines_beside}

-- a bound that a greater one follows
pub wider : (n m : ℕ) (x : ℤ) → Within n x → n ≤ m → Within m x
wider n m x h le = record { low = omega (arith, ints, h.low, le); high = omega (arith, ints, h.high, le) }

-- the number of a display that has one
pub number_here : (o : Option Numbered) (n : Numbered) → o ≡ Some n → IfSome o NumberFits → NumberFits n
number_here o n is h = subst (λ (p : Option Numbered). IfSome p NumberFits) is h

-- the width of a line as a machine number
pub line_kept : (x : ℤ) → pos 1 ≤ℤ x → x ≤ℤ pos max_dimen → to_z w64 (of_z w64 x) ≡ x
line_kept x h k = omega (arith, ints, h, k)

pub puts_err : (e : PackError) (lines : List LineValue) (s : LineStack) (setting : Setting (List LineValue)) → Fails e setting → PutsLines {U = ⊤} (Err e) lines s setting
puts_err (PackOverflow value) lines s setting h = h
puts_err NoPackMemory lines s setting h = tt

-- ---- a display

pub same_fit : {z z' w w' s s' e e' q q' : ℤ} → z ≡ z' → w ≡ w' → s ≡ s' → e ≡ e' → q ≡ q' → fit z w s e q ≡ fit z' w' s' e' q'
same_fit a b c d f = rw (a, b, c, d, f) refl

pub display_set : (before row now : List PieceValue) (f : Fit) (line : ℤ) (s : Slot) (target : Option ℤ) → target ≡ f.target → boxed_on before (make_box (fitted row target)) ≡ Ok now
    → s.z.sp ≡ line → ((rest : List PieceValue) (raise : ℤ) (l : Layout) → now ≡ rest ++ PieceBox raise l ∷ [] → s.w.sp ≡ l.extents.width) → s.e.sp ≡ f.e → s.flush ≡ begins_with_space_piece row
    → DisplaySet before row (fitted row f.target) f.e line s now
display_set before row now f line s target t made z w e flush =
    let p = packed (fitted row f.target) before now (ap (λ (o : Option ℤ). boxed_on before (make_box (fitted row o))) (sym t) ∙ made) in
    record {
      made = p.made;
      pieces = p.pieces;
      slot = record { z = z; w = w before (pos 0) (fitted row f.target) p.pieces; e = e; flush = flush };
    }

-- ---- a display and its number

-- e is the width of the number, or 0
own_by : (b : Bool) (e : ℤ) → (b ≡ true → e ≡ pos 0) → (if b then pos 0 else e) ≡ e
own_by true e zero = sym (zero refl)
own_by false e zero = refl

own : (e : ℤ) → e_of_box e e ≡ e
own e = own_by (int_eq e (pos 0)) e (Decides-int_eq e (pos 0)).0

fit_e_by : (a b c : Bool) (t : Option ℤ) (z e : ℤ) → (let f : Fit = if a then record { target = None; e = e } else if b then record { target = t; e = e } else if c then record { target = Some z; e = pos 0 } else record { target = None; e = pos 0 } in e_of_box f.e e ≡ f.e)
fit_e_by true b c t z e = own e
fit_e_by false true c t z e = own e
fit_e_by false false true t z e = refl
fit_e_by false false false t z e = refl

pub fit_e : (z w s e q : ℤ) → e_of_box (fit z w s e q).e e ≡ (fit z w s e q).e
fit_e z w s e q = fit_e_by (int_le (w +ℤ q) z) (not (int_eq e (pos 0)) && int_le ((w -ℤ s) +ℤ q) z) (int_lt z w) (Some (z -ℤ q)) z e

-- pieces that were put behind others
pub record Behind (b m : List PieceValue) (now : List PieceValue) (n : ℕ) : Type 0 where
  pub front : take n now ≡ b
  pub back : drop n now ≡ m

pub brought : (b a m now : List PieceValue) (n : ℕ) → now ≡ b ++ (a ++ m) → n ≡ length b + length a → Behind (b ++ a) m now n
brought b a m now n is e =
    let whole : now ≡ (b ++ a) ++ m = is ∙ sym (append_assoc b a m) in
    let many : length (b ++ a) ≡ n = length-append b a ∙ sym e in
    record { front = ap (take n) whole ∙ take_at (b ++ a) m n many; back = ap (drop n) whole ∙ drop_at (b ++ a) m n many }

pub sets_as : {b b' r r' : List PieceValue} {e e' q q' z z' : ℤ} (res : Result Slot PackError) (now : List PieceValue) → SetsDisplay b r (fit_of_row z r e q) z res now → b ≡ b' → r ≡ r' → e ≡ e' → q ≡ q' → z ≡ z' → SetsDisplay b' r' (fit_of_row z' r' e' q') z' res now
sets_as res now h s t u v w = rw (sym s, sym t, sym u, sym v, sym w) h

-- what `put_behind` ensures
abbrev pub PutsBehind : List PieceValue → ℕ → ℕ → List PieceValue → Type 0
PutsBehind old first count now = (b m a : List PieceValue) → old ≡ b ++ (m ++ a) → length b ≡ first → length m ≡ count → now ≡ b ++ (a ++ m)

abbrev pub NumbersBehind : List PieceValue → ℕ → ℕ → ℕ → Type 0
NumbersBehind old first count n = (b m a : List PieceValue) → old ≡ b ++ (m ++ a) → length b ≡ first → length m ≡ count → n ≡ length b + length a

-- the display is set behind its number
pub row_set : (before row number old now later : List PieceValue) (first end count n : ℕ) (w : NumberWidths) (quad z : ℤ) (res : Result Slot PackError) → old ≡ before ++ (row ++ number) → length before ≡ first → first + length row ≡ end
    → count ≡ end - first → PutsBehind old first count now → NumbersBehind old first count n → w.e.sp ≡ row_width (drop end old) → w.q.sp ≡ row_width (drop end old) +ℤ quad
    → SetsDisplay (take n now) (drop n now) (fit_of_row z (drop n now) w.e.sp w.q.sp) z res later → SetsDisplay (before ++ number) row (fit_of_row z row (row_width number) (row_width number +ℤ quad)) z res later
row_set before row number old now later first end count n w quad z res is at last many put place e q h =
    let tail : drop end old ≡ number = ap (drop end) (is ∙ sym (append_assoc before row number)) ∙ drop_at (before ++ row) number end (omega (arith, length-append before row, at, last)) in
    let m : length row ≡ count = omega (arith, many, last) in
    let b = brought before number row now n (put before row number is at m) (place before row number is at m) in
    sets_as res later h b.front b.back (e ∙ ap row_width tail) (q ∙ ap (λ ps. row_width ps +ℤ quad) tail) refl

-- and the number is put behind it again
pub number_behind : (before row number old set now : List PieceValue) (display : PieceValue) (first end count n : ℕ) → old ≡ before ++ (row ++ number) → length before ≡ first → first + length row ≡ end → count ≡ length old - end
    → set ≡ (before ++ number) ++ display ∷ [] → PutsBehind set first count now → NumbersBehind set first count n → Behind (before ++ display ∷ []) number now n
number_behind before row number old set now display first end count n is at last many e put place =
    let m : length number ≡ count = omega (arith, many, ap length is, length-append before (row ++ number), length-append row number, at, last) in
    let f : set ≡ before ++ (number ++ display ∷ []) = e ∙ append_assoc before number (display ∷ []) in
    brought before (display ∷ []) number now n (put before number (display ∷ []) f at m) (place before number (display ∷ []) f at m)

pub packs_as : {U : Type 0} {b m now : List PieceValue} (n : ℕ) (res : Result U PackError) (later : List PieceValue) → PacksPieces res later (boxed_on (take n now) (pack_row (drop n now))) → Behind b m now n → PacksPieces res later (boxed_on b (pack_row m))
packs_as n res later h b = rw (sym b.front, sym b.back) h

pub both_unset : (e : PackError) (b before row number now later : List PieceValue) (f : Fit) (z : ℤ) → SetsDisplay b row f z (Err e) now → SetsBoth before row number f z (Err e) later
both_unset (PackOverflow value) b before row number now later f z h = ap (λ (s : Setting Layout). s >>= λ first. pack_row number >>= λ second. Ok (first, second)) h
both_unset NoPackMemory b before row number now later f z h = tt

pub number_refused : (e : PackError) (before row number rest now : List PieceValue) (f : Fit) (z : ℤ) → make_box (fitted row f.target) ≡ Ok (fitted row f.target) → PacksPieces {U = ⊤} (Err e) now (boxed_on rest (pack_row number)) → SetsBoth before row number f z (Err e) now
number_refused (PackOverflow value) before row number rest now f z made h =
    ap (λ (s : Setting Layout). s >>= λ first. pack_row number >>= λ second. Ok (first, second)) made
    ∙ ap (λ (s : Setting Layout). s >>= λ second. Ok (fitted row f.target, second)) (refused (PackOverflow value) (pack number) rest now h)
number_refused NoPackMemory before row number rest now f z made h = tt

pub both_set : (before row number rest now : List PieceValue) (body : Layout) (room line width : ℤ) (s t : Slot) → IsSlot line room row body s → make_box body ≡ Ok body → boxed_on rest (pack_row number) ≡ Ok now → rest ≡ before ++ PieceBox (pos 0) body ∷ []
    → ((b : List PieceValue) (raise : ℤ) (l : Layout) → now ≡ b ++ PieceBox raise l ∷ [] → width ≡ l.extents.width) → e_of_box room (row_width number) ≡ room → t.z ≡ s.z → t.w ≡ s.w → t.e.sp ≡ e_of_box s.e.sp width → t.flush ≡ s.flush
    → BothSet before row number body room line t now
both_set before row number rest now body room line width s t h made put e last same z w slot_e flush =
    let p = packed (pack number) rest now put in
    record {
      made = ap (λ (r : Setting Layout). r >>= λ first. pack_row number >>= λ second. Ok (first, second)) made ∙ ap (λ (r : Setting Layout). r >>= λ second. Ok (body, second)) p.made;
      pieces = p.pieces ∙ (ap (λ ps. ps ++ PieceBox (pos 0) (pack number) ∷ []) e ∙ append_assoc before (PieceBox (pos 0) body ∷ []) (PieceBox (pos 0) (pack number) ∷ []));
      slot = record {
        z = ap (λ (x : Length). x.sp) z ∙ h.z;
        w = ap (λ (x : Length). x.sp) w ∙ h.w;
        e = slot_e ∙ (ap (λ x. e_of_box x width) h.e ∙ (ap (e_of_box room) (last rest (pos 0) (pack number) p.pieces) ∙ same));
        flush = flush ∙ h.flush;
      };
    }

-- ---- the lines

pub apart : (b m now : List PieceValue) (n : ℕ) → now ≡ b ++ m → length b ≡ n → Behind b m now n
apart b m now n is e = record { front = ap (take n) is ∙ take_at b m n e; back = ap (drop n) is ∙ drop_at b m n e }

-- a kern put behind two boxes, and moved between them
pub kern_between : (before : List PieceValue) (a b : PieceValue) (room : ℤ) (old put now : List PieceValue) (n : ℕ) → old ≡ before ++ a ∷ b ∷ [] → put ≡ old ++ PieceKern room ∷ []
    → ((front : List PieceValue) (x y : PieceValue) → put ≡ front ++ x ∷ y ∷ [] → now ≡ front ++ y ∷ x ∷ []) → n ≡ length now - 3 → Behind before (a ∷ PieceKern room ∷ b ∷ []) now n
kern_between before a b room old put now n is k swap at =
    let whole : put ≡ (before ++ a ∷ []) ++ b ∷ PieceKern room ∷ [] = k ∙ (ap (λ ps. ps ++ PieceKern room ∷ []) is ∙ (append_assoc before (a ∷ b ∷ []) (PieceKern room ∷ []) ∙ sym (append_assoc before (a ∷ []) (b ∷ PieceKern room ∷ [])))) in
    let row : now ≡ before ++ (a ∷ PieceKern room ∷ b ∷ []) = swap (before ++ a ∷ []) b (PieceKern room) whole ∙ append_assoc before (a ∷ []) (PieceKern room ∷ b ∷ []) in
    apart before (a ∷ PieceKern room ∷ b ∷ []) now n row (omega (arith, at, ap length row, length-append before (a ∷ PieceKern room ∷ b ∷ [])))

pub lines_apart : (left : Bool) (z e d d' r s t : ℤ) (display number : Layout) → int_eq e (pos 0) ≡ true → d' ≡ d → r ≡ z -ℤ number.extents.width → s ≡ (if left then pos 0 else d') → t ≡ (if left then d' else r)
    → numbered_lines left z e d display number ≡ Ok (record { shift = s; body = if left then number else display } ∷ record { shift = t; body = if left then display else number } ∷ [])
lines_apart true z e d d' r s t display number zero is at f g = rw (zero, f, g, is) refl
lines_apart false z e d d' r s t display number zero is at f g = rw (zero, f, g, is, at) refl

pub lines_in_one : (left : Bool) (z e d d' room s : ℤ) (display number : Layout) → int_eq e (pos 0) ≡ false → d' ≡ d → room ≡ room_between z display.extents.width e d' → s ≡ (if left then pos 0 else d')
    → lines_beside room s (if left then number else display) (if left then display else number) ≡ numbered_lines left z e d display number
lines_in_one true z e d d' room s display number some is at f = rw (some, at, f, is) refl
lines_in_one false z e d d' room s display number some is at f = rw (some, at, f, is) refl

pub boxes_in_order : (left : Bool) (display number : Layout) → in_order left (PieceBox (pos 0) display) (PieceBox (pos 0) number) ≡ PieceBox (pos 0) (if left then number else display) ∷ PieceBox (pos 0) (if left then display else number) ∷ []
boxes_in_order true display number = refl
boxes_in_order false display number = refl

pub alone_refused : (e : PackError) (quad z : ℤ) (b row now : List PieceValue) → SetsDisplay b row (fit_of_row z row (pos 0) (pos 0)) z (Err e) now → Fails e (display_lines quad row None z)
unfolding display_lines
alone_refused (PackOverflow value) quad z b row now h =
    let f = fit_of_row z row (pos 0) (pos 0) in
    ap (λ (s : Setting Layout). s >>= λ l. placed_lines z f.e (indent (begins_with_space_piece row) z l.extents.width f.e) l None) h
alone_refused NoPackMemory quad z b row now h = tt

slot_indent : (z e : ℤ) (row : List PieceValue) (display : Layout) (s : Slot) → IsSlot z e row display s → indent s.flush s.z.sp s.w.sp s.e.sp ≡ indent (begins_with_space_piece row) z display.extents.width e
slot_indent z e row display s h = rw (h.z, h.w, h.e, h.flush) refl

pub alone_made : (quad z shift : ℤ) (row : List PieceValue) (s : Slot) → (let f : Fit = fit_of_row z row (pos 0) (pos 0) in IsSlot z f.e row (fitted row f.target) s → make_box (fitted row f.target) ≡ Ok (fitted row f.target) → shift ≡ indent s.flush s.z.sp s.w.sp s.e.sp
    → display_lines quad row None z ≡ Ok (one_line shift (fitted row f.target)))
unfolding display_lines
alone_made quad z shift row s h made e =
    let f = fit_of_row z row (pos 0) (pos 0) in
    ap (λ (r : Setting Layout). r >>= λ l. placed_lines z f.e (indent (begins_with_space_piece row) z l.extents.width f.e) l None) made
    ∙ ap (λ x. (let r : Setting (List LineValue) = Ok (one_line x (fitted row f.target)) in r)) (sym (e ∙ slot_indent z f.e row (fitted row f.target) s h))

abbrev pair : Setting Layout → Setting Layout → Setting (Layout × Layout)
pair a b = do
  x ← a
  y ← b
  Ok (x, y)

two_refused : {C : Type 0} (a b : Setting Layout) (next : Layout → Layout → Setting C) (fault : SettingFault) → pair a b ≡ Err fault → (a >>= λ x. b >>= λ y. next x y) ≡ Err fault
two_refused (Ok x) (Ok y) next fault e = absurd (cc)
two_refused (Ok x) (Err g) next fault e = cc
two_refused (Err g) b next fault e = cc

two_made : {C : Type 0} (a b : Setting Layout) (next : Layout → Layout → Setting C) (u v : Layout) → pair a b ≡ Ok (u, v) → (a >>= λ x. b >>= λ y. next x y) ≡ next u v
two_made (Ok x) (Ok y) next u v e =
    let same : (let p : Layout × Layout = (x, y) in p) ≡ (u, v) = cc in
    ap (λ (p : Layout × Layout). next p.0 p.1) same
two_made (Ok x) (Err g) next u v e = absurd (cc)
two_made (Err g) b next u v e = absurd (cc)

pub numbered_refused : (e : PackError) (quad z : ℤ) (left : Bool) (before row number now : List PieceValue) → SetsBoth before row number (fit_of_row z row (row_width number) (row_width number +ℤ quad)) z (Err e) now
    → Fails e (display_lines quad row (Some (record { row = number; left = left })) z)
unfolding display_lines
numbered_refused (PackOverflow value) quad z left before row number now h =
    let f = fit_of_row z row (row_width number) (row_width number +ℤ quad) in
    two_refused (make_box (fitted row f.target)) (pack_row number) (λ x y. numbered_lines left z f.e (indent (begins_with_space_piece row) z x.extents.width f.e) x y) (Overflow value) h
numbered_refused NoPackMemory quad z left before row number now h = tt

pub numbered_made : (quad z : ℤ) (left : Bool) (before row number now : List PieceValue) (s : Slot) → (let f : Fit = fit_of_row z row (row_width number) (row_width number +ℤ quad) in BothSet before row number (fitted row f.target) f.e z s now
    → numbered_lines left s.z.sp s.e.sp (indent s.flush s.z.sp s.w.sp s.e.sp) (fitted row f.target) (pack number) ≡ display_lines quad row (Some (record { row = number; left = left })) z)
unfolding display_lines
numbered_made quad z left before row number now s h =
    let f = fit_of_row z row (row_width number) (row_width number +ℤ quad) in
    rw (slot_indent z f.e row (fitted row f.target) s h.slot, h.slot.z, h.slot.e)
    (sym (two_made (make_box (fitted row f.target)) (pack_row number) (λ x y. numbered_lines left z f.e (indent (begins_with_space_piece row) z x.extents.width f.e) x y) (fitted row f.target) (pack number) h.made))

pub both_as : {z z' quad quad' : ℤ} (before row number : List PieceValue) (res : Result Slot PackError) (now : List PieceValue) → SetsBoth before row number (fit_of_row z row (row_width number) (row_width number +ℤ quad)) z res now → z ≡ z' → quad ≡ quad'
    → SetsBoth before row number (fit_of_row z' row (row_width number) (row_width number +ℤ quad')) z' res now
both_as before row number res now h e f = rw (sym e, sym f) h
