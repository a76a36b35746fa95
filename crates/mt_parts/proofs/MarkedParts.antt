-- Parts on marks, step by step: what the first fault and what each step that passes leave of the rest, and rows.
use Rattle.std.proofs.Common.{◌≡◌, List, [], ◌∷◌, ℤ, pos, refl, sym, ◌∙◌, ap, subst, Bool, true, false, if◌then◌else◌}
use Rattle.std.specs.Int.{int_max}
use Rattle.std.specs.Prelude.{Result, Ok, Err, IsErrAnd, OnOk, ⊤}
use Rattle.mt_box.specs.declared.place.Place.{Place}
use Rattle.mt_box.specs.declared.extents.Extents.{Extents}
use Rattle.mt_box.specs.Layout.{Layout}
use Rattle.mt_box.specs.Rows.{PieceValue, PieceBox, PieceKern, pack}
use Rattle.mt_box.specs.declared.marks.row.RowPart.{RowPart}
use Rattle.mt_box.specs.declared.marks.row.RowPart.TheVariants as part
use Rattle.mt_box.specs.marks.Layers.{top}
use Rattle.mt_box.specs.marks.RowParts.{IsPieceOf, IsGapOf, AreParts}
use Rattle.mt_rules.specs.declared.part_error.PartError.{PartError}
use Rattle.mt_rules.specs.declared.part_error.PartError.TheVariants.{Overflow as PartOverflow, TooTall as PartTooTall, OutOfMemory as NoPartMemory}
use Rattle.mt_rules.specs.Setting.{Setting, Overflow, TooTall, ◌>>=◌, ◌>>◌, make_box, pack_row, test_rule}
use Rattle.mt_rules.specs.Radicals.{under_rule}
use Rattle.mt_rules.specs.OnMarks.{SetsOn, layout_with}
use Rattle.mt_rules.proofs.Answering.{then_err}
use Rattle.mt_parts.specs.RuledBodies.{ruled_body}
use Rattle.mt_parts.specs.PiecesOnMarks.{HasLayouts, pieces_of}

pub always : {T E P : Type 0} (r : Result T E) → P → OnOk r P
always (Ok x) p = p
always (Err e) p = tt

pub on_top : {l : List Place} {now rest : List (List Place)} → now ≡ l ∷ rest → now ≡ top now ∷ rest
on_top {l} {now} {rest} e = e ∙ ap (λ t. t ∷ rest) (sym (ap top e))

-- ---- steps

-- a step that passes leads on
pub passes : {A : Type 0} {a : A} (r : Result Extents PartError) (ps : List Place) (step : Setting A) (next : A → Setting Layout) → step ≡ Ok a → SetsOn r ps (next a) → SetsOn r ps (step >>= next)
passes r ps step next e h = subst (λ s. SetsOn r ps (s >>= next)) (sym e) h

-- the fault of a step is the answer
pub stops : (e : PartError) (r : Result Extents PartError) (ps qs : List Place) (step : Setting Layout) (next : Layout → Setting Layout) → IsErrAnd r (λ f. f ≡ e) → SetsOn (Err e) ps step → SetsOn r qs (step >>= next)
stops e (Ok x) ps qs step next is h = absurd is
stops (PartOverflow value) (Err f) ps qs step next is h = rw is (then_err step (Overflow value) next h)
stops (PartTooTall n) (Err f) ps qs step next is h = rw is (then_err step (TooTall n) next h)
stops NoPartMemory (Err f) ps qs step next is h = rw is tt

-- a test and the step after it as one step
after_test : {A : Type 0} (r : Result Extents PartError) (ps : List Place) (test : Setting ⊤) (step : Setting A) (next : A → Setting Layout) → SetsOn r ps ((test >> step) >>= next) → SetsOn r ps (test >> (step >>= next))
after_test r ps (Ok u) step next h = h
after_test r ps (Err fault) step next h = h

-- a body under a rule beside a sign
pub under_sign : (r : Result Extents PartError) (ps : List Place) (height bottom thickness : ℤ) (body sign : Layout) → bottom ≡ height
    → SetsOn r ps (ruled_body bottom thickness body >>= (λ nucleus. pack_row (PieceBox bottom sign ∷ PieceBox (pos 0) nucleus ∷ [])))
    → SetsOn r ps (test_rule (int_max (pos 0) body.extents.width) thickness >> (make_box (under_rule height thickness body) >>= (λ nucleus. pack_row (PieceBox height sign ∷ PieceBox (pos 0) nucleus ∷ []))))
under_sign r ps height bottom thickness body sign e h =
    rw (← e) (after_test r ps (test_rule (int_max (pos 0) body.extents.width) thickness) (make_box (under_rule bottom thickness body)) (λ nucleus. pack_row (PieceBox bottom sign ∷ PieceBox (pos 0) nucleus ∷ [])) h)

-- ---- rows

one_piece : (raise : ℤ) (e : Extents) (l : List Place) → IsPieceOf (PieceBox raise (layout_with e l)) record { extents = e; raise = raise } l
one_piece raise e l = record { width = refl; height = refl; depth = refl; places = λ x. refl }

one_gap : (w : ℤ) → IsGapOf (PieceKern w) w
one_gap w = record { width = refl; height = refl; depth = refl; places = λ x. refl }

pub are_parts : (ps : List RowPart) (ls : List (List Place)) → HasLayouts ps ls → AreParts (pieces_of ps ls) ps ls
are_parts [] [] h = tt
are_parts [] (l ∷ ls) h = absurd h
are_parts (part.Glyph f c e ∷ ps) [] h = absurd h
are_parts (part.Glyph f c e ∷ ps) (l ∷ ls) h = (one_piece (pos 0) e l, are_parts ps ls h)
are_parts (part.Layout p ∷ ps) [] h = absurd h
are_parts (part.Layout p ∷ ps) (l ∷ ls) h = (one_piece p.raise p.extents l, are_parts ps ls h)
are_parts (part.Gap w ∷ ps) ls h = (one_gap w, are_parts ps ls h)
are_parts (part.Space w s ∷ ps) ls h = (record { width = refl; height = refl; depth = refl; places = λ x. refl }, are_parts ps ls h)

pub row_made : (ms : List PieceValue) (e : Extents) (now rest : List (List Place)) → e ≡ (pack ms).extents → now ≡ (pack ms).places ∷ rest → layout_with e (top now) ≡ pack ms
row_made ms e now rest p q =
    let r : top now ≡ (pack ms).places = ap top q in
    layout_is p r
  where
    layout_is : {e f : Extents} {ps qs : List Place} → e ≡ f → ps ≡ qs → (let l : Layout = record { extents = e; places = ps } in l) ≡ record { extents = f; places = qs }
    layout_is p q = cc

-- the same row of other pieces
pub same_row : {ms ns : List PieceValue} (r : Result Extents PartError) (ps : List Place) → ms ≡ ns → SetsOn r ps (pack_row ms) → SetsOn r ps (pack_row ns)
same_row r ps e h = subst (λ xs. SetsOn r ps (pack_row xs)) e h

pub same_pieces : {a b : PieceValue} {xs ys : List PieceValue} → a ≡ b → xs ≡ ys → a ∷ xs ≡ b ∷ ys
same_pieces e f = cc

-- ---- one of two ways

pub by_first : (b : Bool) (one two : Setting Layout) (r : Result Extents PartError) (ps : List Place) → b ≡ true → SetsOn r ps one → SetsOn r ps (if b then one else two)
by_first b one two r ps e h = rw e h

pub by_second : (b : Bool) (one two : Setting Layout) (r : Result Extents PartError) (ps : List Place) → b ≡ false → SetsOn r ps two → SetsOn r ps (if b then one else two)
by_second b one two r ps e h = rw e h
