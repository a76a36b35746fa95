-- Rows of a vcenter atom and of a table, packed one by one.
use Rattle.std.proofs.Common.{◌≡◌, ℕ, zero, suc, ◌+◌, ◌≤◌, ◌^◌, List, [], ◌∷◌, ◌++◌, length, true, false, ap, sym, ◌∙◌, refl, subst, arith, append_assoc, Ok, Err, nat_lt, pos}
use Rattle.mt_convert.proofs.Common.{SetValue, Layout, PieceValue, PieceBox, T, Setting, ◌>>=◌, pack_row, Size, Style, size_of, vcenter, Look, Matrix, Equations, Cell, Span, Held, cell_part, Part, RowsPart, TablePart, Sequence, Rows, NoRows, MoreRows, rows_length, rows_size, sequence_size, IsModestList, rows_items, RowByStyle, pack_rows, vcenter_part, unraised_boxes, SetFault, SetFails, content_of, rows_by_style}
use Rattle.std.specs.Prelude.{⊤}
use Rattle.std.proofs.lemmas.Bool.{ltb_from_iff}
use Rattle.mt_arena.specs.declared.thing.Cell.TheVariants.{Rows as OfRows, Table as OfTable, Root as OfRoot}
use Rattle.mt_convert.specs.inner.Appending.{appended_to}
use Rattle.mt_convert.specs.inner.AtomSteps.{list_box}
use Rattle.mt_convert.specs.inner.Fields.{list_content}
use Rattle.mt_convert.specs.inner.Modest.{IsModestRows}
use Rattle.mt_convert.specs.inner.OnPieces.{BoxOn, BoxesOn}
use Rattle.mt_convert.specs.inner.Tables.{columns_from, has_column, rows_in_columns}
use Rattle.mt_convert.proofs.Appending.{appended_nil, appended_end, fails_then}
use Rattle.mt_convert.proofs.kinds.Bounds.{a_root, first_row, other_rows}
use Rattle.mt_convert.proofs.Behind.{nil_right}
use Rattle.mt_convert.proofs.kinds.Chains.{first_made, joined}

-- ---- those of a row of a table that have a column

pub two_of_equations : (n : ℕ) → nat_lt n 2 ≡ has_column Equations n
two_of_equations zero = refl
two_of_equations (suc zero) = refl
two_of_equations (suc (suc n)) = sym (ltb_from_iff ((λ e. absurd (cc)), (λ l. absurd (omega (arith, l)))))

all_columns : (look : Look) (rows : Rows) → columns_from look 0 rows ≡ rows_in_columns look rows
all_columns Matrix rows = refl
all_columns Equations rows = refl

pub no_columns : (look : Look) (n : ℕ) → columns_from look n NoRows ≡ NoRows
no_columns Matrix n = refl
no_columns Equations zero = refl
no_columns Equations (suc zero) = refl
no_columns Equations (suc (suc n)) = refl

pub column_missing : (look : Look) (n : ℕ) (rows : Rows) → has_column look n ≡ false → columns_from look n rows ≡ NoRows
column_missing Matrix n rows e = absurd (cc)
column_missing Equations zero rows e = absurd (cc)
column_missing Equations (suc zero) rows e = absurd (cc)
column_missing Equations (suc (suc n)) rows e = refl

next_column' : (look : Look) (n : ℕ) (s : Sequence) (rows : Rows) → has_column look n ≡ true → columns_from look n (MoreRows s rows) ≡ MoreRows s (columns_from look (suc n) rows)
next_column' Matrix n s rows e = refl
next_column' Equations zero s NoRows e = refl
next_column' Equations zero s (MoreRows t rows) e = refl
next_column' Equations (suc zero) s rows e = refl
next_column' Equations (suc (suc n)) s rows e = absurd (cc)

next_column : (look : Look) (n : ℕ) (s : Sequence) (rows : Rows) → has_column look n ≡ true → columns_from look n (MoreRows s rows) ≡ MoreRows s (columns_from look (n + 1) rows)
next_column look n s rows e = next_column' look n s rows e ∙ ap (λ m. MoreRows s (columns_from look m rows)) (omega arith)

some_size : (rows : Rows) → 1 ≤ rows_size rows
some_size NoRows = omega arith
some_size (MoreRows s rows) = omega arith

-- ---- the boxes so far

-- the boxes of the whole are those so far, and then those of the rest
pub record RowsSoFar (fonts : SetValue) (look : Look) (whole rest : Rows) (count : ℕ) (old new : List PieceValue) : Type 0 where
  pub boxes : List Layout
  pub stays : new ≡ old ++ unraised_boxes boxes
  pub counted : count ≡ length boxes
  pub whole_is : pack_rows (rows_by_style fonts (rows_in_columns look whole)) ≡ appended_to boxes (pack_rows (rows_by_style fonts (columns_from look count rest)))
  pub total : count + rows_length (columns_from look count rest) ≡ rows_length (rows_in_columns look whole)
  pub size : rows_size rest ≤ rows_size whole
  pub modest : IsModestRows rest

pub rows_start : (fonts : SetValue) (look : Look) (whole : Rows) (old : List PieceValue) → IsModestRows whole → RowsSoFar fonts look whole whole 0 old old
rows_start fonts look whole old m = record {
  boxes = [];
  stays = nil_right old;
  counted = refl;
  whole_is = sym (appended_nil _ ∙ ap (λ r. pack_rows (rows_by_style fonts r)) (all_columns look whole));
  total = omega (arith, ap rows_length (all_columns look whole));
  size = omega arith;
  modest = m;
}

pub next_row : (fonts : SetValue) (look : Look) (whole rest : Rows) (count : ℕ) (old new : List PieceValue) (list : Sequence) (rest' : Rows) → RowsSoFar fonts look whole rest count old new → rest ≡ MoreRows list rest' → IsModestList list
next_row fonts look whole rest count old new list rest' h e = first_row list rest' (subst IsModestRows e h.modest)

pub next_size : (fonts : SetValue) (look : Look) (whole rest : Rows) (count : ℕ) (old new : List PieceValue) (list : Sequence) (rest' : Rows) → RowsSoFar fonts look whole rest count old new → rest ≡ MoreRows list rest' → sequence_size list + 1 ≤ rows_size whole
next_size fonts look whole rest count old new list rest' h e = omega (arith, ap rows_size e, h.size, some_size rest')

pub appended_cons : {A : Type 0} (there : List A) (x : A) (s : Setting (List A)) → appended_to there (s >>= (λ xs. Ok (x ∷ xs))) ≡ appended_to (there ++ x ∷ []) s
appended_cons there x (Ok xs) = ap (λ ys. Ok ys) (sym (append_assoc there (x ∷ []) xs))
appended_cons there x (Err fault) = refl

-- a row packed, and the rows after it
packed_first : (row : RowByStyle) (others : Setting (List Layout)) → (row T >>= (λ r. pack_row r >>= (λ box. others >>= (λ boxes. Ok (box ∷ boxes))))) ≡ (list_box row T >>= (λ box. others >>= (λ boxes. Ok (box ∷ boxes))))
packed_first row others = joined (row T) pack_row (λ box. others >>= (λ boxes. Ok (box ∷ boxes)))

pub one_longer : {A : Type 0} (boxes : List A) (b : A) → length (boxes ++ b ∷ []) ≡ length boxes + 1
one_longer [] b = refl
one_longer (x ∷ xs) b = let h = one_longer xs b in omega (arith, h)

unraised_append : (bs cs : List Layout) → unraised_boxes (bs ++ cs) ≡ unraised_boxes bs ++ unraised_boxes cs
unraised_append [] cs = refl
unraised_append (b ∷ bs) cs = ap (λ ps. PieceBox (pos 0) b ∷ ps) (unraised_append bs cs)

pub unraised_length : (bs : List Layout) → length (unraised_boxes bs) ≡ length bs
unraised_length [] = refl
unraised_length (b ∷ bs) = omega (arith, unraised_length bs)

pub rows_step : (fonts : SetValue) (look : Look) (whole rest : Rows) (count : ℕ) (old mid new : List PieceValue) (list : Sequence) (rest' : Rows) → RowsSoFar fonts look whole rest count old mid → rest ≡ MoreRows list rest' → has_column look count ≡ true → BoxOn mid new (list_box (list_content fonts list) T) → RowsSoFar fonts look whole rest' (count + 1) old new
rows_step fonts look whole rest count old mid new list rest' h e c b =
    let g = subst (λ r. RowsSoFar fonts look whole r count old mid) e h in
    let f = next_column look count list rest' c in
    let others = pack_rows (rows_by_style fonts (columns_from look (count + 1) rest')) in
    record {
      boxes = g.boxes ++ b.box ∷ [];
      stays =
          b.stays
          ∙ (ap (λ x. x ++ PieceBox (pos 0) b.box ∷ []) g.stays
          ∙ (append_assoc old (unraised_boxes g.boxes) (PieceBox (pos 0) b.box ∷ []) ∙ ap (λ x. old ++ x) (sym (unraised_append g.boxes (b.box ∷ [])))));
      counted = omega (arith, g.counted, one_longer g.boxes b.box);
      whole_is =
          g.whole_is
          ∙ (ap (λ r. appended_to g.boxes (pack_rows (rows_by_style fonts r))) f
          ∙ (ap (appended_to g.boxes) (packed_first (list_content fonts list) others)
          ∙ (ap (λ s. appended_to g.boxes (s >>= (λ box. others >>= (λ boxes. Ok (box ∷ boxes))))) b.is ∙ appended_cons g.boxes b.box others)));
      total = omega (arith, g.total, ap rows_length f);
      size = omega (arith, g.size);
      modest = other_rows list rest' g.modest;
    }

pub row_fails : (fault : SetFault) (fonts : SetValue) (look : Look) (whole rest : Rows) (count : ℕ) (old mid : List PieceValue) (list : Sequence) (rest' : Rows) → RowsSoFar fonts look whole rest count old mid → rest ≡ MoreRows list rest' → has_column look count ≡ true → SetFails fault (list_box (list_content fonts list) T) → SetFails fault (pack_rows (rows_by_style fonts (rows_in_columns look whole)))
row_fails fault fonts look whole rest count old mid list rest' h e c bad =
    let g = subst (λ r. RowsSoFar fonts look whole r count old mid) e h in
    let others = pack_rows (rows_by_style fonts (columns_from look (count + 1) rest')) in
    subst (SetFails fault) (sym g.whole_is)
    (fails_then fault (pack_rows (rows_by_style fonts (columns_from look count (MoreRows list rest')))) (λ more. Ok (g.boxes ++ more))
    (subst (λ r. SetFails fault (pack_rows (rows_by_style fonts r))) (sym (next_column look count list rest' c))
    (subst (SetFails fault) (sym (packed_first (list_content fonts list) others)) (fails_then fault (list_box (list_content fonts list) T) (λ box. others >>= (λ boxes. Ok (box ∷ boxes))) bad))))

rows_within : (rows : Rows) → rows_length rows ≤ rows_items rows
rows_within NoRows = omega arith
rows_within (MoreRows list rows) = omega (arith, rows_within rows)

columns_within : (look : Look) (rows : Rows) → rows_length (rows_in_columns look rows) ≤ rows_length rows
columns_within Matrix rows = omega arith
columns_within Equations NoRows = omega arith
columns_within Equations (MoreRows s NoRows) = omega arith
columns_within Equations (MoreRows s (MoreRows t rows)) = omega arith

pub rows_few : (fonts : SetValue) (look : Look) (whole rest : Rows) (count : ℕ) (old new : List PieceValue) → IsModestRows whole → RowsSoFar fonts look whole rest count old new → count ≤ 2 ^ 18
rows_few fonts look whole rest count old new m g = omega (arith, m.items, rows_within whole, columns_within look whole, g.total)

-- no row is left that has a column
pub record AllRows (fonts : SetValue) (look : Look) (whole : Rows) (count : ℕ) (old new : List PieceValue) : Type 0 where
  pub is : BoxesOn count old new (pack_rows (rows_by_style fonts (rows_in_columns look whole)))
  pub counted : count ≡ rows_length (rows_in_columns look whole)

pub rows_end : (fonts : SetValue) (look : Look) (whole rest : Rows) (count : ℕ) (old new : List PieceValue) → RowsSoFar fonts look whole rest count old new → columns_from look count rest ≡ NoRows → AllRows fonts look whole count old new
rows_end fonts look whole rest count old new g e = record {
  is = record { boxes = g.boxes; is = g.whole_is ∙ (ap (λ r. appended_to g.boxes (pack_rows (rows_by_style fonts r))) e ∙ appended_end g.boxes); counted = g.counted; stays = g.stays };
  counted = omega (arith, g.total, ap rows_length e);
}

-- ---- the column of a vcenter atom

pub vcenter_fails : (fault : SetFault) (fonts : SetValue) (style : Style) (p : Part) (rows : Rows) → p ≡ RowsPart rows → SetFails fault (pack_rows (rows_by_style fonts rows)) → SetFails fault (vcenter_part fonts style (content_of fonts p))
vcenter_fails fault fonts style p rows e h =
    subst (λ q. SetFails fault (vcenter_part fonts style (content_of fonts q))) (sym e)
    (fails_then fault (pack_rows (rows_by_style fonts rows)) (λ boxes. vcenter fonts (size_of style) boxes) h)

pub vcenter_made : (P : Setting Layout → Type 0) (fonts : SetValue) (style : Style) (size : Size) (p : Part) (rows : Rows) (boxes : List Layout) → p ≡ RowsPart rows → size ≡ size_of style → pack_rows (rows_by_style fonts rows) ≡ Ok boxes → P (vcenter fonts size boxes) → P (vcenter_part fonts style (content_of fonts p))
vcenter_made P fonts style size p rows boxes e s made h =
    subst (λ q. P (vcenter_part fonts style (content_of fonts q))) (sym e)
    (first_made P (pack_rows (rows_by_style fonts rows)) boxes (λ b. vcenter fonts (size_of style) b) made (subst (λ t. P (vcenter fonts t boxes)) s h))

abbrev pub HasNoRows : Part → Type 0
HasNoRows (RowsPart rows) = ⊥
HasNoRows (TablePart look grid) = ⊥
HasNoRows _ = ⊤

pub vcenter_empty : (P : Setting Layout → Type 0) (fonts : SetValue) (style : Style) (size : Size) (p : Part) (boxes : List Layout) → HasNoRows p → size ≡ size_of style → boxes ≡ [] → P (vcenter fonts size boxes) → P (vcenter_part fonts style (content_of fonts p))
vcenter_empty P fonts style size (RowsPart rows) boxes n e g h = absurd n
vcenter_empty P fonts style size (TablePart look grid) boxes n e g h = absurd n
vcenter_empty P fonts style size _ boxes n e g h = subst (λ b. P (vcenter fonts (size_of style) b)) g (subst (λ t. P (vcenter fonts t boxes)) e h)

pub without_rows : (es : List Held) (f : Cell) → ((rows : Span) → f ≡ OfRows rows → ⊥) → ((look : Look) (rows : Span) → f ≡ OfTable look rows → ⊥) → HasNoRows (cell_part es f)
without_rows es (OfRows rows) n m = n rows refl
without_rows es (OfTable look rows) n m = m look rows refl
without_rows es (OfRoot at) n m = subst HasNoRows (sym (a_root es at).is) tt
without_rows es _ n m = tt
