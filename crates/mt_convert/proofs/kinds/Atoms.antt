-- Whole atoms: the row of each form, and accents.
use Rattle.std.proofs.Common.{◌≡◌, ℤ, ap, sym, ◌∙◌, refl, false, true, Bool, List, Ok, Err, ◌&&◌, if◌then◌else◌, not}
use Rattle.mt_convert.proofs.Common.{SetValue, Layout, PieceValue, Op, Kind, Plain, Radical, Accent, Over, Under, Vcenter, Veil, Limits, Style, Symbol, size_of, cramped_of, Setting, ◌>>=◌, find_symbol, Part, EmptyPart, SymbolPart, RootPart, Content, SymbolContent, SymbolRole, Nucleus, is_empty, clean_field, make_clean, uses_limits, accent, accent_by_scripts, accent_inside, box_nucleus, content_skew, nucleus_under_limits, operator_by_limits, content_of}
use Rattle.mt_convert.specs.declared.set.form.AtomForm.TheVariants as form
use Rattle.mt_convert.specs.inner.Fields.{atom_content}
use Rattle.mt_convert.specs.inner.Forms.{form_of}
use Rattle.mt_convert.specs.inner.AtomSteps.{BoxWithItalic, as_nucleus, kind_nucleus, row_with_fields, row_with_limits, under_limits}
use Rattle.mt_convert.specs.inner.Turns.{is_empty_part}
use Rattle.mt_convert.proofs.Turning.{same_empty}
use Rattle.mt_rules.specs.AtomRow.{atom_row}

-- ---- the same steps, with a name for a part of them

abbrev with_delta : ℤ → Layout → Setting BoxWithItalic
with_delta delta box = Ok (record { box = box; delta = delta })

box_kept : {R : Type 0} (s : Setting Layout) (delta : ℤ) (next : Layout → ℤ → Setting R) → (s >>= (λ box. next box delta)) ≡ ((s >>= with_delta delta) >>= (λ o. next o.box o.delta))
box_kept (Ok box) delta next = refl
box_kept (Err fault) delta next = refl

abbrev cleaned_box : Nucleus → Setting BoxWithItalic
cleaned_box nucleus = make_clean nucleus.row >>= (λ box. Ok (record { box = box; delta = nucleus.delta }))

operator_kept : {R : Type 0} (s : Setting Nucleus) (next : Layout → ℤ → Setting R) → (s >>= (λ nucleus. make_clean nucleus.row >>= (λ box. next box nucleus.delta))) ≡ ((s >>= cleaned_box) >>= (λ o. next o.box o.delta))
operator_kept (Ok nucleus) next = box_kept (make_clean nucleus.row) nucleus.delta next
operator_kept (Err fault) next = refl

part_kept : {R : Type 0} (s : Setting Layout) (next : Nucleus → Setting R) → (s >>= (λ box. next (box_nucleus box))) ≡ (as_nucleus s >>= next)
part_kept (Ok box) next = refl
part_kept (Err fault) next = refl

accent_kept : {A B R : Type 0} (s : Setting A) (t : Setting B) (u : A → B → Setting Layout) (next : Nucleus → Setting R) → (s >>= (λ a. t >>= (λ b. u a b >>= (λ box. next (box_nucleus box))))) ≡ (as_nucleus (s >>= (λ a. t >>= (λ b. u a b))) >>= next)
accent_kept (Ok a) (Ok b) u next = part_kept (u a b) next
accent_kept (Ok a) (Err fault) u next = refl
accent_kept (Err fault) t u next = refl

-- ---- an operator under limits

by_limits : (b : Bool) (fonts : SetValue) (style : Style) (nucleus sup sub : Content) → form.Limits ≡ (if b then form.Limits else form.Beside) → operator_by_limits b fonts style nucleus sup sub ≡ under_limits fonts style nucleus sup sub
by_limits true fonts style nucleus sup sub e = operator_kept (nucleus_under_limits fonts style nucleus) (λ box delta. row_with_limits fonts style (record { box = box; delta = delta }) sup sub)
by_limits false fonts style nucleus sup sub e = absurd (cc)

never_limits : (a s : Symbol) (b : Bool) → form.Limits ≡ (if b then form.Beside else form.AccentInside a s) → ⊥
never_limits a s true e = cc
never_limits a s false e = cc

pub limits_row : (fonts : SetValue) (style : Style) (role : SymbolRole) (kind : Kind) (limits : Limits) (p q r : Part) → form.Limits ≡ form_of style kind limits p q r → atom_row fonts style role (atom_content fonts kind limits p q r) ≡ under_limits fonts style (content_of fonts p) (content_of fonts q) (content_of fonts r)
unfolding atom_row
limits_row fonts style role (Plain Op) limits p q r e = by_limits (uses_limits limits style) fonts style (content_of fonts p) (content_of fonts q) (content_of fonts r) e
limits_row fonts style role (Radical sign) limits EmptyPart q r e = absurd (cc)
limits_row fonts style role (Radical sign) limits _ q r e = absurd (cc)
limits_row fonts style role (Accent a) limits (SymbolPart s) q r e = absurd (never_limits a s (is_empty_part q && is_empty_part r) e)
limits_row fonts style role (Accent a) limits _ q r e = absurd (cc)
limits_row fonts style role _ limits p q r e = absurd (cc)

-- ---- scripts beside a nucleus

abbrev pub beside : Kind → SetValue → Style → SymbolRole → Content → Bool → Content → Content → Setting (List PieceValue)
beside kind fonts style role nucleus has_subscript sup sub = kind_nucleus kind fonts style role nucleus has_subscript >>= (λ n. row_with_fields fonts style n sup sub)

by_beside : (b : Bool) (fonts : SetValue) (style : Style) (role : SymbolRole) (nucleus sup sub : Content) → form.Beside ≡ (if b then form.Limits else form.Beside) → operator_by_limits b fonts style nucleus sup sub ≡ beside (Plain Op) fonts style role nucleus (not (is_empty sub)) sup sub
by_beside true fonts style role nucleus sup sub e = absurd (cc)
by_beside false fonts style role nucleus sup sub e = refl

over_nucleus : (fonts : SetValue) (style : Style) (role : SymbolRole) (a : Symbol) (nucleus sup sub : Content) → accent_by_scripts false fonts style a nucleus sup sub ≡ beside (Accent a) fonts style role nucleus (not (is_empty sub)) sup sub
over_nucleus fonts style role a nucleus sup sub =
    accent_kept (find_symbol fonts (size_of style) a) (clean_field fonts (cramped_of style) nucleus) (λ font plain. accent fonts font a.code (content_skew fonts (size_of style) nucleus) plain.extents plain) (λ n. row_with_fields fonts style n sup sub)

both_same : (fonts : SetValue) (q r : Part) → (is_empty (content_of fonts q) && is_empty (content_of fonts r)) ≡ (is_empty_part q && is_empty_part r)
both_same fonts q r = ap (λ b. b && is_empty (content_of fonts r)) (same_empty fonts q) ∙ ap (λ b. is_empty_part q && b) (same_empty fonts r)

-- over a symbol without scripts
by_accent : (b : Bool) (fonts : SetValue) (style : Style) (role : SymbolRole) (a s : Symbol) (sup sub : Content) → form.Beside ≡ (if b then form.Beside else form.AccentInside a s) → accent_by_scripts (not b) fonts style a (SymbolContent s) sup sub ≡ beside (Accent a) fonts style role (SymbolContent s) (not (is_empty sub)) sup sub
by_accent true fonts style role a s sup sub e = over_nucleus fonts style role a (SymbolContent s) sup sub
by_accent false fonts style role a s sup sub e = absurd (cc)

beside_content : (fonts : SetValue) (style : Style) (role : SymbolRole) (kind : Kind) (limits : Limits) (p q r : Part) → form.Beside ≡ form_of style kind limits p q r → atom_row fonts style role (atom_content fonts kind limits p q r) ≡ beside kind fonts style role (content_of fonts p) (not (is_empty (content_of fonts r))) (content_of fonts q) (content_of fonts r)
unfolding atom_row
beside_content fonts style role (Plain Op) limits p q r e = by_beside (uses_limits limits style) fonts style role (content_of fonts p) (content_of fonts q) (content_of fonts r) e
beside_content fonts style role (Radical sign) limits (RootPart degree body) q r e = absurd (cc)
beside_content fonts style role (Radical sign) limits _ q r e = part_kept _ (λ n. row_with_fields fonts style n (content_of fonts q) (content_of fonts r))
beside_content fonts style role (Accent a) limits (SymbolPart s) q r e =
    ap (λ b. accent_by_scripts (not b) fonts style a (SymbolContent s) (content_of fonts q) (content_of fonts r)) (both_same fonts q r)
    ∙ by_accent (is_empty_part q && is_empty_part r) fonts style role a s (content_of fonts q) (content_of fonts r) e
beside_content fonts style role (Accent a) limits part q r e = over_nucleus fonts style role a (content_of fonts part) (content_of fonts q) (content_of fonts r)
beside_content fonts style role Over limits p q r e = part_kept _ (λ n. row_with_fields fonts style n (content_of fonts q) (content_of fonts r))
beside_content fonts style role Under limits p q r e = part_kept _ (λ n. row_with_fields fonts style n (content_of fonts q) (content_of fonts r))
beside_content fonts style role Vcenter limits p q r e = part_kept _ (λ n. row_with_fields fonts style n (content_of fonts q) (content_of fonts r))
beside_content fonts style role (Veil width height marks) limits p q r e = part_kept _ (λ n. row_with_fields fonts style n (content_of fonts q) (content_of fonts r))
beside_content fonts style role _ limits p q r e = refl

pub beside_row : (fonts : SetValue) (style : Style) (role : SymbolRole) (kind : Kind) (limits : Limits) (p q r : Part) (no_subscript : Bool) → no_subscript ≡ is_empty_part r → form.Beside ≡ form_of style kind limits p q r → atom_row fonts style role (atom_content fonts kind limits p q r) ≡ beside kind fonts style role (content_of fonts p) (not no_subscript) (content_of fonts q) (content_of fonts r)
beside_row fonts style role kind limits p q r no_subscript g e =
    beside_content fonts style role kind limits p q r e
    ∙ ap (λ b. beside kind fonts style role (content_of fonts p) (not b) (content_of fonts q) (content_of fonts r)) (same_empty fonts r ∙ sym g)

-- ---- an accent over a symbol with scripts

by_inside : (b : Bool) (fonts : SetValue) (style : Style) (a a' s s' : Symbol) (sup sub : Content) → form.AccentInside a' s' ≡ (if b then form.Beside else form.AccentInside a s) → accent_by_scripts (not b) fonts style a (SymbolContent s) sup sub ≡ accent_inside fonts style a' (SymbolContent s') sup sub
by_inside true fonts style a a' s s' sup sub e = absurd (cc)
by_inside false fonts style a a' s s' sup sub e =
    let f : a ≡ a' = cc in
    let g : s ≡ s' = cc in
    ap (λ x. accent_inside fonts style x (SymbolContent s) sup sub) f ∙ ap (λ x. accent_inside fonts style a' (SymbolContent x) sup sub) g

limits_or_not : (b : Bool) (a s : Symbol) → form.AccentInside a s ≡ (if b then form.Limits else form.Beside) → ⊥
limits_or_not true a s e = cc
limits_or_not false a s e = cc

pub inside_row : (fonts : SetValue) (style : Style) (role : SymbolRole) (kind : Kind) (limits : Limits) (p q r : Part) (a s : Symbol) → form.AccentInside a s ≡ form_of style kind limits p q r → atom_row fonts style role (atom_content fonts kind limits p q r) ≡ accent_inside fonts style a (SymbolContent s) (content_of fonts q) (content_of fonts r)
unfolding atom_row
inside_row fonts style role (Plain Op) limits p q r a s e = absurd (limits_or_not (uses_limits limits style) a s e)
inside_row fonts style role (Radical sign) limits EmptyPart q r a s e = absurd (cc)
inside_row fonts style role (Radical sign) limits _ q r a s e = absurd (cc)
inside_row fonts style role (Accent b) limits (SymbolPart t) q r a s e =
    ap (λ x. accent_by_scripts (not x) fonts style b (SymbolContent t) (content_of fonts q) (content_of fonts r)) (both_same fonts q r)
    ∙ by_inside (is_empty_part q && is_empty_part r) fonts style b a t s (content_of fonts q) (content_of fonts r) e
inside_row fonts style role (Accent b) limits _ q r a s e = absurd (cc)
inside_row fonts style role _ limits p q r a s e = absurd (cc)
