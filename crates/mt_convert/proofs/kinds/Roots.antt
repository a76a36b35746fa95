-- Fields packed as ordinary atoms, phantoms, and radicals with a degree, set step by step.
use Rattle.std.proofs.Common.{◌≡◌, ap, sym, ◌∙◌, subst, Bool, true, false, Ok, List, None, if◌then◌else◌, ◌&&◌}
use Rattle.mt_convert.proofs.Common.{SetValue, Layout, PieceValue, Op, Kind, Plain, Radical, Accent, Limits, Style, Ss, Delim, Symbol, uncramped_of, Setting, ◌>>=◌, pack_row, Sequence, Part, SymbolPart, RootPart, RowByStyle, Content, NoContent, ListContent, OrdinarySymbol, SymbolRole, Nucleus, nucleus_row, uses_limits, veil_layout, ordinary_row, packed_field, radical_part, radical_row, radical_with_degree, veil_part, SetFault, SetFails, content_of}
use Rattle.mt_convert.specs.declared.set.form.AtomForm.TheVariants as form
use Rattle.mt_convert.specs.inner.Fields.{atom_content, list_content}
use Rattle.mt_convert.specs.inner.Forms.{HasDegree, form_of}
use Rattle.mt_convert.specs.inner.AtomSteps.{row_beside, row_of_root}
use Rattle.mt_convert.specs.inner.Turns.{is_empty_part}
use Rattle.mt_convert.proofs.Appending.{fails_then}
use Rattle.mt_convert.proofs.kinds.Chains.{first_made}
use Rattle.mt_rules.specs.AtomRow.{atom_row}

-- ---- a field as an ordinary atom, packed

abbrev after_nucleus : SetValue → Style → Nucleus → Setting (List PieceValue)
after_nucleus fonts style n = row_beside fonts style n None None

pub nucleus_fails : (fault : SetFault) (fonts : SetValue) (style : Style) (field : Content) → SetFails fault (nucleus_row fonts style field OrdinarySymbol false) → SetFails fault (packed_field fonts style field)
nucleus_fails fault fonts style field h =
    fails_then fault (ordinary_row fonts style OrdinarySymbol field NoContent NoContent) pack_row
    (fails_then fault (nucleus_row fonts style field OrdinarySymbol false) (after_nucleus fonts style) h)

pub row_fails : (fault : SetFault) (fonts : SetValue) (style : Style) (field : Content) (n : Nucleus) → nucleus_row fonts style field OrdinarySymbol false ≡ Ok n → SetFails fault (row_beside fonts style n None None) → SetFails fault (packed_field fonts style field)
row_fails fault fonts style field n e h =
    fails_then fault (ordinary_row fonts style OrdinarySymbol field NoContent NoContent) pack_row
    (first_made (SetFails fault) (nucleus_row fonts style field OrdinarySymbol false) n (after_nucleus fonts style) e h)

pub field_made : (P : Setting Layout → Type 0) (fonts : SetValue) (style : Style) (field : Content) (n : Nucleus) (row : List PieceValue) → nucleus_row fonts style field OrdinarySymbol false ≡ Ok n → row_beside fonts style n None None ≡ Ok row → P (pack_row row) → P (packed_field fonts style field)
field_made P fonts style field n row e g h =
    first_made P (ordinary_row fonts style OrdinarySymbol field NoContent NoContent) row pack_row
    (ap (λ s. s >>= after_nucleus fonts style) e ∙ g) h

-- ---- a phantom

pub veil_fails : (fault : SetFault) (fonts : SetValue) (style style' : Style) (width height marks : Bool) (nucleus : Content) → style' ≡ uncramped_of style → SetFails fault (packed_field fonts style' nucleus) → SetFails fault (veil_part fonts style width height marks nucleus)
veil_fails fault fonts style style' width height marks nucleus e h =
    fails_then fault (packed_field fonts (uncramped_of style) nucleus) (λ box. Ok (veil_layout width height marks box))
    (subst (λ t. SetFails fault (packed_field fonts t nucleus)) e h)

pub veil_made : (P : Setting Layout → Type 0) (fonts : SetValue) (style style' : Style) (width height marks : Bool) (nucleus : Content) (box : Layout) → style' ≡ uncramped_of style → packed_field fonts style' nucleus ≡ Ok box → P (Ok (veil_layout width height marks box)) → P (veil_part fonts style width height marks nucleus)
veil_made P fonts style style' width height marks nucleus box e made h =
    first_made P (packed_field fonts (uncramped_of style) nucleus) box (λ b. Ok (veil_layout width height marks b))
    (ap (λ t. packed_field fonts t nucleus) (sym e) ∙ made) h

-- ---- a radical with a degree

abbrev beside_degree : SetValue → Style → Delim → Content → Layout → Setting (List PieceValue)
beside_degree fonts style sign body degree = radical_part fonts (uncramped_of style) sign body >>= row_of_root fonts style degree

pub degree_fails : (fault : SetFault) (fonts : SetValue) (style : Style) (sign : Delim) (degree : RowByStyle) (body : Content) → SetFails fault (packed_field fonts Ss (ListContent degree)) → SetFails fault (radical_with_degree fonts style sign degree body)
degree_fails fault fonts style sign degree body h = fails_then fault (packed_field fonts Ss (ListContent degree)) (beside_degree fonts style sign body) h

pub body_fails : (fault : SetFault) (fonts : SetValue) (style style' : Style) (sign : Delim) (degree : RowByStyle) (body : Content) (box : Layout) → style' ≡ uncramped_of style → packed_field fonts Ss (ListContent degree) ≡ Ok box → SetFails fault (radical_part fonts style' sign body) → SetFails fault (radical_with_degree fonts style sign degree body)
body_fails fault fonts style style' sign degree body box e made h =
    first_made (SetFails fault) (packed_field fonts Ss (ListContent degree)) box (beside_degree fonts style sign body) made
    (fails_then fault (radical_part fonts (uncramped_of style) sign body) (row_of_root fonts style box) (subst (λ t. SetFails fault (radical_part fonts t sign body)) e h))

pub root_made : (P : Setting (List PieceValue) → Type 0) (fonts : SetValue) (style style' : Style) (sign : Delim) (degree : RowByStyle) (body : Content) (box radical : Layout) → style' ≡ uncramped_of style → packed_field fonts Ss (ListContent degree) ≡ Ok box → radical_part fonts style' sign body ≡ Ok radical → P (row_of_root fonts style box radical) → P (radical_with_degree fonts style sign degree body)
root_made P fonts style style' sign degree body box radical e made set h =
    first_made P (packed_field fonts Ss (ListContent degree)) box (beside_degree fonts style sign body) made
    (first_made P (radical_part fonts (uncramped_of style) sign body) radical (row_of_root fonts style box)
    (ap (λ t. radical_part fonts t sign body) (sym e) ∙ set) h)

-- the row of a part that has a degree
pub of_root : (P : Setting (List PieceValue) → Type 0) (fonts : SetValue) (style : Style) (sign : Delim) (p : Part) (degree : Sequence) (body : Part) (sup sub : Content) → p ≡ RootPart degree body → P (radical_with_degree fonts style sign (list_content fonts degree) (content_of fonts body)) → P (radical_row fonts style sign (content_of fonts p) sup sub)
of_root P fonts style sign p degree body sup sub e h = subst (λ q. P (radical_row fonts style sign (content_of fonts q) sup sub)) (sym e) h

-- ---- the form of such an atom

pub record RootForm (fonts : SetValue) (style : Style) (role : SymbolRole) (kind : Kind) (limits : Limits) (p q r : Part) (sign : Delim) : Type 0 where
  pub is : atom_row fonts style role (atom_content fonts kind limits p q r) ≡ radical_row fonts style sign (content_of fonts p) (content_of fonts q) (content_of fonts r)
  pub degree : HasDegree p

no_limits : (b : Bool) (sign : Delim) → form.Root sign ≡ (if b then form.Limits else form.Beside) → ⊥
no_limits true sign e = cc
no_limits false sign e = cc

no_inside : (b : Bool) (sign : Delim) (a s : Symbol) → form.Root sign ≡ (if b then form.Beside else form.AccentInside a s) → ⊥
no_inside true sign a s e = cc
no_inside false sign a s e = cc

of_sign : (fonts : SetValue) (style : Style) (sign s : Delim) (p q r : Part) → sign ≡ s → radical_row fonts style s (content_of fonts p) (content_of fonts q) (content_of fonts r) ≡ radical_row fonts style sign (content_of fonts p) (content_of fonts q) (content_of fonts r)
of_sign fonts style sign s p q r e = ap (λ x. radical_row fonts style x (content_of fonts p) (content_of fonts q) (content_of fonts r)) (sym e)

pub root_form : (fonts : SetValue) (style : Style) (role : SymbolRole) (kind : Kind) (limits : Limits) (p q r : Part) (sign : Delim) → form.Root sign ≡ form_of style kind limits p q r → RootForm fonts style role kind limits p q r sign
unfolding atom_row
root_form fonts style role (Plain Op) limits p q r sign e = absurd (no_limits (uses_limits limits style) sign e)
root_form fonts style role (Radical s) limits (RootPart degree body) q r sign e =
    let f : sign ≡ s = cc in
    record { is = of_sign fonts style sign s (RootPart degree body) q r f; degree = tt }
root_form fonts style role (Radical s) limits _ q r sign e = absurd (cc)
root_form fonts style role (Accent a) limits (SymbolPart s) q r sign e = absurd (no_inside (is_empty_part q && is_empty_part r) sign a s e)
root_form fonts style role (Accent a) limits _ q r sign e = absurd (cc)
root_form fonts style role _ limits p q r sign e = absurd (cc)
