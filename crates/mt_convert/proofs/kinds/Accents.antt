-- Accents, set step by step.
use Rattle.std.proofs.Common.{◌≡◌, ℕ, ℤ, ap, sym, ◌∙◌, subst, refl, Bool, List, [], ◌∷◌, Ok, Err, IsOk, not, pos}
use Rattle.mt_convert.proofs.Common.{SetValue, Size, Extents, Layout, PieceValue, PieceBox, Style, Symbol, size_of, cramped_of, Setting, ◌>>=◌, make_row, pack_row, find_symbol, Content, SymbolContent, OrdinarySymbol, is_empty, clean_symbol, symbol_nucleus, accent, accent_inside, content_skew, SetFault, SetFails}
use Rattle.mt_convert.specs.inner.AtomSteps.{accent_part, row_with_fields, symbol_with_scripts}
use Rattle.mt_convert.proofs.Appending.{fails_then}
use Rattle.mt_convert.proofs.kinds.Chains.{first_made, joined}
use Rattle.mt_rules.specs.Nuclei.{clean_field, nucleus_row}

-- ---- an accent over a nucleus

abbrev over_plain : SetValue → Style → Symbol → Content → ℕ → Layout → Setting Layout
over_plain fonts style symbol nucleus font plain = accent fonts font symbol.code (content_skew fonts (size_of style) nucleus) plain.extents plain

abbrev after_found : SetValue → Style → Symbol → Content → ℕ → Setting Layout
after_found fonts style symbol nucleus font = clean_field fonts (cramped_of style) nucleus >>= over_plain fonts style symbol nucleus font

pub finding_fails : (fault : SetFault) (fonts : SetValue) (style : Style) (size : Size) (symbol : Symbol) (nucleus : Content) → size ≡ size_of style → SetFails fault (find_symbol fonts size symbol) → SetFails fault (accent_part fonts style symbol nucleus)
finding_fails fault fonts style size symbol nucleus e h = fails_then fault (find_symbol fonts (size_of style) symbol) (after_found fonts style symbol nucleus) (subst (λ t. SetFails fault (find_symbol fonts t symbol)) e h)

accent_here : (P : Setting Layout → Type 0) (fonts : SetValue) (style : Style) (size : Size) (symbol : Symbol) (nucleus : Content) (font : ℕ) → size ≡ size_of style → find_symbol fonts size symbol ≡ Ok font → P (after_found fonts style symbol nucleus font) → P (accent_part fonts style symbol nucleus)
accent_here P fonts style size symbol nucleus font e f h = first_made P (find_symbol fonts (size_of style) symbol) font (after_found fonts style symbol nucleus) (ap (λ t. find_symbol fonts t symbol) (sym e) ∙ f) h

pub plain_fails : (fault : SetFault) (fonts : SetValue) (style cramped : Style) (size : Size) (symbol : Symbol) (nucleus : Content) (font : ℕ) → size ≡ size_of style → cramped ≡ cramped_of style → find_symbol fonts size symbol ≡ Ok font → SetFails fault (clean_field fonts cramped nucleus) → SetFails fault (accent_part fonts style symbol nucleus)
plain_fails fault fonts style cramped size symbol nucleus font e g f h =
    accent_here (SetFails fault) fonts style size symbol nucleus font e f
    (fails_then fault (clean_field fonts (cramped_of style) nucleus) (over_plain fonts style symbol nucleus font) (subst (λ t. SetFails fault (clean_field fonts t nucleus)) g h))

pub accent_part_made : (P : Setting Layout → Type 0) (fonts : SetValue) (style cramped : Style) (size size' : Size) (symbol : Symbol) (nucleus : Content) (font : ℕ) (body : Layout) (skew : ℤ) (extents : Extents) → size ≡ size_of style → size' ≡ size_of style → cramped ≡ cramped_of style → find_symbol fonts size symbol ≡ Ok font → clean_field fonts cramped nucleus ≡ Ok body → skew ≡ content_skew fonts size' nucleus → extents ≡ body.extents → P (accent fonts font symbol.code skew extents body) → P (accent_part fonts style symbol nucleus)
accent_part_made P fonts style cramped size size' symbol nucleus font body skew extents e e' g f k s x h =
    accent_here P fonts style size symbol nucleus font e f
    (first_made P (clean_field fonts (cramped_of style) nucleus) body (over_plain fonts style symbol nucleus font) (ap (λ t. clean_field fonts t nucleus) (sym g) ∙ k)
    (subst (λ t. P (accent fonts font symbol.code t body.extents body)) (s ∙ ap (λ t. content_skew fonts t nucleus) e')
    (subst (λ t. P (accent fonts font symbol.code skew t body)) x h)))

-- ---- an accent over a symbol with scripts

abbrev over_body : SetValue → Style → Symbol → Symbol → ℕ → Layout → Layout → Setting (List PieceValue)
over_body fonts style a s font plain body = accent fonts font a.code (content_skew fonts (size_of style) (SymbolContent s)) plain.extents body >>= (λ box. make_row (PieceBox (pos 0) box ∷ []))

abbrev over_packed_row : SetValue → Style → Symbol → Symbol → ℕ → Layout → List PieceValue → Setting (List PieceValue)
over_packed_row fonts style a s font plain row = pack_row row >>= over_body fonts style a s font plain

abbrev symbol_row : SetValue → Style → Symbol → Bool → Content → Content → Setting (List PieceValue)
symbol_row fonts style s has_subscript sup sub =
    symbol_nucleus fonts (size_of style) s OrdinarySymbol has_subscript >>= (λ n. row_with_fields fonts style n sup sub)

abbrev inside_steps : SetValue → Style → Symbol → Symbol → Bool → Content → Content → Setting (List PieceValue)
inside_steps fonts style a s has_subscript sup sub =
    find_symbol fonts (size_of style) a >>= (λ font. clean_symbol fonts (cramped_of style) s >>= (λ plain. symbol_row fonts style s has_subscript sup sub >>= over_packed_row fonts style a s font plain))

inside_is : (fonts : SetValue) (style : Style) (a s : Symbol) (sup sub : Content) → accent_inside fonts style a (SymbolContent s) sup sub ≡ inside_steps fonts style a s (not (is_empty sub)) sup sub
unfolding clean_field nucleus_row
inside_is fonts style a s sup sub = refl

pub inside_finding_fails : (fault : SetFault) (fonts : SetValue) (style : Style) (size : Size) (a s : Symbol) (sup sub : Content) → size ≡ size_of style → SetFails fault (find_symbol fonts size a) → SetFails fault (accent_inside fonts style a (SymbolContent s) sup sub)
inside_finding_fails fault fonts style size a s sup sub e h =
    subst (SetFails fault) (sym (inside_is fonts style a s sup sub))
    (fails_then fault (find_symbol fonts (size_of style) a) _ (subst (λ t. SetFails fault (find_symbol fonts t a)) e h))

pub inside_plain_fails : (fault : SetFault) (fonts : SetValue) (style cramped : Style) (size : Size) (a s : Symbol) (sup sub : Content) (font : ℕ) → size ≡ size_of style → cramped ≡ cramped_of style → find_symbol fonts size a ≡ Ok font → SetFails fault (clean_symbol fonts cramped s) → SetFails fault (accent_inside fonts style a (SymbolContent s) sup sub)
inside_plain_fails fault fonts style cramped size a s sup sub font e g f h =
    subst (SetFails fault) (sym (inside_is fonts style a s sup sub))
    (first_made (SetFails fault) (find_symbol fonts (size_of style) a) font (λ n. clean_symbol fonts (cramped_of style) s >>= (λ plain. symbol_row fonts style s (not (is_empty sub)) sup sub >>= over_packed_row fonts style a s n plain)) (ap (λ t. find_symbol fonts t a) (sym e) ∙ f)
    (fails_then fault (clean_symbol fonts (cramped_of style) s) _ (subst (λ t. SetFails fault (clean_symbol fonts t s)) g h)))

-- the row of a symbol with its scripts, packed
body_joined : {A R : Type 0} (s : Setting A) (step : A → Setting (List PieceValue)) (next : Layout → Setting R) → ((s >>= step) >>= (λ row. pack_row row >>= next)) ≡ ((s >>= (λ a. step a >>= pack_row)) >>= next)
body_joined (Ok a) step next = joined (step a) pack_row next
body_joined (Err fault) step next = refl

inside_here : (P : Setting (List PieceValue) → Type 0) (fonts : SetValue) (style cramped : Style) (size : Size) (a s : Symbol) (sup sub : Content) (font : ℕ) (plain : Layout) → size ≡ size_of style → cramped ≡ cramped_of style → find_symbol fonts size a ≡ Ok font → clean_symbol fonts cramped s ≡ Ok plain → P (symbol_with_scripts fonts style s sup sub >>= over_body fonts style a s font plain) → P (accent_inside fonts style a (SymbolContent s) sup sub)
inside_here P fonts style cramped size a s sup sub font plain e g f k h =
    let has_subscript = not (is_empty sub) in
    subst P (sym (inside_is fonts style a s sup sub))
    (first_made P (find_symbol fonts (size_of style) a) font (λ n. clean_symbol fonts (cramped_of style) s >>= (λ p. symbol_row fonts style s has_subscript sup sub >>= over_packed_row fonts style a s n p)) (ap (λ t. find_symbol fonts t a) (sym e) ∙ f)
    (first_made P (clean_symbol fonts (cramped_of style) s) plain (λ p. symbol_row fonts style s has_subscript sup sub >>= over_packed_row fonts style a s font p) (ap (λ t. clean_symbol fonts t s) (sym g) ∙ k)
    (subst P (sym (body_joined (symbol_nucleus fonts (size_of style) s OrdinarySymbol has_subscript) (λ n. row_with_fields fonts style n sup sub) (over_body fonts style a s font plain))) h)))

pub inside_body_fails : (fault : SetFault) (fonts : SetValue) (style cramped : Style) (size : Size) (a s : Symbol) (sup sub : Content) (font : ℕ) (plain : Layout) → size ≡ size_of style → cramped ≡ cramped_of style → find_symbol fonts size a ≡ Ok font → clean_symbol fonts cramped s ≡ Ok plain → SetFails fault (symbol_with_scripts fonts style s sup sub) → SetFails fault (accent_inside fonts style a (SymbolContent s) sup sub)
inside_body_fails fault fonts style cramped size a s sup sub font plain e g f k h =
    inside_here (SetFails fault) fonts style cramped size a s sup sub font plain e g f k (fails_then fault (symbol_with_scripts fonts style s sup sub) (over_body fonts style a s font plain) h)

abbrev pub accent_on : SetValue → Style → Symbol → Symbol → ℕ → Layout → Layout → Setting Layout
accent_on fonts style a s font plain body = accent fonts font a.code (content_skew fonts (size_of style) (SymbolContent s)) plain.extents body

pub inside_accent_fails : (fault : SetFault) (fonts : SetValue) (style cramped : Style) (size : Size) (a s : Symbol) (sup sub : Content) (font : ℕ) (plain : Layout) → size ≡ size_of style → cramped ≡ cramped_of style → find_symbol fonts size a ≡ Ok font → clean_symbol fonts cramped s ≡ Ok plain → (body : Layout) → symbol_with_scripts fonts style s sup sub ≡ Ok body → SetFails fault (accent_on fonts style a s font plain body) → SetFails fault (accent_inside fonts style a (SymbolContent s) sup sub)
inside_accent_fails fault fonts style cramped size a s sup sub font plain e g f k body made h =
    inside_here (SetFails fault) fonts style cramped size a s sup sub font plain e g f k
    (first_made (SetFails fault) (symbol_with_scripts fonts style s sup sub) body (over_body fonts style a s font plain) made
    (fails_then fault (accent_on fonts style a s font plain body) (λ box. make_row (PieceBox (pos 0) box ∷ [])) h))

pub inside_made : (P : Setting (List PieceValue) → Type 0) (fonts : SetValue) (style cramped : Style) (size : Size) (a s : Symbol) (sup sub : Content) (font : ℕ) (plain : Layout) → size ≡ size_of style → cramped ≡ cramped_of style → find_symbol fonts size a ≡ Ok font → clean_symbol fonts cramped s ≡ Ok plain → (body box : Layout) → symbol_with_scripts fonts style s sup sub ≡ Ok body → accent_on fonts style a s font plain body ≡ Ok box → P (make_row (PieceBox (pos 0) box ∷ [])) → P (accent_inside fonts style a (SymbolContent s) sup sub)
inside_made P fonts style cramped size a s sup sub font plain e g f k body box made over h =
    inside_here P fonts style cramped size a s sup sub font plain e g f k
    (first_made P (symbol_with_scripts fonts style s sup sub) body (over_body fonts style a s font plain) made
    (first_made P (accent_on fonts style a s font plain body) box (λ b. make_row (PieceBox (pos 0) b ∷ [])) over h))

-- the accent of the call is that of the definition
pub accent_given : (fonts : SetValue) (style : Style) (size : Size) (a s : Symbol) (font : ℕ) (plain : Layout) (body : Layout) (skew : ℤ) (extents : Extents) (P : Setting Layout → Type 0) → size ≡ size_of style → skew ≡ content_skew fonts size (SymbolContent s) → extents ≡ plain.extents → P (accent fonts font a.code skew extents body) → P (accent_on fonts style a s font plain body)
accent_given fonts style size a s font plain body skew extents P e f g h =
    subst (λ t. P (accent fonts font a.code t plain.extents body)) (f ∙ ap (λ t. content_skew fonts t (SymbolContent s)) e)
    (subst (λ t. P (accent fonts font a.code skew t body)) g h)

-- the accent was found before
pub found : (fonts : SetValue) (size size' : Size) (symbol : Symbol) (font : ℕ) → size ≡ size' → find_symbol fonts size symbol ≡ Ok font → IsOk (find_symbol fonts size' symbol)
found fonts size size' symbol font e h = subst IsOk (sym (ap (λ s. find_symbol fonts s symbol) (sym e) ∙ h)) refl
