-- An atom that is an ordinary symbol without scripts: its row is that of the symbol (`plain_atom`), and the clean box of a list
-- that has nothing else is that of the symbol (`lone_cleans`).
use Rattle.std.proofs.Common.{◌≡◌, List, Bool, true, false, ◌&&◌, if◌then◌else◌, ap, refl, sym, ◌∙◌, Option, Some, None, Ok, Err, IfSome}
use Rattle.std.specs.Prelude.{⊤}
use Rattle.mt_convert.proofs.Common.{SetValue, PieceValue, pack, Op, Kind, Plain, Radical, Accent, Over, Under, Vcenter, Veil, Limits, Style, Symbol, size_of, Setting, ◌>>=◌, ◌>>◌, make_row, test_extents, Noad, Held, cell_part, Sequence, End, More, Part, SymbolPart, SymbolContent, OrdinarySymbol, SymbolRole, Nucleus, clean_list, clean_symbol, make_clean, symbol_nucleus, content_of}
use Rattle.mt_rules.specs.Nuclei.{nucleus_row}
use Rattle.mt_rules.specs.AtomRow.{atom_row}
use Rattle.mt_convert.specs.Joining.{is_ord_by_now}
use Rattle.mt_convert.specs.declared.set.form.AtomForm.TheVariants as form
use Rattle.mt_convert.specs.inner.AtomSteps.{kind_nucleus, row_with_fields, symbol_row}
use Rattle.mt_convert.specs.inner.Fields.{atom_content, atom_row_of, list_content}
use Rattle.mt_convert.specs.inner.Forms.{form_of}
use Rattle.mt_convert.specs.inner.Spans.{atom_in, noad_symbol_before}
use Rattle.mt_convert.specs.inner.Turns.{is_empty_part, part_symbol}
use Rattle.mt_convert.proofs.LoneLists.{lone_list}
use Rattle.mt_convert.proofs.RowsOn.{beside_nothing}
use Rattle.mt_convert.proofs.kinds.Atoms.{beside_row}
use Rattle.mt_convert.proofs.kinds.Parts.{no_scripts}

-- ---- its atom

plain_form : (style : Style) (kind : Kind) (limits : Limits) (p q r : Part) → is_ord_by_now None kind ≡ true → form.Beside ≡ form_of style kind limits p q r
plain_form style (Plain Op) limits p q r e = absurd (cc)
plain_form style (Radical sign) limits p q r e = absurd (cc)
plain_form style (Accent symbol) limits p q r e = absurd (cc)
plain_form style Over limits p q r e = absurd (cc)
plain_form style Under limits p q r e = absurd (cc)
plain_form style Vcenter limits p q r e = absurd (cc)
plain_form style (Veil width height marks) limits p q r e = absurd (cc)
plain_form style _ limits p q r e = refl

plain_nucleus : (fonts : SetValue) (style : Style) (role : SymbolRole) (kind : Kind) (symbol : Symbol) → is_ord_by_now None kind ≡ true → kind_nucleus kind fonts style role (SymbolContent symbol) false ≡ symbol_nucleus fonts (size_of style) symbol role false
unfolding nucleus_row
plain_nucleus fonts style role (Plain Op) symbol e = absurd (cc)
plain_nucleus fonts style role (Radical sign) symbol e = absurd (cc)
plain_nucleus fonts style role (Accent a) symbol e = absurd (cc)
plain_nucleus fonts style role Over symbol e = absurd (cc)
plain_nucleus fonts style role Under symbol e = absurd (cc)
plain_nucleus fonts style role Vcenter symbol e = absurd (cc)
plain_nucleus fonts style role (Veil width height marks) symbol e = absurd (cc)
plain_nucleus fonts style role _ symbol e = refl

without_scripts : (s : Setting Nucleus) (fonts : SetValue) (style : Style) (q r : Part) → is_empty_part q ≡ true → is_empty_part r ≡ true → (s >>= (λ n. row_with_fields fonts style n (content_of fonts q) (content_of fonts r))) ≡ (s >>= (λ n. make_row n.row))
without_scripts (Ok n) fonts style q r f g = no_scripts (λ x. x ≡ make_row n.row) fonts style q r n f g (sym (beside_nothing fonts style n))
without_scripts (Err fault) fonts style q r f g = refl

plain_row : (fonts : SetValue) (style : Style) (role : SymbolRole) (kind : Kind) (limits : Limits) (p q r : Part) (symbol : Symbol) → is_ord_by_now None kind ≡ true → p ≡ SymbolPart symbol → is_empty_part q ≡ true → is_empty_part r ≡ true
    → atom_row fonts style role (atom_content fonts kind limits p q r) ≡ symbol_row fonts style role symbol
plain_row fonts style role kind limits p q r symbol o e f g =
    beside_row fonts style role kind limits p q r true (sym g) (plain_form style kind limits p q r o)
    ∙ (ap (λ x. kind_nucleus kind fonts style role (content_of fonts x) false >>= (λ n. row_with_fields fonts style n (content_of fonts q) (content_of fonts r))) e
    ∙ (ap (λ s. s >>= (λ n. row_with_fields fonts style n (content_of fonts q) (content_of fonts r))) (plain_nucleus fonts style role kind symbol o)
    ∙ without_scripts (symbol_nucleus fonts (size_of style) symbol role false) fonts style q r f g))

-- what an atom with such a symbol is
record IsPlain (ord sup sub : Bool) (nucleus : Part) (symbol : Symbol) : Type 0 where
  pub ord_is : ord ≡ true
  pub sup_is : sup ≡ true
  pub sub_is : sub ≡ true
  pub nucleus_is : nucleus ≡ SymbolPart symbol

symbol_part : (p : Part) (symbol : Symbol) → part_symbol p ≡ Some symbol → p ≡ SymbolPart symbol
symbol_part (SymbolPart s) symbol e = ap SymbolPart (let f : s ≡ symbol = cc in f)
symbol_part _ symbol e = absurd (cc)

plain_parts : (ord sup sub : Bool) (p : Part) (symbol : Symbol) → (if ord && (sup && sub) then part_symbol p else None) ≡ Some symbol → IsPlain ord sup sub p symbol
plain_parts true true true p symbol e = record { ord_is = refl; sup_is = refl; sub_is = refl; nucleus_is = symbol_part p symbol e }
plain_parts true true false p symbol e = absurd (cc)
plain_parts true false sub p symbol e = absurd (cc)
plain_parts false sup sub p symbol e = absurd (cc)

pub plain_atom : (fonts : SetValue) (style : Style) (role : SymbolRole) (es : List Held) (a : Noad) (symbol : Symbol) → noad_symbol_before es None a ≡ Some symbol → atom_row_of fonts es style role a ≡ symbol_row fonts style role symbol
plain_atom fonts style role es a symbol s =
    let i = plain_parts (is_ord_by_now None a.kind) (is_empty_part (cell_part es a.sup)) (is_empty_part (cell_part es a.sub)) (cell_part es a.nucleus) symbol s in
    plain_row fonts style role a.kind a.limits (cell_part es a.nucleus) (cell_part es a.sup) (cell_part es a.sub) symbol i.ord_is i.nucleus_is i.sup_is i.sub_is

-- ---- its clean box

again : (test : Setting ⊤) (row : List PieceValue) → make_row row ≡ (test >> Ok row) → ((test >> Ok row) >>= make_row) ≡ (test >> Ok row)
again (Ok u) row e = e
again (Err fault) row e = refl

cleaned_once : (s : Setting Nucleus) → (((s >>= (λ n. make_row n.row)) >>= make_row) >>= make_clean) ≡ (s >>= (λ n. make_row n.row >>= make_clean))
cleaned_once (Ok n) = ap (λ t. t >>= make_clean) (again (test_extents (pack n.row).extents) n.row refl)
cleaned_once (Err fault) = refl

lone_clean : (fonts : SetValue) (style : Style) (es : List Held) (a : Noad) (list : Sequence) (symbol : Symbol) → list ≡ More (atom_in es a) End → noad_symbol_before es None a ≡ Some symbol → clean_list (list_content fonts list) style ≡ clean_symbol fonts style symbol
lone_clean fonts style es a list symbol e s =
    ap (λ t. t >>= make_clean) (lone_list fonts style es a list e)
    ∙ (ap (λ t. (t >>= make_row) >>= make_clean) (plain_atom fonts style OrdinarySymbol es a symbol s)
    ∙ cleaned_once (symbol_nucleus fonts (size_of style) symbol OrdinarySymbol false))

pub lone_cleans : (es : List Held) (a : Noad) (list : Sequence) (o : Option Symbol) → list ≡ More (atom_in es a) End → o ≡ noad_symbol_before es None a → IfSome o (λ symbol. (fonts : SetValue) (style : Style) → clean_list (list_content fonts list) style ≡ clean_symbol fonts style symbol)
lone_cleans es a list None e s = tt
lone_cleans es a list (Some symbol) e s = λ fonts style. lone_clean fonts style es a list symbol e (sym s)
