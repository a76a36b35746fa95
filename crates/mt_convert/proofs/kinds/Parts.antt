-- Boxes, scripts and nuclei, set step by step.
use Rattle.std.proofs.Common.{◌≡◌, ℕ, [], arith, ap, sym, ◌∙◌, subst, refl, Option, Some, None, false, true, Bool, Ok, Err, List, if◌then◌else◌, pos}
use Rattle.mt_convert.proofs.Common.{ints, SetValue, Layout, PieceValue, Class, Ord, Op, Kind, Plain, Style, Symbol, size_of, sup_of, sub_of, Setting, ◌>>=◌, pack_row, empty_layout, Cell, Sym, Span, Held, cell_part, Delim, Sequence, Part, SymbolPart, ListPart, BigPart, RowByStyle, Content, SymbolContent, BigContent, SymbolRole, Nucleus, clean_symbol, clean_list, make_clean, packed_list, big_nucleus, empty_nucleus, symbol_nucleus, box_nucleus, nucleus_beside_scripts, script_box, some_box, SetFault, SetFails, content_of}
use Rattle.std.specs.Prelude.{⊤}
use Rattle.mt_arena.specs.declared.thing.Cell.TheVariants.{List as OfList, Root as OfRoot, Big as OfBig}
use Rattle.mt_convert.specs.inner.Fields.{list_content}
use Rattle.mt_convert.specs.inner.Forms.{as_operator}
use Rattle.mt_convert.specs.inner.AtomSteps.{BoxWithItalic, as_nucleus, class_nucleus, kind_nucleus, list_box, operator_box, part_box, row_beside, row_with_fields}
use Rattle.mt_convert.specs.inner.OnPieces.{NucleusOn}
use Rattle.mt_convert.specs.inner.Turns.{is_empty_part}
use Rattle.mt_convert.proofs.Appending.{fails_then}
use Rattle.mt_convert.proofs.Behind.{nil_right}
use Rattle.mt_convert.proofs.Turning.{same_empty}
use Rattle.mt_convert.proofs.kinds.Bounds.{a_root}
use Rattle.mt_convert.proofs.kinds.Chains.{first_made, joined}
use Rattle.mt_rules.specs.Nuclei.{clean_field, nucleus_row}

-- ---- a list

-- ---- a clean box

pub clean_symbol_is : (fonts : SetValue) (style : Style) (p : Part) (symbol : Symbol) → p ≡ SymbolPart symbol → clean_field fonts style (content_of fonts p) ≡ clean_symbol fonts style symbol
unfolding clean_field
clean_symbol_is fonts style p symbol e = ap (λ q. clean_field fonts style (content_of fonts q)) e

pub clean_list_is : (fonts : SetValue) (style : Style) (p : Part) (list : Sequence) → p ≡ ListPart list → clean_field fonts style (content_of fonts p) ≡ clean_list (list_content fonts list) style
unfolding clean_field
clean_list_is fonts style p list e = ap (λ q. clean_field fonts style (content_of fonts q)) e

-- neither a symbol nor a list
abbrev pub HasNoBox : Part → Type 0
HasNoBox (SymbolPart symbol) = ⊥
HasNoBox (ListPart list) = ⊥
HasNoBox _ = ⊤

pub clean_empty_is : (fonts : SetValue) (style : Style) (p : Part) → HasNoBox p → clean_field fonts style (content_of fonts p) ≡ Ok empty_layout
unfolding clean_field
clean_empty_is fonts style (SymbolPart symbol) h = absurd h
clean_empty_is fonts style (ListPart list) h = absurd h
clean_empty_is fonts style _ h = refl

pub has_no_box : (es : List Held) (f : Cell) → ((symbol : Symbol) → f ≡ Sym symbol → ⊥) → ((list : Span) → f ≡ OfList list → ⊥) → HasNoBox (cell_part es f)
has_no_box es (Sym symbol) s l = absurd (s symbol refl)
has_no_box es (OfList list) s l = absurd (l list refl)
has_no_box es (OfRoot at) s l = subst HasNoBox (sym (a_root es at).is) tt
has_no_box es _ s l = tt

-- ---- a script

abbrev script_when : Bool → SetValue → Style → Content → Setting (Option Layout)
script_when empty fonts style field = if empty then Ok None else some_box (clean_field fonts style field)

pub no_script : (fonts : SetValue) (style : Style) (p : Part) → is_empty_part p ≡ true → script_box fonts style (content_of fonts p) ≡ Ok None
no_script fonts style p e = ap (λ b. script_when b fonts style (content_of fonts p)) (same_empty fonts p ∙ e)

pub script_is : (fonts : SetValue) (style : Style) (p : Part) → is_empty_part p ≡ false → script_box fonts style (content_of fonts p) ≡ some_box (clean_field fonts style (content_of fonts p))
script_is fonts style p e = ap (λ b. script_when b fonts style (content_of fonts p)) (same_empty fonts p ∙ e)

pub script_made : (fonts : SetValue) (style : Style) (p : Part) (box : Layout) → is_empty_part p ≡ false → clean_field fonts style (content_of fonts p) ≡ Ok box → script_box fonts style (content_of fonts p) ≡ Ok (Some box)
script_made fonts style p box e h = script_is fonts style p e ∙ ap some_box h

pub script_fails : (fault : SetFault) (fonts : SetValue) (style : Style) (p : Part) → is_empty_part p ≡ false → SetFails fault (clean_field fonts style (content_of fonts p)) → SetFails fault (script_box fonts style (content_of fonts p))
script_fails fault fonts style p e h = subst (SetFails fault) (sym (script_is fonts style p e)) (fails_then fault (clean_field fonts style (content_of fonts p)) (λ box. Ok (Some box)) h)

-- ---- both scripts, and what is made with them

abbrev pub with_both_scripts : SetValue → Style → Content → Content → (Option Layout → Option Layout → Setting (List PieceValue)) → Setting (List PieceValue)
with_both_scripts fonts style sup sub next = do
  above ← script_box fonts (sup_of style) sup
  below ← script_box fonts (sub_of style) sub
  next above below

pub sup_fails : (fault : SetFault) (fonts : SetValue) (style style' : Style) (sup sub : Content) (next : Option Layout → Option Layout → Setting (List PieceValue)) → style' ≡ sup_of style → SetFails fault (script_box fonts style' sup) → SetFails fault (with_both_scripts fonts style sup sub next)
sup_fails fault fonts style style' sup sub next e h =
    fails_then fault (script_box fonts (sup_of style) sup) (λ above. script_box fonts (sub_of style) sub >>= (λ below. next above below)) (subst (λ t. SetFails fault (script_box fonts t sup)) e h)

pub sub_fails : (fault : SetFault) (fonts : SetValue) (style up down : Style) (sup sub : Content) (above : Option Layout) (next : Option Layout → Option Layout → Setting (List PieceValue)) → up ≡ sup_of style → down ≡ sub_of style → script_box fonts up sup ≡ Ok above → SetFails fault (script_box fonts down sub) → SetFails fault (with_both_scripts fonts style sup sub next)
sub_fails fault fonts style up down sup sub above next e g k h =
    first_made (SetFails fault) (script_box fonts (sup_of style) sup) above (λ a. script_box fonts (sub_of style) sub >>= (λ below. next a below)) (ap (λ t. script_box fonts t sup) (sym e) ∙ k)
    (fails_then fault (script_box fonts (sub_of style) sub) (λ below. next above below) (subst (λ t. SetFails fault (script_box fonts t sub)) g h))

pub both_made : (P : Setting (List PieceValue) → Type 0) (fonts : SetValue) (style up down : Style) (sup sub : Content) (above below : Option Layout) (next : Option Layout → Option Layout → Setting (List PieceValue)) → up ≡ sup_of style → down ≡ sub_of style → script_box fonts up sup ≡ Ok above → script_box fonts down sub ≡ Ok below → P (next above below) → P (with_both_scripts fonts style sup sub next)
both_made P fonts style up down sup sub above below next e g k l h =
    first_made P (script_box fonts (sup_of style) sup) above (λ a. script_box fonts (sub_of style) sub >>= (λ b. next a b)) (ap (λ t. script_box fonts t sup) (sym e) ∙ k)
    (first_made P (script_box fonts (sub_of style) sub) below (λ b. next above b) (ap (λ t. script_box fonts t sub) (sym g) ∙ l) h)

-- an atom without scripts
pub no_scripts : (P : Setting (List PieceValue) → Type 0) (fonts : SetValue) (style : Style) (p q : Part) (nucleus : Nucleus) → is_empty_part p ≡ true → is_empty_part q ≡ true → P (row_beside fonts style nucleus None None) → P (row_with_fields fonts style nucleus (content_of fonts p) (content_of fonts q))
no_scripts P fonts style p q nucleus e f h =
    both_made P fonts style (sup_of style) (sub_of style) (content_of fonts p) (content_of fonts q) None None (row_beside fonts style nucleus) refl refl (no_script fonts (sup_of style) p e) (no_script fonts (sub_of style) q f) h

-- ---- a nucleus

pub symbol_nucleus_is : (class : Class) (fonts : SetValue) (style : Style) (role : SymbolRole) (p : Part) (symbol : Symbol) (has_subscript : Bool) → p ≡ SymbolPart symbol → class_nucleus class fonts style role (content_of fonts p) has_subscript ≡ class_nucleus class fonts style role (SymbolContent symbol) has_subscript
symbol_nucleus_is class fonts style role p symbol has_subscript e = ap (λ q. class_nucleus class fonts style role (content_of fonts q) has_subscript) e

-- the row of a list, packed
pub packed_is : (list : RowByStyle) (style : Style) → packed_list list style ≡ as_nucleus (list_box list style)
packed_is list style = joined (list style) pack_row (λ box. Ok (box_nucleus box))

class_of_list : (class : Class) (fonts : SetValue) (style : Style) (role : SymbolRole) (list : Sequence) (has_subscript : Bool) → class_nucleus class fonts style role (content_of fonts (ListPart list)) has_subscript ≡ packed_list (list_content fonts list) style
unfolding nucleus_row
class_of_list Ord fonts style role list has_subscript = refl
class_of_list _ fonts style role list has_subscript = refl

pub list_nucleus_is : (class : Class) (fonts : SetValue) (style : Style) (role : SymbolRole) (p : Part) (list : Sequence) (has_subscript : Bool) → p ≡ ListPart list → class_nucleus class fonts style role (content_of fonts p) has_subscript ≡ as_nucleus (list_box (list_content fonts list) style)
list_nucleus_is class fonts style role p list has_subscript e =
    ap (λ q. class_nucleus class fonts style role (content_of fonts q) has_subscript) e
    ∙ (class_of_list class fonts style role list has_subscript ∙ packed_is (list_content fonts list) style)

-- nothing is put
pub no_row : (old : List PieceValue) (setting : Setting Nucleus) → setting ≡ Ok empty_nucleus → NucleusOn (pos 0) old old setting
no_row old setting e = record { row = []; is = e; stays = nil_right old; few = omega arith; small = record { low = omega (arith, ints); high = omega (arith, ints) } }

-- nor a big delimiter
abbrev pub HasNoNucleus : Part → Type 0
HasNoNucleus (SymbolPart symbol) = ⊥
HasNoNucleus (ListPart list) = ⊥
HasNoNucleus (BigPart delim level) = ⊥
HasNoNucleus _ = ⊤

pub has_no_nucleus : (es : List Held) (f : Cell) → ((symbol : Symbol) → f ≡ Sym symbol → ⊥) → ((list : Span) → f ≡ OfList list → ⊥) → ((delim : Delim) (level : ℕ) → f ≡ OfBig delim level → ⊥) → HasNoNucleus (cell_part es f)
has_no_nucleus es (Sym symbol) s l b = absurd (s symbol refl)
has_no_nucleus es (OfList list) s l b = absurd (l list refl)
has_no_nucleus es (OfRoot at) s l b = subst HasNoNucleus (sym (a_root es at).is) tt
has_no_nucleus es (OfBig delim level) s l b = absurd (b delim level refl)
has_no_nucleus es _ s l b = tt

empty_row_is : (fonts : SetValue) (style : Style) (role : SymbolRole) (p : Part) (has_subscript : Bool) → HasNoNucleus p → nucleus_row fonts style (content_of fonts p) role has_subscript ≡ Ok empty_nucleus
unfolding nucleus_row
empty_row_is fonts style role (SymbolPart symbol) has_subscript h = absurd h
empty_row_is fonts style role (ListPart list) has_subscript h = absurd h
empty_row_is fonts style role (BigPart delim level) has_subscript h = absurd h
empty_row_is fonts style role _ has_subscript h = refl

empty_beside_is : (fonts : SetValue) (style : Style) (p : Part) (has_subscript : Bool) → HasNoNucleus p → nucleus_beside_scripts fonts style (content_of fonts p) has_subscript ≡ Ok empty_nucleus
empty_beside_is fonts style (SymbolPart symbol) has_subscript h = absurd h
empty_beside_is fonts style (ListPart list) has_subscript h = absurd h
empty_beside_is fonts style (BigPart delim level) has_subscript h = absurd h
empty_beside_is fonts style _ has_subscript h = refl

pub empty_nucleus_is : (class : Class) (fonts : SetValue) (style : Style) (role : SymbolRole) (p : Part) (has_subscript : Bool) → HasNoNucleus p → class_nucleus class fonts style role (content_of fonts p) has_subscript ≡ Ok empty_nucleus
empty_nucleus_is Op fonts style role p has_subscript h = empty_beside_is fonts style p has_subscript h
empty_nucleus_is _ fonts style role p has_subscript h = empty_row_is fonts style role p has_subscript h

class_of_big : (class : Class) (fonts : SetValue) (style : Style) (role : SymbolRole) (delim : Delim) (level : ℕ) (has_subscript : Bool) → class_nucleus class fonts style role (BigContent delim level) has_subscript ≡ big_nucleus fonts delim level
unfolding nucleus_row
class_of_big Ord fonts style role delim level has_subscript = refl
class_of_big _ fonts style role delim level has_subscript = refl

pub big_nucleus_is : (class : Class) (fonts : SetValue) (style : Style) (role : SymbolRole) (p : Part) (delim : Delim) (level : ℕ) (has_subscript : Bool) → p ≡ BigPart delim level → class_nucleus class fonts style role (content_of fonts p) has_subscript ≡ big_nucleus fonts delim level
big_nucleus_is class fonts style role p delim level has_subscript e = ap (λ q. class_nucleus class fonts style role (content_of fonts q) has_subscript) e ∙ class_of_big class fonts style role delim level has_subscript

-- ---- an operator under limits

pub symbol_operator_is : (fonts : SetValue) (style : Style) (p : Part) (symbol : Symbol) → p ≡ SymbolPart symbol → operator_box fonts style (content_of fonts p) ≡ operator_box fonts style (SymbolContent symbol)
symbol_operator_is fonts style p symbol e = ap (λ q. operator_box fonts style (content_of fonts q)) e

abbrev list_nucleus : List PieceValue → Setting Nucleus
list_nucleus row = Ok (record { row = row; delta = pos 0 })

abbrev box_of_nucleus : Nucleus → Setting BoxWithItalic
box_of_nucleus nucleus = make_clean nucleus.row >>= (λ box. Ok (record { box = box; delta = nucleus.delta }))

operator_joined : (s : Setting (List PieceValue)) → ((s >>= list_nucleus) >>= box_of_nucleus) ≡ as_operator (s >>= make_clean)
operator_joined (Ok row) = refl
operator_joined (Err fault) = refl

pub list_operator_is : (fonts : SetValue) (style : Style) (p : Part) (list : Sequence) → p ≡ ListPart list → operator_box fonts style (content_of fonts p) ≡ as_operator (clean_list (list_content fonts list) style)
list_operator_is fonts style p list e = ap (λ q. operator_box fonts style (content_of fonts q)) e ∙ operator_joined (list_content fonts list style)

pub big_operator_is : (fonts : SetValue) (style : Style) (p : Part) (delim : Delim) (level : ℕ) → p ≡ BigPart delim level → operator_box fonts style (content_of fonts p) ≡ operator_box fonts style (BigContent delim level)
big_operator_is fonts style p delim level e = ap (λ q. operator_box fonts style (content_of fonts q)) e

pub empty_operator_is : (fonts : SetValue) (style : Style) (p : Part) → HasNoNucleus p → operator_box fonts style (content_of fonts p) ≡ as_operator (Ok empty_layout)
empty_operator_is fonts style (SymbolPart symbol) h = absurd h
empty_operator_is fonts style (ListPart list) h = absurd h
empty_operator_is fonts style (BigPart delim level) h = absurd h
empty_operator_is fonts style _ h = refl

-- ---- a symbol in an atom that is no operator

pub other_symbol_is : (class : Class) (fonts : SetValue) (style : Style) (role : SymbolRole) (symbol : Symbol) (has_subscript : Bool) → (class ≡ Op → ⊥) → class_nucleus class fonts style role (SymbolContent symbol) has_subscript ≡ symbol_nucleus fonts (size_of style) symbol role has_subscript
unfolding nucleus_row
other_symbol_is Op fonts style role symbol has_subscript h = absurd (h refl)
other_symbol_is _ fonts style role symbol has_subscript h = refl

-- ---- an atom of any kind but the plain one

pub part_nucleus_is : (kind : Kind) (fonts : SetValue) (style : Style) (role : SymbolRole) (field : Content) (has_subscript : Bool) → ((class : Class) → kind ≡ Plain class → ⊥) → kind_nucleus kind fonts style role field has_subscript ≡ as_nucleus (part_box kind fonts style field)
part_nucleus_is (Plain class) fonts style role field has_subscript n = absurd (n class refl)
part_nucleus_is _ fonts style role field has_subscript n = refl
