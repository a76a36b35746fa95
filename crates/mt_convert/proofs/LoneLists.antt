-- The list of one atom alone (`lone_list`): its row is that of the atom, tested once more.
use Rattle.std.proofs.Common.{◌≡◌, ℕ, suc, ◌≤◌, ◌-◌, ◌+◌, List, [], ◌∷◌, length, take, drop, zero, ap, refl, sym, subst, ◌∙◌, arith, append-nil, slice_get, Option, Some, None, Result, Ok, Err}
use Rattle.mt_convert.proofs.Common.{drop_all, SetValue, PieceValue, Style, Symbol, AtomContent, atom_row, OrdinarySymbol, Class, Sequence, Element, End, More, sequence_size, size_of, IsModestList, Setting, ◌>>=◌, make_row, Noad, Span, Thing, Held, as_sequence, sequence_in, thing_end, value_in, HeldLists, SetFault, SetFails, SetsRowOn, Current, opening, set_items, FlatAtom, atom_turn, flat, flat_by, HalfAtom, settle, first_symbol, symbol_pair, row_of_items, AtomItem, MoreItems, NoItems}
use Rattle.std.proofs.lemmas.List.{length-take}
use Rattle.mt_arena.specs.declared.thing.Thing.TheVariants as thing
use Rattle.mt_arena.proofs.Growing.{next_in}
use Rattle.mt_convert.specs.inner.Fields.{atom_row_of, list_content}
use Rattle.mt_convert.specs.inner.Modest.{IsModestElement}
use Rattle.mt_convert.specs.inner.OnPieces.{AtomOn, TestsRow}
use Rattle.mt_convert.specs.inner.Spans.{ModestAtom, ModestSpan, atom_in}
use Rattle.mt_convert.proofs.Appending.{fails_then}
use Rattle.mt_convert.proofs.Behind.{row_behind}
use Rattle.mt_convert.specs.SecondPass.{second_pass_of}
use Rattle.mt_convert.specs.FirstPass.{first_pass_of}

-- ---- its atom in the arena

pub lone_thing : (es : List Held) (list : Span) (a : Noad) → list.end - list.start ≡ 1 → list.end ≤ length es → slice_get es list.start ≡ Some (value_in es (thing.Atom a)) → sequence_in es list ≡ More (atom_in es a) End
lone_thing es list a n l s =
    ap as_sequence (next_in es list.start list.end (value_in es (thing.Atom a)) (omega (arith, n)) l s
    ∙ ap (λ hs. value_in es (thing.Atom a) ∷ hs) (drop_all (list.start + 1) (take list.end es) (omega (arith, n, length-take list.end es))))

modest_first : (e : Element) (s : Sequence) → IsModestList (More e s) → IsModestElement e
modest_first e s m = record { nesting = omega (arith, m.nesting); items = omega (arith, m.items); amounts = m.amounts.0 }

pub lone_found : (es : List Held) (list : Span) (a : Noad) (t : Thing) → ModestSpan es list → list.end - list.start ≡ 1 → t ≡ thing.Atom a → slice_get es list.start ≡ Some (value_in es t) → thing_end t ≤ list.start → HeldLists (value_in es t) → ModestAtom es a
lone_found es list a t m n is s l k = record {
  within = omega (arith, n, subst (λ x. thing_end x ≤ list.start) is l, m.within);
  modest = modest_first (atom_in es a) End (subst IsModestList (lone_thing es list a n m.within (subst (λ x. slice_get es list.start ≡ Some (value_in es x)) is s)) m.modest);
  kept = subst (λ x. HeldLists (value_in es x)) is k;
}

-- ---- its row

no_pair : (first : Option Symbol) → symbol_pair first None ≡ None
no_pair None = refl
no_pair (Some s) = refl

flat_none : (fonts : SetValue) (turns : ℕ) (current : Current) → flat fonts turns current NoItems ≡ []
flat_none fonts zero current = refl
flat_none fonts (suc turns) current = refl

flat_lone : (fonts : SetValue) (turns : ℕ) (style : Style) (a : AtomContent) → flat fonts (suc turns) (opening style) (MoreItems (AtomItem a) NoItems) ≡ FlatAtom OrdinarySymbol a ∷ []
flat_lone fonts turns style a =
    ap (λ p. flat_by (flat fonts turns) (opening style) (atom_turn fonts (size_of style) a NoItems p)) (no_pair (first_symbol None a))
    ∙ ap (λ items. FlatAtom OrdinarySymbol a ∷ items) (flat_none fonts turns _)

passes_lone : (fonts : SetValue) (style : Style) (class : Class) (s : Setting (List PieceValue))
    → (((s >>= (λ row. Ok (HalfAtom class row))) >>= (λ half. Ok (half ∷ []))) >>= (λ halves. Ok (settle halves))) >>= (λ halves. second_pass_of fonts style halves) ≡ s >>= make_row
unfolding second_pass_of
passes_lone fonts style class (Ok row) = ap make_row (append-nil row)
passes_lone fonts style class (Err f) = refl

lone_by : (fonts : SetValue) (style : Style) (a : AtomContent) (turns : ℕ) → 1 ≤ turns → row_of_items fonts turns (MoreItems (AtomItem a) NoItems) style ≡ atom_row fonts style OrdinarySymbol a >>= make_row
unfolding first_pass_of
lone_by fonts style a zero le = absurd (omega (arith, le))
lone_by fonts style a (suc turns) le =
    ap (λ items. (set_items fonts (opening style) items >>= (λ halves. Ok (settle halves))) >>= (λ halves. second_pass_of fonts style halves)) (flat_lone fonts turns style a)
    ∙ passes_lone fonts style _ (atom_row fonts style OrdinarySymbol a)

pub lone_list : (fonts : SetValue) (style : Style) (es : List Held) (a : Noad) (list : Sequence) → list ≡ More (atom_in es a) End → list_content fonts list style ≡ atom_row_of fonts es style OrdinarySymbol a >>= make_row
lone_list fonts style es a list e = ap (λ l. list_content fonts l style) e ∙ lone_by fonts style _ (sequence_size (More (atom_in es a) End)) (omega arith)

pub lone_set : {U : Type 0} (r : Result U SetFault) (fonts : SetValue) (style : Style) (es : List Held) (a : Noad) (list : Sequence) (first : ℕ) (old now : List PieceValue) → list ≡ More (atom_in es a) End → first ≡ length old
    → AtomOn old now (atom_row_of fonts es style OrdinarySymbol a) → TestsRow r (drop first now) → SetsRowOn r old now (list_content fonts list style)
lone_set (Ok u) fonts style es a list first old now e f k t = record {
  row = k.row;
  is = lone_list fonts style es a list e ∙ (ap (λ s. s >>= make_row) k.is ∙ subst (λ row. make_row row ≡ Ok row) (row_behind first old k.row now f k.stays) t);
  stays = k.stays;
}
lone_set (Err fault) fonts style es a list first old now e f k t =
    subst (SetFails fault) (sym (lone_list fonts style es a list e ∙ ap (λ s. s >>= make_row) k.is)) (subst (λ row. SetFails fault (make_row row)) (row_behind first old k.row now f k.stays) t)

pub lone_err : (fonts : SetValue) (style : Style) (es : List Held) (a : Noad) (list : Sequence) (fault : SetFault) → list ≡ More (atom_in es a) End → SetFails fault (atom_row_of fonts es style OrdinarySymbol a) → SetFails fault (list_content fonts list style)
lone_err fonts style es a list fault e h = subst (SetFails fault) (sym (lone_list fonts style es a list e)) (fails_then fault (atom_row_of fonts es style OrdinarySymbol a) make_row h)
