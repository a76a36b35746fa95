-- What a turn leaves: a smaller list, with no more items, nesting or amounts (`turn_keeps`), and the same as in the definition (`same_turn`).
use Rattle.std.proofs.Common.{◌≡◌, ℕ, ◌+◌, ◌≤◌, max, ap, sym, ◌∙◌, refl, arith, [], ◌∷◌, Option, Some, None, pos, Bool, true, false, ◌&&◌, if◌then◌else◌}
use Rattle.mt_convert.proofs.Common.{ints, Pair, Size, SetValue, Class, Kind, Limits, Style, D, Symbol, size_of, is_display_or_text, OrdinarySymbol, TextSymbol, SmartPair, is_empty, Sequence, Element, Part, End, More, AtomElement, FractionElement, LeftElement, MiddleElement, RightElement, StyleElement, ChoiceElement, MuSpaceElement, SpaceElement, MuKernElement, KernElement, NonscriptElement, EmptyPart, sequence_size, element_size, list_items, element_items, list_nesting, element_nesting, ListAmounts, ElementAmounts, IsAmount, Current, SymbolPair, MoreItems, StyleItem, append_items, is_ord_by_now, is_any_but_inner, content_symbol, first_symbol, symbol_of_item, next_symbol, symbol_pair, pair_of_fonts, items_of, item_of, content_of, Passes, Rewrites, FlatSpace, turn, atom_turn, pair_turn, as_symbol, first_as_symbol, list_for, is_space_or_kern, without_space, after_nonscript, no_glue, append_list}
use Rattle.mt_tfm.specs.declared.pair.Pair.TheVariants.{None as NoPair, Kern as KernPair, Join as JoinPair, Smart as RefusedPair}
use Rattle.mt_convert.specs.inner.Fields.{atom_content}
use Rattle.mt_convert.specs.inner.Turns.{PassedElement, PassedAtom, PassedFraction, PassedLeft, PassedMiddle, PassedRight, PassedStyle, PassedMuSpace, PassedSpace, PassedMuKern, PassedKern, ListTurn, PassesOne, RewritesTo, element_of_passed, part_symbol, is_empty_part, symbol_before, symbol_of_element, next_symbol_of, element_as_symbol, first_element_as, turn_by_pair, turn_of_atom, is_space_element, list_without_space, list_after_nonscript, turn_of, turn_meaning}
use Rattle.mt_convert.proofs.Choosing.{one_of_four}

-- ---- in size, items, nesting and amounts

abbrev pub turn_size : ListTurn → ℕ
turn_size (PassesOne p rest) = element_size (element_of_passed p) + sequence_size rest
turn_size (RewritesTo rest) = sequence_size rest + 1

abbrev pub turn_items : ListTurn → ℕ
turn_items (PassesOne p rest) = element_items (element_of_passed p) + list_items rest
turn_items (RewritesTo rest) = list_items rest

abbrev pub turn_nesting : ListTurn → ℕ
turn_nesting (PassesOne p rest) = max (element_nesting (element_of_passed p)) (list_nesting rest)
turn_nesting (RewritesTo rest) = list_nesting rest

abbrev pub TurnAmounts : ListTurn → Type 0
TurnAmounts (PassesOne p rest) = ElementAmounts (element_of_passed p) × ListAmounts rest
TurnAmounts (RewritesTo rest) = ListAmounts rest

pub record TurnKeeps (e : Element) (s : Sequence) (t : ListTurn) : Type 0 where
  pub size : turn_size t ≤ element_size e + sequence_size s
  pub items : turn_items t ≤ element_items e + list_items s
  pub nesting : turn_nesting t ≤ max (element_nesting e) (list_nesting s)
  pub amounts : ElementAmounts e → ListAmounts s → TurnAmounts t

pub positive : (s : Sequence) → 1 ≤ sequence_size s
positive End = omega arith
positive (More e s) = omega (arith, positive s)

pub element_positive : (e : Element) → 1 ≤ element_size e
element_positive (AtomElement kind limits nucleus sup sub) = omega arith
element_positive _ = omega arith

pub nesting_positive : (s : Sequence) → 1 ≤ list_nesting s
nesting_positive End = omega arith
nesting_positive (More e s) = omega (arith, nesting_positive s)

size_append : (s t : Sequence) → sequence_size (append_list s t) + 1 ≡ sequence_size s + sequence_size t
size_append End t = omega arith
size_append (More e s) t = omega (arith, size_append s t)

items_append : (s t : Sequence) → list_items (append_list s t) ≡ list_items s + list_items t
items_append End t = omega arith
items_append (More e s) t = omega (arith, items_append s t)

nesting_append : (s t : Sequence) → list_nesting (append_list s t) ≡ max (list_nesting s) (list_nesting t)
nesting_append End t = omega (arith, nesting_positive t)
nesting_append (More e s) t = omega (arith, nesting_append s t)

amounts_append : (s t : Sequence) → ListAmounts s → ListAmounts t → ListAmounts (append_list s t)
amounts_append End t g h = h
amounts_append (More e s) t g h = (g.0, amounts_append s t g.1 h)

passes_as_it_is : (p : PassedElement) (s : Sequence) → TurnKeeps (element_of_passed p) s (PassesOne p s)
passes_as_it_is p s = record { size = omega arith; items = omega arith; nesting = omega arith; amounts = λ g h. (g, h) }

-- a choice, by what is known of the list that is taken
choice_with : (style : Style) (a b c d taken s : Sequence) → sequence_size taken + 3 ≤ sequence_size a + sequence_size b + sequence_size c + sequence_size d → list_items taken ≤ list_items a + list_items b + list_items c + list_items d → list_nesting taken ≤ max (list_nesting a) (max (list_nesting b) (max (list_nesting c) (list_nesting d))) → (ElementAmounts (ChoiceElement a b c d) → ListAmounts taken) → TurnKeeps (ChoiceElement a b c d) s (RewritesTo (More (StyleElement style) (append_list taken s)))
choice_with style a b c d taken s size items nesting amounts = record {
  size = omega (arith, size, size_append taken s);
  items = omega (arith, items, items_append taken s);
  nesting = omega (arith, nesting, nesting_append taken s, nesting_positive taken);
  amounts = λ g h. (tt, amounts_append taken s (amounts g) h);
}

choice_keeps : (current : Current) (style : Style) (a b c d s : Sequence) → TurnKeeps (ChoiceElement a b c d) s (RewritesTo (More (StyleElement current.style) (append_list (list_for style a b c d) s)))
choice_keeps current style a b c d s =
    one_of_four (λ x. TurnKeeps (ChoiceElement a b c d) s (RewritesTo (More (StyleElement current.style) (append_list x s)))) style a b c d
    (choice_with current.style a b c d a s (omega (arith, positive b, positive c, positive d)) (omega arith) (omega arith) (λ g. g.0))
    (choice_with current.style a b c d b s (omega (arith, positive a, positive c, positive d)) (omega arith) (omega arith) (λ g. g.1))
    (choice_with current.style a b c d c s (omega (arith, positive a, positive b, positive d)) (omega arith) (omega arith) (λ g. g.2))
    (choice_with current.style a b c d d s (omega (arith, positive a, positive b, positive c)) (omega arith) (omega arith) (λ g. g.3))

-- ---- a part of the rest, or a smaller one in its place

record ListIsLess (s t : Sequence) : Type 0 where
  size : sequence_size t ≤ sequence_size s
  items : list_items t ≤ list_items s
  nesting : list_nesting t ≤ list_nesting s
  amounts : ListAmounts s → ListAmounts t

same_list : (s : Sequence) → ListIsLess s s
same_list s = record { size = omega arith; items = omega arith; nesting = omega arith; amounts = λ h. h }

without_first : (taken : Bool) (e : Element) (s : Sequence) → ListIsLess (More e s) (if taken then s else More e s)
without_first true e s = record { size = omega arith; items = omega arith; nesting = omega arith; amounts = λ h. h.1 }
without_first false e s = same_list (More e s)

less_without_space : (s : Sequence) → ListIsLess s (list_without_space s)
less_without_space End = same_list End
less_without_space (More e s) = without_first (is_space_element e) e s

less_if : (at_size : Bool) (s : Sequence) → ListIsLess s (if at_size then s else list_without_space s)
less_if true s = same_list s
less_if false s = less_without_space s

no_amount : IsAmount (pos 0)
no_amount = record { low = omega (arith, ints); high = omega (arith, ints) }

nonscript_with : (s t : Sequence) → ListIsLess s t → TurnKeeps NonscriptElement s (PassesOne (PassedSpace no_glue) t)
nonscript_with s t l = record {
  size = omega (arith, l.size);
  items = omega (arith, l.items);
  nesting = omega (arith, l.nesting);
  amounts = λ g h. ((no_amount, no_amount), l.amounts h);
}

-- ---- an atom that becomes an ordinary symbol is not larger

record ElementIsLess (e f : Element) : Type 0 where
  size : element_size f ≤ element_size e
  items : element_items f ≤ element_items e
  nesting : element_nesting f ≤ element_nesting e
  amounts : ElementAmounts e → ElementAmounts f

same_element : (e : Element) → ElementIsLess e e
same_element e = record { size = omega arith; items = omega arith; nesting = omega arith; amounts = λ g. g }

less_as_symbol : (symbol : Symbol) (e : Element) → ElementIsLess e (element_as_symbol symbol e)
less_as_symbol symbol (AtomElement kind limits nucleus sup sub) = record { size = omega arith; items = omega arith; nesting = omega arith; amounts = λ g. (tt, g.1, g.2) }
less_as_symbol symbol _ = same_element _

joined_keeps : (symbol : Symbol) (e : Element) (s : Sequence) → TurnKeeps e s (RewritesTo (first_element_as symbol s))
joined_keeps symbol e End = record { size = omega (arith, element_positive e); items = omega arith; nesting = omega arith; amounts = λ g h. h }
joined_keeps symbol e (More f s) =
    let l = less_as_symbol symbol f in
    record {
      size = omega (arith, element_positive e, l.size);
      items = omega (arith, l.items);
      nesting = omega (arith, l.nesting);
      amounts = λ g h. (l.amounts h.0, h.1);
    }

pair_keeps : (p : SymbolPair) (kind : Kind) (limits : Limits) (nucleus sup sub : Part) (s : Sequence) (found : Option Pair) → TurnKeeps (AtomElement kind limits nucleus sup sub) s (turn_by_pair p (PassedAtom kind limits nucleus sup sub) s found)
pair_keeps p kind limits nucleus sup sub s None = passes_as_it_is (PassedAtom kind limits nucleus sup sub OrdinarySymbol None) s
pair_keeps p kind limits nucleus sup sub s (Some NoPair) = passes_as_it_is (PassedAtom kind limits nucleus sup sub TextSymbol None) s
pair_keeps p kind limits nucleus sup sub s (Some (KernPair amount)) = passes_as_it_is (PassedAtom kind limits nucleus sup sub TextSymbol (Some amount)) s
pair_keeps p kind limits nucleus sup sub s (Some (JoinPair code)) = joined_keeps (record { fam = p.fam; code = code }) (AtomElement kind limits nucleus sup sub) s
pair_keeps p kind limits nucleus sup sub s (Some RefusedPair) = passes_as_it_is (PassedAtom kind limits nucleus sup sub (SmartPair p.first p.second) None) s

atom_keeps : (fonts : SetValue) (size : Size) (kind : Kind) (limits : Limits) (nucleus sup sub : Part) (s : Sequence) (p : Option SymbolPair) → TurnKeeps (AtomElement kind limits nucleus sup sub) s (turn_of_atom fonts size (PassedAtom kind limits nucleus sup sub) s p)
atom_keeps fonts size kind limits nucleus sup sub s None = passes_as_it_is (PassedAtom kind limits nucleus sup sub OrdinarySymbol None) s
atom_keeps fonts size kind limits nucleus sup sub s (Some p) = pair_keeps p kind limits nucleus sup sub s (pair_of_fonts fonts size p)

pub turn_keeps : (fonts : SetValue) (current : Current) (e : Element) (s : Sequence) → TurnKeeps e s (turn_of fonts current e s)
turn_keeps fonts current (AtomElement kind limits nucleus sup sub) s =
    atom_keeps fonts (size_of current.style) kind limits nucleus sup sub s (symbol_pair (symbol_before current.last kind nucleus sup sub) (next_symbol_of s))
turn_keeps fonts current (FractionElement thickness left right num den) s = passes_as_it_is (PassedFraction thickness left right num den) s
turn_keeps fonts current (LeftElement delim) s = passes_as_it_is (PassedLeft delim) s
turn_keeps fonts current (MiddleElement delim) s = passes_as_it_is (PassedMiddle delim) s
turn_keeps fonts current (RightElement delim) s = passes_as_it_is (PassedRight delim) s
turn_keeps fonts current (StyleElement style) s = passes_as_it_is (PassedStyle style) s
turn_keeps fonts current (ChoiceElement display text script small) s = choice_keeps current current.style display text script small s
turn_keeps fonts current (MuSpaceElement glue) s = passes_as_it_is (PassedMuSpace glue) s
turn_keeps fonts current (SpaceElement glue) s = passes_as_it_is (PassedSpace glue) s
turn_keeps fonts current (MuKernElement amount) s = passes_as_it_is (PassedMuKern amount) s
turn_keeps fonts current (KernElement amount) s = passes_as_it_is (PassedKern amount) s
turn_keeps fonts current NonscriptElement s = nonscript_with s (list_after_nonscript current.style s) (less_if (is_display_or_text current.style) s)

-- ---- the same turn as in the definition

items_append_list : (fonts : SetValue) (s t : Sequence) → items_of fonts (append_list s t) ≡ append_items (items_of fonts s) (items_of fonts t)
items_append_list fonts End t = refl
items_append_list fonts (More e s) t = ap (λ r. MoreItems (item_of fonts e) r) (items_append_list fonts s t)

same_list_for : (fonts : SetValue) (style : Style) (a b c d : Sequence) → list_for style (items_of fonts a) (items_of fonts b) (items_of fonts c) (items_of fonts d) ≡ items_of fonts (list_for style a b c d)
same_list_for fonts D a b c d = refl
same_list_for fonts _ a b c d = refl

pub same_empty : (fonts : SetValue) (part : Part) → is_empty (content_of fonts part) ≡ is_empty_part part
same_empty fonts EmptyPart = refl
same_empty fonts _ = refl

same_part_symbol : (fonts : SetValue) (part : Part) → content_symbol (content_of fonts part) ≡ part_symbol part
same_part_symbol fonts EmptyPart = refl
same_part_symbol fonts _ = refl

same_first : (fonts : SetValue) (last : Option Class) (kind : Kind) (limits : Limits) (nucleus sup sub : Part) → first_symbol last (atom_content fonts kind limits nucleus sup sub) ≡ symbol_before last kind nucleus sup sub
same_first fonts last kind limits nucleus sup sub =
    ap (λ x. if is_ord_by_now last kind && (x && is_empty (content_of fonts sub)) then content_symbol (content_of fonts nucleus) else None) (same_empty fonts sup)
    ∙ (ap (λ x. if is_ord_by_now last kind && (is_empty_part sup && x) then content_symbol (content_of fonts nucleus) else None) (same_empty fonts sub)
    ∙ ap (λ x. if is_ord_by_now last kind && (is_empty_part sup && is_empty_part sub) then x else None) (same_part_symbol fonts nucleus))

same_symbol_of : (fonts : SetValue) (e : Element) → symbol_of_item (item_of fonts e) ≡ symbol_of_element e
same_symbol_of fonts (AtomElement kind limits nucleus sup sub) = ap (λ x. if is_any_but_inner kind then x else None) (same_part_symbol fonts nucleus)
same_symbol_of fonts _ = refl

same_next : (fonts : SetValue) (s : Sequence) → next_symbol (items_of fonts s) ≡ next_symbol_of s
same_next fonts End = refl
same_next fonts (More e s) = same_symbol_of fonts e

same_as_symbol : (fonts : SetValue) (symbol : Symbol) (e : Element) → as_symbol symbol (item_of fonts e) ≡ item_of fonts (element_as_symbol symbol e)
same_as_symbol fonts symbol (AtomElement kind limits nucleus sup sub) = refl
same_as_symbol fonts symbol _ = refl

same_joined : (fonts : SetValue) (symbol : Symbol) (s : Sequence) → first_as_symbol symbol (items_of fonts s) ≡ items_of fonts (first_element_as symbol s)
same_joined fonts symbol End = refl
same_joined fonts symbol (More e s) = ap (λ item. MoreItems item (items_of fonts s)) (same_as_symbol fonts symbol e)

same_by_pair : (fonts : SetValue) (p : SymbolPair) (kind : Kind) (limits : Limits) (nucleus sup sub : Part) (s : Sequence) (found : Option Pair) → pair_turn p (atom_content fonts kind limits nucleus sup sub) (items_of fonts s) found ≡ turn_meaning fonts (turn_by_pair p (PassedAtom kind limits nucleus sup sub) s found)
same_by_pair fonts p kind limits nucleus sup sub s (Some (JoinPair code)) = ap Rewrites (same_joined fonts (record { fam = p.fam; code = code }) s)
same_by_pair fonts p kind limits nucleus sup sub s _ = refl

same_of_atom : (fonts : SetValue) (size : Size) (kind : Kind) (limits : Limits) (nucleus sup sub : Part) (s : Sequence) (p : Option SymbolPair) → atom_turn fonts size (atom_content fonts kind limits nucleus sup sub) (items_of fonts s) p ≡ turn_meaning fonts (turn_of_atom fonts size (PassedAtom kind limits nucleus sup sub) s p)
same_of_atom fonts size kind limits nucleus sup sub s None = refl
same_of_atom fonts size kind limits nucleus sup sub s (Some p) = same_by_pair fonts p kind limits nucleus sup sub s (pair_of_fonts fonts size p)

same_atom : (fonts : SetValue) (current : Current) (kind : Kind) (limits : Limits) (nucleus sup sub : Part) (s : Sequence) → turn fonts current (item_of fonts (AtomElement kind limits nucleus sup sub)) (items_of fonts s) ≡ turn_meaning fonts (turn_of fonts current (AtomElement kind limits nucleus sup sub) s)
same_atom fonts current kind limits nucleus sup sub s =
    let a = atom_content fonts kind limits nucleus sup sub in
    ap (λ x. atom_turn fonts (size_of current.style) a (items_of fonts s) (symbol_pair x (next_symbol (items_of fonts s)))) (same_first fonts current.last kind limits nucleus sup sub)
    ∙ (ap (λ x. atom_turn fonts (size_of current.style) a (items_of fonts s) (symbol_pair (symbol_before current.last kind nucleus sup sub) x)) (same_next fonts s)
    ∙ same_of_atom fonts (size_of current.style) kind limits nucleus sup sub s (symbol_pair (symbol_before current.last kind nucleus sup sub) (next_symbol_of s)))

same_is_space : (fonts : SetValue) (e : Element) → is_space_or_kern (item_of fonts e) ≡ is_space_element e
same_is_space fonts (AtomElement kind limits nucleus sup sub) = refl
same_is_space fonts _ = refl

items_if : (fonts : SetValue) (b : Bool) (s t : Sequence) → (if b then items_of fonts s else items_of fonts t) ≡ items_of fonts (if b then s else t)
items_if fonts true s t = refl
items_if fonts false s t = refl

same_without_space : (fonts : SetValue) (s : Sequence) → without_space (items_of fonts s) ≡ items_of fonts (list_without_space s)
same_without_space fonts End = refl
same_without_space fonts (More e s) =
    ap (λ b. if b then items_of fonts s else items_of fonts (More e s)) (same_is_space fonts e)
    ∙ items_if fonts (is_space_element e) s (More e s)

same_nonscript : (fonts : SetValue) (style : Style) (s : Sequence) → after_nonscript style (items_of fonts s) ≡ items_of fonts (list_after_nonscript style s)
same_nonscript fonts style s =
    ap (λ x. if is_display_or_text style then items_of fonts s else x) (same_without_space fonts s)
    ∙ items_if fonts (is_display_or_text style) s (list_without_space s)

pub same_turn : (fonts : SetValue) (current : Current) (e : Element) (s : Sequence) → turn fonts current (item_of fonts e) (items_of fonts s) ≡ turn_meaning fonts (turn_of fonts current e s)
same_turn fonts current (AtomElement kind limits nucleus sup sub) s = same_atom fonts current kind limits nucleus sup sub s
same_turn fonts current (ChoiceElement display text script small) s =
    ap (λ x. Rewrites (MoreItems (StyleItem current.style) (append_items x (items_of fonts s)))) (same_list_for fonts current.style display text script small)
    ∙ ap (λ x. Rewrites (MoreItems (StyleItem current.style) x)) (sym (items_append_list fonts (list_for current.style display text script small) s))
same_turn fonts current NonscriptElement s = ap (λ x. Passes (FlatSpace no_glue ∷ []) x) (same_nonscript fonts current.style s)
same_turn fonts current _ s = refl
