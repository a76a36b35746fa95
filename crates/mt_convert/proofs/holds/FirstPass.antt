-- The items of a list hold where the rows of the lists inside them do: along the flat list, and through the first pass.
use Rattle.std.proofs.Common.{ℕ, zero, suc, ℤ, List, [], ◌∷◌, ◌++◌, Option, Some, None, Bool, true, false, if◌then◌else◌, IfOk, Ok}
use Rattle.mt_convert.proofs.Common.{Pair, Size, SetValue, Class, Inner, Style, Symbol, Glue, size_of, is_display_or_text, kind_class, forward_of, ◌>>=◌, ◌>>◌, test_value, AtomContent, atom_row, fraction_row, Current, opening, ItemContent, AtomItem, FractionItem, ChoiceItem, NonscriptItem, ItemContents, NoItems, MoreItems, append_items, SymbolPair, pair_with_next, pair_of_fonts, FlatItem, FlatAtom, FlatFraction, FlatLeft, FlatMiddle, FlatRight, FlatStyle, FlatMuSpace, FlatSpace, FlatMuKern, FlatKern, current_after_item, FrontTurn, Passes, Rewrites, as_symbol, first_as_symbol, pair_turn, atom_turn, list_for, is_space_or_kern, without_space, turn, current_after_items, flat_by, flat, HalfValue, HalfAtom, HalfLeft, HalfMiddle, HalfRight, HalfStyle, HalfKern, HalfSpace, Halves, next_class, settled_half, settled_halves, settle, in_points, glue_in_points, make_space, make_kern, set_item, set_items, RowHolds}
use Rattle.std.specs.Prelude.{⊤}
use Rattle.mt_tfm.specs.declared.pair.Pair.TheVariants.{Kern as KernPair, Join as JoinPair}
use Rattle.mt_convert.proofs.holds.Steps.{step_holds, after_value}
use Rattle.mt_convert.proofs.holds.Delimiters.{AreSound}
use Rattle.mt_convert.proofs.holds.Atoms.{AtomHolds, FractionHolds, atom_row_holds, fraction_row_holds}
use Rattle.mt_convert.proofs.Choosing.{one_of_four}
use Rattle.mt_convert.specs.FirstPass.{first_pass_of}

module _ (fonts : SetValue) where
  -- ---- items

  abbrev mutual
    pub ItemHolds : ItemContent → Type 0
    ItemHolds (AtomItem a) = AtomHolds fonts a
    ItemHolds (FractionItem f) = FractionHolds fonts f
    ItemHolds (ChoiceItem display text script small) = ItemsHold display × ItemsHold text × ItemsHold script × ItemsHold small
    ItemHolds _ = ⊤

    pub ItemsHold : ItemContents → Type 0
    ItemsHold NoItems = ⊤
    ItemsHold (MoreItems item items) = ItemHolds item × ItemsHold items

  items_append : (items after : ItemContents) → ItemsHold items → ItemsHold after → ItemsHold (append_items items after)
  items_append NoItems after h k = k
  items_append (MoreItems item items) after h k = (h.0, items_append items after h.1 k)

  -- ---- items of the flat list

  abbrev FlatHolds : FlatItem → Type 0
  FlatHolds (FlatAtom role a) = AtomHolds fonts a
  FlatHolds (FlatFraction f) = FractionHolds fonts f
  FlatHolds (FlatLeft delim) = ⊤
  FlatHolds (FlatMiddle delim) = ⊤
  FlatHolds (FlatRight delim) = ⊤
  FlatHolds (FlatStyle style) = ⊤
  FlatHolds (FlatMuSpace glue) = ⊤
  FlatHolds (FlatSpace glue) = ⊤
  FlatHolds (FlatMuKern amount) = ⊤
  FlatHolds (FlatKern amount) = ⊤

  abbrev FlatsHold : List FlatItem → Type 0
  FlatsHold [] = ⊤
  FlatsHold (item ∷ items) = FlatHolds item × FlatsHold items

  flats_append : (items after : List FlatItem) → FlatsHold items → FlatsHold after → FlatsHold (items ++ after)
  flats_append [] after h k = k
  flats_append (item ∷ items) after h k = (h.0, flats_append items after h.1 k)

  -- ---- a turn

  abbrev TurnHolds : FrontTurn → Type 0
  TurnHolds (Passes items rest) = FlatsHold items × ItemsHold rest
  TurnHolds (Rewrites rest) = ItemsHold rest

  as_symbol_holds : (symbol : Symbol) (item : ItemContent) → ItemHolds item → ItemHolds (as_symbol symbol item)
  as_symbol_holds symbol (AtomItem a) h = (tt, h.1, h.2)
  as_symbol_holds symbol _ h = h

  first_as_symbol_holds : (symbol : Symbol) (items : ItemContents) → ItemsHold items → ItemsHold (first_as_symbol symbol items)
  first_as_symbol_holds symbol NoItems h = h
  first_as_symbol_holds symbol (MoreItems item items) h = (as_symbol_holds symbol item h.0, h.1)

  pair_turn_holds : (p : SymbolPair) (a : AtomContent) (rest : ItemContents) (pair : Option Pair) → AtomHolds fonts a → ItemsHold rest → TurnHolds (pair_turn p a rest pair)
  pair_turn_holds p a rest (Some (KernPair amount)) h k = ((h, (tt, tt)), k)
  pair_turn_holds p a rest (Some (JoinPair code)) h k = first_as_symbol_holds (record { fam = p.fam; code = code }) rest k
  pair_turn_holds p a rest _ h k = ((h, tt), k)

  atom_turn_holds : (size : Size) (a : AtomContent) (rest : ItemContents) (pair : Option SymbolPair) → AtomHolds fonts a → ItemsHold rest → TurnHolds (atom_turn fonts size a rest pair)
  atom_turn_holds size a rest None h k = ((h, tt), k)
  atom_turn_holds size a rest (Some p) h k = pair_turn_holds p a rest (pair_of_fonts fonts size p) h k

  space_by : (b : Bool) (item : ItemContent) (rest : ItemContents) → ItemHolds item → ItemsHold rest → ItemsHold (if b then rest else MoreItems item rest)
  space_by true item rest h k = k
  space_by false item rest h k = (h, k)

  without_space_holds : (rest : ItemContents) → ItemsHold rest → ItemsHold (without_space rest)
  without_space_holds NoItems h = h
  without_space_holds (MoreItems item rest) h = space_by (is_space_or_kern item) item rest h.0 h.1

  nonscript_by : (b : Bool) (rest : ItemContents) → ItemsHold rest → ItemsHold (if b then rest else without_space rest)
  nonscript_by true rest h = h
  nonscript_by false rest h = without_space_holds rest h

  turn_holds : (current : Current) (item : ItemContent) (rest : ItemContents) → ItemHolds item → ItemsHold rest → TurnHolds (turn fonts current item rest)
  turn_holds current (AtomItem a) rest h k = atom_turn_holds (size_of current.style) a rest (pair_with_next current.last a rest) h k
  turn_holds current (FractionItem f) rest h k = ((h, tt), k)
  turn_holds current (ChoiceItem display text script small) rest h k =
      (tt, items_append (list_for current.style display text script small) rest (one_of_four ItemsHold current.style display text script small h.0 h.1 h.2 h.3) k)
  turn_holds current NonscriptItem rest h k = ((tt, tt), nonscript_by (is_display_or_text current.style) rest k)
  turn_holds current _ rest h k = ((tt, tt), k)

  -- ---- turn by turn

  by_turn : (turns : ℕ) → ((current : Current) (items : ItemContents) → ItemsHold items → FlatsHold (flat fonts turns current items)) → (current : Current) (t : FrontTurn) → TurnHolds t → FlatsHold (flat_by (flat fonts turns) current t)
  by_turn turns next current (Passes items rest) h =
      flats_append items (flat fonts turns (current_after_items current items) rest) h.0 (next (current_after_items current items) rest h.1)
  by_turn turns next current (Rewrites rest) h = next current rest h

  flat_holds : (turns : ℕ) (current : Current) (items : ItemContents) → ItemsHold items → FlatsHold (flat fonts turns current items)
  flat_holds zero current items h = tt
  flat_holds (suc turns) current NoItems h = tt
  flat_holds (suc turns) current (MoreItems item rest) h =
      by_turn turns (flat_holds turns) current (turn fonts current item rest) (turn_holds current item rest h.0 h.1)

  -- ---- the first pass

  abbrev pub HalfHolds : HalfValue → Type 0
  HalfHolds (HalfAtom class row) = RowHolds fonts row
  HalfHolds (HalfLeft delim) = ⊤
  HalfHolds (HalfMiddle delim) = ⊤
  HalfHolds (HalfRight delim) = ⊤
  HalfHolds (HalfStyle style) = ⊤
  HalfHolds (HalfKern amount) = ⊤
  HalfHolds (HalfSpace glue) = ⊤

  abbrev pub HalvesHold : List HalfValue → Type 0
  HalvesHold [] = ⊤
  HalvesHold (half ∷ halves) = HalfHolds half × HalvesHold halves

  space_holds : (glue : Glue) → IfOk (make_space glue) HalfHolds
  space_holds glue =
      after_value HalfHolds glue.width (test_value glue.shrink >> Ok (HalfSpace glue))
      (λ _. after_value HalfHolds glue.shrink (Ok (HalfSpace glue)) (λ _. tt))

  kern_holds : (amount : ℤ) → IfOk (make_kern amount) HalfHolds
  kern_holds amount = after_value HalfHolds amount (Ok (HalfKern amount)) (λ _. tt)

  item_set : (current : Current) (item : FlatItem) → AreSound fonts → FlatHolds item → IfOk (set_item fonts current item) HalfHolds
  item_set current (FlatAtom role a) sound h =
      step_holds (RowHolds fonts) HalfHolds (atom_row fonts current.style role a) (λ row. Ok (HalfAtom (forward_of current.last (kind_class a.kind)) row))
      (atom_row_holds fonts current.style role a sound h) (λ row k. k)
  item_set current (FlatFraction f) sound h =
      step_holds (RowHolds fonts) HalfHolds (fraction_row fonts current.style f) (λ row. Ok (HalfAtom Inner row))
      (fraction_row_holds fonts current.style f sound h) (λ row k. k)
  item_set current (FlatMuSpace glue) sound h = space_holds (glue_in_points fonts current.style glue)
  item_set current (FlatSpace glue) sound h = space_holds glue
  item_set current (FlatMuKern amount) sound h = kern_holds (in_points fonts current.style amount)
  item_set current (FlatKern amount) sound h = kern_holds amount
  item_set current _ sound h = tt

  items_set : (items : List FlatItem) (current : Current) → AreSound fonts → FlatsHold items → IfOk (set_items fonts current items) HalvesHold
  items_set [] current sound h = tt
  items_set (item ∷ items) current sound h =
      step_holds HalfHolds HalvesHold (set_item fonts current item)
      (λ half. set_items fonts (current_after_item current item) items >>= (λ halves. Ok (half ∷ halves)))
      (item_set current item sound h.0)
      (λ half x. step_holds HalvesHold HalvesHold (set_items fonts (current_after_item current item) items) (λ halves. Ok (half ∷ halves))
      (items_set items (current_after_item current item) sound h.1) (λ halves y. (x, y)))

  settled_half_holds : (half : HalfValue) (after : Option Class) → HalfHolds half → HalfHolds (settled_half half after)
  settled_half_holds (HalfAtom class row) after h = h
  settled_half_holds _ after h = h

  settled_hold : (halves : List HalfValue) → HalvesHold halves → HalvesHold (settled_halves halves)
  settled_hold [] h = tt
  settled_hold (half ∷ halves) h = (settled_half_holds half (next_class halves) h.0, settled_hold halves h.1)

  pub first_pass_holds : (turns : ℕ) (style : Style) (items : ItemContents) → AreSound fonts → ItemsHold items → IfOk (first_pass_of fonts turns style items) (λ (halves : Halves). HalvesHold halves.items)
  unfolding first_pass_of
  first_pass_holds turns style items sound h =
      let all = flat fonts turns (opening style) items in
      step_holds HalvesHold (λ (halves : Halves). HalvesHold halves.items) (set_items fonts (opening style) all) (λ halves. Ok (settle halves))
      (items_set all (opening style) sound (flat_holds turns (opening style) items h)) (λ halves k. settled_hold halves k)
