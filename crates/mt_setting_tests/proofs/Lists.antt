-- Lists that the tests make, an atom at a time.
use Rattle.std.proofs.Common.{◌≡◌, ℕ, ◌+◌, ◌++◌, ◌∷◌, [], List, max, arith, refl, ap, ◌∙◌}
use Rattle.mt_rules.specs.declared.class.Class.{Class}
use Rattle.mt_rules.specs.declared.kind.Kind.TheVariants.{Plain}
use Rattle.mt_rules.specs.declared.kind.Limits.TheVariants.{Default}
use Rattle.mt_rules.specs.declared.list.Item.{Item}
use Rattle.mt_rules.specs.declared.symbol.Symbol.{Symbol}
use Rattle.mt_rules.specs.Facts.{Inside, StandsInside}
use Rattle.mt_rules.specs.Modest.{ElementAmounts, ListAmounts, element_items, element_nesting, list_items, list_nesting}
use Rattle.mt_rules.specs.Sequence.{Element, AtomElement, SymbolPart, EmptyPart}
use Rattle.mt_rules.specs.View.{element_of, sequence_of}

-- an element that adds one item, and no list
pub record IsSingle (e : Element) : Type 0 where
  pub inside : StandsInside e
  pub items : element_items e ≡ 1
  pub nesting : element_nesting e ≡ 1
  pub amounts : ElementAmounts e

pub letter_is_single : (class : Class) (s : Symbol) → IsSingle (AtomElement (Plain class) Default (SymbolPart s) EmptyPart EmptyPart)
letter_is_single class s = record { inside = (tt, (tt, tt)); items = refl; nesting = refl; amounts = (tt, tt, tt) }

inside_push : (xs : List Item) (i : Item) → IsSingle (element_of i) → Inside (sequence_of xs) → Inside (sequence_of (xs ++ i ∷ []))
inside_push [] i single h = (single.inside, tt)
inside_push (x ∷ xs) i single h = (h.0, inside_push xs i single h.1)

items_push : (xs : List Item) (i : Item) → IsSingle (element_of i) → list_items (sequence_of (xs ++ i ∷ [])) ≡ list_items (sequence_of xs) + 1
items_push [] i single = omega (arith, single.items)
items_push (x ∷ xs) i single = omega (arith, items_push xs i single)

nesting_push : (xs : List Item) (i : Item) → IsSingle (element_of i) → list_nesting (sequence_of (xs ++ i ∷ [])) ≡ list_nesting (sequence_of xs)
nesting_push [] i single = omega (arith, single.nesting)
nesting_push (x ∷ xs) i single = ap (max (element_nesting (element_of x))) (nesting_push xs i single)

amounts_push : (xs : List Item) (i : Item) → IsSingle (element_of i) → ListAmounts (sequence_of xs) → ListAmounts (sequence_of (xs ++ i ∷ []))
amounts_push [] i single h = (single.amounts, tt)
amounts_push (x ∷ xs) i single h = (h.0, amounts_push xs i single h.1)

-- so many such elements pushed
pub record Pushed (old new : List Item) (n : ℕ) : Type 0 where
  pub inside : Inside (sequence_of old) → Inside (sequence_of new)
  pub items : list_items (sequence_of new) ≡ list_items (sequence_of old) + n
  pub nesting : list_nesting (sequence_of new) ≡ list_nesting (sequence_of old)
  pub amounts : ListAmounts (sequence_of old) → ListAmounts (sequence_of new)

pub pushed_none : (xs : List Item) → Pushed xs xs 0
pushed_none xs = record { inside = λ h. h; items = omega arith; nesting = refl; amounts = λ h. h }

pub pushed_more : (old xs new : List Item) (n : ℕ) (i : Item) → IsSingle (element_of i) → Pushed old xs n → new ≡ xs ++ i ∷ [] → Pushed old new (n + 1)
pushed_more old xs new n i single before is = rw is (record {
  inside = λ h. inside_push xs i single (before.inside h);
  items = omega (arith, items_push xs i single, before.items);
  nesting = nesting_push xs i single ∙ before.nesting;
  amounts = λ h. amounts_push xs i single (before.amounts h);
})
