-- Things of an arena that are items, and things that are no roots.
use Rattle.std.proofs.Common.{◌≡◌, List, [], ◌∷◌, true, ap}
use Rattle.mt_convert.proofs.Common.{Element, End, EmptyPart, RootPart, Thing, Held, ItemHeld, as_root, value_in, is_item}
use Rattle.mt_arena.specs.declared.thing.RootParts.{RootParts}
use Rattle.mt_arena.specs.declared.thing.Thing.TheVariants as thing
use Rattle.mt_arena.proofs.Rowing.{AnItem, ARoot, ARow, SomeCells, ThingKind, thing_kind}

pub record IsItem (h : Held) : Type 0 where
  pub element : Element
  pub is : h ≡ ItemHeld element

item_of_kind : (es : List Held) (t : Thing) → ThingKind es t → is_item t ≡ true → IsItem (value_in es t)
item_of_kind es t (AnItem e k) i = record { element = e; is = k }
item_of_kind es t (ARow s k) i = absurd (cc)
item_of_kind es t (SomeCells s k) i = absurd (cc)
item_of_kind es t (ARoot r k) i = absurd (cc)

pub an_item : (es : List Held) (t : Thing) → is_item t ≡ true → IsItem (value_in es t)
an_item es t i = item_of_kind es t (thing_kind es t) i

root_missing : (es : List Held) (t : Thing) → ((parts : RootParts) → t ≡ thing.Root parts → ⊥) → ThingKind es t → as_root (value_in es t ∷ []) ≡ RootPart End EmptyPart
root_missing es t n (AnItem e k) = ap (λ h. as_root (h ∷ [])) k
root_missing es t n (ARow s k) = ap (λ x. as_root (value_in es x ∷ [])) k
root_missing es t n (SomeCells s k) = ap (λ x. as_root (value_in es x ∷ [])) k
root_missing es t n (ARoot r k) = absurd (n r k)

pub no_root : (es : List Held) (t : Thing) → ((parts : RootParts) → t ≡ thing.Root parts → ⊥) → as_root (value_in es t ∷ []) ≡ RootPart End EmptyPart
no_root es t n = root_missing es t n (thing_kind es t)
