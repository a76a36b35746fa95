-- What the fields of `Arena` are seen as, and what holds of them: what a thing holds lies before it, and keeps what math lists keep.
use Rattle.std.specs.Prelude.{ℕ, suc, ◌≤◌, List, [], ◌∷◌, ◌++◌, map, length, take, drop, reverse, ⊤}
use Rattle.mt_arena.specs.declared.thing.Thing.{Thing}
use Rattle.mt_arena.specs.declared.arena.Arena.TheInside.{Inside}
use Rattle.mt_arena.specs.Keeping.{AllLists}
use Rattle.mt_arena.specs.Arena.{ArenaValue, Held, value_in, thing_end}

-- what things are behind these
abbrev pub elements_behind : List Held → List Thing → List Held
elements_behind es [] = []
elements_behind es (t ∷ ts) = value_in es t ∷ elements_behind (es ++ value_in es t ∷ []) ts

abbrev pub elements_of : List Thing → List Held
elements_of ts = elements_behind [] ts

-- of the items of all open lists, those of the innermost list, where the lists begin at these places, from the inside
-- out; the outermost list begins at the first item
abbrev pub top_in : List Held → List ℕ → List Held
top_in hs [] = hs
top_in hs (s ∷ ss) = drop s hs

-- those of each list round it
abbrev pub below_in : List Held → List ℕ → List (List Held)
below_in hs [] = []
below_in hs (s ∷ ss) = top_in (take s hs) ss ∷ below_in (take s hs) ss

-- where the innermost list begins
abbrev pub first_start : List ℕ → ℕ
first_start [] = 0
first_start (s ∷ ss) = s

abbrev pub items_in : Inside → List Held
items_in a = map (value_in (elements_of a.things.items)) a.pending.items

abbrev pub value_of_arena : Inside → ArenaValue
value_of_arena a = record {
  closed = elements_of a.things.items;
  top = top_in (items_in a) (reverse a.starts.items);
  below = below_in (items_in a) (reverse a.starts.items);
}

-- the lists in each lie before so many
abbrev pub AllWithin : ℕ → List Thing → Type 0
AllWithin n [] = ⊤
AllWithin n (t ∷ ts) = (thing_end t ≤ n) × AllWithin n ts

-- the lists in each lie before it, where so many come first
abbrev pub AllBackward : ℕ → List Thing → Type 0
AllBackward n [] = ⊤
AllBackward n (t ∷ ts) = (thing_end t ≤ n) × AllBackward (suc n) ts

-- each list begins where the one round it has got to, and the innermost one before this place
abbrev pub Falls : ℕ → List ℕ → Type 0
Falls n [] = ⊤
Falls n (s ∷ ss) = (s ≤ n) × Falls s ss

pub record IsArena (a : Inside) : Type 0 where
  pub things : AllBackward 0 a.things.items
  pub pending : AllWithin (length a.things.items) a.pending.items
  pub starts : Falls (length a.pending.items) (reverse a.starts.items)
  pub closed_lists : AllLists (elements_of a.things.items)
  pub pending_lists : AllLists (items_in a)
