-- What is left of a list, with what is left of choices' lists in front of it (`rest_in`), and what it keeps (`KeptRest`).
use Rattle.std.specs.Prelude.{ℕ, ◌≡◌, ◌≤◌, Bool, true, false, List, [], ◌∷◌, Option, Some, None, IfSome, length, ⊤}
use Rattle.mt_rules.specs.Sequence.{Sequence, End, More}
use Rattle.mt_arena.specs.declared.thing.Span.{Span}
use Rattle.mt_arena.specs.declared.thing.Thing.{Thing}
use Rattle.mt_arena.specs.declared.thing.Thing.TheVariants.{Row, Cells, Root}
use Rattle.mt_arena.specs.declared.rest.Rest.{Rest}
use Rattle.mt_arena.specs.Arena.{Held, ItemHeld, sequence_in, value_in, thing_end}
use Rattle.mt_arena.specs.Keeping.{HeldLists}

-- one list, and then another
abbrev pub append_list : Sequence → Sequence → Sequence
append_list End after = after
append_list (More e s) after = More e (append_list s after)

-- an item, and then a list; what is no item is left out
abbrev pub more_of : Held → Sequence → Sequence
more_of (ItemHeld e) s = More e s
more_of _ s = s

abbrev pub is_item : Thing → Bool
is_item (Row s) = false
is_item (Cells s) = false
is_item (Root r) = false
is_item _ = true

-- the lists of spans, the last one first, and then another list
abbrev pub stacked_on : List Held → List Span → Sequence → Sequence
stacked_on es [] after = after
stacked_on es (s ∷ ss) after = stacked_on es ss (append_list (sequence_in es s) after)

abbrev pub front_on : List Held → Option Thing → Sequence → Sequence
front_on es None s = s
front_on es (Some t) s = more_of (value_in es t) s

-- the list at hand, and those round it
abbrev pub ranges_in : List Held → Span → List Span → Sequence
ranges_in es at outer = append_list (sequence_in es at) (stacked_on es outer End)

-- the items that are left
abbrev pub rest_in : List Held → Rest → Sequence
rest_in es r = front_on es r.front (ranges_in es r.at r.outer.items)

-- no item was put before the rest
abbrev pub IsFree : Rest → Type 0
IsFree r = r.front ≡ None

-- an item whose lists lie among these
abbrev pub KeptItem : List Held → Thing → Type 0
KeptItem es t = (is_item t ≡ true) × ((thing_end t ≤ length es) × HeldLists (value_in es t))

abbrev pub SpansWithin : ℕ → List Span → Type 0
SpansWithin n [] = ⊤
SpansWithin n (s ∷ ss) = (s.end ≤ n) × SpansWithin n ss

-- what is left lies among these
abbrev pub KeptRest : List Held → Rest → Type 0
KeptRest es r = IfSome r.front (KeptItem es) × ((r.at.end ≤ length es) × SpansWithin (length es) r.outer.items)
