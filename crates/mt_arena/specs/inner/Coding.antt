-- An arena's value as steps that build what it holds.
use Rattle.std.specs.Prelude.{◌≡◌, List, [], ◌∷◌, refl}
use Rattle.std.proofs.Common.{ap, ◌∙◌}
use Rattle.mt_rules.specs.Sequence.{End, RootPart}
use Rattle.mt_rules.specs.nesting.Steps.{BuildStep, Cell, SequenceCell, ElementCell, PartCell, RowsCell, rebuild, sequence_steps, element_steps, part_steps, rows_steps, rebuilt-sequence, rebuilt-element, rebuilt-part, rebuilt-rows}
use Rattle.mt_arena.specs.Arena.{Held, ItemHeld, RowHeld, CellsHeld, RootHeld, ArenaValue, first_open, other_open}

abbrev held_steps : Held → List BuildStep
held_steps (ItemHeld e) = element_steps e []
held_steps (RowHeld s) = sequence_steps s []
held_steps (CellsHeld r) = rows_steps r []
held_steps (RootHeld degree body) = part_steps (RootPart degree body) []

abbrev top_held : List Cell → Held
top_held (ElementCell e ∷ st) = ItemHeld e
top_held (SequenceCell s ∷ st) = RowHeld s
top_held (RowsCell r ∷ st) = CellsHeld r
top_held (PartCell (RootPart degree body) ∷ st) = RootHeld degree body
top_held _ = RowHeld End

abbrev held_from : List BuildStep → Held
held_from ws = top_held (rebuild ws [])

held_from-steps : (h : Held) → held_from (held_steps h) ≡ h
held_from-steps (ItemHeld e) = ap top_held (rebuilt-element e [] [])
held_from-steps (RowHeld s) = ap top_held (rebuilt-sequence s [] [])
held_from-steps (CellsHeld r) = ap top_held (rebuilt-rows r [] [])
held_from-steps (RootHeld degree body) = ap top_held (rebuilt-part (RootPart degree body) [] [])

abbrev all_from : List (List BuildStep) → List Held
all_from [] = []
all_from (w ∷ ws) = held_from w ∷ all_from ws

abbrev all_steps : List Held → List (List BuildStep)
all_steps [] = []
all_steps (h ∷ hs) = held_steps h ∷ all_steps hs

all_from-steps : (hs : List Held) → all_from (all_steps hs) ≡ hs
all_from-steps [] = refl
all_from-steps (h ∷ hs) = ap (λ x. x ∷ all_from (all_steps hs)) (held_from-steps h) ∙ ap (λ xs. h ∷ xs) (all_from-steps hs)

abbrev lists_from : List (List (List BuildStep)) → List (List Held)
lists_from [] = []
lists_from (w ∷ ws) = all_from w ∷ lists_from ws

abbrev lists_steps : List (List Held) → List (List (List BuildStep))
lists_steps [] = []
lists_steps (l ∷ ls) = all_steps l ∷ lists_steps ls

lists_from-steps : (ls : List (List Held)) → lists_from (lists_steps ls) ≡ ls
lists_from-steps [] = refl
lists_from-steps (l ∷ ls) = ap (λ x. x ∷ lists_from (lists_steps ls)) (all_from-steps l) ∙ ap (λ xs. l ∷ xs) (lists_from-steps ls)

abbrev the_arena : List Held → List (List Held) → ArenaValue
the_arena hs ls = record { closed = hs; top = first_open ls; below = other_open ls }

-- the closed lists, and the open ones from the inside out
abbrev pub arena_steps : ArenaValue → List (List BuildStep) × List (List (List BuildStep))
arena_steps v = (all_steps v.closed, lists_steps (v.top ∷ v.below))

abbrev pub arena_from : List (List BuildStep) × List (List (List BuildStep)) → ArenaValue
arena_from ws = the_arena (all_from ws.0) (lists_from ws.1)

pub arena_from-steps : (v : ArenaValue) → arena_from (arena_steps v) ≡ v
arena_from-steps v =
    ap (λ hs. the_arena hs (lists_from (lists_steps (v.top ∷ v.below)))) (all_from-steps v.closed) ∙ ap (λ ls. the_arena v.closed ls) (lists_from-steps (v.top ∷ v.below))
