-- Lists that are read whole (`list_in`).
use Rattle.std.specs.Prelude.{◌≡◌, ◌≤◌, true, List, length}
use Rattle.mt_rules.specs.Sequence.{Sequence, End, More}
use Rattle.mt_arena.specs.declared.thing.Span.{Span}
use Rattle.mt_arena.specs.Arena.{Held, held_in, sequence_in}
use Rattle.mt_arena.specs.Keeping.{InnerLists}
use Rattle.mt_formula.specs.declared.reading.whole_list.WholeList.{WholeList}
use Rattle.mt_formula.specs.declared.reading.whole_list.WholeList.TheVariants.{Alone, Spanned}
use Rattle.mt_formula.specs.Atoms.{element_of_atom}
use Rattle.mt_formula.specs.reading.Inside.{are_inside}
use Rattle.mt_formula.specs.reading.Noads.{OpenNoad, noad_in}

-- the list: one atom, or the things of a span
abbrev pub list_in : List Held → WholeList → Sequence
list_in es (Alone a) = More (element_of_atom (noad_in es a)) End
list_in es (Spanned s) = sequence_in es s

-- a list that may be a part of an atom
pub record KeptSpan (es : List Held) (s : Span) : Type 0 where
  pub within : s.end ≤ length es
  pub lists : InnerLists (sequence_in es s)
  pub inside : are_inside (held_in es s) ≡ true

abbrev pub KeptWhole : List Held → WholeList → Type 0
KeptWhole es (Alone a) = OpenNoad es a
KeptWhole es (Spanned s) = KeptSpan es s
