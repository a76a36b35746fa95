-- Short forms for worked lists, and what evaluating them unfolds.
use Rattle.std.proofs.Common.{ℕ, pos, List, [], ◌∷◌, Ok}
use Rattle.mt_convert.proofs.Common.{PieceValue, pack, Class, Ord, Bin, Rel, Kind, Plain, Default, Sequence, Element, Part, End, More, AtomElement, EmptyPart, SymbolPart, ListPart, Setting, ◌>>=◌}
use Rattle.std.specs.Prelude.{⊤}
use Rattle.mt_box.specs.declared.place.Place.{Place}
use Rattle.mt_box.specs.Placing.{all_lowered}
use Rattle.mt_rules.proofs.cases.Writing as rules
use Rattle.mt_rules.specs.Veils.{veil_layout}
use Rattle.mt_rules.specs.Tables.{matrix_table, equations_table}
use Rattle.mt_rules.specs.Roots.{root_row}
use Rattle.mt_rules.specs.BigDelimiters.{big_delimiter}
use Rattle.mt_convert.specs.SecondPass.{second_pass_of}
use Rattle.mt_convert.specs.ListRow.{halves_of, list_row}
use Rattle.mt_convert.specs.FirstPass.{first_pass_of}

-- ---- lists

abbrev pub list : List Element → Sequence
list [] = End
list (e ∷ es) = More e (list es)

-- a character of a family
abbrev pub symbol : ℕ → ℕ → Part
symbol fam code = SymbolPart (record { fam = fam; code = code })

abbrev pub atom : Kind → Part → Part → Part → Element
atom kind nucleus sup sub = AtomElement kind Default nucleus sup sub

-- an atom of one character, without scripts
abbrev pub plain : Class → ℕ → ℕ → Element
plain class fam code = atom (Plain class) (symbol fam code) EmptyPart EmptyPart

-- letters are in family 1, roman characters in family 0
abbrev pub letter : ℕ → Element
letter code = plain Ord 1 code

abbrev pub roman : ℕ → Element
roman code = plain Ord 0 code

-- + and =
abbrev pub plus : Element
plus = plain Bin 0 43

abbrev pub equals : Element
equals = plain Rel 0 61

-- a list in braces
abbrev pub group : List Element → Element
group es = atom (Plain Ord) (ListPart (list es)) EmptyPart EmptyPart

-- ---- the answer

-- where the places of the row packed are, below and to the right of its upper left corner
abbrev pub from_top : Setting (List PieceValue) → Setting (List Place)
from_top row = do
  pieces ← row
  let l = pack pieces
  Ok (all_lowered (pos 0) l.extents.height l.places)

-- ---- the rules, open

unfoldable pub evaluated : ⊤
unfolding rules.evaluated matrix_table equations_table veil_layout root_row big_delimiter first_pass_of second_pass_of halves_of list_row
evaluated = tt
