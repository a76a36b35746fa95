-- What every math list keeps of roots, veils and delimiters of fixed sizes, worked.
use Rattle.mt_rules.specs.declared.class.Class.TheVariants.{Ord, Open}
use Rattle.mt_rules.specs.declared.kind.Kind.{Kind}
use Rattle.mt_rules.specs.declared.kind.Kind.TheVariants.{Plain, Radical, Over, Vcenter, Veil}
use Rattle.mt_rules.specs.declared.kind.Limits.TheVariants.{Default}
use Rattle.std.specs.Prelude.{true, false}
use Rattle.mt_rules.specs.Sequence.{Sequence, Part, End, More, AtomElement, EmptyPart, SymbolPart, ListPart, RowsPart, RootPart, BigPart, NoRows}
use Rattle.mt_rules.specs.Facts.{IsMathList}
use Rattle.mt_rules.proofs.cases.Writing.{no_delim, symbol}

abbrev alone : Kind → Part → Part → Part → Sequence
alone kind nucleus sup sub = More (AtomElement kind Default nucleus sup sub) End

abbrev letter : Part
letter = SymbolPart (symbol 1 97)

abbrev root : Part
root = RootPart End letter

abbrev big : Part
big = BigPart no_delim 3

-- a root under a radical sign, a delimiter as an opening with scripts, a veil
root_stands : IsMathList (alone (Radical no_delim) root EmptyPart EmptyPart)
root_stands = ((tt, (tt, tt)), tt)

radical_stands : IsMathList (alone (Radical no_delim) letter letter letter)
radical_stands = ((tt, (tt, tt)), tt)

big_stands : IsMathList (alone (Plain Open) big letter letter)
big_stands = ((tt, (tt, tt)), tt)

veil_stands : IsMathList (alone (Veil true false true) (ListPart End) EmptyPart EmptyPart)
veil_stands = ((tt, (tt, tt)), tt)

-- neither has scripts
root_without_scripts : IsMathList (alone (Radical no_delim) root letter EmptyPart) → ⊥
root_without_scripts h = h.0.1.0

veil_without_scripts : IsMathList (alone (Veil true false true) letter EmptyPart letter) → ⊥
veil_without_scripts h = h.0.1.1

-- they are nowhere else
root_outside : IsMathList (alone (Plain Ord) root EmptyPart EmptyPart) → ⊥
root_outside h = h.0.0

big_outside : IsMathList (alone Over big EmptyPart EmptyPart) → ⊥
big_outside h = h.0.0

root_of_rows : IsMathList (alone (Radical no_delim) (RootPart End (RowsPart NoRows)) EmptyPart EmptyPart) → ⊥
root_of_rows h = h.0.0

root_of_big : IsMathList (alone (Radical no_delim) (RootPart End big) EmptyPart EmptyPart) → ⊥
root_of_big h = h.0.0

big_as_script : IsMathList (alone (Plain Ord) letter big EmptyPart) → ⊥
big_as_script h = h.0.1.0

vcenter_of_root : IsMathList (alone Vcenter root EmptyPart EmptyPart) → ⊥
vcenter_of_root h = h.0.0
