-- Modest lists, worked.
use Rattle.std.proofs.Common.{◌≡◌, refl, arith}
use Rattle.std.proofs.lemmas.Int.{ints}
use Rattle.std.specs.Prelude.{pos, Some}
use Rattle.mt_rules.specs.declared.class.Class.TheVariants.{Ord}
use Rattle.mt_rules.specs.declared.kind.Kind.TheVariants.{Plain, Radical, Vcenter}
use Rattle.mt_rules.specs.declared.kind.Limits.TheVariants.{Default}
use Rattle.mt_rules.specs.declared.list.Look.TheVariants.{Matrix}
use Rattle.mt_rules.specs.declared.symbol.Delim.{Delim}
use Rattle.mt_rules.specs.Sequence.{Sequence, Element, End, More, AtomElement, FractionElement, KernElement, EmptyPart, SymbolPart, ListPart, RowsPart, TablePart, RootPart, NoRows, MoreRows, NoTableRows, MoreTableRows}
use Rattle.mt_rules.specs.Modest.{list_items, list_nesting, IsAmount, ListAmounts, IsModestList}
use Rattle.mt_rules.proofs.cases.Writing.{neg}

abbrev letter : Element
letter = AtomElement (Plain Ord) Default (SymbolPart (record { fam = 1; code = 97 })) EmptyPart EmptyPart

abbrev no_delim : Delim
no_delim = record { small = record { fam = 0; code = 0 }; large = record { fam = 0; code = 0 } }

-- the empty list
no_items : list_items End ≡ 0
no_items = refl

one_list : list_nesting End ≡ 1
one_list = refl

-- a letter, and a group of a fraction with a letter above and nothing below, that has a letter as its superscript
abbrev fraction : Sequence
fraction = More letter (More (AtomElement (Plain Ord) Default (ListPart (More (FractionElement (Some (pos 26214)) no_delim no_delim (More letter End) End) End)) (ListPart (More letter End)) EmptyPart) End)

fraction_items : list_items fraction ≡ 5
fraction_items = refl

fraction_nesting : list_nesting fraction ≡ 3
fraction_nesting = refl

fraction_amounts : ListAmounts fraction
fraction_amounts = ((tt, tt, tt), ((((record { low = omega (arith, ints); high = omega (arith, ints) }, ((tt, tt, tt), tt), tt), tt), (((tt, tt, tt), tt)), tt), tt))

fraction_modest : IsModestList fraction
fraction_modest = record { nesting = omega arith; items = omega arith; amounts = fraction_amounts }

-- two rows, of which the second is empty: each counts as one item more
abbrev two_rows : Sequence
two_rows = More (AtomElement (Plain Ord) Default EmptyPart EmptyPart EmptyPart) (More (AtomElement Vcenter Default (RowsPart (MoreRows (More letter End) (MoreRows End NoRows))) EmptyPart EmptyPart) End)

two_rows_items : list_items two_rows ≡ 5
two_rows_items = refl

two_rows_nesting : list_nesting two_rows ≡ 2
two_rows_nesting = refl

-- a table of two rows, the first of a letter and an empty cell, the second of no cell: each row and each cell counts as one item more
abbrev table : Sequence
table = More (AtomElement Vcenter Default (TablePart Matrix (MoreTableRows (MoreRows (More letter End) (MoreRows End NoRows)) (MoreTableRows NoRows NoTableRows))) EmptyPart EmptyPart) End

table_items : list_items table ≡ 6
table_items = refl

table_nesting : list_nesting table ≡ 2
table_nesting = refl

table_amounts : ListAmounts table
table_amounts = ((((((tt, tt, tt), tt), (tt, tt)), (tt, tt)), tt, tt), tt)

-- a root of a group, with a degree of a letter and a kern: the items of both count
abbrev root : Sequence
root = More (AtomElement (Radical no_delim) Default (RootPart (More letter (More (KernElement (neg 7)) End)) (ListPart (More letter End))) EmptyPart EmptyPart) End

root_items : list_items root ≡ 4
root_items = refl

root_nesting : list_nesting root ≡ 2
root_nesting = refl

-- the deeper of both counts
abbrev deep_degree : Sequence
deep_degree = More (AtomElement (Radical no_delim) Default (RootPart fraction EmptyPart) EmptyPart EmptyPart) End

deep_degree_nesting : list_nesting deep_degree ≡ 4
deep_degree_nesting = refl

-- amounts of the degree and of the body count
degree_amounts : ListAmounts (More (AtomElement (Radical no_delim) Default (RootPart (More (KernElement (neg 1073741824)) End) EmptyPart) EmptyPart EmptyPart) End) → ⊥
degree_amounts h = omega (arith, ints, h.0.0.0.0.low)

body_amounts : ListAmounts (More (AtomElement (Radical no_delim) Default (RootPart End (ListPart (More (KernElement (neg 1073741824)) End))) EmptyPart EmptyPart) End) → ⊥
body_amounts h = omega (arith, ints, h.0.0.1.0.low)

-- an amount of 2^30 - 1 may be, and one of 2^30, or of -2^30, not
greatest : IsAmount (pos 1073741823)
greatest = record { low = omega (arith, ints); high = omega (arith, ints) }

too_great : IsAmount (pos 1073741824) → ⊥
too_great h = omega (arith, ints, h.high)

too_small : ListAmounts (More (KernElement (neg 1073741824)) End) → ⊥
too_small h = omega (arith, ints, h.0.low)
