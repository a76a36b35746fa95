-- What every math list keeps (`IsMathList`): a left boundary is only first and a right one only last, both or
-- neither, and middles are only between the two; the lists of a choice have none of these; the nucleus of a vcenter
-- atom is rows or a table, that of a radical atom may be a root, and that of a plain atom a delimiter of a fixed size,
-- and these are nowhere else; veil atoms, and radical atoms whose nucleus is a root, have no scripts.
use Rattle.std.specs.Prelude.{⊤}
use Rattle.mt_rules.specs.declared.kind.Kind.{Kind}
use Rattle.mt_rules.specs.declared.kind.Kind.TheVariants.{Plain, Radical, Vcenter, Veil}
use Rattle.mt_rules.specs.Sequence.{Sequence, Element, Part, End, More, AtomElement, LeftElement, MiddleElement, RightElement, ChoiceElement, EmptyPart, SymbolPart, ListPart, RowsPart, TablePart, RootPart, BigPart}

abbrev pub HoldsRows : Part → Type 0
HoldsRows (RowsPart rows) = ⊤
HoldsRows (TablePart look grid) = ⊤
HoldsRows _ = ⊥

-- nothing, a symbol or a list
abbrev pub IsField : Part → Type 0
IsField EmptyPart = ⊤
IsField (SymbolPart symbol) = ⊤
IsField (ListPart list) = ⊤
IsField _ = ⊥

-- the nucleus that an atom of this kind may have; what is under the sign of a root is a field as any other
abbrev pub NucleusFits : Kind → Part → Type 0
NucleusFits Vcenter nucleus = HoldsRows nucleus
NucleusFits (Plain class) (BigPart delim level) = ⊤
NucleusFits (Radical delim) (RootPart degree body) = IsField body
NucleusFits _ nucleus = IsField nucleus

abbrev pub IsEmptyField : Part → Type 0
IsEmptyField EmptyPart = ⊤
IsEmptyField _ = ⊥

-- the scripts that an atom of this kind with this nucleus may have: veils and roots have none
abbrev pub ScriptsFit : Kind → Part → Part → Part → Type 0
ScriptsFit (Veil width height marks) nucleus sup sub = IsEmptyField sup × IsEmptyField sub
ScriptsFit (Radical delim) (RootPart degree body) sup sub = IsEmptyField sup × IsEmptyField sub
ScriptsFit _ nucleus sup sub = IsField sup × IsField sub

-- no boundary and no middle at the outermost level
abbrev pub NoBoundary : Sequence → Type 0
NoBoundary End = ⊤
NoBoundary (More (LeftElement d) s) = ⊥
NoBoundary (More (MiddleElement d) s) = ⊥
NoBoundary (More (RightElement d) s) = ⊥
NoBoundary (More _ s) = NoBoundary s

-- what may be between two of the boundaries and middles
abbrev pub StandsInside : Element → Type 0
StandsInside (AtomElement kind limits nucleus sup sub) = NucleusFits kind nucleus × ScriptsFit kind nucleus sup sub
StandsInside (LeftElement d) = ⊥
StandsInside (MiddleElement d) = ⊥
StandsInside (RightElement d) = ⊥
StandsInside (ChoiceElement display text script small) =
    NoBoundary display × NoBoundary text × NoBoundary script × NoBoundary small
StandsInside _ = ⊤

abbrev pub Inside : Sequence → Type 0
Inside End = ⊤
Inside (More e s) = StandsInside e × Inside s

-- the same and middles, then a right boundary at the end
abbrev pub EndsWithRight : Sequence → Type 0
EndsWithRight End = ⊥
EndsWithRight (More (MiddleElement d) s) = EndsWithRight s
EndsWithRight (More (RightElement d) End) = ⊤
EndsWithRight (More e s) = StandsInside e × EndsWithRight s

abbrev pub IsMathList : Sequence → Type 0
IsMathList (More (LeftElement d) s) = EndsWithRight s
IsMathList s = Inside s
