-- One turn at the front of a list of the code (`turn_of`), and what an item that passes is in the flat list
-- (`flat_items`).
use Rattle.std.specs.Prelude.{ℤ, Bool, true, false, ◌&&◌, if◌then◌else◌, List, [], ◌∷◌, Option, Some, None}
use Rattle.mt_tfm.specs.declared.pair.Pair.{Pair}
use Rattle.mt_tfm.specs.declared.pair.Pair.TheVariants.{None as NoPair, Kern as KernPair, Join as JoinPair, Smart as RefusedPair}
use Rattle.mt_family.specs.declared.size.Size.{Size}
use Rattle.mt_family.specs.SetValue.{SetValue}
use Rattle.mt_rules.specs.declared.class.Class.{Class}
use Rattle.mt_rules.specs.declared.class.Class.TheVariants.{Ord}
use Rattle.mt_rules.specs.declared.kind.Kind.{Kind}
use Rattle.mt_rules.specs.declared.kind.Kind.TheVariants.{Plain}
use Rattle.mt_rules.specs.declared.kind.Limits.{Limits}
use Rattle.mt_rules.specs.declared.style.Style.{Style}
use Rattle.mt_rules.specs.declared.symbol.Symbol.{Symbol}
use Rattle.mt_rules.specs.declared.symbol.Delim.{Delim}
use Rattle.mt_rules.specs.declared.symbol.Glue.{Glue}
use Rattle.mt_rules.specs.Styles.{size_of, is_display_or_text}
use Rattle.mt_rules.specs.Nuclei.{SymbolRole, OrdinarySymbol, TextSymbol, SmartPair}
use Rattle.mt_rules.specs.Sequence.{Sequence, Element, Part, End, More, AtomElement, FractionElement, LeftElement, MiddleElement, RightElement, StyleElement, ChoiceElement, MuSpaceElement, SpaceElement, MuKernElement, KernElement, NonscriptElement, EmptyPart, SymbolPart}
use Rattle.mt_arena.specs.Rest.{append_list}
use Rattle.mt_convert.specs.declared.flat.current.Current.{Current}
use Rattle.mt_convert.specs.declared.flat.joining.SymbolPair.{SymbolPair}
use Rattle.mt_convert.specs.declared.flat.passed.JoiningRole.{JoiningRole}
use Rattle.mt_convert.specs.declared.flat.passed.JoiningRole.TheVariants as role
use Rattle.mt_convert.specs.Joining.{is_ord_by_now, is_any_but_inner, symbol_pair, pair_of_fonts}
use Rattle.mt_convert.specs.Flat as flat
use Rattle.mt_convert.specs.Flat.{FlatItem, FlatAtom, FlatFraction, FlatLeft, FlatMiddle, FlatRight, FlatStyle, FlatMuSpace, FlatSpace, FlatMuKern, FlatKern, list_for, no_glue}
use Rattle.mt_convert.specs.ListRow.{items_of}
use Rattle.mt_convert.specs.inner.Fields.{atom_content, fraction_content}

-- ---- what passes

-- an item that passes: there are no choices and no conditional spaces among them
pub data PassedElement : Type 0 where
  -- an atom, what joining makes of its symbol, and the kern between it and the next one
  PassedAtom : (kind : Kind) (limits : Limits) (nucleus sup sub : Part) (role : SymbolRole)
      (kern : Option ℤ) → PassedElement
  PassedFraction : (thickness : Option ℤ) (left right : Delim) (num den : Sequence) → PassedElement
  PassedLeft : (delim : Delim) → PassedElement
  PassedMiddle : (delim : Delim) → PassedElement
  PassedRight : (delim : Delim) → PassedElement
  PassedStyle : (style : Style) → PassedElement
  PassedMuSpace : (glue : Glue) → PassedElement
  PassedSpace : (glue : Glue) → PassedElement
  PassedMuKern : (amount : ℤ) → PassedElement
  PassedKern : (amount : ℤ) → PassedElement

abbrev pub element_of_passed : PassedElement → Element
element_of_passed (PassedAtom kind limits nucleus sup sub role kern) = AtomElement kind limits nucleus sup sub
element_of_passed (PassedFraction thickness left right num den) = FractionElement thickness left right num den
element_of_passed (PassedLeft delim) = LeftElement delim
element_of_passed (PassedMiddle delim) = MiddleElement delim
element_of_passed (PassedRight delim) = RightElement delim
element_of_passed (PassedStyle style) = StyleElement style
element_of_passed (PassedMuSpace glue) = MuSpaceElement glue
element_of_passed (PassedSpace glue) = SpaceElement glue
element_of_passed (PassedMuKern amount) = MuKernElement amount
element_of_passed (PassedKern amount) = KernElement amount

-- what joining makes of a symbol, as the code has it
abbrev pub role_value : JoiningRole → SymbolRole
role_value role.Ordinary = OrdinarySymbol
role_value role.Text = TextSymbol
role_value (role.Smart first second) = SmartPair first second

-- ---- what passes, in the flat list

abbrev pub kern_items : Option ℤ → List FlatItem
kern_items None = []
kern_items (Some amount) = FlatKern amount ∷ []

-- the kern that joining leaves after an atom
abbrev pub kern_of : PassedElement → Option ℤ
kern_of (PassedAtom kind limits nucleus sup sub role kern) = kern
kern_of _ = None

abbrev pub flat_item : SetValue → PassedElement → FlatItem
flat_item fonts (PassedAtom kind limits nucleus sup sub role kern) =
    FlatAtom role (atom_content fonts kind limits nucleus sup sub)
flat_item fonts (PassedFraction thickness left right num den) =
    FlatFraction (fraction_content fonts thickness left right num den)
flat_item fonts (PassedLeft delim) = FlatLeft delim
flat_item fonts (PassedMiddle delim) = FlatMiddle delim
flat_item fonts (PassedRight delim) = FlatRight delim
flat_item fonts (PassedStyle style) = FlatStyle style
flat_item fonts (PassedMuSpace glue) = FlatMuSpace glue
flat_item fonts (PassedSpace glue) = FlatSpace glue
flat_item fonts (PassedMuKern amount) = FlatMuKern amount
flat_item fonts (PassedKern amount) = FlatKern amount

abbrev pub flat_items : SetValue → PassedElement → List FlatItem
flat_items fonts p = flat_item fonts p ∷ kern_items (kern_of p)

-- ---- one turn

pub data ListTurn : Type 0 where
  PassesOne : (passed : PassedElement) (rest : Sequence) → ListTurn
  RewritesTo : (rest : Sequence) → ListTurn

abbrev pub part_symbol : Part → Option Symbol
part_symbol (SymbolPart symbol) = Some symbol
part_symbol _ = None

abbrev pub is_empty_part : Part → Bool
is_empty_part EmptyPart = true
is_empty_part _ = false

abbrev pub symbol_before : Option Class → Kind → Part → Part → Part → Option Symbol
symbol_before last kind nucleus sup sub =
    if is_ord_by_now last kind && (is_empty_part sup && is_empty_part sub) then part_symbol nucleus else None

abbrev pub symbol_after : Kind → Part → Option Symbol
symbol_after kind nucleus = if is_any_but_inner kind then part_symbol nucleus else None

abbrev pub symbol_of_element : Element → Option Symbol
symbol_of_element (AtomElement kind limits nucleus sup sub) = symbol_after kind nucleus
symbol_of_element _ = None

abbrev pub next_symbol_of : Sequence → Option Symbol
next_symbol_of End = None
next_symbol_of (More e s) = symbol_of_element e

abbrev pub element_as_symbol : Symbol → Element → Element
element_as_symbol symbol (AtomElement kind limits nucleus sup sub) =
    AtomElement (Plain Ord) limits (SymbolPart symbol) sup sub
element_as_symbol symbol e = e

abbrev pub first_element_as : Symbol → Sequence → Sequence
first_element_as symbol End = End
first_element_as symbol (More e s) = More (element_as_symbol symbol e) s

abbrev pub turn_by_pair : SymbolPair → (SymbolRole → Option ℤ → PassedElement) → Sequence → Option Pair → ListTurn
turn_by_pair p passing s None = PassesOne (passing OrdinarySymbol None) s
turn_by_pair p passing s (Some NoPair) = PassesOne (passing TextSymbol None) s
turn_by_pair p passing s (Some (KernPair amount)) = PassesOne (passing TextSymbol (Some amount)) s
turn_by_pair p passing s (Some (JoinPair code)) = RewritesTo (first_element_as (record { fam = p.fam; code = code }) s)
turn_by_pair p passing s (Some RefusedPair) = PassesOne (passing (SmartPair p.first p.second) None) s

abbrev pub turn_of_atom : SetValue → Size → (SymbolRole → Option ℤ → PassedElement) → Sequence
    → Option SymbolPair → ListTurn
turn_of_atom fonts size passing s None = PassesOne (passing OrdinarySymbol None) s
turn_of_atom fonts size passing s (Some p) = turn_by_pair p passing s (pair_of_fonts fonts size p)

abbrev pub is_space_element : Element → Bool
is_space_element (MuSpaceElement glue) = true
is_space_element (SpaceElement glue) = true
is_space_element (MuKernElement amount) = true
is_space_element (KernElement amount) = true
is_space_element NonscriptElement = true
is_space_element _ = false

abbrev pub begins_with_space : Sequence → Bool
begins_with_space End = false
begins_with_space (More e s) = is_space_element e

abbrev pub list_without_space : Sequence → Sequence
list_without_space End = End
list_without_space (More e s) = if is_space_element e then s else More e s

abbrev pub list_after_nonscript : Style → Sequence → Sequence
list_after_nonscript style s = if is_display_or_text style then s else list_without_space s

abbrev pub turn_of : SetValue → Current → Element → Sequence → ListTurn
turn_of fonts current (AtomElement kind limits nucleus sup sub) s =
    turn_of_atom fonts (size_of current.style) (PassedAtom kind limits nucleus sup sub) s
    (symbol_pair (symbol_before current.last kind nucleus sup sub) (next_symbol_of s))
turn_of fonts current (FractionElement thickness left right num den) s =
    PassesOne (PassedFraction thickness left right num den) s
turn_of fonts current (LeftElement delim) s = PassesOne (PassedLeft delim) s
turn_of fonts current (MiddleElement delim) s = PassesOne (PassedMiddle delim) s
turn_of fonts current (RightElement delim) s = PassesOne (PassedRight delim) s
turn_of fonts current (StyleElement style) s = PassesOne (PassedStyle style) s
turn_of fonts current (ChoiceElement display text script small) s =
    RewritesTo (More (StyleElement current.style) (append_list (list_for current.style display text script small) s))
turn_of fonts current (MuSpaceElement glue) s = PassesOne (PassedMuSpace glue) s
turn_of fonts current (SpaceElement glue) s = PassesOne (PassedSpace glue) s
turn_of fonts current (MuKernElement amount) s = PassesOne (PassedMuKern amount) s
turn_of fonts current (KernElement amount) s = PassesOne (PassedKern amount) s
turn_of fonts current NonscriptElement s = PassesOne (PassedSpace no_glue) (list_after_nonscript current.style s)

-- the code passes an item, which means one in the list, or has rewritten what is left
abbrev pub turned_by : {P : Type 0} → (P → PassedElement) → Option P → Sequence → ListTurn
turned_by meaning None rest = RewritesTo rest
turned_by meaning (Some p) rest = PassesOne (meaning p) rest

-- the same turn in the definition
abbrev pub turn_meaning : SetValue → ListTurn → flat.FrontTurn
turn_meaning fonts (PassesOne p rest) = flat.Passes (flat_items fonts p) (items_of fonts rest)
turn_meaning fonts (RewritesTo rest) = flat.Rewrites (items_of fonts rest)
