-- The flat list of a math list (`flat`): choices are taken, conditional spaces have had their effect, and symbols are
-- joined (The TeXbook, Appendix G, rules 2 to 4 and 14; tex.web, sections 731, 732 and 752).
use Rattle.std.specs.Prelude.{ℕ, zero, suc, ℤ, pos, Bool, true, false, if◌then◌else◌, List, [], ◌∷◌, ◌++◌, Option, Some, None}
use Rattle.mt_tfm.specs.declared.pair.Pair.{Pair}
use Rattle.mt_tfm.specs.declared.pair.Pair.TheVariants.{None as NoPair, Kern as KernPair, Join as JoinPair, Smart as RefusedPair}
use Rattle.mt_family.specs.declared.size.Size.{Size}
use Rattle.mt_family.specs.SetValue.{SetValue}
use Rattle.mt_rules.specs.declared.class.Class.{Class}
use Rattle.mt_rules.specs.declared.class.Class.TheVariants.{Ord, Open, Close, Inner}
use Rattle.mt_rules.specs.declared.kind.Kind.TheVariants.{Plain}
use Rattle.mt_rules.specs.declared.style.Style.{Style}
use Rattle.mt_rules.specs.declared.style.Style.TheVariants.{D, Dc, T, Tc, S, Sc, Ss, Ssc}
use Rattle.mt_rules.specs.declared.symbol.Symbol.{Symbol}
use Rattle.mt_rules.specs.declared.symbol.Delim.{Delim}
use Rattle.mt_rules.specs.declared.symbol.Glue.{Glue}
use Rattle.mt_rules.specs.Styles.{size_of, is_display_or_text}
use Rattle.mt_rules.specs.Classes.{kind_class, forward_of}
use Rattle.mt_rules.specs.Nuclei.{SymbolContent, SymbolRole, OrdinarySymbol, TextSymbol, SmartPair}
use Rattle.mt_rules.specs.AtomRow.{AtomContent, FractionContent}
use Rattle.mt_convert.specs.declared.flat.current.Current.{Current}
use Rattle.mt_convert.specs.Contents.{ItemContent, AtomItem, FractionItem, LeftItem, MiddleItem, RightItem, StyleItem, ChoiceItem, MuSpaceItem, SpaceItem, MuKernItem, KernItem, NonscriptItem, ItemContents, NoItems, MoreItems, append_items}
use Rattle.mt_convert.specs.declared.flat.joining.SymbolPair.{SymbolPair}
use Rattle.mt_convert.specs.Joining.{pair_with_next, pair_of_fonts}

-- An item of the flat list. There are no choices and no conditional spaces among them.
pub data FlatItem : Type 0 where
  -- an atom, and what joining makes of its symbol
  FlatAtom : (role : SymbolRole) (atom : AtomContent) → FlatItem
  FlatFraction : (fraction : FractionContent) → FlatItem
  FlatLeft : (delim : Delim) → FlatItem
  FlatMiddle : (delim : Delim) → FlatItem
  FlatRight : (delim : Delim) → FlatItem
  FlatStyle : (style : Style) → FlatItem
  FlatMuSpace : (glue : Glue) → FlatItem
  FlatSpace : (glue : Glue) → FlatItem
  FlatMuKern : (amount : ℤ) → FlatItem
  FlatKern : (amount : ℤ) → FlatItem

-- ---- what an item changes for those after it

-- after a middle the style in which the list begins holds again
abbrev pub style_after_item : Style → Style → FlatItem → Style
style_after_item initial style (FlatStyle next) = next
style_after_item initial style (FlatMiddle delim) = initial
style_after_item initial style _ = style

-- an atom counts by the class that it has got from the left, a middle as a left boundary
abbrev pub class_after_item : Option Class → FlatItem → Option Class
class_after_item last (FlatAtom role a) = Some (forward_of last (kind_class a.kind))
class_after_item last (FlatFraction f) = Some Inner
class_after_item last (FlatLeft delim) = Some Open
class_after_item last (FlatMiddle delim) = Some Open
class_after_item last (FlatRight delim) = Some Close
class_after_item last _ = last

abbrev pub current_after_item : Current → FlatItem → Current
current_after_item current item = record {
  initial = current.initial;
  style = style_after_item current.initial current.style item;
  last = class_after_item current.last item;
}

-- ---- one turn, at the front of a list

-- the front is passed as items of the flat list, or it is rewritten and looked at again
pub data FrontTurn : Type 0 where
  Passes : (items : List FlatItem) (rest : ItemContents) → FrontTurn
  Rewrites : (rest : ItemContents) → FrontTurn

abbrev pub passes : FlatItem → ItemContents → FrontTurn
passes item rest = Passes (item ∷ []) rest

-- a ligature makes both one ordinary atom of the new character, which has the scripts of the second
abbrev pub as_symbol : Symbol → ItemContent → ItemContent
as_symbol symbol (AtomItem a) =
    AtomItem (record { kind = Plain Ord; limits = a.limits; nucleus = SymbolContent symbol; sup = a.sup; sub = a.sub })
as_symbol symbol item = item

abbrev pub first_as_symbol : Symbol → ItemContents → ItemContents
first_as_symbol symbol NoItems = NoItems
first_as_symbol symbol (MoreItems item rest) = MoreItems (as_symbol symbol item) rest

-- The first of a pair that is looked up is a symbol of a text; a kern of the pair is between the two. Where the
-- pair has a ligature of another kind, setting this atom is refused, so what follows it has no effect.
abbrev pub pair_turn : SymbolPair → AtomContent → ItemContents → Option Pair → FrontTurn
pair_turn p a rest None = passes (FlatAtom OrdinarySymbol a) rest
pair_turn p a rest (Some NoPair) = passes (FlatAtom TextSymbol a) rest
pair_turn p a rest (Some (KernPair amount)) = Passes (FlatAtom TextSymbol a ∷ FlatKern amount ∷ []) rest
pair_turn p a rest (Some (JoinPair code)) = Rewrites (first_as_symbol (record { fam = p.fam; code = code }) rest)
pair_turn p a rest (Some RefusedPair) = passes (FlatAtom (SmartPair p.first p.second) a) rest

abbrev pub atom_turn : SetValue → Size → AtomContent → ItemContents → Option SymbolPair → FrontTurn
atom_turn fonts size a rest None = passes (FlatAtom OrdinarySymbol a) rest
atom_turn fonts size a rest (Some p) = pair_turn p a rest (pair_of_fonts fonts size p)

-- the list of a choice for a style
abbrev pub list_for : {A : Type 0} → Style → A → A → A → A → A
list_for D display text script small = display
list_for Dc display text script small = display
list_for T display text script small = text
list_for Tc display text script small = text
list_for S display text script small = script
list_for Sc display text script small = script
list_for Ss display text script small = small
list_for Ssc display text script small = small

abbrev pub is_space_or_kern : ItemContent → Bool
is_space_or_kern (MuSpaceItem glue) = true
is_space_or_kern (SpaceItem glue) = true
is_space_or_kern (MuKernItem amount) = true
is_space_or_kern (KernItem amount) = true
is_space_or_kern NonscriptItem = true
is_space_or_kern _ = false

abbrev pub without_space : ItemContents → ItemContents
without_space NoItems = NoItems
without_space (MoreItems item rest) = if is_space_or_kern item then rest else MoreItems item rest

-- at the smaller sizes a conditional space takes away a space or kern, or another of its kind, that directly follows it
abbrev pub after_nonscript : Style → ItemContents → ItemContents
after_nonscript style rest = if is_display_or_text style then rest else without_space rest

abbrev pub no_glue : Glue
no_glue = record { width = pos 0; shrink = pos 0 }

abbrev pub turn : SetValue → Current → ItemContent → ItemContents → FrontTurn
turn fonts current (AtomItem a) rest =
    atom_turn fonts (size_of current.style) a rest (pair_with_next current.last a rest)
turn fonts current (FractionItem f) rest = passes (FlatFraction f) rest
turn fonts current (LeftItem delim) rest = passes (FlatLeft delim) rest
turn fonts current (MiddleItem delim) rest = passes (FlatMiddle delim) rest
turn fonts current (RightItem delim) rest = passes (FlatRight delim) rest
turn fonts current (StyleItem style) rest = passes (FlatStyle style) rest
turn fonts current (ChoiceItem display text script small) rest =
    Rewrites (MoreItems (StyleItem current.style)
    (append_items (list_for current.style display text script small) rest))
turn fonts current (MuSpaceItem glue) rest = passes (FlatMuSpace glue) rest
turn fonts current (SpaceItem glue) rest = passes (FlatSpace glue) rest
turn fonts current (MuKernItem amount) rest = passes (FlatMuKern amount) rest
turn fonts current (KernItem amount) rest = passes (FlatKern amount) rest
turn fonts current NonscriptItem rest = passes (FlatSpace no_glue) (after_nonscript current.style rest)

-- ---- turn by turn

abbrev pub current_after_items : Current → List FlatItem → Current
current_after_items current [] = current
current_after_items current (item ∷ items) = current_after_items (current_after_item current item) items

abbrev pub flat_by : (Current → ItemContents → List FlatItem) → Current → FrontTurn → List FlatItem
flat_by next current (Passes items rest) = items ++ next (current_after_items current items) rest
flat_by next current (Rewrites rest) = next current rest

-- In so many turns: each turn makes less of a list, so as many as its size are enough.
abbrev pub flat : SetValue → ℕ → Current → ItemContents → List FlatItem
flat fonts zero current items = []
flat fonts (suc turns) current NoItems = []
flat fonts (suc turns) current (MoreItems item rest) = flat_by (flat fonts turns) current (turn fonts current item rest)
