-- The items of a math list, where each list inside an item is given as the row that it is set to in each style
-- (`ItemContents`).
use Rattle.std.specs.Prelude.{ℤ}
use Rattle.mt_rules.specs.declared.style.Style.{Style}
use Rattle.mt_rules.specs.declared.symbol.Delim.{Delim}
use Rattle.mt_rules.specs.declared.symbol.Glue.{Glue}
use Rattle.mt_rules.specs.AtomRow.{AtomContent, FractionContent}

mutual
  pub data ItemContent : Type 0 where
    AtomItem : (atom : AtomContent) → ItemContent
    FractionItem : (fraction : FractionContent) → ItemContent
    LeftItem : (delim : Delim) → ItemContent
    MiddleItem : (delim : Delim) → ItemContent
    RightItem : (delim : Delim) → ItemContent
    StyleItem : (style : Style) → ItemContent
    -- its lists are not set by themselves: the items of one of them take its place
    ChoiceItem : (display text script small : ItemContents) → ItemContent
    MuSpaceItem : (glue : Glue) → ItemContent
    SpaceItem : (glue : Glue) → ItemContent
    MuKernItem : (amount : ℤ) → ItemContent
    KernItem : (amount : ℤ) → ItemContent
    NonscriptItem : ItemContent

  pub data ItemContents : Type 0 where
    NoItems : ItemContents
    MoreItems : (first : ItemContent) (rest : ItemContents) → ItemContents

abbrev pub append_items : ItemContents → ItemContents → ItemContents
append_items NoItems after = after
append_items (MoreItems item items) after = MoreItems item (append_items items after)
