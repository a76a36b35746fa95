-- The classes of atoms (The TeXbook, chapter 17; Appendix G, rules 5 and 6): from the left an atom gets the class
-- `forward_of`, by what the atom before it has got; then the final class `settled_of`, by what the atom after it has got.
use Rattle.std.specs.Prelude.{Bool, true, false, if◌then◌else◌, Option, Some, None}
use Rattle.mt_rules.specs.declared.class.Class.{Class}
use Rattle.mt_rules.specs.declared.class.Class.TheVariants.{Ord, Op, Bin, Rel, Open, Close, Punct}
use Rattle.mt_rules.specs.declared.kind.Kind.{Kind}
use Rattle.mt_rules.specs.declared.kind.Kind.TheVariants.{Plain}

-- a binary operation has no left operand after these
abbrev pub blocks_left : Class → Bool
blocks_left Bin = true
blocks_left Op = true
blocks_left Rel = true
blocks_left Open = true
blocks_left Punct = true
blocks_left _ = false

-- and no right operand before these
abbrev pub blocks_right : Class → Bool
blocks_right Rel = true
blocks_right Close = true
blocks_right Punct = true
blocks_right _ = false

abbrev pub bin_after : Option Class → Class
bin_after None = Ord
bin_after (Some before) = if blocks_left before then Ord else Bin

abbrev pub bin_before : Option Class → Class
bin_before None = Ord
bin_before (Some after) = if blocks_right after then Ord else Bin

-- the class of an atom after the atom before it, if there is one, which has got this class from the left
abbrev pub forward_of : Option Class → Class → Class
forward_of before Bin = bin_after before
forward_of before own = own

-- the final class of an atom before the atom after it, if there is one, which has got this class from the left
abbrev pub settled_of : Class → Option Class → Class
settled_of Bin after = bin_before after
settled_of own after = own

-- the class of an atom of a kind, before its neighbours are looked at
abbrev pub kind_class : Kind → Class
kind_class (Plain class) = class
kind_class _ = Ord
