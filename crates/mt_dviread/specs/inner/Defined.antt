-- What the reader keeps of the fonts that a file defines (`Knows`).
use Rattle.std.specs.Prelude.{◌≡◌, ℕ, pos, List, [], ◌∷◌, ◌++◌, Option, Some, None, Result, Ok, Err, IfSome, true, false}
use Rattle.std.specs.Option.{option_map}
use Rattle.mt_family.specs.SetValue.{SetValue, number_named}
use Rattle.mt_dvi.specs.Codes.{Definition}
use Rattle.mt_dvi.specs.Fonts.{first_definition}
use Rattle.mt_dvi.specs.File.{agrees}
use Rattle.mt_dvi.specs.Machine.{UnknownFont}
use Rattle.std.specs.Ordering.{nat_cmp}
use Rattle.std.specs.BTreeMap.{get}
use Rattle.mt_dviread.specs.declared.numbered.DefinedFont.{DefinedFont}
use Rattle.mt_dviread.specs.declared.definitions.Definitions.{Definitions}
use Rattle.mt_dviread.specs.declared.error.Cause.{Cause}
use Rattle.mt_dviread.specs.Errors.{cause_of}

-- of a font that is defined: its name and size, and the number in the set of the font that it is
pub record Known : Type 0 where
  pub name : List ℕ
  pub size : ℕ
  pub font : Option ℕ

-- a font that is defined with an area is none of the set
abbrev pub font_meant : SetValue → List ℕ → Definition → Option ℕ
font_meant fonts [] d = number_named fonts d.name (pos d.size)
font_meant fonts (byte ∷ area) d = None

abbrev pub known_of : SetValue → Definition → Known
known_of fonts d = record { name = d.name; size = d.size; font = font_meant fonts d.area d }

abbrev pub known_font : DefinedFont → Known
known_font defined = record { name = defined.name.now; size = defined.size; font = defined.font }

-- what the reader keeps of a number
abbrev pub known_at : Definitions → ℕ → Option Known
known_at definitions n = option_map known_font (get nat_cmp definitions.fonts.by_number n)

-- each number stands for what its first definition says
abbrev pub Knows : SetValue → Definitions → List Definition → Type 0
Knows fonts kept definitions =
    (n : ℕ) → known_at kept n ≡ option_map (known_of fonts) (first_definition definitions n)

abbrev pub font_in : Option Known → Option ℕ
font_in None = None
font_in (Some known) = known.font

-- what comes of one definition more
abbrev pub Defines : SetValue → Result Unit Cause → Definitions → List Definition → Definition → Type 0
Defines fonts (Ok done) new definitions d =
    (agrees d (first_definition definitions d.number) ≡ true) × Knows fonts new (definitions ++ d ∷ [])
Defines fonts (Err cause) new definitions d =
    IfSome (cause_of cause) (λ c. (c ≡ UnknownFont) × (agrees d (first_definition definitions d.number) ≡ false))
