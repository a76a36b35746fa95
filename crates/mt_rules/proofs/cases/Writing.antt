-- Short forms for worked cases, and what evaluating them unfolds.
use Rattle.std.specs.Prelude.{ℕ, ℤ, pos, neg_ℤ, List, [], ◌∷◌, Option, Ok, ⊤, length}
use Rattle.mt_tfm.specs.declared.chars.CharWord.{CharWord}
use Rattle.mt_family.specs.SetValue.{SetValue}
use Rattle.mt_family.specs.Sets.{sy, ex}
use Rattle.mt_box.specs.declared.place.Place.{Place}
use Rattle.mt_box.specs.declared.extents.Extents.{Extents}
use Rattle.mt_box.specs.Layout.{Layout}
use Rattle.mt_box.specs.Rows.{PieceKern}
use Rattle.mt_rules.specs.declared.kind.Kind.{Kind}
use Rattle.mt_rules.specs.declared.shifts.Shifts.{Shifts}
use Rattle.mt_rules.specs.declared.kind.Limits.{Limits}
use Rattle.mt_rules.specs.declared.symbol.Symbol.{Symbol}
use Rattle.mt_rules.specs.declared.symbol.Delim.{Delim}
use Rattle.mt_rules.specs.declared.style.Style.{Style}
use Rattle.mt_rules.specs.Setting.{Setting, ◌>>=◌, pack_row}
use Rattle.mt_rules.specs.Candidates.{candidates}
use Rattle.mt_rules.specs.Delimiters.{delimiter, delimiter_variant}
use Rattle.mt_rules.specs.Scripts.{script_shifts, row_with_scripts}
use Rattle.mt_rules.specs.Limits.{limits}
use Rattle.mt_rules.specs.Fractions.{fraction_shifts, fraction}
use Rattle.mt_rules.specs.Radicals.{radical}
use Rattle.mt_rules.specs.Roots.{root_row}
use Rattle.mt_rules.specs.Veils.{veil_layout}
use Rattle.mt_rules.specs.BigDelimiters.{big_delimiter}
use Rattle.mt_rules.specs.Lines.{overline, underline}
use Rattle.mt_rules.specs.Vcenter.{vcenter}
use Rattle.mt_rules.specs.Accents.{accent}
use Rattle.mt_rules.specs.Nuclei.{RowByStyle, Content, OrdinarySymbol, clean_field, nucleus_row}
use Rattle.mt_rules.specs.Operators.{operator_nucleus}
use Rattle.mt_rules.specs.AtomRow.{AtomContent, FractionContent, atom_row, fraction_row}

abbrev pub neg : ℕ → ℤ
neg n = neg_ℤ (pos n)

-- ---- characters of a font, whose i-th entries they have

abbrev pub char : ℕ → ℕ → ℕ → ℕ → ℕ → ℕ → CharWord
char width height depth italic tag remainder =
    record { width = width; height = height; depth = depth; italic = italic; tag = tag; remainder = remainder }

abbrev pub absent : CharWord
absent = char 0 0 0 0 0 0

abbrev pub alone : ℕ → CharWord
alone i = char i i i i 0 0

abbrev pub with_program : ℕ → ℕ → CharWord
with_program i start = char i i i i 1 start

abbrev pub with_larger : ℕ → ℕ → CharWord
with_larger i larger = char i i i i 2 larger

abbrev pub with_recipe : ℕ → ℕ → CharWord
with_recipe i recipe = char i i i i 3 recipe

-- ---- layouts

abbrev pub extents : ℤ → ℤ → ℤ → Extents
extents width height depth = record { width = width; height = height; depth = depth }

abbrev pub layout : ℤ → ℤ → ℤ → List Place → Layout
layout width height depth places = record { extents = extents width height depth; places = places }

abbrev pub shifts : ℤ → ℤ → Shifts
shifts up down = record { up = up; down = down }

-- ---- atoms

abbrev pub symbol : ℕ → ℕ → Symbol
symbol fam code = record { fam = fam; code = code }

abbrev pub delim : ℕ → ℕ → ℕ → ℕ → Delim
delim fam code large_fam large_code = record { small = symbol fam code; large = symbol large_fam large_code }

abbrev pub no_delim : Delim
no_delim = delim 0 0 0 0

abbrev pub atom : Kind → Limits → Content → Content → Content → AtomContent
atom kind limits nucleus sup sub = record { kind = kind; limits = limits; nucleus = nucleus; sup = sup; sub = sub }

-- a list of one ordinary atom, of a kern, of nothing
abbrev pub one : SetValue → AtomContent → RowByStyle
one fonts a = λ style. atom_row fonts style OrdinarySymbol a

abbrev pub kern : ℤ → RowByStyle
kern amount = λ style. Ok (PieceKern amount ∷ [])

abbrev pub empty_list : RowByStyle
empty_list = λ style. Ok []

abbrev pub given_fraction : Option ℤ → Delim → Delim → RowByStyle → RowByStyle → FractionContent
given_fraction thickness left right num den = record { thickness = thickness; left = left; right = right; num = num; den = den }

-- ---- a part of an answer

abbrev pub extents_in : Setting Layout → Setting Extents
extents_in answer = answer >>= (λ l. Ok l.extents)

-- an atom alone, packed
abbrev pub packed : SetValue → Style → AtomContent → Setting Layout
packed fonts style a = atom_row fonts style OrdinarySymbol a >>= pack_row

abbrev pub count_in : Setting Layout → Setting ℕ
count_in answer = answer >>= (λ l. Ok (length l.places))

-- ---- the rules, open

unfoldable pub evaluated : ⊤
unfolding sy ex candidates delimiter delimiter_variant script_shifts row_with_scripts limits fraction_shifts fraction radical overline underline vcenter accent clean_field nucleus_row operator_nucleus veil_layout root_row big_delimiter atom_row fraction_row
evaluated = tt
