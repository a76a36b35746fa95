-- How an atom is built by its kind and its fields (`form_of`).
use Rattle.std.specs.Prelude.{pos, ◌&&◌, if◌then◌else◌, Ok, ⊤}
use Rattle.mt_box.specs.Layout.{Layout}
use Rattle.mt_rules.specs.declared.class.Class.{Class}
use Rattle.mt_rules.specs.declared.class.Class.TheVariants.{Op}
use Rattle.mt_rules.specs.declared.kind.Kind.{Kind}
use Rattle.mt_rules.specs.declared.kind.Kind.TheVariants.{Plain, Radical, Accent}
use Rattle.mt_rules.specs.declared.kind.Limits.{Limits}
use Rattle.mt_rules.specs.declared.style.Style.{Style}
use Rattle.mt_rules.specs.declared.symbol.Delim.{Delim}
use Rattle.mt_rules.specs.declared.symbol.Symbol.{Symbol}
use Rattle.mt_rules.specs.Operators.{uses_limits}
use Rattle.mt_rules.specs.Sequence.{Part, SymbolPart, RootPart}
use Rattle.mt_rules.specs.Setting.{Setting, ◌>>=◌}
use Rattle.mt_convert.specs.declared.set.form.AtomForm.{AtomForm}
use Rattle.mt_convert.specs.declared.set.form.AtomForm.TheVariants as form
use Rattle.mt_convert.specs.inner.AtomSteps.{BoxWithItalic}
use Rattle.mt_convert.specs.inner.Turns.{is_empty_part}

-- the scripts of a symbol belong under the accent
abbrev pub accent_form : Symbol → Part → Part → Part → AtomForm
accent_form accent (SymbolPart symbol) sup sub =
    if is_empty_part sup && is_empty_part sub then form.Beside else form.AccentInside accent symbol
accent_form accent nucleus sup sub = form.Beside

-- a radical whose nucleus has a degree
abbrev pub radical_form : Delim → Part → AtomForm
radical_form sign (RootPart degree body) = form.Root sign
radical_form sign nucleus = form.Beside

abbrev pub class_form : Class → Style → Limits → AtomForm
class_form Op style limits = if uses_limits limits style then form.Limits else form.Beside
class_form class style limits = form.Beside

abbrev pub form_of : Style → Kind → Limits → Part → Part → Part → AtomForm
form_of style (Plain class) limits nucleus sup sub = class_form class style limits
form_of style (Radical sign) limits nucleus sup sub = radical_form sign nucleus
form_of style (Accent accent) limits nucleus sup sub = accent_form accent nucleus sup sub
form_of style kind limits nucleus sup sub = form.Beside

-- a body with a degree
abbrev pub HasDegree : Part → Type 0
HasDegree (RootPart degree body) = ⊤
HasDegree nucleus = ⊥

-- a box without an italic correction
abbrev pub as_operator : Setting Layout → Setting BoxWithItalic
as_operator part = do
  box ← part
  Ok (record { box = box; delta = pos 0 })
