-- What is set at the side of a formula as its number is beside a list, and in a display (`IsTagPlaced`).
use Rattle.std.specs.Prelude.{Bool, Option, Some, None, IsTrue, ⊤}
use Rattle.mt_rules.specs.declared.document.Body.{Body}
use Rattle.mt_rules.specs.declared.document.Body.TheVariants as body
use Rattle.mt_rules.specs.declared.document.Tag.{Tag}

abbrev pub IsList : Body → Type 0
IsList (body.List list) = ⊤
IsList (body.Equations left rows) = ⊥
IsList (body.Lines rows) = ⊥

-- a formula without a number has nothing to place
abbrev pub IsTagPlaced : Bool → Body → Option Tag → Type 0
IsTagPlaced display b None = ⊤
IsTagPlaced display b (Some tag) = IsTrue display × IsList b
