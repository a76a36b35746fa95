-- The set of the toy fonts.
use Rattle.std.specs.Prelude.{ℕ, List, map, codes, if◌then◌else◌}
use Rattle.std.specs.Str.{bytes_eq}
use Rattle.mt_family.specs.SetValue.{SetValue}
use Rattle.mt_family.specs.declared.list.FontLine.{FontLine}
use Rattle.mt_samples.specs.Lists.{toy_list}
use Rattle.mt_samples.specs.Which.{toy_bytes}
use Rattle.mt_samples.specs.declared.Toy.{Toy}
use Rattle.mt_samples.specs.declared.Toy.TheVariants.{Roman, Italic, Symbols, Extension}
use Rattle.mt_tfm.specs.Font.{Metrics, metrics_of}

-- the font of a name in the list
abbrev pub toy_named : List ℕ → Toy
toy_named name =
    if bytes_eq name (codes "toyr") then Roman
    else if bytes_eq name (codes "toym") then Italic
    else if bytes_eq name (codes "toys") then Symbols
    else Extension

-- what the file of a line's font says, at the size that the line wants and with its skew character
abbrev pub toy_font : FontLine → Metrics
toy_font line = metrics_of (toy_bytes (toy_named line.name)) line.wanted line.skew

abbrev pub toy_set : SetValue
toy_set = record { lines = toy_list.lines; families = toy_list.families; fonts = map toy_font toy_list.lines }
