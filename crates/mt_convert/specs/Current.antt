-- Where a list begins (`opening`): in its style, and with no atom before.
use Rattle.std.specs.Prelude.{None}
use Rattle.mt_rules.specs.declared.style.Style.{Style}
use Rattle.mt_convert.specs.declared.flat.current.Current.{Current}

abbrev pub opening : Style → Current
opening style = record { initial = style; style = style; last = None }
