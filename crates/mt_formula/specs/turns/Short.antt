-- The heads of fractions take tokens, and never give any back.
use Rattle.std.proofs.Common.{◌*◌, Bool, true, false, List, length, Option, Some, arith}
use Rattle.std.specs.Prelude.{ℤ}
use Rattle.mt_token.specs.declared.token.Token.{Token}
use Rattle.mt_scaled.specs.declared.unit.Units.{Units}
use Rattle.mt_rules.specs.declared.symbol.Delim.{Delim}
use Rattle.mt_plain.specs.CodeTables.{CodeTables}
use Rattle.mt_scan.specs.declared.role.Bar.{Bar}
use Rattle.mt_scan.specs.declared.role.Bar.TheVariants.{Own as OwnBar, None as NoBar, Given as GivenBar}
use Rattle.mt_scan.specs.Parts.{Got, then_read}
use Rattle.mt_scan.specs.Dimensions.{dimension}
use Rattle.mt_scan.specs.Delimiters.{scan_delimiter}
use Rattle.mt_formula.specs.Lists.{bar_thickness, with_bar, fraction_head}
use Rattle.mt_scan.specs.Symbols.{null_delim}
use Rattle.mt_scan.specs.turns.Short.{within_next, within_more, none, Shortens, dimension_short, delimiter_short}

module _ (tables : CodeTables) where
  module _ (units : Units) where
    pub bar_short : (bar : Bar) (ts : List Token) → Shortens ts (bar_thickness units bar ts)
    bar_short OwnBar ts = omega arith
    bar_short NoBar ts = omega arith
    bar_short GivenBar ts = within_next none none (4 * length ts) (4 * length ts) (dimension units false ts) (λ (amount : ℤ) (rest : List Token). Got (Some amount) rest) (dimension_short units false true ts) (λ amount rest w. w)

    pub with_bar_short : (bar : Bar) (left right : Delim) (ts : List Token) → Shortens ts (with_bar units bar left right ts)
    with_bar_short bar left right ts = within_next none none (4 * length ts) (4 * length ts) (bar_thickness units bar ts) (λ (thickness : Option ℤ) (rest : List Token). Got (record { thickness = thickness; left = left; right = right }) rest) (bar_short bar ts) (λ thickness rest w. w)

    pub fraction_head_short : (delims : Bool) (bar : Bar) (ts : List Token) → Shortens ts (fraction_head tables units delims bar ts)
    fraction_head_short false bar ts = with_bar_short bar null_delim null_delim ts
    fraction_head_short true bar ts =
        within_next none none (4 * length ts) (4 * length ts) (scan_delimiter tables ts)
        (λ (left : Delim) (after : List Token). then_read (scan_delimiter tables after) (λ (right : Delim) (rest : List Token). with_bar units bar left right rest))
        (delimiter_short tables ts)
        (λ left after w. within_next none none (4 * length after) (4 * length ts) (scan_delimiter tables after)
        (λ (right : Delim) (rest : List Token). with_bar units bar left right rest)
        (delimiter_short tables after)
        (λ right rest v. within_more none (4 * length rest) (4 * length ts) (with_bar units bar left right rest) (omega (arith, v, w)) (with_bar_short bar left right rest)))
