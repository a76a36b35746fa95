-- What becomes of a formula after its first dollar, by what is between its dollars.
use Rattle.std.proofs.Common.{◌≡◌, ◌+◌, ◌∙◌, Bool, false, List, length, ap, sym}
use Rattle.std.specs.Prelude.{Some, None}
use Rattle.mt_token.specs.declared.token.Token.{Token}
use Rattle.mt_scaled.specs.declared.unit.Units.{Units}
use Rattle.mt_macro.specs.Braces.{Taken}
use Rattle.mt_macro.specs.Expansion.{expansion}
use Rattle.mt_reader.specs.declared.outside_cause.OutsideCause.TheVariants.{OpenFormula}
use Rattle.mt_reader.specs.Dollars.{begins_display, between_dollars}
use Rattle.mt_reader.specs.Documents.{DocumentState, StopsOutside, after_expansion, formula_in, formula_turn, is_page_limit}

module _ (units : Units) (s : DocumentState) (ts : List Token) (few : is_page_limit s ≡ false) where
  pub turn_taken : (display : Bool) (taken : Taken) → display ≡ begins_display ts → between_dollars ts ≡ Some taken
      → formula_turn units s ts (is_page_limit s) ≡ after_expansion units s display taken.after (expansion s.macros taken.argument)
  turn_taken display taken shown between =
      ap (formula_turn units s ts) few
      ∙ (ap (formula_in units s (begins_display ts) (length ts + 1)) between
      ∙ ap (λ (d : Bool). after_expansion units s d taken.after (expansion s.macros taken.argument)) (sym shown))

  pub turn_open : between_dollars ts ≡ None → formula_turn units s ts (is_page_limit s) ≡ StopsOutside (s.count + 1) OpenFormula (length ts + 1)
  turn_open between = ap (formula_turn units s ts) few ∙ ap (formula_in units s (begins_display ts) (length ts + 1)) between
