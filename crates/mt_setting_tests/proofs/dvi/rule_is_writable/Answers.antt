use Rattle.std.proofs.Common.{rules}
use Rattle.mt_setting_tests.proofs.dvi.rule_is_writable.Goals as goal

pub returns-then-height-gt0 : goal.returns-then-height-gt0
returns-then-height-gt0 c = λ positive. record {
  h_in_range = search rules;
  v_in_range = search rules;
  height_in_range = search rules;
  width_in_range = search rules;
  tall = search rules;
  wide = search rules;
}
