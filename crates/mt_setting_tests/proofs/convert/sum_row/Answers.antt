use Rattle.std.proofs.Common.{◌*◌, arith}
use Rattle.mt_rules.specs.Modest.{list_nesting}
use Rattle.mt_setting_tests.proofs.Packable.{row_is_modest}
use Rattle.mt_convert.proofs.Turning.{nesting_positive}
use Rattle.mt_setting_tests.proofs.convert.sum_row.Goals as goal

pub returns-clause-measurable : goal.returns-clause-measurable
returns-clause-measurable g c =
    let fits = rw c.expect-half.ensures at c.first_pass.ensures.fits in
    ((rw c.expect.ensures at c.second_pass.ensures.fits) (12 * list_nesting c.in_ok-sum.field-0) (omega (arith, nesting_positive c.in_ok-sum.field-0)) fits).measurable

pub returns-clause-modest : goal.returns-clause-modest
returns-clause-modest g c =
    let fits = rw c.expect-half.ensures at c.first_pass.ensures.fits in
    row_is_modest _ (12 * list_nesting c.in_ok-sum.field-0) (omega (arith, c.in_ok-sum.ensures.nesting))
    ((rw c.expect.ensures at c.second_pass.ensures.fits) (12 * list_nesting c.in_ok-sum.field-0) (omega (arith, nesting_positive c.in_ok-sum.field-0)) fits)
