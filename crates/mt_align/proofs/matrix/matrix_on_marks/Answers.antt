use Rattle.std.proofs.Common.{◌∙◌, ◌^◌, Some}
use Rattle.std.proofs.lemmas.Result.{on_ok_weaker}
use Rattle.mt_rules.specs.Tables.{strut_drop}
use Rattle.mt_align.specs.declared.look.Look.TheVariants.{Matrix}
use Rattle.mt_align.proofs.ColumnWidths.{struts_few, struts_fit}
use Rattle.mt_align.proofs.Placed.{as_many_drops}
use Rattle.mt_align.proofs.Tables.{matrix_placed, matrix_stack, matrix_answers, matrix_wide, tested_width, refused_width, on_top}
use Rattle.mt_align.proofs.matrix.matrix_on_marks.Goals as goal

pub columns_width-width-requires-clause-few : goal.columns_width-width-requires-clause-few
columns_width-width-requires-clause-few c = struts_few c.args.rows.now (2 ^ 19) c.deref.result.now (c.deref.ensures.value ∙ c.in_ok-widths.ensures.is) c.requires.few_cells

pub returns-then-not-in_range-clause-is : goal.returns-then-not-in_range-clause-is
returns-then-not-in_range-clause-is c = λ cells rest e o.
    let out = refused_width c.columns_width-width.result.sp c.in_range.result c.columns_width-width.ensures.small c.in_range.ensures c.if-not-in_range.true in
    rw out.1
    (matrix_wide c.args.fonts.now c.args.size c.args.strut c.args.rows.now cells c.in_ok-widths.widths.items c.columns_width-width.result.sp e c.in_ok-widths.ensures.is
    (rw (c.quad-gap.ensures.is, c.deref.ensures.value) at c.columns_width-width.ensures.is) out.0)

pub place_table-requires-clause-drops : goal.place_table-requires-clause-drops
place_table-requires-clause-drops c = as_many_drops Matrix (strut_drop c.args.strut) (Some c.args.strut.depth) c.args.rows.now c.in_ok-drops.drops.baselines.items c.in_ok-drops.ensures.baselines

pub place_table-requires-clause-fit : goal.place_table-requires-clause-fit
place_table-requires-clause-fit c = struts_fit c.args.rows.now c.in_ok-widths.widths.items c.in_ok-widths.ensures.is

pub place_table-requires-clause-width : goal.place_table-requires-clause-width
place_table-requires-clause-width c = tested_width c.columns_width-width.result.sp c.in_range.result c.columns_width-width.ensures.small c.in_range.ensures c.if-not-in_range.false

pub returns-clause-is : goal.returns-clause-is
returns-clause-is c = λ cells rest e o.
    let w = c.columns_width-width.result.sp in
    let ws = c.in_ok-widths.widths.items in
    let ds = c.in_ok-drops.drops.baselines.items in
    let h = matrix_placed c.args.fonts.now c.args.strut c.args.rows.now cells ws ds w c.in_ok-drops.drops.total.sp e c.in_ok-widths.ensures.is
    (rw (c.quad-gap.ensures.is, c.deref.ensures.value) at c.columns_width-width.ensures.is) c.in_ok-drops.ensures.baselines c.in_ok-drops.ensures.total in
    matrix_answers c.args.fonts.now c.args.size c.args.strut c.args.rows.now cells ws ds w c.in_ok-drops.drops.total.sp
    c.args.marks.now c.place_table.new.marks rest c.place_table.result h e (struts_fit c.args.rows.now ws c.in_ok-widths.ensures.is) o
    (tested_width w c.in_range.result c.columns_width-width.ensures.small c.in_range.ensures c.if-not-in_range.false)
    c.requires.cells c.place_table.ensures.is (rw c.quad-gap.ensures.is at c.place_table.ensures.marks)

pub returns-clause-rest : goal.returns-clause-rest
returns-clause-rest c = λ cells rest e o.
    let w = c.columns_width-width.result.sp in
    let ws = c.in_ok-widths.widths.items in
    let ds = c.in_ok-drops.drops.baselines.items in
    let h = matrix_placed c.args.fonts.now c.args.strut c.args.rows.now cells ws ds w c.in_ok-drops.drops.total.sp e c.in_ok-widths.ensures.is
    (rw (c.quad-gap.ensures.is, c.deref.ensures.value) at c.columns_width-width.ensures.is) c.in_ok-drops.ensures.baselines c.in_ok-drops.ensures.total in
    on_ok_weaker c.place_table.result
    (λ p. on_top (p ∙ matrix_stack c.args.fonts.now c.args.size c.args.strut c.args.rows.now cells ws ds w c.in_ok-drops.drops.total.sp c.args.marks.now rest h e (struts_fit c.args.rows.now ws c.in_ok-widths.ensures.is) o))
    (rw c.quad-gap.ensures.is at c.place_table.ensures.marks)
