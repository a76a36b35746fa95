use Rattle.std.proofs.Common.{◌∙◌, ◌≤◌, pos, length, arith, None}
use Rattle.std.proofs.lemmas.Result.{on_ok_weaker}
use Rattle.mt_align.specs.declared.look.Look.TheVariants.{Equations}
use Rattle.mt_align.proofs.ColumnWidths.{columns_few, columns_fit}
use Rattle.mt_align.proofs.Placed.{as_many_drops}
use Rattle.mt_align.proofs.Tables.{equations_placed, equations_stack, equations_answers, equations_wide, tested_width, refused_width, on_top}
use Rattle.mt_align.proofs.equations.equations_on_marks.Goals as goal

pub columns_width-width-requires-clause-few : goal.columns_width-width-requires-clause-few
columns_width-width-requires-clause-few c =
    let few : length c.deref.result.now ≤ 2 = columns_few c.args.rows.now 2 c.deref.result.now (c.deref.ensures.value ∙ c.in_ok-widths.ensures.is) c.requires.two_cells in
    omega (arith, few)

pub returns-then-not-in_range-clause-is : goal.returns-then-not-in_range-clause-is
returns-then-not-in_range-clause-is c = λ cells rest e o.
    let ws = c.in_ok-widths.widths.items in
    let out = refused_width c.columns_width-width.result.sp c.in_range.result c.columns_width-width.ensures.small c.in_range.ensures c.if-not-in_range.true in
    rw out.1
    (equations_wide c.args.fonts.now c.args.size c.args.rows.now cells ws c.columns_width-width.result.sp e c.in_ok-widths.ensures.is
    (rw c.deref.ensures.value at c.columns_width-width.ensures.is) (columns_few c.args.rows.now 2 ws c.in_ok-widths.ensures.is c.requires.two_cells) out.0)

pub place_table-requires-clause-drops : goal.place_table-requires-clause-drops
place_table-requires-clause-drops c = as_many_drops Equations (pos 0) None c.args.rows.now c.in_ok-drops.drops.baselines.items c.in_ok-drops.ensures.baselines

pub place_table-requires-clause-fit : goal.place_table-requires-clause-fit
place_table-requires-clause-fit c = columns_fit c.args.rows.now c.in_ok-widths.widths.items c.in_ok-widths.ensures.is

pub place_table-requires-clause-width : goal.place_table-requires-clause-width
place_table-requires-clause-width c = tested_width c.columns_width-width.result.sp c.in_range.result c.columns_width-width.ensures.small c.in_range.ensures c.if-not-in_range.false

pub returns-clause-is : goal.returns-clause-is
returns-clause-is c = λ cells rest e o.
    let w = c.columns_width-width.result.sp in
    let ws = c.in_ok-widths.widths.items in
    let ds = c.in_ok-drops.drops.baselines.items in
    let h = equations_placed c.args.rows.now cells ws ds w c.in_ok-drops.drops.total.sp e c.in_ok-widths.ensures.is
    (rw c.deref.ensures.value at c.columns_width-width.ensures.is) c.in_ok-drops.ensures.baselines c.in_ok-drops.ensures.total in
    equations_answers c.args.fonts.now c.args.size c.args.rows.now cells ws ds w c.in_ok-drops.drops.total.sp
    c.args.marks.now c.place_table.new.marks rest c.place_table.result h e (columns_few c.args.rows.now 2 ws c.in_ok-widths.ensures.is c.requires.two_cells) (columns_fit c.args.rows.now ws c.in_ok-widths.ensures.is) c.requires.two_cells o
    (tested_width w c.in_range.result c.columns_width-width.ensures.small c.in_range.ensures c.if-not-in_range.false)
    c.requires.cells c.place_table.ensures.is c.place_table.ensures.marks

pub returns-clause-rest : goal.returns-clause-rest
returns-clause-rest c = λ cells rest e o.
    let w = c.columns_width-width.result.sp in
    let ws = c.in_ok-widths.widths.items in
    let ds = c.in_ok-drops.drops.baselines.items in
    let h = equations_placed c.args.rows.now cells ws ds w c.in_ok-drops.drops.total.sp e c.in_ok-widths.ensures.is
    (rw c.deref.ensures.value at c.columns_width-width.ensures.is) c.in_ok-drops.ensures.baselines c.in_ok-drops.ensures.total in
    on_ok_weaker c.place_table.result
    (λ p. on_top (p ∙ equations_stack c.args.fonts.now c.args.size c.args.rows.now cells ws ds w c.in_ok-drops.drops.total.sp c.args.marks.now rest h e (columns_fit c.args.rows.now ws c.in_ok-widths.ensures.is) o))
    c.place_table.ensures.marks
