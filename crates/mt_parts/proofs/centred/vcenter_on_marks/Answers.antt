use Rattle.mt_box.specs.marks.Layers.{top}
use Rattle.mt_parts.proofs.Lining.{vcenter_made}
use Rattle.mt_parts.proofs.centred.vcenter_on_marks.Goals as goal

pub returns-clause-is : goal.returns-clause-is
returns-clause-is c = λ ls rest r e.
    let m = c.measured.ensures in
    let a = c.about_axis-whole.ensures in
    vcenter_made c.args.fonts.now c.args.size c.args.rows.now ls c.about_axis-whole.result c.measured.result.width.sp c.measured.result.total.sp c.lines_on_marks.result (top c.lines_on_marks.new.marks)
    r m.width m.total a.width a.height a.depth (c.lines_on_marks.ensures.is ls rest r e)
