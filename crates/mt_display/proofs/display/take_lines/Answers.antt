use Rattle.std.proofs.Common.{◌∙◌, ap}
use Rattle.mt_display.proofs.Common.{line_values}
use Rattle.mt_display.proofs.TakenLines.{none_left, one_taken, some_left, two_taken}
use Rattle.mt_display.proofs.display.take_lines.Goals as goal

pub returns-then-is_empty-clause-is : goal.returns-then-is_empty-clause-is
returns-then-is_empty-clause-is c lines is some few =
    let v = c.take_line.new.self.shifts in
    ap line_values (c.from_vec.ensures ∙ c.in_ok-vec.ensures.items)
    ∙ one_taken lines c.args.stack c.take_line.new.self c.in_ok-last.last is some few c.in_ok-last.ensures.line c.in_ok-last.ensures.others (none_left v.items _ c.is_empty.result c.is_empty.ensures c.if-is_empty.true v.ok.0)

pub returns-clause-is : goal.returns-clause-is
returns-clause-is c lines is some few =
    let v = c.take_line.new.self.shifts in
    ap line_values (c.from_vec-2.ensures ∙ c.in_ok-vec-2.ensures.items)
    ∙ two_taken lines c.args.stack c.take_line.new.self c.in_ok-first.first c.in_ok-last.last is some few c.in_ok-last.ensures.line c.in_ok-last.ensures.others (some_left v.items _ c.is_empty.result c.is_empty.ensures c.if-is_empty.false v.ok.0) c.in_ok-first.ensures.line
